-- `barred`: shape, table and length, in this order. Assumes nothing.
use mathlib.Core.Path.{sym, ◌∙◌}
use borrow.Author.Tests.{not-true, not-false}
use Rattle.rtr_origin.proofs.Answers.{tabled, untabled, bar-22, bar-21, bar-23, bar-none}
use Rattle.rtr_origin.proofs.barred.Goals as goal

pub returns-then-not-is_receiver : goal.returns-then-not-is_receiver
returns-then-not-is_receiver c =
    let a = c.args in
    bar-22 a.s.life.limit a.s a.live.now a.working.now a.hold.now a.q (sym c.is_receiver.ensures ∙ not-true _ c.if-not-is_receiver.true-raw)

pub returns-then-is_too_long : goal.returns-then-is_too_long
returns-then-is_too_long c =
    let a = c.args in
    bar-23 a.s.life.limit a.s a.live.now a.working.now a.hold.now a.q (sym c.is_receiver.ensures ∙ not-false _ c.if-not-is_receiver.false-raw) (tabled a.s.table _ c.is_none.ensures c.if-is_none.false) (not-true _ (sym c.is_too_long.ensures ∙ c.if-is_too_long.true))

pub returns-then-is_none : goal.returns-then-is_none
returns-then-is_none c =
    let a = c.args in
    bar-21 a.s.life.limit a.s a.live.now a.working.now a.hold.now a.q (sym c.is_receiver.ensures ∙ not-false _ c.if-not-is_receiver.false-raw) (untabled a.s.table _ c.is_none.ensures c.if-is_none.true)

pub returns : goal.returns
returns c =
    let a = c.args in
    bar-none a.s.life.limit a.s a.live.now a.working.now a.hold.now a.q (sym c.is_receiver.ensures ∙ not-false _ c.if-not-is_receiver.false-raw) (tabled a.s.table _ c.is_none.ensures c.if-is_none.false) (not-false _ (sym c.is_too_long.ensures ∙ c.if-is_too_long.false))
