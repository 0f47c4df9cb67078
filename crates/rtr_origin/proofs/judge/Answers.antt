-- `judge`: a record that does not cover says nothing, any other as `judge_covering` has it. Assumes nothing.
use mathlib.Core.Path.{sym, ◌∙◌}
use borrow.Author.Tests.{not-true, not-false}
use Rattle.rtr_origin.proofs.Judging.{uncovered}
use Rattle.rtr_origin.proofs.judge.Goals as goal

pub returns-then-not-covers : goal.returns-then-not-covers
returns-then-not-covers c =
    let a = c.args in
    uncovered a.a a.x (sym c.covers.ensures ∙ not-true _ c.if-not-covers.true-raw)

pub judge_covering-requires : goal.judge_covering-requires
judge_covering-requires c = sym c.covers.ensures ∙ not-false _ c.if-not-covers.false-raw

pub returns : goal.returns
returns c = c.judge_covering.ensures
