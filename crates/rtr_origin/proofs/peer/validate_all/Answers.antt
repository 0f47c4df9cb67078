-- `validate_all`: the refusals in their turn, then every route's state. Assumes nothing.
use mathlib.Core.Path.{sym, ◌∙◌}
use borrow.Author.Tests.{not-true, not-false}
use Rattle.rtr_origin.proofs.Answers.{tabled, untabled, live-room}
use Rattle.rtr_origin.proofs.PeerAnswers.{shapeless-list, not-in-sixes, untabled-list, short-list, whole-list}
use Rattle.rtr_origin.proofs.peer.validate_all.Goals as goal

pub returns-then-not-is_receiver : goal.returns-then-not-is_receiver
returns-then-not-is_receiver c =
    let a = c.args in
    shapeless-list a.s.life.limit a.s a.live.now a.working.now a.hold.now a.routes.now a.states.now (sym c.is_receiver.ensures ∙ not-true _ c.if-not-is_receiver.true-raw)

pub returns-then-routes-ne0 : goal.returns-then-routes-ne0
returns-then-routes-ne0 c =
    let a = c.args in
    not-in-sixes a.s.life.limit a.s a.live.now a.working.now a.hold.now a.routes.now a.states.now (sym c.is_receiver.ensures ∙ not-false _ c.if-not-is_receiver.false-raw) c.if-routes-ne0.true

pub returns-then-states-needed : goal.returns-then-states-needed
returns-then-states-needed c =
    let a = c.args in
    let shape = sym c.is_receiver.ensures ∙ not-false _ c.if-not-is_receiver.false-raw in
    short-list a.s.life.limit a.s a.live.now a.working.now a.hold.now a.routes.now a.states.now shape c.if-routes-ne0.false (tabled a.s.table _ c.is_none.ensures c.if-is_none.false) c.if-states-needed.true

pub fill_states-requires : goal.fill_states-requires
fill_states-requires c =
    let a = c.args in
    let shape = sym c.is_receiver.ensures ∙ not-false _ c.if-not-is_receiver.false-raw in
    (live-room a.s.life.limit a.s a.live.now a.working.now a.hold.now shape, c.if-states-needed.false)

pub returns-then-is_none : goal.returns-then-is_none
returns-then-is_none c =
    let a = c.args in
    let shape = sym c.is_receiver.ensures ∙ not-false _ c.if-not-is_receiver.false-raw in
    untabled-list a.s.life.limit a.s a.live.now a.working.now a.hold.now a.routes.now a.states.now shape c.if-routes-ne0.false (untabled a.s.table _ c.is_none.ensures c.if-is_none.true)

pub returns : goal.returns
returns c =
    let a = c.args in
    let shape = sym c.is_receiver.ensures ∙ not-false _ c.if-not-is_receiver.false-raw in
    whole-list a.s.life.limit a.s a.live.now a.working.now a.hold.now a.routes.now a.states.now shape c.if-routes-ne0.false (tabled a.s.table _ c.is_none.ensures c.if-is_none.false) _ c.if-states-needed.false c.fill_states.ensures
