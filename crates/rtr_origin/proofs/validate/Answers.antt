-- `validate`: the refusals, then the state that the order gives. Assumes nothing.
use Rattle.std.specs.Prelude.{Err}
use Rattle.std.proofs.lemmas.Result.{err_from_is_err_and}
use mathlib.Core.Path.{ap, ◌∙◌}
use Rattle.rtr_receiver.specs.Contents.{contents}
use Rattle.rtr_origin.specs.Promises.{route_said}
use Rattle.rtr_origin.specs.Promises.RouteSays.{state}
use Rattle.rtr_origin.proofs.Answers.{shut-is, open_is, live-room, under_none}
use Rattle.rtr_origin.proofs.validate.Goals as goal

pub by_order-requires : goal.by_order-requires
by_order-requires c =
    let a = c.args in
    (live-room a.s.life.limit a.s a.live.now a.working.now a.hold.now (open_is a.s.life.limit a.s a.live.now a.working.now a.hold.now a.q _ c.in_ok-barred.was c.barred.ensures).0, under_none a.q (contents a.s.live a.live.now))

pub returns-in_err-barred : goal.returns-in_err-barred
returns-in_err-barred c =
    let a = c.args in
    let p = err_from_is_err_and c.from_residual.result c.from_residual.ensures.1 in
    ap route_said (p.1 ∙ ap (λ e. Err e) p.2) ∙ shut-is a.s.life.limit a.s a.live.now a.working.now a.hold.now a.q _ _ c.in_err-barred.was c.barred.ensures

pub returns : goal.returns
returns c =
    let a = c.args in
    ap state c.by_order.ensures ∙ (open_is a.s.life.limit a.s a.live.now a.working.now a.hold.now a.q _ c.in_ok-barred.was c.barred.ensures).1
