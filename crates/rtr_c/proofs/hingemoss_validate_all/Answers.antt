-- `hingemoss_validate_all` finds the session and asks of the whole list. Assumes nothing.
use mathlib.Core.Path.{refl, ◌∙◌}
use Rattle.rtr_origin.specs.Peer.{peer_said}
use Rattle.rtr_c.proofs.Steps.{numbered, counted}
use Rattle.rtr_c.proofs.Questions.{all_known, all-unknown}
use Rattle.rtr_c.proofs.hingemoss_validate_all.Goals as goal

pub returns : goal.returns
returns c =
    let a = c.args in
    all_known a.live.now a.working.now a.hold.now a.session.now a.routes.now a.states.now c.session_of.result c.session_of.ensures _
    c.validate_all-answer.result _ _ _ c.in-Some.is c.validate_all-answer.ensures (c.number.ensures ∙ numbered peer_said (λ n. refl) c.validate_all-answer.result) (c.amount.ensures ∙ counted peer_said (λ n. refl) c.validate_all-answer.result)

pub returns-in_default : goal.returns-in_default
returns-in_default c =
    let a = c.args in
    all-unknown a.live.now a.working.now a.hold.now a.session.now a.routes.now a.states.now c.session_of.result c.session_of.ensures c.in_default.is
