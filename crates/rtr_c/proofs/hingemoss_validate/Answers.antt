-- `hingemoss_validate` tests the route's numbers, finds the session and asks of the route. Assumes nothing.
use Rattle.rtr_c.proofs.Questions.{validate-not-six, validate-known, validate-unknown}
use Rattle.rtr_c.proofs.hingemoss_validate.Goals as goal

pub returns-then-route-ne6 : goal.returns-then-route-ne6
returns-then-route-ne6 c =
    let a = c.args in
    validate-not-six a.live.now a.working.now a.hold.now a.session.now a.route.now c.if-route-ne6.true

pub returns : goal.returns
returns c =
    let a = c.args in
    validate-known a.live.now a.working.now a.hold.now a.session.now a.route.now c.if-route-ne6.false c.session_of.result c.session_of.ensures _ c.route_of.result c.asked_route-asked.result c.validate-answer.result _ _ c.in-Some.is c.route_of.ensures c.asked_route-asked.ensures c.validate-answer.ensures c.number.ensures c.validate_state.ensures

pub returns-in_default : goal.returns-in_default
returns-in_default c =
    let a = c.args in
    validate-unknown a.live.now a.working.now a.hold.now a.session.now a.route.now c.if-route-ne6.false c.session_of.result c.session_of.ensures c.in_default.is
