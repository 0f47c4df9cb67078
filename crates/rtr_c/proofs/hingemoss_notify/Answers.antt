-- `hingemoss_notify` finds the session and compares. Assumes nothing.
use Rattle.rtr_c.proofs.Steps.{notify-known, notify-unknown}
use Rattle.rtr_c.proofs.hingemoss_notify.Goals as goal

pub returns : goal.returns
returns c = notify-known c.args.session.now c.session_of.result c.session_of.ensures c.args.live.now c.args.working.now c.args.hold.now _ c.notify-compared.result _ _ c.in-Some.is c.notify-compared.ensures c.number.ensures c.notify_compared.ensures

pub returns-in_default : goal.returns-in_default
returns-in_default c = notify-unknown c.args.session.now c.session_of.result c.session_of.ensures c.args.live.now c.args.working.now c.args.hold.now c.in_default.is
