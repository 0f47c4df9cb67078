-- `hingemoss_reconnect` finds the session, reconnects, and writes the session back. Assumes nothing.
use mathlib.Core.Path.{refl}
use Rattle.rtr_c.proofs.Steps.{stays-session, leads-reconnected, leads-none, reconnect-known, reconnect-unknown}
use Rattle.rtr_c.proofs.hingemoss_reconnect.Goals as goal

pub returns : goal.returns
returns c =
    record {
      says = reconnect-known c.args.session.now c.session_of.result c.session_of.ensures c.args.live.now c.args.working.now c.args.hold.now _ c.reconnect-reconnected.result _ _ _ c.in-Some.is c.reconnect-reconnected.ensures c.number.ensures c.put_session.ensures.value.1;
      stays_session = stays-session c.args.session.now c.session_of.result c.session_of.ensures _ _ _ c.in-Some.is c.put_session.ensures.reads_back;
      leads_on = leads-reconnected c.args.session.now c.session_of.result c.session_of.ensures c.args.live.now c.args.working.now c.args.hold.now _ c.in-Some.is c.reconnect-reconnected.result _ _ c.reconnect-reconnected.ensures c.put_session.ensures.reads_back;
    }

pub returns-in_default : goal.returns-in_default
returns-in_default c =
    record {
      says = reconnect-unknown c.args.session.now c.session_of.result c.session_of.ensures c.args.live.now c.args.working.now c.args.hold.now c.in_default.is;
      stays_session = refl;
      leads_on = leads-none c.args.session.now c.session_of.result c.session_of.ensures c.args.live.now c.args.working.now c.args.hold.now _ _ c.in_default.is;
    }
