-- `hingemoss_feed` finds the session, feeds, and writes the session back. Assumes nothing.
use mathlib.Core.Path.{refl}
use Rattle.rtr_c.proofs.Steps.{stays-session, leads-fed, leads-none, feed-known, feed-unknown}
use borrow.Author.Rules.{rules}
use Rattle.rtr_c.proofs.hingemoss_feed.Goals as goal

pub returns : goal.returns
returns c =
    record {
      says = feed-known c.args.session.now c.session_of.result c.session_of.ensures c.args.live.now c.args.working.now c.args.hold.now c.args.piece.now _ c.feed-fed.result _ _ _ _ _ c.in-Some.is c.feed-fed.ensures.0 c.number.ensures c.put_session.ensures.value.1;
      stays_session = stays-session c.args.session.now c.session_of.result c.session_of.ensures _ _ _ c.in-Some.is c.put_session.ensures.reads_back;
      leads_on = leads-fed c.args.session.now c.session_of.result c.session_of.ensures c.args.live.now c.args.working.now c.args.hold.now _ c.in-Some.is c.args.piece.now c.feed-fed.result _ _ _ _ c.feed-fed.ensures.0 c.put_session.ensures.reads_back (search rules);
    }

pub returns-in_default : goal.returns-in_default
returns-in_default c =
    record {
      says = feed-unknown c.args.session.now c.session_of.result c.session_of.ensures c.args.live.now c.args.working.now c.args.hold.now c.args.piece.now c.in_default.is;
      stays_session = refl;
      leads_on = leads-none c.args.session.now c.session_of.result c.session_of.ensures c.args.live.now c.args.working.now c.args.hold.now _ _ c.in_default.is;
    }
