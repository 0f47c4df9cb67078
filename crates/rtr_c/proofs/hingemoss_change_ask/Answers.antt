-- `hingemoss_change_ask` finds the session, asks, and writes the session back. Assumes nothing.
use mathlib.Core.Path.{refl, ◌∙◌}
use Rattle.rtr_receiver.specs.declared.Session.{Session}
use Rattle.rtr_receiver.specs.Promises.{change_ask_says, ask_writing}
use Rattle.rtr_c.specs.Calls.{change_ask_c}
use Rattle.rtr_c.proofs.Steps.{numbered, stays-session, leads-change, leads-none, ask-known, ask-unknown}
use Rattle.rtr_c.proofs.hingemoss_change_ask.Goals as goal

pub returns : goal.returns
unfolding change_ask_c
returns c =
    record {
      says = ask-known c.args.session.now c.session_of.result c.session_of.ensures (λ (s : Session). change_ask_says s.life.limit s c.args.live.now c.args.working.now c.args.hold.now c.args.out.now) c.args.live.now c.args.working.now c.args.hold.now c.args.out.now _ c.change_ask-asked.result _ _ _ c.in-Some.is c.change_ask-asked.ensures (c.number.ensures ∙ numbered ask_writing (λ n. refl) _) c.put_session.ensures.value.1;
      stays_session = stays-session c.args.session.now c.session_of.result c.session_of.ensures _ _ _ c.in-Some.is c.put_session.ensures.reads_back;
      leads_on = leads-change c.args.session.now c.session_of.result c.session_of.ensures c.args.live.now c.args.working.now c.args.hold.now _ c.in-Some.is c.args.out.now c.change_ask-asked.result _ _ c.change_ask-asked.ensures c.put_session.ensures.reads_back;
    }

pub returns-in_default : goal.returns-in_default
unfolding change_ask_c
returns-in_default c =
    record {
      says = ask-unknown c.args.session.now c.session_of.result c.session_of.ensures (λ (s : Session). change_ask_says s.life.limit s c.args.live.now c.args.working.now c.args.hold.now c.args.out.now) c.args.live.now c.args.working.now c.args.hold.now c.args.out.now c.in_default.is;
      stays_session = refl;
      leads_on = leads-none c.args.session.now c.session_of.result c.session_of.ensures c.args.live.now c.args.working.now c.args.hold.now _ _ c.in_default.is;
    }
