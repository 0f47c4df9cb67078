-- The library's calls are the steps of a C host's run: each contract, as Rattle reads it off the source, is the step of specs/Runs.antt. So what is proved of such runs is
-- proved of the code; a contract that is weakened breaks this file. Assumes nothing.
use mathlib.Core.Bool.{true}
use mathlib.Core.List.{[]}
use mathlib.Core.Path.{◌≡◌, refl}
use lib.ListN.{length}
use Rattle.rtr_receiver.specs.Runs.{Call}
use Rattle.rtr_receiver.specs.declared.LoadKind.{LoadKind}
use Rattle.rtr_c.specs.Calls.{is_session}
use Rattle.rtr_c.specs.Runs.{memory, CStep, CRun}
use Rattle.rtr_c.proofs.hingemoss_start.Reads as start-reads
use Rattle.rtr_c.proofs.hingemoss_full_ask.Reads as full-ask-reads
use Rattle.rtr_c.proofs.hingemoss_change_ask.Reads as change-ask-reads
use Rattle.rtr_c.proofs.hingemoss_feed.Reads as feed-reads
use Rattle.rtr_c.proofs.hingemoss_reconnect.Reads as reconnect-reads

-- a start that answers 0 begins a run
pub start-begins : (κs : _) (a : _) (s : _) → start-reads.Post κs a 0 s →
    CRun a.0 (length a.1.1.1.1.0.now) [] (memory s.1.0.now s.1.1.0.now s.1.1.1.0.now a.1.1.1.1.0.now)
start-begins κs a s p = CRun.started _ a.1.0.now a.1.1.0.now a.1.1.1.0.now refl p.0 (p.1.1 refl)

pub full-ask-steps : (κs : _) (a : _) (r : _) (s : _) → full-ask-reads.Post κs a r s →
    CStep
    (memory a.0.now a.1.0.now a.1.1.0.now a.1.1.1.0.now)
    (Call.ask LoadKind.Full a.1.1.1.1.0.now)
    (memory s.0.now a.1.0.now a.1.1.0.now a.1.1.1.0.now)
full-ask-steps κs a r s p = CStep.asked_full r s.0.now s.1.1.1.1.0.now p.0 p.1.1

pub change-ask-steps : (κs : _) (a : _) (r : _) (s : _) → change-ask-reads.Post κs a r s →
    CStep
    (memory a.0.now a.1.0.now a.1.1.0.now a.1.1.1.0.now)
    (Call.ask LoadKind.Change a.1.1.1.1.0.now)
    (memory s.0.now a.1.0.now a.1.1.0.now a.1.1.1.0.now)
change-ask-steps κs a r s p = CStep.asked_change r s.0.now s.1.1.1.1.0.now p.0 p.1.1

pub feed-steps : (κs : _) (a : _) (r : _) (s : _) → feed-reads.Post κs a r s →
    CStep
    (memory a.0.now a.1.0.now a.1.1.0.now a.1.1.1.0.now)
    (Call.feed a.1.1.1.1.0.now)
    (memory s.0.now s.1.0.now s.1.1.0.now s.1.1.1.0.now)
feed-steps κs a r s p = CStep.fed r s.0.now s.1.0.now s.1.1.0.now s.1.1.1.0.now s.1.1.1.1.1.0.now s.1.1.1.1.1.1.0.now p.0 p.1.1

pub reconnect-steps : (κs : _) (a : _) (r : _) (s : _) → reconnect-reads.Post κs a r s →
    CStep
    (memory a.0.now a.1.0.now a.1.1.0.now a.1.1.1.0.now)
    Call.reconnect
    (memory s.0.now a.1.0.now s.1.1.0.now a.1.1.1.0.now)
reconnect-steps κs a r s p = CStep.connected r s.0.now s.1.1.0.now p.0 p.1.1

-- ---- what is left is a session's numbers again

pub start-leaves-session : (κs : _) (a : _) (s : _) → start-reads.Post κs a 0 s → is_session s.1.0.now ≡ true
start-leaves-session κs a s p = p.1.0 refl

pub full-ask-keeps-session : (κs : _) (a : _) (r : _) (s : _) → full-ask-reads.Post κs a r s → is_session s.0.now ≡ is_session a.0.now
full-ask-keeps-session κs a r s p = p.1.0

pub change-ask-keeps-session : (κs : _) (a : _) (r : _) (s : _) → change-ask-reads.Post κs a r s → is_session s.0.now ≡ is_session a.0.now
change-ask-keeps-session κs a r s p = p.1.0

pub feed-keeps-session : (κs : _) (a : _) (r : _) (s : _) → feed-reads.Post κs a r s → is_session s.0.now ≡ is_session a.0.now
feed-keeps-session κs a r s p = p.1.0

pub reconnect-keeps-session : (κs : _) (a : _) (r : _) (s : _) → reconnect-reads.Post κs a r s → is_session s.0.now ≡ is_session a.0.now
reconnect-keeps-session κs a r s p = p.1.0
