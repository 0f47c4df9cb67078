-- The code's calls are the steps of a run: each contract, as Rattle reads it off the source, is the step of specs/Runs.antt. So what is proved of runs is proved of the code; a
-- contract that is weakened breaks this file. A slice that is lent keeps its length. Assumes nothing.
use Rattle.std.specs.Prelude.{Ok}
use Rattle.std.proofs.Common.{[], length, refl}
use Rattle.rtr_receiver.specs.Promises.{record_limit}
use Rattle.rtr_receiver.specs.Runs.{Call, Step, Run}
use Rattle.rtr_receiver.specs.declared.LoadKind.{LoadKind}
use Rattle.rtr_receiver.proofs.start.Reads as start-reads
use Rattle.rtr_receiver.proofs.full_ask.Reads as full-reads
use Rattle.rtr_receiver.proofs.change_ask.Reads as change-reads
use Rattle.rtr_receiver.proofs.feed.Reads as feed-reads
use Rattle.rtr_receiver.proofs.reconnect.Reads as reconnect-reads

-- a start that is not refused begins a run
pub start-begins : (κs : _) (a : _) (session : _) (s : _) → start-reads.Post κs a (Ok session) s →
    Run record_limit a.0 (length a.1.1.1.0.now) [] (record { session = session; live = s.1.0.now; working = s.1.1.0.now; hold = a.1.1.1.0.now })
start-begins κs a session s p = Run.started _ a.1.0.now a.1.1.0.now refl p

pub feed-steps : (κs : _) (a : _) (r : _) (s : _) → feed-reads.Post κs a r s →
    Step a.0.life.limit
    (record { session = a.0; live = a.1.0.now; working = a.1.1.0.now; hold = a.1.1.1.0.now })
    (Call.feed a.1.1.1.1.0.now)
    (record { session = r.session; live = s.1.0.now; working = s.1.1.0.now; hold = s.1.1.1.0.now })
feed-steps κs a r s p = Step.fed r.session r.done _ _ _ p.1 p.0

pub full-ask-steps : (κs : _) (a : _) (r : _) (s : _) → full-reads.Post κs a r s →
    Step a.0.life.limit
    (record { session = a.0; live = a.1.0.now; working = a.1.1.0.now; hold = a.1.1.1.0.now })
    (Call.ask LoadKind.Full a.1.1.1.1.0.now)
    (record { session = r.session; live = a.1.0.now; working = a.1.1.0.now; hold = a.1.1.1.0.now })
full-ask-steps κs a r s p = Step.asked_full r.session r.answer s.1.1.1.1.0.now p

pub change-ask-steps : (κs : _) (a : _) (r : _) (s : _) → change-reads.Post κs a r s →
    Step a.0.life.limit
    (record { session = a.0; live = a.1.0.now; working = a.1.1.0.now; hold = a.1.1.1.0.now })
    (Call.ask LoadKind.Change a.1.1.1.1.0.now)
    (record { session = r.session; live = a.1.0.now; working = a.1.1.0.now; hold = a.1.1.1.0.now })
change-ask-steps κs a r s p = Step.asked_change r.session r.answer s.1.1.1.1.0.now p

pub reconnect-steps : (κs : _) (a : _) (r : _) (s : _) → reconnect-reads.Post κs a r s →
    Step a.0.life.limit
    (record { session = a.0; live = a.1.0.now; working = a.1.1.0.now; hold = a.1.1.1.0.now })
    Call.reconnect
    (record { session = r.session; live = a.1.0.now; working = s.1.1.0.now; hold = a.1.1.1.0.now })
reconnect-steps κs a r s p = Step.connected r.session r.answer _ p
