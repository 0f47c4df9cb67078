-- `read_records`: the invariant is `Reading`. Assumes nothing.
use Rattle.rtr_receiver.specs.Promises.{record_limit}
use Rattle.rtr_listed.proofs.Loop.{Reading}
use Rattle.rtr_listed.proofs.read_records.Given as goal

abbrev pub invariant-loop-i : goal.invariant-loop-i
invariant-loop-i l = Reading record_limit l.listing l.count l.initial.next l.room l.next l.i
