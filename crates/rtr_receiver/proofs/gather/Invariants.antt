-- `gather`: at the loop's head the piece so far is the entries of the tail. Assumes nothing.
use Rattle.std.proofs.Common.{◌+◌, ◌≤◌}
use Rattle.rtr_room.specs.Room.{limit_of, records}
use Rattle.rtr_receiver.specs.Private.{GatheredTo}
use Rattle.rtr_receiver.proofs.gather.Given as goal

abbrev pub invariant-loop-n : goal.invariant-loop-n
invariant-loop-n l = (l.most ≤ limit_of l.initial.tail) × (l.count + l.most ≤ limit_of l.working) × GatheredTo (limit_of l.working) (limit_of l.initial.tail) l.version l.piece l.at (records l.count l.working) l.tail l.n l.next
