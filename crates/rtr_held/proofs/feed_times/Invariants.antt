-- As many feeds are done as turns, and they led from memory at the entry to memory now.
use Rattle.rtr_held.specs.Times.{FedTimes}
use Rattle.rtr_held.proofs.feed_times.Given as goal

abbrev pub invariant-loop-i : goal.invariant-loop-i
invariant-loop-i l = FedTimes l.piece (record { session = l.initial.session; live = l.initial.live; working = l.initial.working; hold = l.initial.hold }) l._i (record { session = l.session; live = l.live; working = l.working; hold = l.hold })
