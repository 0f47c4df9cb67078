-- No feed leads from memory to itself, and one turn is one feed more.
use Rattle.std.proofs.Common.{add-one}
use Rattle.rtr_receiver.specs.Runs.{Step}
use Rattle.rtr_held.specs.Times.{FedTimes}
use Rattle.rtr_held.proofs.feed_times.Goals as goal

pub loop-i-init : goal.loop-i-init
loop-i-init c = FedTimes.none

pub loop-i-preserved : goal.loop-i-preserved
loop-i-preserved c =
    rw add-one
    (FedTimes.more c.loop-i.invariant
    (Step.fed c.feed_in_place-done.new.session c.feed_in_place-done.result _ _ _ c.feed_in_place-done.ensures.1 c.feed_in_place-done.ensures.0))
