-- `feed_all`: at the loop's head what is lent was led on by so many turns. Assumes nothing.
use Rattle.rtr_table.specs.Feeding.{memory}
use Rattle.rtr_table.proofs.Feeds.{Going}
use Rattle.rtr_table.proofs.feed_all.Given as goal

abbrev pub invariant-loop-turn : goal.invariant-loop-turn
invariant-loop-turn g l = Going (memory l.initial.session l.initial.live l.initial.working l.initial.hold) l._turn (memory l.session l.live l.working l.hold)
