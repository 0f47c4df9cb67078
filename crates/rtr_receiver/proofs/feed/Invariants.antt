-- `feed` goes from PDU to PDU: at the loop's head memory has receiver shape, the receiver listens, and the feed from there comes to what the whole feed
-- comes to. A step that goes on has moved on in the piece, so the measure is what is left of it. Assumes nothing.
use Rattle.std.proofs.Common.{◌≡◌, ◌-◌, ◌≤◌, true, length}
use Rattle.rtr_receiver.specs.Receiver.{listens}
use Rattle.rtr_receiver.specs.Promises.{stage_of, is_receiver}
use Rattle.rtr_receiver.specs.Private.{feed_here}
use Rattle.rtr_receiver.proofs.feed.Given as goal

abbrev pub invariant-loop-done : goal.invariant-loop-done
invariant-loop-done l = (is_receiver l.session.life.limit l.session l.live l.working l.hold ≡ true)
    × (listens (stage_of l.session.phase) ≡ true)
    × (l.at ≤ length l.piece)
    × (l.updates ≤ l.at)
    × (length l.live ≡ length l.initial.live)
    × (length l.working ≡ length l.initial.working)
    × (length l.hold ≡ length l.initial.hold)
    × (feed_here l.session.life.limit l.session l.live l.working l.hold l.piece l.at l.updates ≡ feed_here l.initial.session.life.limit l.initial.session l.initial.live l.initial.working l.initial.hold l.piece l.initial.at l.initial.updates)
    × (l.session.life.limit ≡ l.initial.session.life.limit)

abbrev pub decreases-loop-done : goal.decreases-loop-done
decreases-loop-done l = length l.piece - l.at
