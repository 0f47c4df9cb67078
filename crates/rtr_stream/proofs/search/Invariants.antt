-- `search` is over at once where nothing is held, else it goes round: at the loop's head the stream waits, and the search from there comes to what the whole search comes to; a PDU would lie
-- where it would have lain. A turn that goes on has moved on in the piece, so the measure is what is left of it. Assumes nothing.
use Prim.Native.Nat.{ℕ, ◌-◌, ◌<◌}
use mathlib.Core.Bool.{true}
use mathlib.Core.Path.{◌≡◌}
use lib.ListN.{length}
use Rattle.rtr_stream.specs.Search.{is_stream, lying}
use Rattle.rtr_stream.specs.Private.{search_here}
use Rattle.rtr_stream.proofs.search.Given as goal

abbrev pub invariant-loop-done : goal.invariant-loop-done
invariant-loop-done l = (is_stream l.hold l.held ≡ true)
    × (length l.hold ≡ length l.initial.hold)
    × (search_here l.hold l.held l.piece l.next ≡ search_here l.initial.hold l.initial.held l.piece l.initial.next)
    × ((n : ℕ) → lying l.held l.next n ≡ lying l.initial.held l.initial.next n)
    × (0 < l.held)

abbrev pub decreases-loop-done : goal.decreases-loop-done
decreases-loop-done l = length l.piece - l.next
