-- `records_length`: at the loop's head `sum` is the length of the first i records' lines. Each is in the room, so the way out in the middle is never
-- taken. Assumes nothing.
use Prim.Native.Nat.{◌*◌, ◌≤◌}
use mathlib.Core.Path.{◌≡◌}
use lib.ListN.{length}
use Rattle.rtr_room.specs.Room.{records}
use Rattle.rtr_listing.specs.Listing.{all_lines}
use Rattle.rtr_listing.proofs.records_length.Given as goal

abbrev pub invariant-loop-i : goal.invariant-loop-i
invariant-loop-i l = (l.sum ≡ length (all_lines (records l.i l.live))) × (l.sum ≤ 128 * l.i)
