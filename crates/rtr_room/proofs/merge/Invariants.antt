-- `merge`: at the loop's head the room's front is as it was, and the merge of what is left into it, with what stands behind, is the whole merge. Assumes
-- nothing.
use Prim.Native.Nat.{◌+◌, ◌*◌, ◌≤◌}
use mathlib.Core.Path.{◌≡◌}
use lib.ListN.{take, drop}
use Rattle.rtr_room.specs.Room.{merge_from}
use Rattle.rtr_room.proofs.merge.Given as goal

abbrev pub invariant-loop-j : goal.invariant-loop-j
invariant-loop-j l = (take (6 * l.end) l.room ≡ take (6 * l.end) l.initial.room)
    × (merge_from l.initial.room l.end l.run l.j (drop (6 * (l.end + l.j)) l.room) ≡ merge_from l.initial.room l.count l.run l.n (drop (6 * (l.count + l.n)) l.initial.room))
    × (l.end ≤ l.count)
