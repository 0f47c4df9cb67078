-- `put_side`: at the loop's head what was written and what is left make the whole. The measure is how many places are left. Assumes nothing.
use Prim.Native.Nat.{◌-◌, ◌≤◌}
use mathlib.Core.Path.{◌≡◌}
use lib.ListN.{length}
use Rattle.rtr_room.specs.Room.{records}
use Rattle.rtr_diffs.proofs.Sides.{Side}
use Rattle.rtr_diffs.proofs.put_side.Given as goal

abbrev pub invariant-loop-p : goal.invariant-loop-p
invariant-loop-p l = (l.i ≤ l.a_count) × (length l.out ≡ length l.initial.out) × Side l.announced (records l.a_count l.a) (records l.b_count l.b) l.initial.out l.at l.i l.out l.next

abbrev pub decreases-loop-p : goal.decreases-loop-p
decreases-loop-p l = l.a_count - l.i
