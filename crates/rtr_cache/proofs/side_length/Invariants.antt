-- `side_length`: at the loop's head `sum` and what is left make the whole. The measure is how many places are left. Assumes nothing.
use Prim.Native.Nat.{◌+◌, ◌-◌, ◌*◌, ◌≤◌}
use mathlib.Core.Bool.{Bool}
use mathlib.Core.Path.{◌≡◌}
use lib.ListN.{length, drop}
use Rattle.rtr_models.specs.declared.RtrProtocolVersion.{RtrProtocolVersion}
use Rattle.rtr_room.specs.Room.{records}
use Rattle.rtr_cache.specs.Private.{side_bytes}
use Rattle.rtr_cache.proofs.side_length.Given as goal

abbrev pub invariant-loop-p : goal.invariant-loop-p
invariant-loop-p l = (l.i ≤ l.a_count) × (l.sum ≤ 32 * l.i) × ((v : RtrProtocolVersion) (announced : Bool)
    → l.sum + length (side_bytes v announced (drop l.i (records l.a_count l.a)) (records l.b_count l.b)) ≡ length (side_bytes v announced (records l.a_count l.a) (records l.b_count l.b)))

abbrev pub decreases-loop-p : goal.decreases-loop-p
decreases-loop-p l = l.a_count - l.i
