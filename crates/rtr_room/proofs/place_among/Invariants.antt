-- `place_among`: halving between the ends that are left comes to what it comes to between the first two, and the ends stay in order. The
-- measure is their distance. Assumes nothing.
use Prim.Native.Nat.{◌-◌, ◌≤◌}
use mathlib.Core.Path.{◌≡◌}
use Rattle.rtr_room.specs.Room.{bisect}
use Rattle.rtr_room.proofs.place_among.Given as goal

abbrev pub invariant-loop-lo : goal.invariant-loop-lo
invariant-loop-lo l = (bisect l.end l.room l.r l.lo l.hi ≡ bisect l.end l.room l.r 0 l.end) × (l.lo ≤ l.hi) × (l.hi ≤ l.end)

abbrev pub decreases-loop-lo : goal.decreases-loop-lo
decreases-loop-lo l = l.hi - l.lo
