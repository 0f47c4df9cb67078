-- `scan`: no record before the place speaks stronger than what was found, and that is no more than the strongest. Assumes nothing.
use Prim.Native.Nat.{ℕ, ◌≤◌, ◌<◌}
use Rattle.rtr_room.specs.Room.{records, record_at}
use Rattle.rtr_origin.specs.Judged.{strength, strongest}
use Rattle.rtr_origin.proofs.scan.Given as goal

abbrev pub invariant-loop-i : goal.invariant-loop-i
invariant-loop-i l = ((k : ℕ) → k < l.i → strength l.a (record_at l.live k) ≤ l.best) × (l.best ≤ strongest l.a (records l.count l.live))
