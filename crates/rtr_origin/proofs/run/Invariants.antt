-- `run`: no record from the run's start up to the place speaks stronger than what was found. Assumes nothing.
use Prim.Native.Nat.{ℕ, ◌≤◌, ◌<◌}
use Rattle.rtr_room.specs.Room.{records, record_at}
use Rattle.rtr_origin.specs.Judged.{strength, strongest}
use Rattle.rtr_origin.proofs.run.Given as goal

abbrev pub invariant-loop-i : goal.invariant-loop-i
invariant-loop-i l = ((j : ℕ) → l.initial.i ≤ j → j < l.i → strength l.a (record_at l.live j) ≤ l.best) × (l.best ≤ strongest l.a (records l.count l.live))
