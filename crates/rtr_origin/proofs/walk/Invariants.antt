-- `walk`: no record from the place on that is plain speaks stronger than what was found, and those below it stand before the route. Each turn
-- lowers the place, which is the measure. Assumes nothing.
use Prim.Native.Nat.{ℕ, ◌≤◌}
use Rattle.rtr_room.specs.Room.{records}
use Rattle.rtr_origin.specs.Private.{Under}
use Rattle.rtr_origin.specs.Judged.{Asks, strongest}
use Rattle.rtr_origin.specs.declared.Route.{Route}
use Rattle.rtr_origin.proofs.Engine.{Going}
use Rattle.rtr_origin.proofs.walk.Given as goal

abbrev pub invariant-loop-p : goal.invariant-loop-p
invariant-loop-p l = (l.p ≤ l.count) × (l.best ≤ 1) × (l.best ≤ strongest l.a (records l.count l.live)) × ((q : Route) (loose : ℕ) → Asks q l.a → Under l.least loose q (records l.count l.live) → Going l.a l.live l.count l.best l.p)

abbrev pub decreases-loop-p : goal.decreases-loop-p
decreases-loop-p l = l.p
