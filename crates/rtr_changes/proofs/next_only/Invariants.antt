-- `next_only`: at the loop's head what is found from place i on is what is to be found. Assumes nothing.
use Prim.Native.Nat.{◌-◌}
use mathlib.Core.Path.{◌≡◌}
use Rattle.rtr_changes.specs.Changes.{first_only, next_only}
use Rattle.rtr_changes.proofs.next_only.Given as goal

abbrev pub invariant-loop-i : goal.invariant-loop-i
invariant-loop-i l = first_only (l.a_count - l.i) l.a l.b l.b_count l.i ≡ next_only l.a l.a_count l.b l.b_count l.from
