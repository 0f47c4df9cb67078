-- `is_text`: at the loop's head the texts are the same up to place i. Assumes nothing.
use mathlib.Core.Path.{◌≡◌}
use lib.ListN.{drop}
use Rattle.rtr_listed.specs.Listed.{same_text}
use Rattle.rtr_listed.proofs.is_text.Given as goal

abbrev pub invariant-loop-i : goal.invariant-loop-i
invariant-loop-i l = same_text l.s l.t ≡ same_text (drop l.i l.s) (drop l.i l.t)
