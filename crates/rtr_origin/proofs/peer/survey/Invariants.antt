-- `survey`: at the loop's head both families' numbers are those of the first i records. Assumes nothing.
use mathlib.Core.Path.{◌≡◌}
use Rattle.rtr_origin.specs.Survey.{bounds_of}
use Rattle.rtr_origin.proofs.peer.survey.Given as goal

abbrev pub invariant-loop-i : goal.invariant-loop-i
invariant-loop-i l = (l.four ≡ bounds_of 4 l.i l.live) × (l.six ≡ bounds_of 6 l.i l.live)
