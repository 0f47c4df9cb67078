-- `is_zero_from`: the bits met so far are none, and what is left is 0, exactly where all was. Assumes nothing.
use mathlib.Core.Bool.{◌&&◌}
use mathlib.Core.Path.{◌≡◌}
use lib.Dec.{eqb}
use lib.ListN.{drop}
use Rattle.rtr_room.specs.Room.{all_zero}
use Rattle.rtr_room.proofs.is_zero_from.Given as goal

abbrev pub invariant-loop-i : goal.invariant-loop-i
invariant-loop-i l = (eqb l.bits 0 && all_zero (drop l.i l.room)) ≡ all_zero (drop l.at l.room)
