-- `table_text`: at the front stand the head's lines and then those of the places so far, each part of which is 128 bytes or fewer. Assumes nothing.
use Prim.Native.Nat.{◌+◌, ◌*◌, ◌≤◌}
use mathlib.Core.List.{◌++◌}
use lib.ListN.{take}
use Rattle.rtr_table.specs.Printing.{Shows, lines_up_to}
use Rattle.rtr_table.proofs.table_text.Given as goal

abbrev pub invariant-loop-i : goal.invariant-loop-i
invariant-loop-i l = Shows (take l.initial.n l.initial.lines ++ lines_up_to l.live l.i) l.n l.lines × (l.n ≤ 128 * (l.i + 1))
