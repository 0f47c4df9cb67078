-- `is_table`: the last record read is in rule, and with those behind it it is a table where the whole is. Assumes nothing.
use Prim.Native.Nat.{◌-◌, ◌*◌}
use mathlib.Core.Bool.{true}
use mathlib.Core.List.{◌∷◌}
use mathlib.Core.Path.{◌≡◌}
use lib.ListN.{drop}
use Rattle.rtr_room.specs.Table.{in_rule, is_table}
use Rattle.rtr_room.specs.Room.{records}
use Rattle.rtr_room.proofs.is_table.Given as goal

abbrev pub invariant-loop-i : goal.invariant-loop-i
invariant-loop-i l = (is_table (l.last ∷ records (l.count - l.i) (drop (6 * l.i) l.room)) ≡ is_table (records l.count l.room)) × (in_rule l.last ≡ true)
