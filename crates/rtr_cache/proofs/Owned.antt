-- Whoever holds a table's session, serial and intervals holds numbers that fit their types (`Is`, what owning a value of a Rattle type tells). Assumes nothing.
use mathlib.Core.List.{List}
use native.Mathlib.Omega.{arith}
use mir.Val.{Val}
use denote.Laws.{Is}
use denote.Struct.Declared as struct
use Rattle.rtr_receiver.specs.contracts.Table as table-type
use Rattle.rtr_receiver.specs.Fits.{TableNumbersFit}
use Rattle.rtr_receiver.specs.declared.Table.{Table}

pub table-owned : (t : Table) (vs : List Val) → Is (struct.row table-type.the_type) t vs → TableNumbersFit t
table-owned t vs h = record { session = omega arith; serial = omega arith; refresh = omega arith; retry = omega arith; expire = omega arith }
