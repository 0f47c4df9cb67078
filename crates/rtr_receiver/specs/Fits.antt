-- Which numbers the code can hold, by their types, for theorems about bytes that are written of them: document 01's fields of 16 and 32 bits.
use Rattle.std.specs.Prelude.{◌≤◌}
use Rattle.rtr_receiver.specs.declared.Table.{Table}

-- the numbers of a table: a session has 16 bits, the others 32
pub record TableNumbersFit (t : Table) : Type 0 where
  pub session : t.session ≤ 65535
  pub serial : t.serial ≤ 4294967295
  pub refresh : t.refresh ≤ 4294967295
  pub retry : t.retry ≤ 4294967295
  pub expire : t.expire ≤ 4294967295
