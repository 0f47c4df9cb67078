-- Which values a listing can have, for `reads-exactly`, and which numbers lie in memory, for `run-reads-back`: document 02, request Four.
use Rattle.std.specs.Prelude.{ℕ, ◌≤◌, true, List, [], ◌≡◌, length, Option, Some, None}
use Rattle.rtr_room.specs.Table.{is_table, AllFit}
use Rattle.rtr_room.specs.declared.Record.{Record}
use Rattle.rtr_receiver.specs.Contents.{contents}
use Rattle.rtr_receiver.specs.Fits.{TableNumbersFit}
use Rattle.rtr_receiver.specs.Runs.{Memory}
use Rattle.rtr_receiver.specs.declared.Table.{Table}
use Rattle.rtr_listed.specs.Listed.{Listed, may_stop}

-- without a table there are no records
abbrev pub InfoFits : Option Table → List Record → Type 0
InfoFits None records = records ≡ []
InfoFits (Some t) records = TableNumbersFit t

-- the values fit: a stop that may be, a table's numbers or no record, a table within the limit and within the highest count that the width takes
pub record ListingFits (limit : ℕ) (v : Listed) : Type 0 where
  pub stopped : may_stop v.stopped ≡ true
  pub info : InfoFits v.table v.records
  pub table : is_table v.records ≡ true
  pub words : AllFit v.records
  pub within : length v.records ≤ limit
  pub written : length v.records ≤ 1024

-- the numbers in memory are of their types: the session record's of 16 and 32 bits, the live room's of 32
pub record NumbersFit (m : Memory) : Type 0 where
  pub table : (t : Table) → m.session.table ≡ Some t → TableNumbersFit t
  pub words : AllFit (contents m.session.live m.live)
