-- `table_or` goes by the case. Assumes nothing.
use Rattle.std.specs.Prelude.{Option, Some, None, ◌≡◌, unwrap_or}
use mathlib.Core.Path.{refl, ◌∙◌}
use Rattle.rtr_receiver.specs.declared.Table.{Table}
use Rattle.rtr_numbers.specs.Numbers.{table_or}
use Rattle.rtr_numbers.proofs.table_or.Goals as goal

-- what a table says or zeros, as the library says it
or-zeros : (table : Option Table) → unwrap_or table (record { session = 0; serial = 0; refresh = 0; retry = 0; expire = 0 }) ≡ table_or table
or-zeros None = refl
or-zeros (Some t) = refl

pub returns : goal.returns
returns c = c.unwrap_or.ensures ∙ or-zeros c.args.table
