-- `loose_code` finds in the table of codes. Assumes nothing.
use Rattle.std.specs.Prelude.{Option, Some, None, ◌≡◌, unwrap_or}
use mathlib.Core.Path.{refl, ap, ◌∙◌}
use Rattle.rtr_models.specs.Codes.{code_found}
use Rattle.rtr_models.specs.declared.RtrErrorCode.{RtrErrorCode}
use Rattle.rtr_models.specs.declared.RtrErrorCode.TheVariants.{CorruptData}
use Rattle.rtr_numbers.specs.Back.{code_or}
use Rattle.rtr_numbers.proofs.loose_code.Goals as goal

-- the code or the first, as the library says it
or-first : (found : Option RtrErrorCode) → unwrap_or found CorruptData ≡ code_or found
or-first None = refl
or-first (Some code) = refl

pub returns : goal.returns
returns c = c.unwrap_or.ensures ∙ or-first c.from_u16.result ∙ ap code_or (c.from_u16.ensures ∙ ap code_found c.low.ensures)
