-- `seconds` goes by the version. Assumes nothing.
use Rattle.std.specs.Prelude.{ℕ, Option, Some, None, ◌≡◌, unwrap_or}
use mathlib.Core.Path.{◌∙◌, refl}
use Rattle.rtr_models.specs.Values.{seconds_or}
use Rattle.rtr_pdu_numbers.proofs.seconds.Goals as goal

-- an interval or the default, as the library says it
or-default : (interval : Option ℕ) (default : ℕ) → unwrap_or interval default ≡ seconds_or default interval
or-default None default = refl
or-default (Some n) default = refl

pub returns-in-V1 : goal.returns-in-V1
returns-in-V1 c = rw c.in-V1.is (c.unwrap_or.ensures ∙ or-default c.args.interval c.args.default)
