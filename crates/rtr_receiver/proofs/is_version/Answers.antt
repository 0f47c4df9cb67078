-- `is_version`: two versions are one exactly where their numbers are. Assumes nothing.
use Rattle.std.proofs.Common.{◌≡◌, refl, ◌∙◌, eqb}
use denote.Enum.Bare.{sameb}
use Rattle.rtr_models.specs.Codes.{version_number}
use Rattle.rtr_models.specs.contracts.RtrProtocolVersion as versions
use Rattle.rtr_models.specs.declared.RtrProtocolVersion.{RtrProtocolVersion}
use Rattle.rtr_models.specs.declared.RtrProtocolVersion.TheVariants.{V0, V1}
use Rattle.rtr_receiver.proofs.is_version.Goals as goal

by-numbers : (a b : RtrProtocolVersion) → sameb versions.the_type a b ≡ eqb (version_number a) (version_number b)
by-numbers V0 V0 = refl
by-numbers V0 V1 = refl
by-numbers V1 V0 = refl
by-numbers V1 V1 = refl

pub returns : goal.returns
returns c = c.eq.ensures ∙ by-numbers c.args.a c.args.b
