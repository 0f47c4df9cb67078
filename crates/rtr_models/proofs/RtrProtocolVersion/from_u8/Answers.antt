-- `RtrProtocolVersion::from_u8` finds what the table finds: each arm is the table at its number, and the last arm is none of them. Assumes nothing.
use mathlib.Core.Path.{sym, ap}
use borrow.Author.Tests.{ne_eqb}
use native.Mathlib.Omega.{arith}
use Rattle.rtr_models.specs.Codes.{version_found}
use Rattle.rtr_models.proofs.RtrProtocolVersion.from_u8.Goals as goal

pub returns-in-0 : goal.returns-in-0
returns-in-0 c = sym (ap version_found c.in-0.is)

pub returns-in-1 : goal.returns-in-1
returns-in-1 c = sym (ap version_found c.in-1.is)

pub returns-in_default : goal.returns-in_default
returns-in_default c =
    simp (
      ne_eqb c.args.value 0 (λ e. omega arith),
      ne_eqb c.args.value 1 (λ e. omega arith),
    )
