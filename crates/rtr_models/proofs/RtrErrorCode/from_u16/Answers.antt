-- `RtrErrorCode::from_u16` finds what the table finds: each arm is the table at its number, and the last arm is none of them. Assumes nothing.
use mathlib.Core.Path.{sym, ap}
use borrow.Author.Tests.{ne_eqb}
use native.Mathlib.Omega.{arith}
use Rattle.rtr_models.specs.Codes.{code_found}
use Rattle.rtr_models.proofs.RtrErrorCode.from_u16.Goals as goal

pub returns-in-0 : goal.returns-in-0
returns-in-0 c = sym (ap code_found c.in-0.is)

pub returns-in-1 : goal.returns-in-1
returns-in-1 c = sym (ap code_found c.in-1.is)

pub returns-in-2 : goal.returns-in-2
returns-in-2 c = sym (ap code_found c.in-2.is)

pub returns-in-3 : goal.returns-in-3
returns-in-3 c = sym (ap code_found c.in-3.is)

pub returns-in-4 : goal.returns-in-4
returns-in-4 c = sym (ap code_found c.in-4.is)

pub returns-in-5 : goal.returns-in-5
returns-in-5 c = sym (ap code_found c.in-5.is)

pub returns-in-6 : goal.returns-in-6
returns-in-6 c = sym (ap code_found c.in-6.is)

pub returns-in-7 : goal.returns-in-7
returns-in-7 c = sym (ap code_found c.in-7.is)

pub returns-in-8 : goal.returns-in-8
returns-in-8 c = sym (ap code_found c.in-8.is)

pub returns-in_default : goal.returns-in_default
returns-in_default c =
    simp (
      ne_eqb c.args.value 0 (λ e. omega arith),
      ne_eqb c.args.value 1 (λ e. omega arith),
      ne_eqb c.args.value 2 (λ e. omega arith),
      ne_eqb c.args.value 3 (λ e. omega arith),
      ne_eqb c.args.value 4 (λ e. omega arith),
      ne_eqb c.args.value 5 (λ e. omega arith),
      ne_eqb c.args.value 6 (λ e. omega arith),
      ne_eqb c.args.value 7 (λ e. omega arith),
      ne_eqb c.args.value 8 (λ e. omega arith),
    )
