-- `name`: the tests of `named`. Assumes nothing.
use native.Mathlib.Omega.{arith}
use Rattle.rtr_origin.proofs.Judging.{named-two, named-one, named_other}
use Rattle.rtr_origin.proofs.name.Goals as goal

pub returns-in-2 : goal.returns-in-2
returns-in-2 c = named-two _ c.in-2.is

pub returns-in-1 : goal.returns-in-1
returns-in-1 c = named-one _ c.in-1.is

pub returns-in_default : goal.returns-in_default
returns-in_default c = named_other _ (λ two. omega (arith, two)) (λ one. omega (arith, one))
