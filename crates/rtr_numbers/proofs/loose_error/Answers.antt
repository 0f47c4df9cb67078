-- `loose_error` goes by the number. Assumes nothing.
use borrow.Author.Tests.{ne_eqb}
use Rattle.rtr_numbers.specs.Back.{loose_error}
use Rattle.rtr_numbers.proofs.loose_error.Goals as goal

pub returns-in-1 : goal.returns-in-1
unfolding loose_error
returns-in-1 c = rw c.in-1.is (cc)

pub returns-in-2 : goal.returns-in-2
unfolding loose_error
returns-in-2 c = rw c.in-2.is (cc)

pub returns-in-3 : goal.returns-in-3
unfolding loose_error
returns-in-3 c = rw c.in-3.is (cc)

pub returns-in-4 : goal.returns-in-4
unfolding loose_error
returns-in-4 c = rw c.in-4.is (cc)

pub returns-in-5 : goal.returns-in-5
unfolding loose_error
returns-in-5 c = rw c.in-5.is (cc)

pub returns-in-6 : goal.returns-in-6
unfolding loose_error
returns-in-6 c = rw c.in-6.is (cc)

pub returns-in-7 : goal.returns-in-7
unfolding loose_error
returns-in-7 c = rw c.in-7.is (cc)

pub returns-in_default : goal.returns-in_default
unfolding loose_error
returns-in_default c =
    simp (
      ne_eqb _ _ c.in_default.in_default-own.rest.1,
      ne_eqb _ _ c.in_default.in_default-own.rest.0.1,
      ne_eqb _ _ c.in_default.in_default-own.rest.0.0.1,
      ne_eqb _ _ c.in_default.in_default-own.rest.0.0.0.1,
      ne_eqb _ _ c.in_default.in_default-own.rest.0.0.0.0.1,
      ne_eqb _ _ c.in_default.in_default-own.rest.0.0.0.0.0.1,
      ne_eqb _ _ c.in_default.in_default-own.rest.0.0.0.0.0.0.1,
    )
