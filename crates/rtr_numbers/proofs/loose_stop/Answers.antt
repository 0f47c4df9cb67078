-- `loose_stop` goes by the number. Assumes nothing.
use borrow.Author.Tests.{ne_eqb}
use Rattle.rtr_numbers.specs.Back.{loose_stop}
use Rattle.rtr_numbers.proofs.loose_stop.Goals as goal

pub returns-in-12 : goal.returns-in-12
unfolding loose_stop
returns-in-12 c = rw c.in-12.is (cc)

pub returns-in-13 : goal.returns-in-13
unfolding loose_stop
returns-in-13 c = rw c.in-13.is (cc)

pub returns-in-14 : goal.returns-in-14
unfolding loose_stop
returns-in-14 c = rw c.in-14.is (cc)

pub returns-in-15 : goal.returns-in-15
unfolding loose_stop
returns-in-15 c = rw c.in-15.is (cc)

pub returns-in-16 : goal.returns-in-16
unfolding loose_stop
returns-in-16 c = rw c.in-16.is (cc)

pub returns-in-17 : goal.returns-in-17
unfolding loose_stop
returns-in-17 c = rw c.in-17.is (cc)

pub returns-in-18 : goal.returns-in-18
unfolding loose_stop
returns-in-18 c = rw c.in-18.is (cc)

pub returns-in-19 : goal.returns-in-19
unfolding loose_stop
returns-in-19 c = rw c.in-19.is (cc)

pub returns-in_default : goal.returns-in_default
unfolding loose_stop
returns-in_default c =
    simp (
      ne_eqb _ _ c.in_default.in_default-own.rest.1,
      ne_eqb _ _ c.in_default.in_default-own.rest.0.1,
      ne_eqb _ _ c.in_default.in_default-own.rest.0.0.1,
      ne_eqb _ _ c.in_default.in_default-own.rest.0.0.0.1,
      ne_eqb _ _ c.in_default.in_default-own.rest.0.0.0.0.1,
      ne_eqb _ _ c.in_default.in_default-own.rest.0.0.0.0.0.1,
      ne_eqb _ _ c.in_default.in_default-own.rest.0.0.0.0.0.0.1,
      ne_eqb _ _ c.in_default.in_default-own.rest.0.0.0.0.0.0.0.1,
    ) cc
