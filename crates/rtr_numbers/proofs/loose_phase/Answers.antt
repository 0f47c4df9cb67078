-- `loose_phase` goes by number 1. Assumes nothing.
use mathlib.Core.Path.{sym, ◌∙◌}
use borrow.Author.Tests.{ne_eqb}
use Rattle.rtr_numbers.specs.Back.{loose_phase}
use Rattle.rtr_numbers.proofs.loose_phase.Goals as goal

pub returns-in-0 : goal.returns-in-0
unfolding loose_phase
returns-in-0 c = rw (sym c.at-phase.ensures ∙ c.in-0.is) (cc)

pub returns-in-1 : goal.returns-in-1
unfolding loose_phase
returns-in-1 c = rw (sym c.at-phase.ensures ∙ c.in-1.is) (cc)

pub returns-in-2 : goal.returns-in-2
unfolding loose_phase
returns-in-2 c = rw (sym c.at-phase.ensures ∙ c.in-2.is) (cc)

pub returns-in-3 : goal.returns-in-3
unfolding loose_phase
returns-in-3 c = rw (sym c.at-phase.ensures ∙ c.in-3.is) (cc)

pub returns-in-4 : goal.returns-in-4
unfolding loose_phase
returns-in-4 c = rw (sym c.at-phase.ensures ∙ c.in-4.is) (cc)

pub returns-in-5 : goal.returns-in-5
unfolding loose_phase
returns-in-5 c = rw (sym c.at-phase.ensures ∙ c.in-5.is) (cc)

pub returns-in_default : goal.returns-in_default
unfolding loose_phase
returns-in_default c =
    simp (
      ne_eqb _ _ (λ e. c.in_default.in_default-own.rest.1 (c.at-phase.ensures ∙ e)),
      ne_eqb _ _ (λ e. c.in_default.in_default-own.rest.0.1 (c.at-phase.ensures ∙ e)),
      ne_eqb _ _ (λ e. c.in_default.in_default-own.rest.0.0.1 (c.at-phase.ensures ∙ e)),
      ne_eqb _ _ (λ e. c.in_default.in_default-own.rest.0.0.0.1 (c.at-phase.ensures ∙ e)),
      ne_eqb _ _ (λ e. c.in_default.in_default-own.rest.0.0.0.0.1 (c.at-phase.ensures ∙ e)),
      ne_eqb _ _ (λ e. c.in_default.in_default-own.rest.0.0.0.0.0.1 (c.at-phase.ensures ∙ e)),
    ) cc
