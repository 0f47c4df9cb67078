-- `loose_note` goes by number 12. Assumes nothing.
use mathlib.Core.Path.{sym, ◌∙◌}
use borrow.Author.Tests.{eq-eqb, ne_eqb}
use Rattle.rtr_numbers.specs.Back.{loose_note}
use Rattle.rtr_numbers.proofs.loose_note.Goals as goal

pub returns-then-at-eq0 : goal.returns-then-at-eq0
unfolding loose_note
returns-then-at-eq0 c = simp (eq-eqb _ _ (sym c.at.ensures ∙ c.if-at-eq0.true))

pub returns : goal.returns
unfolding loose_note
returns c = simp (ne_eqb _ _ (λ e. c.if-at-eq0.false (c.at.ensures ∙ e))) cc
