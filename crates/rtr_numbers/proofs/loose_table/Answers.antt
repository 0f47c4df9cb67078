-- `loose_table` goes by number 6. Assumes nothing.
use Rattle.std.specs.Prelude.{Some}
use mathlib.Core.Path.{sym, ap, ◌∙◌}
use borrow.Author.Tests.{eq-eqb, ne_eqb}
use Rattle.rtr_numbers.specs.Back.{loose_table}
use Rattle.rtr_numbers.proofs.loose_table.Goals as goal

pub returns-then-at-eq0 : goal.returns-then-at-eq0
unfolding loose_table
returns-then-at-eq0 c = simp (eq-eqb _ _ (sym c.at.ensures ∙ c.if-at-eq0.true))

pub returns : goal.returns
unfolding loose_table
returns c = simp (ne_eqb _ _ (λ e. c.if-at-eq0.false (c.at.ensures ∙ e))) (ap Some c.low_table.ensures)
