-- `value_of`: each way out is one of the ways in which a line has no value. Assumes nothing.
use mathlib.Core.Bool.{true≢false}
use mathlib.Core.Path.{refl, sym, ◌∙◌}
use native.Mathlib.Omega.{arith}
use borrow.Author.Tests.{not-true, not-false}
use Rattle.rtr_listed.proofs.Found.{value-unended, value-short, value-other, value_there}
use Rattle.rtr_listed.proofs.value_of.Goals as goal

pub returns-then-not-c : goal.returns-then-not-c
returns-then-not-c c = let a = c.args in λ f l ls e ended. absurd (true≢false (sym f ∙ not-true _ c.if-not-c.true))

pub returns-then-end-listing : goal.returns-then-end-listing
returns-then-end-listing c = let a = c.args in value-unended a.listing.now a.c a.name.now _ c.requires c.line_end-end.ensures.0 c.if-end-listing.true

pub returns-then-end-at : goal.returns-then-end-at
returns-then-end-at c = let a = c.args in value-short a.listing.now a.c a.name.now _ c.requires c.line_end-end.ensures.0 (omega (arith, c.line_end-end.ensures.1)) c.if-end-at.true

pub returns-then-not-is_text : goal.returns-then-not-is_text
returns-then-not-is_text c = let a = c.args in value-other a.listing.now a.c a.name.now _ c.requires c.line_end-end.ensures.0 (omega (arith, c.line_end-end.ensures.1)) _ (omega arith) refl (sym c.is_text.ensures ∙ c.if-not-is_text.true)

pub returns : goal.returns
returns c = let a = c.args in value_there a.listing.now a.c a.name.now _ c.requires c.line_end-end.ensures.0 (omega (arith, c.line_end-end.ensures.1)) _ (omega arith) refl (not-false _ c.if-not-c.false) (sym c.is_text.ensures ∙ c.if-not-is_text.false)
