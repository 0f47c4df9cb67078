-- `number_in`: what has not the shape of a number is none; else the sum is the number. Assumes nothing.
use Prim.Native.Nat.{ℕ}
use mathlib.Core.Bool.{true≢false}
use mathlib.Core.Path.{sym, ap, ◌∙◌}
use native.Mathlib.Omega.{arith}
use Rattle.rtr_listing.specs.Digits.{are_decimal, value_of}
use Rattle.rtr_listed.specs.Listed.Fit.{fits}
use Rattle.rtr_listed.specs.Private.{number_said}
use Rattle.rtr_listed.proofs.Numbers.{fitting-fits, fitting-misfits, number-not, number-yes, number-over}
use Rattle.rtr_listed.proofs.number_in.Goals as goal

pub returns-then-value-gt10 : goal.returns-then-value-gt10
returns-then-value-gt10 c = let a = c.args in sym (number-not a.most a.value.now c.requires (λ d lead few. omega (arith, few, c.if-value-gt10.true)))

pub returns-then-not-has_no_lead : goal.returns-then-not-has_no_lead
returns-then-not-has_no_lead c =
    let a = c.args in
    sym (number-not a.most a.value.now c.requires (λ d lead few. true≢false (sym lead ∙ sym c.has_no_lead.ensures ∙ c.if-not-has_no_lead.true)))

pub returns-in_err-n : goal.returns-in_err-n
returns-in_err-n c =
    let a = c.args in
    let none = fitting-misfits (are_decimal a.value.now) (value_of a.value.now 0) (sym c.sum_of.ensures ∙ ap number_said c.in_err-n.was) in
    ap number_said c.from_residual.ensures ∙ sym (number-not a.most a.value.now c.requires (λ d lead few. true≢false (sym d ∙ none)))

pub returns-then-n-most : goal.returns-then-n-most
returns-then-n-most c =
    let a = c.args in
    let f = fitting-fits (are_decimal a.value.now) (value_of a.value.now 0) _ (sym c.sum_of.ensures ∙ ap number_said c.in_ok-n.was) in
    sym (number-over a.most a.value.now (omega (arith, f.1, c.if-n-most.true)))

pub returns : goal.returns
returns c =
    let a = c.args in
    let f = fitting-fits (are_decimal a.value.now) (value_of a.value.now 0) _ (sym c.sum_of.ensures ∙ ap number_said c.in_ok-n.was) in
    let lead = sym c.has_no_lead.ensures ∙ c.if-not-has_no_lead.false in
    sym (number-yes a.most a.value.now c.requires f.0 lead (omega arith) (omega (arith, f.1)) ∙ ap (λ (n : ℕ). fits n) f.1)
