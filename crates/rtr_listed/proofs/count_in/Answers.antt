-- `count_in`: four digits, and their sum within both limits. Assumes nothing.
use Prim.Native.Nat.{ℕ}
use mathlib.Core.Bool.{true≢false}
use mathlib.Core.Path.{sym, ap, ◌∙◌}
use native.Mathlib.Omega.{arith}
use Rattle.rtr_listing.specs.Digits.{are_decimal, value_of}
use Rattle.rtr_listed.specs.Listed.Fit.{fits}
use Rattle.rtr_listed.specs.Private.{number_said}
use Rattle.rtr_listed.proofs.Numbers.{fitting-fits, fitting-misfits, count-not, count_yes}
use Rattle.rtr_listed.proofs.count_in.Goals as goal

pub returns-then-value-ne-COUNT_DIGITS : goal.returns-then-value-ne-COUNT_DIGITS
returns-then-value-ne-COUNT_DIGITS c = let a = c.args in sym (count-not a.limit a.value.now (λ four d low within. c.if-value-ne-COUNT_DIGITS.true four))

pub returns-in_err-n : goal.returns-in_err-n
returns-in_err-n c =
    let a = c.args in
    let none = fitting-misfits (are_decimal a.value.now) (value_of a.value.now 0) (sym c.sum_of.ensures ∙ ap number_said c.in_err-n.was) in
    ap number_said c.from_residual.ensures ∙ sym (count-not a.limit a.value.now (λ four d low within. true≢false (sym d ∙ none)))

pub returns-then-n-gt-RECORD_LIMIT : goal.returns-then-n-gt-RECORD_LIMIT
returns-then-n-gt-RECORD_LIMIT c =
    let a = c.args in
    let f = fitting-fits (are_decimal a.value.now) (value_of a.value.now 0) _ (sym c.sum_of.ensures ∙ ap number_said c.in_ok-n.was) in
    sym (count-not a.limit a.value.now (λ four d low within. omega (arith, low, f.1, c.if-n-gt-RECORD_LIMIT.true)))

pub returns-then-n-limit : goal.returns-then-n-limit
returns-then-n-limit c =
    let a = c.args in
    let f = fitting-fits (are_decimal a.value.now) (value_of a.value.now 0) _ (sym c.sum_of.ensures ∙ ap number_said c.in_ok-n.was) in
    sym (count-not a.limit a.value.now (λ four d low within. omega (arith, within, f.1, c.if-n-limit.true)))

pub returns : goal.returns
returns c =
    let a = c.args in
    let f = fitting-fits (are_decimal a.value.now) (value_of a.value.now 0) _ (sym c.sum_of.ensures ∙ ap number_said c.in_ok-n.was) in
    sym (count_yes a.limit a.value.now (omega arith) f.0 (omega (arith, f.1)) (omega (arith, f.1)) ∙ ap (λ (n : ℕ). fits n) f.1)
