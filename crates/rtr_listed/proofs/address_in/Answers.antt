-- `address_in`: eight digits or 32, all hex, are read word by word. Assumes nothing.
use Prim.Native.Nat.{ℕ}
use mathlib.Core.Bool.{true≢false}
use mathlib.Core.Path.{sym, ap, ◌∙◌}
use native.Mathlib.Omega.{arith}
use Rattle.rtr_listed.specs.Listed.Fit.{fits}
use Rattle.rtr_listed.proofs.Addresses.{four-yes, four-not, six-yes, six-not}
use Rattle.rtr_listed.proofs.address_in.Goals as goal

pub returns-then-value-ne8 : goal.returns-then-value-ne8
returns-then-value-ne8 c = let a = c.args in sym (four-not a.family a.value.now c.if-family-eq4.true (λ l h. c.if-value-ne8.true l))

pub returns-then-not-are_hex : goal.returns-then-not-are_hex
returns-then-not-are_hex c = let a = c.args in sym (four-not a.family a.value.now c.if-family-eq4.true (λ l h. true≢false (sym h ∙ sym c.are_hex.ensures ∙ c.if-not-are_hex.true)))

pub word_at-requires : goal.word_at-requires
word_at-requires c = (omega arith, sym c.are_hex.ensures ∙ c.if-not-are_hex.false)

pub returns-then-family-eq4 : goal.returns-then-family-eq4
returns-then-family-eq4 c =
    let a = c.args in
    sym (four-yes a.family a.value.now c.if-family-eq4.true (omega arith) (sym c.are_hex.ensures ∙ c.if-not-are_hex.false) ∙ ap (λ (x : ℕ). fits (record { w0 = x; w1 = 0; w2 = 0; w3 = 0 })) (sym c.word_at.ensures))

pub returns-then-value-ne32 : goal.returns-then-value-ne32
returns-then-value-ne32 c = let a = c.args in sym (six-not a.family a.value.now c.if-family-eq4.false (λ l h. c.if-value-ne32.true l))

pub returns-then-not-are_hex-2 : goal.returns-then-not-are_hex-2
returns-then-not-are_hex-2 c = let a = c.args in sym (six-not a.family a.value.now c.if-family-eq4.false (λ l h. true≢false (sym h ∙ sym c.are_hex-2.ensures ∙ c.if-not-are_hex-2.true)))

pub word_at-requires-2 : goal.word_at-requires-2
word_at-requires-2 c = (omega arith, sym c.are_hex-2.ensures ∙ c.if-not-are_hex-2.false)

pub word_at-requires-3 : goal.word_at-requires-3
word_at-requires-3 c = (omega arith, sym c.are_hex-2.ensures ∙ c.if-not-are_hex-2.false)

pub word_at-requires-4 : goal.word_at-requires-4
word_at-requires-4 c = (omega arith, sym c.are_hex-2.ensures ∙ c.if-not-are_hex-2.false)

pub word_at-requires-5 : goal.word_at-requires-5
word_at-requires-5 c = (omega arith, sym c.are_hex-2.ensures ∙ c.if-not-are_hex-2.false)

pub returns : goal.returns
returns c =
    let a = c.args in
    sym (six-yes a.family a.value.now c.if-family-eq4.false (omega arith) (sym c.are_hex-2.ensures ∙ c.if-not-are_hex-2.false)
    ∙ (λ i. fits (record { w0 = sym c.word_at-2.ensures i; w1 = sym c.word_at-3.ensures i; w2 = sym c.word_at-4.ensures i; w3 = sym c.word_at-5.ensures i })))
