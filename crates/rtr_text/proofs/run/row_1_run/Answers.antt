use Prim.Native.Nat.{ℕ, ◌+◌, ◌-◌, ◌/◌, ◌^◌, ◌≤◌, ◌<◌}
use mathlib.Core.Path.{◌≡◌}
use mathlib.Core.Bool.{true}
use mathlib.Core.List.{List, [], ◌∷◌}
use native.Mathlib.Nat.{le_refl}
use native.Mathlib.Omega.{arith}
use borrow.Author.Tests.{eqb-true}
use lib.Bits.{bit_or}
use lib.Count.{count_trailing_zeros, count_leading_zeros, trailing_le, leading_le}
use lib.ListN.{length, drop}
use Rattle.rtr_text.specs.Utf8.{◌to◌, begins}
use Rattle.rtr_text.proofs.Words.{Ascii, Word, ascii-on, both_zero, ascii-word, ascii-front, ascii_back, by-row-1}
use Rattle.rtr_text.proofs.run.row_1_run.Invariants.{Passed}
use Rattle.rtr_text.proofs.run.row_1_run.Goals as goal

-- and so they are further on
module _ (text : List ℕ) (at end : ℕ) (p : Passed text at end) where
  on : (next : ℕ) → end ≤ next → next ≤ length text → Ascii text end next → Passed text at next
  on next k h b = (omega arith, h, ascii-on text at end next p.2 b)

  over-words : (v w : ℕ) → 16 ≤ length text - end → bit_or v w ≡ 0 → Word text end v → Word text (end + 8) w → Passed text at (end + 16)
  over-words v w h z a b =
      let o = both_zero v w z in
      on (end + 16) (omega arith) (omega arith) (ascii-on text end (end + 8) (end + 16) (ascii-word text end v a o.0) (λ i k l. ascii-word text (end + 8) w b o.1 i k (omega arith)))

  over-front : (w : ℕ) → 8 ≤ length text - end → Word text end w → Passed text at (end + count_trailing_zeros 64 w / 8)
  over-front w h a = on (end + count_trailing_zeros 64 w / 8) (omega arith) (omega (arith, trailing_le 64 w)) (ascii-front text end w a)

  over-rest : (w : ℕ) → w < 2 ^ 64 → 8 ≤ length text → length text - end ≤ count_leading_zeros 64 w / 8 → Word text (length text - 8) w → Passed text at (length text)
  over-rest w f h m a = on (length text) p.1 (le_refl (length text)) (λ i k l. ascii_back text (length text - 8) w a f end (omega arith) i k (omega arith))

  -- which is what is promised
  promised : ((at ≤ end) × (end ≤ length text)) × ((i : ℕ) → at ≤ i → i < end → begins (0x00 to 0x7f ∷ []) (drop i text) ≡ true)
  promised = ((p.0, p.1), λ i k l. by-row-1 text i (omega arith) (p.2 i k l))

-- where so many bytes are left they are in the text
inside : (n end k : ℕ) → k ≤ n - end → end ≤ n → end + k ≤ n
inside n end k h e = omega arith

pub loop-end-init : goal.loop-end-init
loop-end-init c = (omega arith, omega arith, λ i k l. absurd (omega arith))

pub overflow_sub-n : goal.overflow_sub-n
overflow_sub-n c = c.loop-end.invariant.1

pub loop-end-preserved : goal.loop-end-preserved
loop-end-preserved c =
    let a = c.args in
    let first = c.high_bits in
    let second = c.high_bits-in-loop-end in
    over-words a.text.now a.at c.loop-end.end c.loop-end.invariant first.result second.result c.loop-end-test.true (eqb-true _ 0 c.if-high_bits-eq0.true-raw) first.ensures second.ensures

pub overflow_sub-rest : goal.overflow_sub-rest
overflow_sub-rest c = c.loop-end.invariant.1

pub high_bits-zeros-requires : goal.high_bits-zeros-requires
high_bits-zeros-requires c = inside _ _ 8 c.if-rest-ge8.true c.loop-end.invariant.1

pub overflow_cast-end : goal.overflow_cast-end
overflow_cast-end c = omega (arith, trailing_le 64 c.high_bits-zeros.result)

pub overflow_add-end-then-rest-ge8 : goal.overflow_add-end-then-rest-ge8
overflow_add-end-then-rest-ge8 c = omega (arith, trailing_le 64 c.high_bits-zeros.result)

pub overflow_cast-zeros : goal.overflow_cast-zeros
overflow_cast-zeros c = omega (arith, leading_le 64 c.high_bits-zeros-then-n-ge8.result)

pub returns-then-rest-ge8 : goal.returns-then-rest-ge8
returns-then-rest-ge8 c =
    let a = c.args in
    let h = c.high_bits-zeros in
    let p = promised _ _ _ (over-front a.text.now a.at c.loop-end.end c.loop-end.invariant h.result c.if-rest-ge8.true h.ensures) in
    record { lower_bound = p.0; by_index = p.1 }

pub returns-then-rest-zeros : goal.returns-then-rest-zeros
returns-then-rest-zeros c =
    let a = c.args in
    let h = c.high_bits-zeros-then-n-ge8 in
    let p = promised _ _ _ (over-rest a.text.now a.at c.loop-end.end c.loop-end.invariant h.result h.type_inv c.if-n-ge8.true c.if-rest-zeros.true h.ensures) in
    record { lower_bound = p.0; by_index = p.1 }

pub returns-else-rest-zeros : goal.returns-else-rest-zeros
returns-else-rest-zeros c =
    let p = promised _ _ _ c.loop-end.invariant in
    record { lower_bound = p.0; by_index = p.1 }

pub returns-else-n-ge8 : goal.returns-else-n-ge8
returns-else-n-ge8 c =
    let p = promised _ _ _ c.loop-end.invariant in
    record { lower_bound = p.0; by_index = p.1 }
