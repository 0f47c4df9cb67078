-- An address fits exactly where it has the family's digits, all of them hex: each eight are the digits of their own number. Assumes nothing.
use Prim.Native.Nat.{ℕ, zero, suc, ◌+◌, ◌≤◌}
use mathlib.Core.Bool.{Bool, true, ◌&&◌}
use mathlib.Core.List.{List, [], ◌∷◌, ◌++◌}
use mathlib.Core.Path.{◌≡◌, refl, sym, ap, ◌∙◌}
use native.Mathlib.Omega.{arith}
use borrow.Author.Tests.{eq-eqb, ne_eqb}
use lib.ListN.{length, take, drop, length-drop}
use lib.Seq.{take-add, length-take-le}
use Rattle.rtr_room.proofs.Laws.Tests.{first_of, second-of, both, unless}
use Rattle.rtr_room.specs.Table.{family_of}
use Rattle.rtr_listing.specs.Listing.{digits, address_of}
use Rattle.rtr_listing.specs.Digits.{is_hex, are_hex}
use Rattle.rtr_listing.proofs.Laws.{hex-none, hex-next, hex-exactly, four-length, other_length, four-address, other-address, address-lower-case}
use Rattle.rtr_listed.specs.Listed.{fitting, same_text, record_of, word_at, words_in, address_in}
use Rattle.rtr_listed.specs.Listed.Fit.{fits, misfits}
use Rattle.rtr_listed.specs.declared.Words.{Words}
use Rattle.rtr_listed.proofs.Texts.{same-equal, equal-same}
use Rattle.rtr_listed.proofs.Numbers.{fitting-fits}

pub hex-take : (n : ℕ) (s : List ℕ) → are_hex s ≡ true → are_hex (take n s) ≡ true
hex-take zero s h = hex-none
hex-take (suc n) [] h = hex-none
hex-take (suc n) (c ∷ s) h =
    let k : is_hex c && are_hex s ≡ true = sym (hex-next c s) ∙ h in
    hex-next c (take n s) ∙ both (is_hex c) _ (first_of (is_hex c) _ k) (hex-take n s (second-of (is_hex c) _ k))

pub hex-drop : (n : ℕ) (s : List ℕ) → are_hex s ≡ true → are_hex (drop n s) ≡ true
hex-drop zero s h = h
hex-drop (suc n) [] h = hex-none
hex-drop (suc n) (c ∷ s) h = hex-drop n s (second-of (is_hex c) _ (sym (hex-next c s) ∙ h))

-- eight digits are those of their number
word_back : (s : List ℕ) (at : ℕ) → at + 8 ≤ length s → are_hex s ≡ true → take 8 (drop at s) ≡ digits 16 8 (word_at s at)
word_back s at h k =
    let eight : length (take 8 (drop at s)) ≡ 8 = length-take-le 8 (drop at s) (omega (arith, length-drop at s)) in
    (hex-exactly (take 8 (drop at s))).1 (hex-take 8 (drop at s) (hex-drop at s k)) ∙ ap (λ (n : ℕ). digits 16 n (word_at s at)) eight

pub family-is : (family : ℕ) (w : Words) → family_of (record_of family w 0 0 0) ≡ family
family-is family w = omega arith

take_all : (s : List ℕ) (n : ℕ) → n ≡ length s → take n s ≡ s
take_all [] zero h = refl
take_all [] (suc n) h = refl
take_all (c ∷ s) zero h = absurd (omega arith)
take_all (c ∷ s) (suc n) h = ap (λ (t : List ℕ). c ∷ t) (take_all s n (omega arith))

module _ (family : ℕ) (s : List ℕ) where
  abbrev w : Words
  w = words_in family s

  pub four-yes : family ≡ 4 → length s ≡ 8 → are_hex s ≡ true → address_in family s ≡ fits (record { w0 = word_at s 0; w1 = 0; w2 = 0; w3 = 0 })
  unfolding address_in
  four-yes e l h =
      let words : w ≡ record { w0 = word_at s 0; w1 = 0; w2 = 0; w3 = 0 } = simp (eq-eqb family 4 e) in
      let same : s ≡ address_of (record_of family w 0 0 0) =
      sym (take_all s 8 (sym l)) ∙ word_back s 0 (omega (arith, l)) h ∙ sym (ap (λ (x : Words). digits 16 8 x.w0) words) ∙ sym (four-address (record_of family w 0 0 0) (family-is family w ∙ e)) in
      ap (λ (b : Bool). fitting b w) (equal-same s _ same) ∙ ap (λ (x : Words). fits x) words

  pub four-not : family ≡ 4 → (length s ≡ 8 → are_hex s ≡ true → ⊥) → address_in family s ≡ misfits
  unfolding address_in
  four-not e none =
      ap (λ (b : Bool). fitting b w) (unless (same_text s (address_of (record_of family w 0 0 0))) (λ same.
      let eq : s ≡ address_of (record_of family w 0 0 0) = same-equal s _ same in
      none (ap length eq ∙ four-length (record_of family w 0 0 0) (family-is family w ∙ e)) (ap are_hex eq ∙ address-lower-case (record_of family w 0 0 0))))

  module _ (other : family ≡ 4 → ⊥) where
    not-four : family_of (record_of family w 0 0 0) ≡ 4 → ⊥
    not-four e = other (sym (family-is family w) ∙ e)

    pub six-yes : length s ≡ 32 → are_hex s ≡ true → address_in family s ≡ fits (record { w0 = word_at s 0; w1 = word_at s 8; w2 = word_at s 16; w3 = word_at s 24 })
    unfolding address_in
    six-yes l h =
        let words : w ≡ record { w0 = word_at s 0; w1 = word_at s 8; w2 = word_at s 16; w3 = word_at s 24 } = simp (ne_eqb family 4 other) in
        let parts : take 32 s ≡ take 8 s ++ take 8 (drop 8 s) ++ take 8 (drop 16 s) ++ take 8 (drop 24 s) =
        take-add 24 8 s ∙ ap (λ (x : List ℕ). x ++ take 8 (drop 24 s)) (take-add 16 8 s ∙ ap (λ (x : List ℕ). x ++ take 8 (drop 16 s)) (take-add 8 8 s)) in
        let back : take 8 s ++ take 8 (drop 8 s) ++ take 8 (drop 16 s) ++ take 8 (drop 24 s) ≡ digits 16 8 (word_at s 0) ++ digits 16 8 (word_at s 8) ++ digits 16 8 (word_at s 16) ++ digits 16 8 (word_at s 24) =
        λ i. word_back s 0 (omega (arith, l)) h i ++ word_back s 8 (omega (arith, l)) h i ++ word_back s 16 (omega (arith, l)) h i ++ word_back s 24 (omega (arith, l)) h i in
        let same : s ≡ address_of (record_of family w 0 0 0) =
        sym (take_all s 32 (sym l)) ∙ parts ∙ back ∙ sym (ap (λ (x : Words). digits 16 8 x.w0 ++ digits 16 8 x.w1 ++ digits 16 8 x.w2 ++ digits 16 8 x.w3) words) ∙ sym (other-address (record_of family w 0 0 0) not-four) in
        ap (λ (b : Bool). fitting b w) (equal-same s _ same) ∙ ap (λ (x : Words). fits x) words

    pub six-not : (length s ≡ 32 → are_hex s ≡ true → ⊥) → address_in family s ≡ misfits
    unfolding address_in
    six-not none =
        ap (λ (b : Bool). fitting b w) (unless (same_text s (address_of (record_of family w 0 0 0))) (λ same.
        let eq : s ≡ address_of (record_of family w 0 0 0) = same-equal s _ same in
        none (ap length eq ∙ other_length (record_of family w 0 0 0) not-four) (ap are_hex eq ∙ address-lower-case (record_of family w 0 0 0))))

-- what fits are the words of its digits
pub address-words : (family : ℕ) (s : List ℕ) (w : Words) → address_in family s ≡ fits w → w ≡ words_in family s
unfolding address_in
address-words family s w e = sym (fitting-fits (same_text s (address_of (record_of family (words_in family s) 0 0 0))) (words_in family s) w e).1
