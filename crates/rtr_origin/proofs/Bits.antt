-- Bits of words: how many leading zeros the difference of two words has is how many of their first bits agree; and addresses agree word by
-- word. By quotients: the first bits of two words agree where their difference, divided, is 0. Assumes nothing.
use Prim.Native.Nat.{ℕ, suc, ◌+◌, ◌-◌, ◌*◌, ◌/◌, ◌%◌, ◌^◌, ◌≤◌, ◌<◌}
use mathlib.Core.Bool.{Bool, true, false, cond, ◌&&◌, and-true}
use mathlib.Core.List.{List, [], ◌∷◌}
use mathlib.Core.Path.{◌≡◌, refl, sym, ap, ap₂, ◌∙◌}
use native.Mathlib.Omega.{arith}
use native.Mathlib.Nat.{div-lt_iff_lt-mul, div-eq_of_lt, div-one, div-mul-le_self, mod-eq_of_lt, two-pow-succ}
use lib.Bits.{bit_xor, xor_shr, xor_self, xor_add_and, and_le_l, and_le_r, xor_lt}
use lib.Count.{count_leading_zeros, leading_length, leading_le}
use lib.Dec.{leb, eqb}
use lib.Pow.{pow_pos, pow_mono}
use borrow.Author.Tests.{eqb-true, leb-true, leb-false, eq-eqb, ne_eqb, le-leb, lt-leb}
use Rattle.rtr_room.specs.declared.Record.{Record}
use Rattle.rtr_origin.specs.Origin.{agree}
use Rattle.rtr_origin.specs.Judged.{LeadingAlike, Common, cut_word, probe_of}
use Rattle.rtr_origin.specs.Private.{cut}
use Rattle.rtr_origin.proofs.Addresses.{agree-none, agree_refl}

-- two numbers with no difference are one
xor-none : (a b : ℕ) → bit_xor a b ≡ 0 → a ≡ b
xor-none a b e = omega (arith, xor_add_and a b, and_le_l a b, and_le_r a b)

no-quotient : (z k : ℕ) → z / 2 ^ k ≡ 0 → z < 2 ^ k
no-quotient z k h = omega (arith, (div-lt_iff_lt-mul {k = 2 ^ k} {x = z} {y = 1} (pow_pos k)).0 (omega arith))

whole : (x k : ℕ) → k ≡ 0 → x / 2 ^ k ≡ x
whole x k h = rw h (div-one x)

module _ (x y : ℕ) (hx : x < 2 ^ 32) (hy : y < 2 ^ 32) where
  -- without its last so many bits, the difference is 0 exactly where no bit before them differs
  equal-from : (l : ℕ) → l ≤ 32 → l ≤ count_leading_zeros 32 (bit_xor x y) → x / 2 ^ (32 - l) ≡ y / 2 ^ (32 - l)
  equal-from l h e =
      let m = leading_length 32 (bit_xor x y) (xor_lt 32 x y hx hy) in
      let fits : 2 ^ m.0 ≤ 2 ^ (32 - l) = pow_mono (omega (arith, m.1)) in
      xor-none _ _ (sym (xor_shr x y (32 - l)) ∙ div-eq_of_lt (omega (arith, m.2)))

  differ-from : (l : ℕ) → l ≤ 32 → count_leading_zeros 32 (bit_xor x y) < l → x / 2 ^ (32 - l) ≡ y / 2 ^ (32 - l) → ⊥
  differ-from l h e same =
      let m = leading_length 32 (bit_xor x y) (xor_lt 32 x y hx hy) in
      let none : bit_xor x y / 2 ^ (32 - l) ≡ 0 = xor_shr x y (32 - l) ∙ ap (λ (w : ℕ). bit_xor w (y / 2 ^ (32 - l))) same ∙ xor_self (y / 2 ^ (32 - l)) in
      let fits : 2 ^ suc (32 - l) ≤ 2 ^ m.0 = pow_mono (omega (arith, m.1)) in
      omega (arith, no-quotient (bit_xor x y) (32 - l) none, m.3, fits, two-pow-succ (32 - l))

  by-quotients : (l : ℕ) → l ≤ 32 → eqb (x / 2 ^ (32 - l)) (y / 2 ^ (32 - l)) ≡ leb l (count_leading_zeros 32 (bit_xor x y))
  by-quotients l h = go (leb l (count_leading_zeros 32 (bit_xor x y))) refl
    where
      go : (b : Bool) → leb l (count_leading_zeros 32 (bit_xor x y)) ≡ b → eqb (x / 2 ^ (32 - l)) (y / 2 ^ (32 - l)) ≡ b
      go true e = eq-eqb _ _ (equal-from l h (leb-true l _ e))
      go false e = ne_eqb _ _ (differ-from l h (leb-false l _ e))

  alike : (l : ℕ) → l ≤ 32 → agree l (x ∷ []) (y ∷ []) ≡ leb l (count_leading_zeros 32 (bit_xor x y))
  unfolding agree
  alike l h = go (eqb l 0) refl (leb 32 l) refl
    where
      go : (b : Bool) → eqb l 0 ≡ b → (d : Bool) → leb 32 l ≡ d
          → cond b true (cond d (eqb x y && true) (eqb (x / 2 ^ (32 - l)) (y / 2 ^ (32 - l)))) ≡ leb l (count_leading_zeros 32 (bit_xor x y))
      go true e d f = sym (le-leb l _ (omega (arith, eqb-true l 0 e)))
      go false e true f =
          let k : 32 - l ≡ 0 = omega (arith, leb-true 32 l f) in
          and-true (eqb x y) ∙ sym (ap₂ eqb (whole x (32 - l) k) (whole y (32 - l) k)) ∙ by-quotients l h
      go false e false f = by-quotients l h

  pub leading-is : LeadingAlike x y (count_leading_zeros 32 (bit_xor x y))
  leading-is = record { within = leading_le 32 (bit_xor x y); exactly = alike }

-- ---- addresses, word by word

agree-split : (l x y : ℕ) (xs ys : List ℕ) → agree l (x ∷ xs) (y ∷ ys) ≡ (agree l (x ∷ []) (y ∷ []) && agree (l - 32) xs ys)
unfolding agree
agree-split l x y xs ys = go (eqb l 0) refl (leb 32 l) refl
  where
    go : (b : Bool) → eqb l 0 ≡ b → (d : Bool) → leb 32 l ≡ d
        → cond b true (cond d (eqb x y && agree (l - 32) xs ys) (eqb (x / 2 ^ (32 - l)) (y / 2 ^ (32 - l))))
        ≡ (cond b true (cond d (eqb x y && true) (eqb (x / 2 ^ (32 - l)) (y / 2 ^ (32 - l)))) && agree (l - 32) xs ys)
    go true e d f =
        let k : l - 32 ≡ 0 = omega (arith, eqb-true l 0 e) in
        rw k (sym (agree-none xs ys))
    go false e true f = rw (and-true (eqb x y))
    go false e false f =
        let k : l - 32 ≡ 0 = omega (arith, leb-false 32 l f) in
        rw (k, agree-none xs ys) (sym (and-true _))

-- a longer agreement than a word is of the whole word
whole_word : (l x y : ℕ) → 32 < l → agree l (x ∷ []) (y ∷ []) ≡ eqb x y
unfolding agree
whole_word l x y h = rw (ne_eqb l 0 (λ e. omega arith), le-leb 32 l (omega arith)) (and-true (eqb x y))

module _ (x y : ℕ) (xs ys : List ℕ) (r : ℕ) where
  -- the first word that differs decides
  pub common-here : (x ≡ y → ⊥) → LeadingAlike x y r → Common (x ∷ xs) (y ∷ ys) r
  common-here d k = record { within = omega (arith, k.within); exactly = λ l h. agree-split l x y xs ys ∙ go l (leb l 32) refl }
    where
      go : (l : ℕ) → (b : Bool) → leb l 32 ≡ b → (agree l (x ∷ []) (y ∷ []) && agree (l - 32) xs ys) ≡ leb l r
      go l true e =
          let n : l ≤ 32 = leb-true l 32 e in
          let z : l - 32 ≡ 0 = omega arith in
          rw (z, agree-none xs ys) (and-true _ ∙ k.exactly l n)
      go l false e =
          let n : 32 < l = leb-false l 32 e in
          rw (whole_word l x y n, ne_eqb x y d) (sym (lt-leb l r (omega (arith, k.within))))

  -- a word in common is 32 bits more
  pub common-next : (n : ℕ) → n ≡ 32 + r → x ≡ y → n ≤ 255 → Common xs ys r → Common (x ∷ xs) (y ∷ ys) n
  common-next n m e w k = record { within = w; exactly = λ l h. agree-split l x y xs ys ∙ go l h (leb l 32) refl }
    where
      go : (l : ℕ) → l ≤ 255 → (b : Bool) → leb l 32 ≡ b → (agree l (x ∷ []) (y ∷ []) && agree (l - 32) xs ys) ≡ leb l n
      go l h true f =
          let z : l - 32 ≡ 0 = omega (arith, leb-true l 32 f) in
          rw (e, agree_refl l (y ∷ []), z, agree-none xs ys) (sym (le-leb l n (omega (arith, leb-true l 32 f))))
      go l h false f =
          let g : 32 < l = leb-false l 32 f in
          rw (whole_word l x y g, eq-eqb x y e) (k.exactly (l - 32) (omega arith) ∙ sides l g (leb l n) refl)
        where
          sides : (l : ℕ) → 32 < l → (b : Bool) → leb l n ≡ b → leb (l - 32) r ≡ b
          sides l g true p = le-leb (l - 32) r (omega (arith, leb-true l n p))
          sides l g false p = lt-leb (l - 32) r (omega (arith, leb-false l n p))

-- one address has all in common with itself
pub common-all : (xs ys : List ℕ) → xs ≡ ys → Common xs ys 255
common-all xs ys e = record { within = omega arith; exactly = λ l h. rw (e, agree_refl l ys) (sym (le-leb l 255 h)) }

-- ---- the first bits, word by word

pub cut_word_lem : (l x : ℕ) (xs : List ℕ) → cut l (x ∷ xs) ≡ cut_word l x ∷ cut (l - 32) xs
unfolding cut cut_word
cut_word_lem l x xs = go (eqb l 0) refl (leb 32 l) refl
  where
    go : (b : Bool) → eqb l 0 ≡ b → (d : Bool) → leb 32 l ≡ d
        → cond b (0 ∷ cut 0 xs) (cond d (x ∷ cut (l - 32) xs) (x / 2 ^ (32 - l) * 2 ^ (32 - l) ∷ cut 0 xs))
        ≡ cond b 0 (cond d x (x / 2 ^ (32 - l) * 2 ^ (32 - l))) ∷ cut (l - 32) xs
    go true e d f =
        let k : l - 32 ≡ 0 = omega (arith, eqb-true l 0 e) in
        rw k
    go false e true f = refl
    go false e false f =
        let k : l - 32 ≡ 0 = omega (arith, leb-false 32 l f) in
        rw k

module _ (l x : ℕ) where
  pub cut-none : l ≡ 0 → 0 ≡ cut_word l x
  unfolding cut_word
  cut-none h = rw (eq-eqb l 0 h)

  pub cut-whole : 32 ≤ l → x ≡ cut_word l x
  unfolding cut_word
  cut-whole h = rw (ne_eqb l 0 (λ e. omega arith), le-leb 32 l h)

  pub cut-part : (l ≡ 0 → ⊥) → l < 32 → x < 4294967296 → (x / 2 ^ (32 - l) * 2 ^ (32 - l)) % 4294967296 ≡ cut_word l x
  unfolding cut_word
  cut-part d h b = rw (ne_eqb l 0 d, lt-leb 32 l h) (mod-eq_of_lt (omega (arith, div-mul-le_self x (2 ^ (32 - l)))))

-- a probe of the words that were cut, each by what the words before it left
pub probe-is : (a : Record) (bits low asn second third fourth w0 w1 w2 w3 : ℕ)
    → second ≡ bits - 32 → third ≡ second - 32 → fourth ≡ third - 32
    → w0 ≡ cut_word bits a.w0 → w1 ≡ cut_word second a.w1 → w2 ≡ cut_word third a.w2 → w3 ≡ cut_word fourth a.w3
    → ◌≡◌ {A = Record} (record { kind = a.kind / 65536 * 65536 + low; w0 = w0; w1 = w1; w2 = w2; w3 = w3; asn = asn }) (probe_of a bits low asn)
unfolding probe_of
probe-is a bits low asn second third fourth w0 w1 w2 w3 p q r e0 e1 e2 e3 = rw (e0, e1, e2, e3, r, q, p)

pub cut-nothing : (l : ℕ) → cut l [] ≡ []
unfolding cut
cut-nothing l = refl
