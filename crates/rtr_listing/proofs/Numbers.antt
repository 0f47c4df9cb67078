-- "Numbers are decimal without leading zeros": a number's digits, read as a decimal number, are that number, and begin with `0` only where it is 0.
-- The tests of `places` bound the number from both sides. "count has four digits" and "lower-case hex digits": these are the number too, read in base
-- 10 and 16, and every byte of a hex number is one of its digits. Assumes nothing.
use Prim.Native.Nat.{ℕ, zero, suc, ◌+◌, ◌-◌, ◌*◌, ◌^◌, ◌≤◌, ◌<◌, ◌/◌, ◌%◌}
use mathlib.Core.Bool.{Bool, true, false, cond, ◌&&◌, or-true, true≢false}
use mathlib.Core.List.{List, [], ◌∷◌, ◌++◌}
use mathlib.Core.Path.{◌≡◌, refl, sym, ap, ◌∙◌}
use native.Mathlib.Nat.{pow-suc, pow-zero, mul_assoc}
use native.Mathlib.Omega.{arith}
use borrow.Author.Tests.{lt-ltb, le-ltb, ltb-true, ltb-false, le-leb, eq-eqb, ne_eqb}
use lib.Dec.{ltb, eqb}
use lib.ListN.{get_or, get_or-append}
use Rattle.rtr_room.specs.Table.{family_of}
use Rattle.rtr_room.specs.declared.Record.{Record}
use Rattle.rtr_listing.specs.Listing.{glyph, digits, places, decimal, count_digits, address_of}
use Rattle.rtr_listing.specs.Digits.{is_hex, are_hex, value_of, hex_digit, hex_of}
use Rattle.rtr_listing.proofs.Digits.{digits-length}

value-last : (s : List ℕ) (c read : ℕ) → value_of (s ++ c ∷ []) read ≡ value_of s read * 10 + (c - 48)
unfolding value_of
value-last [] c read = refl
value-last (x ∷ s) c read = value-last s c (read * 10 + (x - 48))

digit-is : (n : ℕ) → glyph (n % 10) ≡ 48 + n % 10
digit-is n = simp (lt-ltb (n % 10) 10 (omega arith))

digits_value : (k n : ℕ) → n < 10 ^ k → value_of (digits 10 k n) 0 ≡ n
unfolding digits value_of
digits_value zero n h = omega (arith, pow-zero 10)
digits_value (suc k) n h =
    let below : n / 10 < 10 ^ k = omega (arith, pow-suc 10 k) in
    value-last (digits 10 k (n / 10)) (glyph (n % 10)) 0
    ∙ omega (arith, digits_value k (n / 10) below, digit-is n)

-- by a test of `places`
by-case : (P : ℕ → Type 0) (c : Bool) (n m x y : ℕ) → ltb n m ≡ c → (n < m → P x) → (m ≤ n → P y) → P (cond c x y)
by-case P true n m x y e p q = p (ltb-true n m e)
by-case P false n m x y e p q = q (ltb-false n m e)

pub by-test : (P : ℕ → Type 0) (n m x y : ℕ) → (n < m → P x) → (m ≤ n → P y) → P (cond (ltb n m) x y)
by-test P n m x y = by-case P (ltb n m) n m x y refl

pub places-enough : (n : ℕ) → n < 10000000000 → n < 10 ^ places n
unfolding places
places-enough n h =
    let P : ℕ → Type 0 = λ k. n < 10 ^ k in
    by-test P n 10 1 _ (λ t. t)
    (λ _. by-test P n 100 2 _ (λ t. t)
    (λ _. by-test P n 1000 3 _ (λ t. t)
    (λ _. by-test P n 10000 4 _ (λ t. t)
    (λ _. by-test P n 100000 5 _ (λ t. t)
    (λ _. by-test P n 1000000 6 _ (λ t. t)
    (λ _. by-test P n 10000000 7 _ (λ t. t)
    (λ _. by-test P n 100000000 8 _ (λ t. t) (λ _. by-test P n 1000000000 9 10 (λ t. t) (λ _. h)))))))))

pub decimal-is-number : (n : ℕ) → n < 4294967296 → value_of (decimal n) 0 ≡ n
decimal-is-number n h = digits_value (places n) n (places-enough n (omega arith))

-- the first of so many digits is not `0` where the number needs as many
first-digit : (k n : ℕ) → 10 ^ k ≤ n → n < 10 ^ suc k → get_or (digits 10 (suc k) n) 0 0 ≡ 48 → ⊥
unfolding digits
first-digit zero n low high e = omega (arith, digit-is n, pow-zero 10, pow-suc 10 0)
first-digit (suc k) n low high e =
    let low' : 10 ^ k ≤ n / 10 = omega (arith, pow-suc 10 k) in
    let high' : n / 10 < 10 ^ suc k = omega (arith, pow-suc 10 (suc k)) in
    first-digit k (n / 10) low' high' (sym (get_or-append (digits 10 (suc k) (n / 10)) (glyph (n % 10) ∷ []) 0 0 (omega (arith, digits-length 10 (suc k) (n / 10)))) ∙ e)

pub no-leading-zero : (n : ℕ) → 0 < n → n < 4294967296 → get_or (decimal n) 0 0 ≡ 48 → ⊥
unfolding places
no-leading-zero n p h =
    let P : ℕ → Type 0 = λ k. get_or (digits 10 k n) 0 0 ≡ 48 → ⊥ in
    by-test P n 10 1 _ (first-digit 0 n p)
    (λ a. by-test P n 100 2 _ (first-digit 1 n a)
    (λ a. by-test P n 1000 3 _ (first-digit 2 n a)
    (λ a. by-test P n 10000 4 _ (first-digit 3 n a)
    (λ a. by-test P n 100000 5 _ (first-digit 4 n a)
    (λ a. by-test P n 1000000 6 _ (first-digit 5 n a)
    (λ a. by-test P n 10000000 7 _ (first-digit 6 n a)
    (λ a. by-test P n 100000000 8 _ (first-digit 7 n a)
    (λ a. by-test P n 1000000000 9 10 (first-digit 8 n a) (λ a. first-digit 9 n a (omega arith))))))))))

-- ---- "count has four digits"

-- four digits are enough for any count up to 9,999, so for the limit's
pub count-is-number : (n : ℕ) → n < 10000 → value_of (digits 10 count_digits n) 0 ≡ n
count-is-number n h = digits_value count_digits n h

-- ---- "lower-case hex digits"

hex-behind : (s t : List ℕ) (read : ℕ) → hex_of (s ++ t) read ≡ hex_of t (hex_of s read)
unfolding hex_of
hex-behind [] t read = refl
hex-behind (c ∷ s) t read = hex-behind s t (read * 16 + hex_digit c)

-- a digit's byte is one of the sixteen, and stands for the digit
data Shown (d : ℕ) : ℕ → Type 0 where
  number : d < 10 → Shown d (48 + d)
  letter : 10 ≤ d → d < 16 → Shown d (87 + d)

shown : (d : ℕ) → d < 16 → Shown d (glyph d)
shown d h = go (ltb d 10) refl
  where
    go : (b : Bool) → ltb d 10 ≡ b → Shown d (cond b (48 + d) (87 + d))
    go true e = number (ltb-true d 10 e)
    go false e = letter (ltb-false d 10 e) h

shown-digit : {d c : ℕ} → Shown d c → hex_digit c ≡ d
shown-digit {d} (number h) = simp (lt-ltb (48 + d) 97 (omega arith)) (omega arith)
shown-digit {d} (letter l h) = simp (le-ltb (87 + d) 97 (omega arith)) (omega arith)

hex-digits : (k n read : ℕ) → n < 16 ^ k → hex_of (digits 16 k n) read ≡ read * 16 ^ k + n
unfolding digits hex_of
hex-digits zero n read h = omega (arith, pow-zero 16)
hex-digits (suc k) n read h =
    let below : n / 16 < 16 ^ k = omega (arith, pow-suc 16 k) in
    let last : hex_digit (glyph (n % 16)) ≡ n % 16 = shown-digit (shown (n % 16) (omega arith)) in
    let moved : (read * 16 ^ k) * 16 ≡ read * (16 ^ suc k) = mul_assoc read (16 ^ k) 16 ∙ ap (λ (x : ℕ). read * x) (sym (pow-suc 16 k)) in
    hex-behind (digits 16 k (n / 16)) (glyph (n % 16) ∷ []) read
    ∙ omega (arith, hex-digits k (n / 16) read below, last, moved)

-- eight hex digits of a number of 32 bits, read as a number in base 16, are that number
pub hex-is-number : (n : ℕ) → n < 4294967296 → hex_of (digits 16 8 n) 0 ≡ n
hex-is-number n h = omega (arith, hex-digits 8 n 0 h)

-- so are those of an address: one number in family 4, else all four, the first the most significant
pub four-is-number : (r : Record) → family_of r ≡ 4 → r.w0 < 4294967296 → hex_of (address_of r) 0 ≡ r.w0
unfolding address_of
four-is-number r e h = simp (eq-eqb (family_of r) 4 e) (hex-is-number r.w0 h)

pub other-is-number : (r : Record) → (family_of r ≡ 4 → ⊥) → r.w0 < 4294967296 → r.w1 < 4294967296 → r.w2 < 4294967296 → r.w3 < 4294967296
    → hex_of (address_of r) 0 ≡ ((r.w0 * 4294967296 + r.w1) * 4294967296 + r.w2) * 4294967296 + r.w3
unfolding address_of
other-is-number r e h0 h1 h2 h3 =
    let two : List ℕ = digits 16 8 r.w0 ++ digits 16 8 r.w1 in
    simp (ne_eqb (family_of r) 4 e)
    (next (two ++ digits 16 8 r.w2) r.w3 h3 (next two r.w2 h2 (next (digits 16 8 r.w0) r.w1 h1 (hex-is-number r.w0 h0))))
  where
    next : (s : List ℕ) (n : ℕ) {read : ℕ} → n < 4294967296 → hex_of s 0 ≡ read → hex_of (s ++ digits 16 8 n) 0 ≡ read * 4294967296 + n
    next s n h p = hex-behind s (digits 16 8 n) 0 ∙ hex-digits 8 n (hex_of s 0) h ∙ ap (λ (x : ℕ). x * 4294967296 + n) p

are-behind : (s t : List ℕ) → are_hex s ≡ true → are_hex t ≡ true → are_hex (s ++ t) ≡ true
unfolding are_hex
are-behind [] t p q = q
are-behind (c ∷ s) t p q = go (is_hex c) p (λ h. are-behind s t h q)
  where
    go : (b : Bool) → (b && are_hex s) ≡ true → (are_hex s ≡ true → are_hex (s ++ t) ≡ true) → (b && are_hex (s ++ t)) ≡ true
    go true p rest = rest p
    go false p rest = absurd (true≢false (sym p))

shown-is : {d c : ℕ} → Shown d c → is_hex c ≡ true
shown-is {d} (number h) = simp (le-leb 48 (48 + d) (omega arith), le-leb (48 + d) 57 (omega arith))
shown-is {d} (letter l h) = simp (le-leb 97 (87 + d) (omega arith), le-leb (87 + d) 102 (omega arith), or-true)

pub hex-lower-case : (k n : ℕ) → are_hex (digits 16 k n) ≡ true
unfolding digits are_hex
hex-lower-case zero n = refl
hex-lower-case (suc k) n =
    are-behind (digits 16 k (n / 16)) (glyph (n % 16) ∷ []) (hex-lower-case k (n / 16)) (simp (shown-is (shown (n % 16) (omega arith))))

pub address-lower-case : (r : Record) → are_hex (address_of r) ≡ true
unfolding address_of
address-lower-case r = go (eqb (family_of r) 4)
  where
    all : are_hex (digits 16 8 r.w0 ++ digits 16 8 r.w1 ++ digits 16 8 r.w2 ++ digits 16 8 r.w3) ≡ true
    all = are-behind _ _ (are-behind _ _ (are-behind _ _ (hex-lower-case 8 r.w0) (hex-lower-case 8 r.w1)) (hex-lower-case 8 r.w2)) (hex-lower-case 8 r.w3)

    go : (b : Bool) → are_hex (cond b (digits 16 8 r.w0) (digits 16 8 r.w0 ++ digits 16 8 r.w1 ++ digits 16 8 r.w2 ++ digits 16 8 r.w3)) ≡ true
    go true = hex-lower-case 8 r.w0
    go false = all
