-- Digits read back: what stands for a number is the text that is written for it, where it has the digits for that. Each byte more is the number so far times the base, plus the
-- digit (`digits_push`); so a text of digits is the digits of its own value. Without a leading zero it has as many places as that value needs. Assumes nothing.
use Prim.Native.Nat.{ℕ, zero, suc, ◌+◌, ◌-◌, ◌*◌, ◌^◌, ◌≤◌, ◌<◌, ◌/◌, ◌%◌}
use mathlib.Core.Bool.{Bool, true, false, not, ◌&&◌, ◌||◌, false≢true}
use mathlib.Core.List.{List, [], ◌∷◌, ◌++◌, append_assoc, append-nil}
use mathlib.Core.Logic.{◌↔◌}
use mathlib.Core.Path.{◌≡◌, refl, sym, ap, ◌∙◌}
use native.Mathlib.Nat.{pow-suc, pow-zero, mul_assoc, mul_comm, mul-le-mul_right, add-zero, zero-add}
use native.Mathlib.Omega.{arith}
use borrow.Author.Tests.{lt-ltb, le-ltb, leb-true, le-leb, leb-false, ne_eqb, eqb-false}
use lib.Dec.{leb, eqb}
use lib.ListN.{length, get_or}
use Rattle.rtr_room.proofs.Laws.Tests.{first_of, second-of, both}
use Rattle.rtr_listing.specs.Listing.{glyph, digits, places, decimal}
use Rattle.rtr_listing.specs.Digits.{is_decimal, are_decimal, has_no_lead, is_hex, are_hex, value_of, hex_digit, hex_of}
use Rattle.rtr_listing.proofs.Digits.{digits-length, places-at-most}
use Rattle.rtr_listing.proofs.Numbers.{by-test, places-enough, no-leading-zero, hex-lower-case}

-- ---- a text of digits is the digits of its value

-- one digit behind a number's
digits_push : (b j r d c n : ℕ) (s : List ℕ) → n / b ≡ r → n % b ≡ d → glyph d ≡ c → digits b (suc j) n ++ s ≡ digits b j r ++ c ∷ s
unfolding digits
digits_push b j r d c n s front last e =
    append_assoc (digits b j (n / b)) (glyph (n % b) ∷ []) s ∙ (λ i. digits b j (front i) ++ (ap glyph last ∙ e) i ∷ s)

decimal_digit : (c : ℕ) → is_decimal c ≡ true → (48 ≤ c) × (c ≤ 57) × (glyph (c - 48) ≡ c)
decimal_digit c h =
    let low : 48 ≤ c = leb-true 48 c (first_of (leb 48 c) _ h) in
    let high : c ≤ 57 = leb-true c 57 (second-of (leb 48 c) _ h) in
    (low, high, simp (lt-ltb (c - 48) 10 (omega arith)) (omega arith))

pub hex-digit : (c : ℕ) → is_hex c ≡ true → (hex_digit c < 16) × (glyph (hex_digit c) ≡ c)
hex-digit c h = go (leb 48 c && leb c 57) refl h
  where
    go : (b : Bool) → leb 48 c && leb c 57 ≡ b → (b || (leb 97 c && leb c 102)) ≡ true → (hex_digit c < 16) × (glyph (hex_digit c) ≡ c)
    go true e _ =
        let d = decimal_digit c e in
        let low : hex_digit c ≡ c - 48 = simp (lt-ltb c 97 (omega (arith, d.1))) in
        (omega (arith, low, d.1), ap glyph low ∙ d.2)
    go false e k =
        let low : 97 ≤ c = leb-true 97 c (first_of (leb 97 c) _ k) in
        let high : c ≤ 102 = leb-true c 102 (second-of (leb 97 c) _ k) in
        let letter : hex_digit c ≡ c - 87 = simp (le-ltb c 97 low) in
        (omega (arith, letter), ap glyph letter ∙ simp (le-ltb (c - 87) 10 (omega arith)) (omega arith))

value-digits : (s : List ℕ) (j r : ℕ) → are_decimal s ≡ true → digits 10 (j + length s) (value_of s r) ≡ digits 10 j r ++ s
unfolding are_decimal value_of
value-digits [] j r h = rw (add-zero j) (sym (append-nil (digits 10 j r)))
value-digits (c ∷ s) j r h =
    let d = decimal_digit c (first_of (is_decimal c) _ h) in
    let more : j + suc (length s) ≡ suc j + length s = omega arith in
    ap (λ (k : ℕ). digits 10 k (value_of s (r * 10 + (c - 48)))) more
    ∙ value-digits s (suc j) (r * 10 + (c - 48)) (second-of (is_decimal c) _ h)
    ∙ digits_push 10 j r (c - 48) c (r * 10 + (c - 48)) s (omega (arith, d.0, d.1)) (omega (arith, d.0, d.1)) d.2

hex-value-digits : (s : List ℕ) (j r : ℕ) → are_hex s ≡ true → digits 16 (j + length s) (hex_of s r) ≡ digits 16 j r ++ s
unfolding are_hex hex_of
hex-value-digits [] j r h = rw (add-zero j) (sym (append-nil (digits 16 j r)))
hex-value-digits (c ∷ s) j r h =
    let d = hex-digit c (first_of (is_hex c) _ h) in
    let more : j + suc (length s) ≡ suc j + length s = omega arith in
    ap (λ (k : ℕ). digits 16 k (hex_of s (r * 16 + hex_digit c))) more
    ∙ hex-value-digits s (suc j) (r * 16 + hex_digit c) (second-of (is_hex c) _ h)
    ∙ digits_push 16 j r (hex_digit c) c (r * 16 + hex_digit c) s (omega (arith, d.0)) (omega (arith, d.0)) d.1

pub decimal-back : (s : List ℕ) → are_decimal s ≡ true → digits 10 (length s) (value_of s 0) ≡ s
unfolding digits
decimal-back s h = ap (λ (k : ℕ). digits 10 k (value_of s 0)) (sym (zero-add (length s))) ∙ value-digits s 0 0 h

pub hex-back : (s : List ℕ) → are_hex s ≡ true → digits 16 (length s) (hex_of s 0) ≡ s
unfolding digits
hex-back s h = ap (λ (k : ℕ). digits 16 k (hex_of s 0)) (sym (zero-add (length s))) ∙ hex-value-digits s 0 0 h

-- ---- what is written is a text of digits

decimal-behind : (s : List ℕ) (c : ℕ) → are_decimal s ≡ true → is_decimal c ≡ true → are_decimal (s ++ c ∷ []) ≡ true
unfolding are_decimal
decimal-behind [] c p q = both (is_decimal c) _ q refl
decimal-behind (x ∷ s) c p q = both (is_decimal x) _ (first_of (is_decimal x) _ p) (decimal-behind s c (second-of (is_decimal x) _ p) q)

pub digits_decimal : (k n : ℕ) → are_decimal (digits 10 k n) ≡ true
unfolding digits are_decimal
digits_decimal zero n = refl
digits_decimal (suc k) n =
    let shown : glyph (n % 10) ≡ 48 + n % 10 = simp (lt-ltb (n % 10) 10 (omega arith)) in
    decimal-behind (digits 10 k (n / 10)) (glyph (n % 10)) (digits_decimal k (n / 10))
    (ap is_decimal shown ∙ both _ _ (le-leb 48 (48 + n % 10) (omega arith)) (le-leb (48 + n % 10) 57 (omega arith)))

-- ---- without a leading zero it has the places that its value needs

tens-more : (a d : ℕ) → 10 ^ a ≤ 10 ^ (a + d)
tens-more a zero = rw (add-zero a) (omega arith)
tens-more a (suc d) =
    let e : a + suc d ≡ suc (a + d) = omega arith in
    rw e (omega (arith, tens-more a d, pow-suc 10 (a + d)))

tens-rise : (a b : ℕ) → a ≤ b → 10 ^ a ≤ 10 ^ b
tens-rise a b h = let e : a + (b - a) ≡ b = omega arith in rw e at (tens-more a (b - a))

places-least : (n : ℕ) → 10 ≤ n → 10 ^ (places n - 1) ≤ n
unfolding places
places-least n h =
    let P : ℕ → Type 0 = λ k. 10 ^ (k - 1) ≤ n in
    by-test P n 10 1 _ (λ t. absurd (omega arith))
    (λ a. by-test P n 100 2 _ (λ _. a)
    (λ a. by-test P n 1000 3 _ (λ _. a)
    (λ a. by-test P n 10000 4 _ (λ _. a)
    (λ a. by-test P n 100000 5 _ (λ _. a)
    (λ a. by-test P n 1000000 6 _ (λ _. a)
    (λ a. by-test P n 10000000 7 _ (λ _. a)
    (λ a. by-test P n 100000000 8 _ (λ _. a) (λ a. by-test P n 1000000000 9 10 (λ _. a) (λ a. a)))))))))

-- a number of k places, two or more, that does not fit in fewer
places-are : (n k : ℕ) → k ≤ 8 → 10 ^ suc k ≤ n → n < 10 ^ suc (suc k) → places n ≡ suc (suc k)
places-are n k h low high =
    let ten : 10 ≤ n = omega (arith, tens-rise 1 (suc k) (omega arith)) in
    let most : n < 10000000000 = omega (arith, tens-rise (suc (suc k)) 10 (omega arith)) in
    let enough : n < 10 ^ places n = places-enough n most in
    let least : 10 ^ (places n - 1) ≤ n = places-least n ten in
    go (leb (suc (suc k)) (places n)) refl (leb (places n) (suc (suc k))) refl enough least
  where
    go : (a : Bool) → leb (suc (suc k)) (places n) ≡ a → (b : Bool) → leb (places n) (suc (suc k)) ≡ b → n < 10 ^ places n → 10 ^ (places n - 1) ≤ n → places n ≡ suc (suc k)
    go true p true q e l = omega (arith, leb-true (suc (suc k)) (places n) p, leb-true (places n) (suc (suc k)) q)
    go false p b q e l = absurd (omega (arith, tens-rise (places n) (suc k) (omega (arith, leb-false (suc (suc k)) (places n) p))))
    go true p false q e l = absurd (omega (arith, tens-rise (suc (suc k)) (places n - 1) (omega (arith, leb-false (places n) (suc (suc k)) q))))

single-place : (n : ℕ) → n < 10 → places n ≡ 1
unfolding places
single-place n h = simp (lt-ltb n 10 h)

value-above : (s : List ℕ) (r : ℕ) → r * 10 ^ length s ≤ value_of s r
unfolding value_of
value-above [] r = let e : r * 10 ^ 0 ≡ r = ap (λ (x : ℕ). r * x) (pow-zero 10) ∙ omega arith in omega (arith, e)
value-above (c ∷ s) r =
    let P : ℕ = 10 ^ length s in
    let e : r * 10 ^ suc (length s) ≡ (r * 10) * P = ap (λ (x : ℕ). r * x) (pow-suc 10 (length s) ∙ mul_comm P 10) ∙ sym (mul_assoc r 10 P) in
    omega (arith, e, value-above s (r * 10 + (c - 48)), mul-le-mul_right {m = r * 10} {n = r * 10 + (c - 48)} P (omega arith))

-- a digit more, below the base, is below the base's next power
below_next : (b r d k v : ℕ) → d < b → v < suc (r * b + d) * b ^ k → v < suc r * b ^ suc k
below_next b r d k v h l =
    let P : ℕ = b ^ k in
    let e : suc r * b ^ suc k ≡ (suc r * b) * P = ap (λ (x : ℕ). suc r * x) (pow-suc b k ∙ mul_comm P b) ∙ sym (mul_assoc (suc r) b P) in
    omega (arith, e, mul-le-mul_right {m = suc (r * b + d)} {n = suc r * b} P (omega arith))

below_none : (b r : ℕ) → r < suc r * b ^ 0
below_none b r = let e : suc r * b ^ 0 ≡ suc r = ap (λ (x : ℕ). suc r * x) (pow-zero b) ∙ omega arith in omega (arith, e)

value-below : (s : List ℕ) (r : ℕ) → are_decimal s ≡ true → value_of s r < suc r * 10 ^ length s
unfolding value_of are_decimal
value-below [] r h = below_none 10 r
value-below (c ∷ s) r h =
    let d = decimal_digit c (first_of (is_decimal c) _ h) in
    below_next 10 r (c - 48) (length s) _ (omega (arith, d.0, d.1)) (value-below s (r * 10 + (c - 48)) (second-of (is_decimal c) _ h))

hex-value-below : (s : List ℕ) (r : ℕ) → are_hex s ≡ true → hex_of s r < suc r * 16 ^ length s
unfolding hex_of are_hex
hex-value-below [] r h = below_none 16 r
hex-value-below (c ∷ s) r h =
    below_next 16 r (hex_digit c) (length s) _ (hex-digit c (first_of (is_hex c) _ h)).0 (hex-value-below s (r * 16 + hex_digit c) (second-of (is_hex c) _ h))

lead-above : (c : ℕ) (s : List ℕ) → are_decimal (c ∷ s) ≡ true → not (eqb c 48) ≡ true → 10 ^ length s ≤ value_of (c ∷ s) 0
unfolding value_of are_decimal
lead-above c s h lead =
    let d = decimal_digit c (first_of (is_decimal c) _ h) in
    let one : 1 ≤ 0 * 10 + (c - 48) = go (eqb c 48) refl lead d.0 in
    let P : ℕ = 10 ^ length s in
    omega (arith, value-above s (0 * 10 + (c - 48)), mul-le-mul_right {m = 1} {n = 0 * 10 + (c - 48)} P one)
  where
    go : (b : Bool) → eqb c 48 ≡ b → not b ≡ true → 48 ≤ c → 1 ≤ 0 * 10 + (c - 48)
    go true e n l = absurd (false≢true n)
    go false e n l = let ne : c ≡ 48 → ⊥ = eqb-false c 48 e in omega (arith, ne)

-- the text of digits without a leading zero, ten at the most, is that of its value
pub decimal-of-value : (s : List ℕ) → are_decimal s ≡ true → has_no_lead s ≡ true → length s ≤ 10 → s ≡ decimal (value_of s 0)
decimal-of-value [] h lead few = absurd (false≢true lead)
decimal-of-value (c ∷ []) h lead few =
    let below : value_of (c ∷ []) 0 < 10 = omega (arith, value-below (c ∷ []) 0 h) in
    sym (decimal-back (c ∷ []) h) ∙ ap (λ (k : ℕ). digits 10 k (value_of (c ∷ []) 0)) (sym (single-place (value_of (c ∷ []) 0) below))
decimal-of-value (c ∷ (x ∷ s)) h lead few =
    let below = value-below (c ∷ (x ∷ s)) 0 h in
    sym (decimal-back (c ∷ (x ∷ s)) h)
    ∙ ap (λ (k : ℕ). digits 10 k (value_of (c ∷ (x ∷ s)) 0)) (sym (places-are (value_of (c ∷ (x ∷ s)) 0) (length s) (omega arith) (lead-above c (x ∷ s) h lead) (omega (arith, below))))

-- ---- and what is written for a number has that shape

places-some : (n : ℕ) → 1 ≤ places n
unfolding places
places-some n =
    let P : ℕ → Type 0 = λ k. 1 ≤ k in
    by-test P n 10 1 _ (λ _. omega arith)
    (λ _. by-test P n 100 2 _ (λ _. omega arith)
    (λ _. by-test P n 1000 3 _ (λ _. omega arith)
    (λ _. by-test P n 10000 4 _ (λ _. omega arith)
    (λ _. by-test P n 100000 5 _ (λ _. omega arith)
    (λ _. by-test P n 1000000 6 _ (λ _. omega arith)
    (λ _. by-test P n 10000000 7 _ (λ _. omega arith)
    (λ _. by-test P n 100000000 8 _ (λ _. omega arith) (λ _. by-test P n 1000000000 9 10 (λ _. omega arith) (λ _. omega arith)))))))))

lead-of : (s : List ℕ) → 1 ≤ length s → (get_or s 0 0 ≡ 48 → ⊥) → has_no_lead s ≡ true
lead-of [] h e = absurd (omega arith)
lead-of (c ∷ []) h e = refl
lead-of (c ∷ (x ∷ s)) h e = ap (λ (b : Bool). not b) (ne_eqb c 48 e)

pub decimal-length : (n : ℕ) → (1 ≤ length (decimal n)) × (length (decimal n) ≤ 10)
decimal-length n =
    (omega (arith, digits-length 10 (places n) n, places-some n), omega (arith, digits-length 10 (places n) n, places-at-most n))

decimal-leads : (n : ℕ) → n < 4294967296 → has_no_lead (decimal n) ≡ true
unfolding digits places
decimal-leads zero h = refl
decimal-leads (suc n) h = lead-of (decimal (suc n)) (decimal-length (suc n)).0 (no-leading-zero (suc n) (omega arith) h)

-- ---- the laws, each both ways

pub decimal-exactly : (s : List ℕ) → value_of s 0 < 4294967296 → s ≡ decimal (value_of s 0) ↔ ((are_decimal s ≡ true) × (has_no_lead s ≡ true) × (length s ≤ 10))
decimal-exactly s h = (
  λ e. (
    ap are_decimal e ∙ digits_decimal (places (value_of s 0)) (value_of s 0),
    ap has_no_lead e ∙ decimal-leads (value_of s 0) h,
    let few : length s ≡ length (decimal (value_of s 0)) = ap length e in omega (arith, few, (decimal-length (value_of s 0)).1),
  ),
  λ m. decimal-of-value s m.0 m.1 m.2,
)

pub places-exactly : (s : List ℕ) → s ≡ digits 10 (length s) (value_of s 0) ↔ are_decimal s ≡ true
places-exactly s = (λ e. ap are_decimal e ∙ digits_decimal (length s) (value_of s 0), λ h. sym (decimal-back s h))

pub hex-exactly : (s : List ℕ) → s ≡ digits 16 (length s) (hex_of s 0) ↔ are_hex s ≡ true
hex-exactly s = (λ e. ap are_hex e ∙ hex-lower-case (length s) (hex_of s 0), λ h. sym (hex-back s h))

pub hex-below : (s : List ℕ) → are_hex s ≡ true → hex_of s 0 < 16 ^ length s
hex-below s h = omega (arith, hex-value-below s 0 h)
