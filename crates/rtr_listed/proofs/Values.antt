-- What digits of a value come to, byte by byte as the code reads them. Assumes nothing.
use Prim.Native.Nat.{ℕ, zero, suc, ◌+◌, ◌-◌, ◌*◌, ◌^◌, ◌≤◌, ◌<◌}
use mathlib.Core.Bool.{Bool, true, false, ◌&&◌, ◌||◌}
use mathlib.Core.List.{List, [], ◌∷◌}
use mathlib.Core.Path.{◌≡◌, refl, sym, ap, ◌∙◌}
use native.Mathlib.Nat.{pow-suc, mul-le-mul_left, mul-one, add-zero}
use native.Mathlib.Omega.{arith}
use borrow.Author.Tests.{leb-true, lt-leb, le-leb}
use lib.Dec.{leb}
use lib.ListN.{length, get_or, drop}
use lib.Seq.{drop-cons, drop-length}
use Rattle.std.specs.List.{list_all}
use Rattle.rtr_room.proofs.Laws.Tests.{first_of, second-of}
use Rattle.rtr_listing.proofs.Laws.{decimal-none, decimal-next, hex-next, value_none, value-next, hex-value-none, hex-value-next, hex-none}
use Rattle.rtr_listed.specs.Listed.{Fit, fitting}
use Rattle.rtr_listed.specs.Listed.Fit.{misfits}
use Rattle.rtr_listing.specs.Digits.{is_decimal, are_decimal, is_hex, are_hex, value_of, hex_digit, hex_of}

-- a higher power is no lower
powers-more : (b a d : ℕ) → 1 ≤ b → b ^ a ≤ b ^ (a + d)
powers-more b a zero h = rw (add-zero a) (omega arith)
powers-more b a (suc d) h =
    let e : a + suc d ≡ suc (a + d) = omega arith in
    rw e (omega (arith, powers-more b a d h, pow-suc b (a + d), mul-le-mul_left {m = 1} {n = b} (b ^ (a + d)) h, mul-one (b ^ (a + d))))

pub powers-rise : (b a c : ℕ) → 1 ≤ b → a ≤ c → b ^ a ≤ b ^ c
powers-rise b a c h l = let e : a + (c - a) ≡ c = omega arith in rw e at (powers-more b a (c - a) h)

-- where a hex digit stands
pub hex-range : (c : ℕ) → is_hex c ≡ true → (48 ≤ c) × (c ≤ 102) × (c < 97 → c ≤ 57)
hex-range c h = go (leb 48 c && leb c 57) refl h
  where
    go : (b : Bool) → leb 48 c && leb c 57 ≡ b → (b || (leb 97 c && leb c 102)) ≡ true → (48 ≤ c) × (c ≤ 102) × (c < 97 → c ≤ 57)
    go true e k =
        let low : 48 ≤ c = leb-true 48 c (first_of (leb 48 c) _ e) in
        let high : c ≤ 57 = leb-true c 57 (second-of (leb 48 c) _ e) in
        (low, omega arith, λ _. high)
    go false e k =
        let low : 97 ≤ c = leb-true 97 c (first_of (leb 97 c) _ k) in
        let high : c ≤ 102 = leb-true c 102 (second-of (leb 97 c) _ k) in
        (omega arith, high, λ n. absurd (omega arith))

-- the digits so far are digits, and the number so far is theirs: what is left decides
abbrev pub SumSo : List ℕ → ℕ → ℕ → Type 0
SumSo s i sum = (are_decimal s ≡ are_decimal (drop i s)) × (value_of s 0 ≡ value_of (drop i s) sum)

pub sum-next : (s : List ℕ) (i sum : ℕ) → i < length s → 48 ≤ get_or s i 0 → get_or s i 0 ≤ 57 → SumSo s i sum → SumSo s (suc i) (sum * 10 + (get_or s i 0 - 48))
sum-next s i sum h low high so =
    let d = drop-cons s i 0 h in
    let here : is_decimal (get_or s i 0) ≡ true = simp (le-leb 48 (get_or s i 0) low, le-leb (get_or s i 0) 57 high) in (
      so.0 ∙ ap are_decimal d ∙ decimal-next (get_or s i 0) (drop (suc i) s) ∙ ap (λ (b : Bool). b && are_decimal (drop (suc i) s)) here,
      so.1 ∙ ap (λ (x : List ℕ). value_of x sum) d ∙ value-next (get_or s i 0) (drop (suc i) s) sum,
    )

-- a byte under `0` or over `9` is no digit, and with it the text has no number
pub below-0 : (c : ℕ) → c < 48 → is_decimal c ≡ false
below-0 c h = simp (lt-leb 48 c h)

pub above-9 : (c : ℕ) → 57 < c → is_decimal c ≡ false
above-9 c h = simp (le-leb 48 c (omega arith), lt-leb c 57 h)

pub sum-not : (s : List ℕ) (i sum : ℕ) → i < length s → is_decimal (get_or s i 0) ≡ false → SumSo s i sum → ◌≡◌ {A = Fit ℕ} misfits (fitting (are_decimal s) (value_of s 0))
sum-not s i sum h other so =
    let none : are_decimal s ≡ false = so.0 ∙ ap are_decimal (drop-cons s i 0 h) ∙ decimal-next (get_or s i 0) (drop (suc i) s) ∙ ap (λ (b : Bool). b && are_decimal (drop (suc i) s)) other in
    sym (ap (λ (b : Bool). fitting b (value_of s 0)) none)

pub sum_done : (s : List ℕ) (i sum : ℕ) → i ≡ length s → SumSo s i sum → (are_decimal s ≡ true) × (value_of s 0 ≡ sum)
sum_done s i sum e so =
    let none : drop i s ≡ [] = ap (λ (k : ℕ). drop k s) e ∙ drop-length s in
    (so.0 ∙ ap are_decimal none ∙ decimal-none, so.1 ∙ ap (λ (x : List ℕ). value_of x sum) none ∙ value_none sum)

-- hex digits likewise
pub hex-all : (s : List ℕ) → list_all is_hex s ≡ are_hex s
hex-all [] = sym hex-none
hex-all (c ∷ s) = ap (λ (b : Bool). is_hex c && b) (hex-all s) ∙ sym (hex-next c s)

pub hex-at : (s : List ℕ) (p : ℕ) → p < length s → are_hex s ≡ true → is_hex (get_or s p 0) ≡ true
hex-at [] p h k = absurd (omega arith)
hex-at (c ∷ s) zero h k = first_of (is_hex c) _ (sym (hex-next c s) ∙ k)
hex-at (c ∷ s) (suc p) h k = hex-at s p (omega arith) (second-of (is_hex c) _ (sym (hex-next c s) ∙ k))

-- one digit more of a word
pub word_next : (s : List ℕ) (i word : ℕ) → i < length s → hex_of (drop i s) word ≡ hex_of (drop (suc i) s) (word * 16 + hex_digit (get_or s i 0))
word_next s i word h = ap (λ (x : List ℕ). hex_of x word) (drop-cons s i 0 h) ∙ hex-value-next (get_or s i 0) (drop (suc i) s) word

pub word_done : (s : List ℕ) (i word : ℕ) → i ≡ length s → hex_of (drop i s) word ≡ word
word_done s i word e = ap (λ (k : ℕ). hex_of (drop k s) word) e ∙ ap (λ (x : List ℕ). hex_of x word) (drop-length s) ∙ hex-value-none word
