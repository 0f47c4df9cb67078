-- Eight bytes as one word, and ASCII bytes in a text. A word is put together of two numbers of half its bytes, again and again (`on-top`, `bytes-of-both`). A byte is ASCII where it has no highest
-- bit (`low_byte`). Under the mask of the highest bits a byte's part of the word is its highest bit, so where that part is 0 the byte is ASCII (`masked-byte`); and it is 0 where the word is, below
-- its trailing zeros (`below-trailing`) and within its leading ones (`above-leading`). So all of the eight bytes are ASCII, or some from the first on or from the last back (`ascii-word`,
-- `ascii-front`, `ascii_back`). An ASCII byte of a text is a character by the table's first row (`by-row-1`). Assumes nothing.
use Prim.Native.Nat.{ℕ, zero, suc, ◌+◌, ◌-◌, ◌*◌, ◌/◌, ◌%◌, ◌^◌, ◌≤◌, ◌<◌, zero-le}
use mathlib.Core.Path.{◌≡◌, refl, sym, ap, ◌∙◌}
use mathlib.Core.Logic.{◌⊎◌, inl, inr}
use mathlib.Core.Bool.{true}
use mathlib.Core.List.{List, [], ◌∷◌}
use native.Mathlib.Nat.{not-suc-le-zero, mod-lt, mod-one, mod-eq_of_lt, div-one, add-zero, le_of_suc-le-suc, lt_of_lt_of_le, eq-zero-or-pos}
use native.Mathlib.Omega.{arith}
use borrow.Author.Tests.{le-leb}
use lib.ListN.{length, drop, get_or}
use lib.Pow.{pow_pos, shl_exact, pow_mono, shr_le, shr_lt, shr_mod, shr-shr, split, field, mod-pow-add, mod-mod-pow}
use lib.Pow as pow
use lib.Bits.{bit_and, bit_or, or_add_and, or_shifted_r, and_high, and_le_l, and_le_r, and_shr, and_mod}
use lib.Count.{count_trailing_zeros, count_leading_zeros, trailing_le, leading_le, leading_length, under}
use Rattle.rtr_text.specs.Utf8.{◌to◌, begins}
use Rattle.rtr_text.proofs.Begins.{range_at}

-- the bytes of a text from one place up to another are ASCII
abbrev pub Ascii : List ℕ → ℕ → ℕ → Type 0
Ascii text at end = (i : ℕ) → at ≤ i → i < end → get_or text i 0 < 0x80

-- and then on up to a third
pub ascii-on : (text : List ℕ) (at end next : ℕ) → Ascii text at end → Ascii text end next → Ascii text at next
ascii-on text at end next a b i k l = by (eq-zero-or-pos (suc i - end))
  where
    by : (suc i - end ≡ 0) ⊎ (0 < suc i - end) → get_or text i 0 < 0x80
    by (inl e) = a i k (omega arith)
    by (inr p) = b i (omega arith) l

-- an ASCII byte of a text is a character by the table's first row
pub by-row-1 : (text : List ℕ) (i : ℕ) → i < length text → get_or text i 0 < 0x80 → begins (0x00 to 0x7f ∷ []) (drop i text) ≡ true
by-row-1 text i h b = rw (range_at (0x00 to 0x7f) text i h, le-leb 0 (get_or text i 0) zero-le, le-leb (get_or text i 0) 0x7f (omega arith))

-- a byte without its highest bit
low_byte : (b : ℕ) → b < 2 ^ 8 → bit_and b 0x80 ≡ 0 → b < 0x80
low_byte b h e = omega (arith, and_high b 1 7, shr_mod 1 7 h, split b 7, mod-lt b (pow_pos 7))

one_more : (j : ℕ) → j + 1 ≡ suc j
one_more j = omega arith

-- a number is 0 up to its trailing zeros
trailing_zeros : (k n j : ℕ) → j ≤ count_trailing_zeros k n → n % 2 ^ j ≡ 0
unfolding count_trailing_zeros
trailing_zeros k n zero h = mod-one n
trailing_zeros zero n (suc j) h = absurd (not-suc-le-zero h)
trailing_zeros (suc k) n (suc j) h = by (n % 2) refl h (trailing_zeros k (n / 2) j)
  where
    by : (d : ℕ) → n % 2 ≡ d → suc j ≤ under d (count_trailing_zeros k (n / 2)) → (j ≤ count_trailing_zeros k (n / 2) → n / 2 % 2 ^ j ≡ 0) → n % 2 ^ suc j ≡ 0
    by zero e h below = omega (arith, mod-pow-add n j 1, below (le_of_suc-le-suc h), ap (λ (x : ℕ). n % 2 ^ x) (one_more j))
    by (suc d) e h below = absurd (not-suc-le-zero h)

-- a byte is the one byte of its number
pub one_byte : (text : List ℕ) (at : ℕ) → get_or text at 0 < 2 ^ 8 → (i : ℕ) → i < 1 → get_or text at 0 / 2 ^ (8 * i) % 0x100 ≡ get_or text (at + i) 0
one_byte text at h zero l = rw (div-one (get_or text at 0), add-zero at) (mod-eq_of_lt h)
one_byte text at h (suc i) l = absurd (omega arith)

-- two numbers of so many bits as one, as `|` and `<<` make it of 64 bits: nothing is lost
pub on-top : (bits low high : ℕ) → bits + bits ≤ 64 → low < 2 ^ bits → high < 2 ^ bits → bit_or low (high * 2 ^ bits % 2 ^ 64) ≡ high * 2 ^ bits + low
on-top bits low high h l m = rw (shl_exact bits bits 64 m h) (or_shifted_r high bits low l)

-- the bytes of a text at a place, so many, are those of a number
abbrev pub Bytes : List ℕ → ℕ → ℕ → ℕ → Type 0
Bytes text at n w = (i : ℕ) → i < n → w / 2 ^ (8 * i) % 0x100 ≡ get_or text (at + i) 0

-- the bytes of two numbers, the second on top of the first
pub bytes-of-both : (text : List ℕ) (at n low high w : ℕ) → w ≡ high * 2 ^ (8 * n) + low → low < 2 ^ (8 * n) → Bytes text at n low → Bytes text (at + n) n high → Bytes text at (n + n) w
bytes-of-both text at n low high w v h a b i l = by (eq-zero-or-pos (suc i - n))
  where
    by : (suc i - n ≡ 0) ⊎ (0 < suc i - n) → w / 2 ^ (8 * i) % 0x100 ≡ get_or text (at + i) 0
    by (inl e) =
        let d : (8 * n - (8 + 8 * i)) + (8 + 8 * i) ≡ 8 * n = omega arith in
        let m : w % 2 ^ (8 + 8 * i) ≡ low % 2 ^ (8 + 8 * i) = sym (mod-mod-pow w (8 * n - (8 + 8 * i)) (8 + 8 * i)) ∙ rw (d, v, pow.low high (8 * n) h) in
        sym (field w 8 (8 * i)) ∙ ap (λ (x : ℕ). x / 2 ^ (8 * i)) m ∙ field low 8 (8 * i) ∙ a i (omega arith)
    by (inr p) =
        let d : 8 * n + 8 * (i - n) ≡ 8 * i = omega arith in
        let e : at + n + (i - n) ≡ at + i = omega arith in
        let t : w / 2 ^ (8 * n) ≡ high = rw v (pow.high high (8 * n) h) in
        let s : w / 2 ^ (8 * i) ≡ high / 2 ^ (8 * (i - n)) = ap (λ (x : ℕ). w / 2 ^ x) (sym d) ∙ sym (shr-shr w (8 * n) (8 * (i - n))) ∙ ap (λ (x : ℕ). x / 2 ^ (8 * (i - n))) t in
        rw (s, ← e) (b (i - n) (omega arith))

-- four bytes of two numbers of two
pub four_bytes : (text : List ℕ) (at next low high : ℕ) → next ≡ at + 2 → (low < 2 ^ 16) × Bytes text at 2 low → (high < 2 ^ 16) × Bytes text next 2 high → (bit_or low (high * 2 ^ 16 % 2 ^ 64) < 2 ^ 32) × Bytes text at 4 (bit_or low (high * 2 ^ 16 % 2 ^ 64))
four_bytes text at next low high e l h =
    let w = on-top 16 low high (omega arith) l.0 h.0 in
    (omega (arith, w), bytes-of-both text at 2 low high _ w l.0 l.1 (rw e at h.1))

-- a byte of a word whose part is 0 under a mask that has the highest bit of each byte
pub masked-byte : (n all i b : ℕ) → n / 2 ^ (8 * i) % 0x100 ≡ b → bit_and n all / 2 ^ (8 * i) % 0x100 ≡ 0 → all / 2 ^ (8 * i) % 2 ^ 8 ≡ 0x80 → b < 0x80
masked-byte n all i b p z m =
    let q : bit_and b 0x80 ≡ 0 = sym (ap (λ (x : ℕ). x % 2 ^ 8) (and_shr n all (8 * i)) ∙ and_mod (n / 2 ^ (8 * i)) (all / 2 ^ (8 * i)) 8 ∙ rw (p, m)) ∙ z in
    low_byte b (rw p at (mod-lt (n / 2 ^ (8 * i)) (pow_pos 8))) q

-- two words are 0 where both together are
pub both_zero : (a b : ℕ) → bit_or a b ≡ 0 → (a ≡ 0) × (b ≡ 0)
both_zero a b e = (omega (arith, or_add_and a b, and_le_r a b), omega (arith, or_add_and a b, and_le_l a b))

-- a byte's part of a word is 0 where the word is
of_zero : (n k : ℕ) → n ≡ 0 → n / 2 ^ k % 0x100 ≡ 0
of_zero n k h = omega (arith, shr_le n k)

-- and below the word's trailing zeros
below-trailing : (n k : ℕ) → 8 + k ≤ count_trailing_zeros 64 n → n / 2 ^ k % 0x100 ≡ 0
below-trailing n k h = sym (field n 8 k) ∙ rw (trailing_zeros 64 n (8 + k) h) (omega (arith, shr_le 0 k))

-- and within its leading zeros
above-leading : (n k : ℕ) → n < 2 ^ 64 → 64 ≤ k + count_leading_zeros 64 n → n / 2 ^ k % 0x100 ≡ 0
above-leading n k f h =
    let m = leading_length 64 n f in
    let z : n / 2 ^ k < 2 ^ 0 = shr_lt 0 k (lt_of_lt_of_le m.2 (pow_mono (omega arith))) in
    omega arith

-- what a word tells of eight bytes of a text: where a byte's part of it is 0, the byte is ASCII
abbrev pub Word : List ℕ → ℕ → ℕ → Type 0
Word text at w = (i : ℕ) → i < 8 → w / 2 ^ (8 * i) % 0x100 ≡ 0 → get_or text (at + i) 0 < 0x80

-- so these of the eight are
module _ (text : List ℕ) (at w : ℕ) (word : Word text at w) where
  byte : (i : ℕ) → at ≤ i → i < at + 8 → w / 2 ^ (8 * (i - at)) % 0x100 ≡ 0 → get_or text i 0 < 0x80
  byte i k l z = let e : at + (i - at) ≡ i = omega arith in rw e at (word (i - at) (omega arith) z)

  -- all of them
  pub ascii-word : w ≡ 0 → Ascii text at (at + 8)
  ascii-word h i k l = byte i k l (of_zero w (8 * (i - at)) h)

  -- from the first on
  pub ascii-front : Ascii text at (at + count_trailing_zeros 64 w / 8)
  ascii-front i k l = byte i k (omega (arith, trailing_le 64 w)) (below-trailing w (8 * (i - at)) (omega arith))

  -- and from the last back
  pub ascii_back : w < 2 ^ 64 → (end : ℕ) → at + 8 ≤ end + count_leading_zeros 64 w / 8 → Ascii text end (at + 8)
  ascii_back f end h i k l = byte i (omega (arith, leading_le 64 w)) l (above-leading w (8 * (i - at)) f (omega (arith, leading_le 64 w)))

-- a mask's bytes, from its first to its eighth
pub highest-bits : (all : ℕ) → all / 2 ^ 0 % 2 ^ 8 ≡ 0x80 → all / 2 ^ 8 % 2 ^ 8 ≡ 0x80 → all / 2 ^ 16 % 2 ^ 8 ≡ 0x80 → all / 2 ^ 24 % 2 ^ 8 ≡ 0x80 → all / 2 ^ 32 % 2 ^ 8 ≡ 0x80 → all / 2 ^ 40 % 2 ^ 8 ≡ 0x80 → all / 2 ^ 48 % 2 ^ 8 ≡ 0x80 → all / 2 ^ 56 % 2 ^ 8 ≡ 0x80 → (i : ℕ) → i < 8 → all / 2 ^ (8 * i) % 2 ^ 8 ≡ 0x80
highest-bits all p0 p1 p2 p3 p4 p5 p6 p7 zero l = p0
highest-bits all p0 p1 p2 p3 p4 p5 p6 p7 (suc zero) l = p1
highest-bits all p0 p1 p2 p3 p4 p5 p6 p7 (suc (suc zero)) l = p2
highest-bits all p0 p1 p2 p3 p4 p5 p6 p7 (suc (suc (suc zero))) l = p3
highest-bits all p0 p1 p2 p3 p4 p5 p6 p7 (suc (suc (suc (suc zero)))) l = p4
highest-bits all p0 p1 p2 p3 p4 p5 p6 p7 (suc (suc (suc (suc (suc zero))))) l = p5
highest-bits all p0 p1 p2 p3 p4 p5 p6 p7 (suc (suc (suc (suc (suc (suc zero)))))) l = p6
highest-bits all p0 p1 p2 p3 p4 p5 p6 p7 (suc (suc (suc (suc (suc (suc (suc zero))))))) l = p7
highest-bits all p0 p1 p2 p3 p4 p5 p6 p7 (suc (suc (suc (suc (suc (suc (suc (suc i)))))))) l = absurd (omega arith)
