-- Leading bits, one by one: two addresses agree in their first l bits exactly where each of these bits is equal. The upper bits of a word are
-- equal where each is, since a quotient is twice the next and one bit; addresses go by their words. Assumes nothing.
use Prim.Native.Nat.{ℕ, zero, suc, ◌+◌, ◌-◌, ◌*◌, ◌/◌, ◌%◌, ◌^◌, ◌≤◌, ◌<◌}
use mathlib.Core.Bool.{Bool, true, false}
use mathlib.Core.List.{List, [], ◌∷◌}
use mathlib.Core.Logic.{◌↔◌}
use mathlib.Core.Path.{◌≡◌, refl, sym, ap, ◌∙◌}
use native.Mathlib.Omega.{arith}
use native.Mathlib.Nat.{div-eq_of_lt}
use lib.Pow.{shr-shr}
use lib.Dec.{ltb}
use lib.ListN.{length, get_or}
use borrow.Author.Tests.{ltb-true, ltb-false}
use Rattle.rtr_origin.specs.Origin.{agree}
use Rattle.rtr_origin.proofs.Addresses.{Asked, asked, agree-zero, whole_out, whole_in, part_out, part_in}
use Rattle.rtr_origin.proofs.Addresses.Asked.{none, part, whole}

-- bit i of an address: of its word i / 32 the bit i % 32, the most significant first
abbrev pub bit_of : ℕ → List ℕ → ℕ
bit_of i x = get_or x (i / 32) 0 / 2 ^ (31 - i % 32) % 2

-- every word has 32 bits
abbrev pub OfWords : List ℕ → Type 0
OfWords x = (i : ℕ) → get_or x i 0 < 4294967296

-- ---- one word

-- upper bits that are equal one by one are equal
upper_in : (l u v : ℕ) → l ≤ 32 → u < 4294967296 → v < 4294967296 → ((i : ℕ) → i < l → u / 2 ^ (31 - i) % 2 ≡ v / 2 ^ (31 - i) % 2)
    → u / 2 ^ (32 - l) ≡ v / 2 ^ (32 - l)
upper_in zero u v n bu bv f = div-eq_of_lt {m = 4294967296} bu ∙ sym (div-eq_of_lt {m = 4294967296} bv)
upper_in (suc l) u v n bu bv f =
    let e : 32 - suc l ≡ 31 - l = omega arith in
    let g : 31 - l + 1 ≡ 32 - l = omega arith in
    let rest : u / 2 ^ (32 - l) ≡ v / 2 ^ (32 - l) = upper_in l u v (omega arith) bu bv (λ i k. f i (omega arith)) in
    let last : u / 2 ^ (31 - l) % 2 ≡ v / 2 ^ (31 - l) % 2 = f l (omega arith) in
    let hu : u / 2 ^ (31 - l) / 2 ≡ u / 2 ^ (32 - l) = shr-shr u (31 - l) 1 ∙ ap (λ (k : ℕ). u / 2 ^ k) g in
    let hv : v / 2 ^ (31 - l) / 2 ≡ v / 2 ^ (32 - l) = shr-shr v (31 - l) 1 ∙ ap (λ (k : ℕ). v / 2 ^ k) g in
    rw e (omega arith)

-- and bits of equal upper bits are equal
upper-out : (l u v i : ℕ) → l ≤ 32 → i < l → u / 2 ^ (32 - l) ≡ v / 2 ^ (32 - l) → u / 2 ^ (31 - i) % 2 ≡ v / 2 ^ (31 - i) % 2
upper-out l u v i n h e =
    let g : 32 - l + (l - suc i) ≡ 31 - i = omega arith in
    rw (← g, ← (shr-shr u (32 - l) (l - suc i)), ← (shr-shr v (32 - l) (l - suc i))) (ap (λ (k : ℕ). k / 2 ^ (l - suc i) % 2) e)

-- ---- addresses

bit-first : (i u : ℕ) (x : List ℕ) → i < 32 → bit_of i (u ∷ x) ≡ u / 2 ^ (31 - i) % 2
bit-first i u x h =
    let e : i / 32 ≡ 0 = omega arith in
    let f : i % 32 ≡ i = omega arith in
    rw (e, f)

bit-next : (i u : ℕ) (x : List ℕ) → 32 ≤ i → bit_of i (u ∷ x) ≡ bit_of (i - 32) x
bit-next i u x h =
    let e : i / 32 ≡ suc ((i - 32) / 32) = omega arith in
    let f : i % 32 ≡ (i - 32) % 32 = omega arith in
    rw (e, f)

bits_out : (l : ℕ) (x y : List ℕ) → length x ≡ length y → l ≤ 32 * length x → agree l x y ≡ true → (i : ℕ) → i < l → bit_of i x ≡ bit_of i y
bits_out l [] [] n m e i h = absurd (omega arith)
bits_out l [] (v ∷ y) n m e i h = absurd (omega arith)
bits_out l (u ∷ x) [] n m e i h = absurd (omega arith)
bits_out l (u ∷ x) (v ∷ y) n m e i h = go (asked l) (ltb i 32) refl (bits_out (l - 32) x y (omega arith) (omega arith))
  where
    go : Asked l → (b : Bool) → ltb i 32 ≡ b → (agree (l - 32) x y ≡ true → (i : ℕ) → i < l - 32 → bit_of i x ≡ bit_of i y)
        → bit_of i (u ∷ x) ≡ bit_of i (v ∷ y)
    go (none z) b f rest = absurd (omega arith)
    go (part a k) b f rest =
        bit-first i u x (omega arith) ∙ upper-out l u v i (omega arith) h (part_out l u v x y a k e) ∙ sym (bit-first i v y (omega arith))
    go (whole a) true f rest =
        let k = ltb-true i 32 f in
        bit-first i u x k ∙ ap (λ (w : ℕ). w / 2 ^ (31 - i) % 2) (whole_out l u v x y a e).0 ∙ sym (bit-first i v y k)
    go (whole a) false f rest =
        let k = ltb-false i 32 f in
        bit-next i u x k ∙ rest (whole_out l u v x y a e).1 (i - 32) (omega arith) ∙ sym (bit-next i v y k)

bits_in : (l : ℕ) (x y : List ℕ) → length x ≡ length y → l ≤ 32 * length x → OfWords x → OfWords y
    → ((i : ℕ) → i < l → bit_of i x ≡ bit_of i y) → agree l x y ≡ true
unfolding agree
bits_in l [] y n m bx by f = refl
bits_in l (u ∷ x) [] n m bx by f = refl
bits_in l (u ∷ x) (v ∷ y) n m bx by f =
    go (asked l) (bits_in (l - 32) x y (omega arith) (omega arith) (λ i. bx (suc i)) (λ i. by (suc i)))
  where
    word : (i : ℕ) → i < l → i < 32 → u / 2 ^ (31 - i) % 2 ≡ v / 2 ^ (31 - i) % 2
    word i h k = sym (bit-first i u x k) ∙ f i h ∙ bit-first i v y k

    behind : (i : ℕ) → i < l - 32 → bit_of i x ≡ bit_of i y
    behind i h =
        let s : i + 32 - 32 ≡ i = omega arith in
        rw s at (sym (bit-next (i + 32) u x (omega arith)) ∙ f (i + 32) (omega arith) ∙ bit-next (i + 32) v y (omega arith))

    go : Asked l → (((i : ℕ) → i < l - 32 → bit_of i x ≡ bit_of i y) → agree (l - 32) x y ≡ true) → agree l (u ∷ x) (v ∷ y) ≡ true
    go (none z) rest = agree-zero l (u ∷ x) (v ∷ y) z
    go (part a k) rest = part_in l u v x y a k (upper_in l u v (omega arith) (bx 0) (by 0) (λ i h. word i h (omega arith)))
    go (whole a) rest =
        let w : u / 2 ^ (32 - 32) ≡ v / 2 ^ (32 - 32) = upper_in 32 u v (omega arith) (bx 0) (by 0) (λ i h. word i (omega arith) h) in
        whole_in l u v x y a (omega arith) (rest behind)

pub agree-exactly : (l : ℕ) (x y : List ℕ) → length x ≡ length y → l ≤ 32 * length x → OfWords x → OfWords y
    → agree l x y ≡ true ↔ ((i : ℕ) → i < l → bit_of i x ≡ bit_of i y)
agree-exactly l x y n m bx by = (bits_out l x y n m, bits_in l x y n m bx by)
