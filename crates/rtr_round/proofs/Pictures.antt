-- A picture stands in a slice of bytes exactly if each of its fields does (`each_stands`), and a field of 8, 16 or 32 bits stands there exactly if its number
-- is read there (`bits8-is`, `bits16-is`, `bits32-is`); what is written of a number that fits is its field (`written_8`, `written-16`, `written-32`). Byte by
-- byte, by the laws of numbers. Assumes nothing.
use Prim.Native.Nat.{ℕ, ◌+◌, ◌*◌, ◌/◌, ◌%◌, ◌<◌, ◌≤◌}
use mathlib.Core.List.{List, [], ◌∷◌, ◌++◌}
use mathlib.Core.Logic.{◌↔◌}
use mathlib.Core.Path.{◌≡◌, refl, sym, ap, ◌∙◌}
use native.Mathlib.Numerals.{add-one}
use native.Mathlib.Omega.{arith}
use lib.ListN.{length, get_or, take, drop, length-append, length-drop}
use lib.Seq.{take-suc, get_or-take, get_or-drop}
use Rattle.rtr_codec.specs.Bytes.{number}
use Rattle.rtr_codec.proofs.Laws.{number-none, number_more}
use Rattle.rtr_encode.specs.Encode.{bytes_of}
use Rattle.rtr_encode.proofs.Laws.{bytes-none, bytes-more}
use Rattle.rtr_round.specs.RoundTrip.{Bytes}
use Rattle.rtr_round.specs.Rfc.{Picture, bits8, bits16, bits32, bytes}
use Rattle.rtr_round.proofs.Bytes.{length_part, front-and-rest}

-- each field stands in s, one behind the other from `at` on
abbrev pub Each : List ℕ → ℕ → Picture → Type 0
Each s at [] = Unit {0}
Each s at (f ∷ fs) = (f ≡ take (length f) (drop at s)) × Each s (at + length f) fs

pub each_stands : (s : List ℕ) (fs : Picture) (at n : ℕ) → at + n ≤ length s → (take n (drop at s) ≡ bytes fs) ↔ ((length (bytes fs) ≡ n) × Each s at fs)
each_stands s [] at n h = (λ e. (sym (ap length e) ∙ length_part s at n h, tt), λ k. ap (λ (m : ℕ). take m (drop at s)) (sym k.0))
each_stands s (f ∷ fs) at n h = (
  λ e.
      let long : length f + length (bytes fs) ≡ n = sym (length-append f (bytes fs)) ∙ sym (ap length e) ∙ length_part s at n h in
      let both =
      (front-and-rest s f (bytes fs) at (length f) (length (bytes fs)) refl (omega arith)).0
      (sym e ∙ ap (λ (m : ℕ). take m (drop at s)) (sym long)) in
      let rest = each_stands s fs (at + length f) (length (bytes fs)) (omega arith) in
      (length-append f (bytes fs) ∙ long, (both.0, (rest.0 (sym both.1)).1)),
  λ k.
      let long : length f + length (bytes fs) ≡ n = sym (length-append f (bytes fs)) ∙ k.0 in
      let rest = each_stands s fs (at + length f) (length (bytes fs)) (omega arith) in
      sym
      ((front-and-rest s f (bytes fs) at (length f) (length (bytes fs)) refl (omega arith)).1 (k.1.0, sym (rest.1 (refl, k.1.1)))
      ∙ ap (λ (m : ℕ). take m (drop at s)) long),
)

-- the numbers of 1, 2 and 4 bytes, by their bytes
number-1 : (s : List ℕ) (at : ℕ) → number s at 1 ≡ get_or s (at + 0) 0
number-1 s at = omega (arith, number_more s at 0, number-none s at)

module _ (s : List ℕ) (bs : Bytes s) (at v : ℕ) where
  -- an element of a part
  element : (k i : ℕ) → i < k → get_or (take k (drop at s)) i 0 ≡ get_or s (at + i) 0
  element k i h = get_or-take k (drop at s) i 0 h ∙ get_or-drop at s i 0

  next-part : (k : ℕ) → at + (k + 1) ≤ length s → take (k + 1) (drop at s) ≡ take k (drop at s) ++ (get_or s (at + k) 0 ∷ [])
  next-part k h = rw add-one (take-suc (drop at s) k 0 (simp length-drop (omega arith)) ∙ simp get_or-drop)

  part-1 : at + 1 ≤ length s → take 1 (drop at s) ≡ get_or s (at + 0) 0 ∷ []
  part-1 h = next-part 0 h

  part-2 : at + 2 ≤ length s → take 2 (drop at s) ≡ get_or s (at + 0) 0 ∷ get_or s (at + 1) 0 ∷ []
  part-2 h = next-part 1 h ∙ ap (λ (l : List ℕ). l ++ (get_or s (at + 1) 0 ∷ [])) (part-1 (omega arith))

  part-3 : at + 3 ≤ length s → take 3 (drop at s) ≡ get_or s (at + 0) 0 ∷ get_or s (at + 1) 0 ∷ get_or s (at + 2) 0 ∷ []
  part-3 h = next-part 2 h ∙ ap (λ (l : List ℕ). l ++ (get_or s (at + 2) 0 ∷ [])) (part-2 (omega arith))

  part-4 : at + 4 ≤ length s → take 4 (drop at s) ≡ get_or s (at + 0) 0 ∷ get_or s (at + 1) 0 ∷ get_or s (at + 2) 0 ∷ get_or s (at + 3) 0 ∷ []
  part-4 h = next-part 3 h ∙ ap (λ (l : List ℕ). l ++ (get_or s (at + 3) 0 ∷ [])) (part-3 (omega arith))

  pub bits8-is : at + 1 ≤ length s → (bits8 v ≡ take 1 (drop at s)) ↔ (number s at 1 ≡ v)
  bits8-is h = (
    λ e. omega (arith, ap (λ (l : List ℕ). get_or l 0 0) e ∙ element 1 0 (omega arith), number-1 s at),
    λ e. sym (part-1 h ∙ ap (λ (b : ℕ). b ∷ []) (sym (number-1 s at) ∙ e)),
  )

  pub bits16-is : at + 2 ≤ length s → (bits16 v ≡ take 2 (drop at s)) ↔ (number s at 2 ≡ v)
  bits16-is h = (
    λ e.
        let a : v / 256 ≡ get_or s (at + 0) 0 = ap (λ (l : List ℕ). get_or l 0 0) e ∙ element 2 0 (omega arith) in
        let b : v % 256 ≡ get_or s (at + 1) 0 = ap (λ (l : List ℕ). get_or l 1 0) e ∙ element 2 1 (omega arith) in
        omega (arith, number_more s at 1, number-1 s at),
    λ e.
        let small : get_or s (at + 1) 0 < 256 = bs (at + 1) in
        let a : v / 256 ≡ get_or s (at + 0) 0 = omega (arith, number_more s at 1, number-1 s at) in
        let b : v % 256 ≡ get_or s (at + 1) 0 = omega (arith, number_more s at 1, number-1 s at) in
        cc (part-2 h),
  )

  pub bits32-is : at + 4 ≤ length s → (bits32 v ≡ take 4 (drop at s)) ↔ (number s at 4 ≡ v)
  bits32-is h = (
    λ e.
        let high : ℕ = v / 65536 in
        let low : ℕ = v % 65536 in
        let a : high / 256 ≡ get_or s (at + 0) 0 = ap (λ (l : List ℕ). get_or l 0 0) e ∙ element 4 0 (omega arith) in
        let b : high % 256 ≡ get_or s (at + 1) 0 = ap (λ (l : List ℕ). get_or l 1 0) e ∙ element 4 1 (omega arith) in
        let c : low / 256 ≡ get_or s (at + 2) 0 = ap (λ (l : List ℕ). get_or l 2 0) e ∙ element 4 2 (omega arith) in
        let d : low % 256 ≡ get_or s (at + 3) 0 = ap (λ (l : List ℕ). get_or l 3 0) e ∙ element 4 3 (omega arith) in
        let x : high ≡ number s at 2 = omega (arith, number_more s at 1, number-1 s at) in
        let y : low ≡ get_or s (at + 2) 0 * 256 + get_or s (at + 3) 0 = omega arith in
        omega (arith, number_more s at 3, number_more s at 2),
    λ e.
        let high : ℕ = v / 65536 in
        let low : ℕ = v % 65536 in
        let sb : get_or s (at + 1) 0 < 256 = bs (at + 1) in
        let sc : get_or s (at + 2) 0 < 256 = bs (at + 2) in
        let sd : get_or s (at + 3) 0 < 256 = bs (at + 3) in
        let x : high ≡ number s at 2 = omega (arith, number_more s at 3, number_more s at 2) in
        let y : low ≡ get_or s (at + 2) 0 * 256 + get_or s (at + 3) 0 = omega (arith, number_more s at 3, number_more s at 2) in
        let a : high / 256 ≡ get_or s (at + 0) 0 = omega (arith, number_more s at 1, number-1 s at) in
        let b : high % 256 ≡ get_or s (at + 1) 0 = omega (arith, number_more s at 1, number-1 s at) in
        let c : low / 256 ≡ get_or s (at + 2) 0 = omega arith in
        let d : low % 256 ≡ get_or s (at + 3) 0 = omega arith in
        cc (part-4 h),
  )

-- what is written of a number that fits is its field
pub written_8 : (n : ℕ) → n < 256 → bytes_of 1 n ≡ bits8 n
written_8 n h = rw (bytes-more 0 n, bytes-none) (let e : n % 256 ≡ n = omega arith in cc)

pub written-16 : (n : ℕ) → n < 65536 → bytes_of 2 n ≡ bits16 n
written-16 n h = bytes-more 1 n ∙ ap (λ (l : List ℕ). l ++ (n % 256 ∷ [])) (written_8 (n / 256) (omega arith))

pub written-32 : (n : ℕ) → n < 4294967296 → bytes_of 4 n ≡ bits32 n
written-32 n h =
    let high : bytes_of 2 (n / 256 / 256) ≡ bits16 (n / 256 / 256) = written-16 (n / 256 / 256) (omega arith) in
    let a : n / 256 / 256 ≡ n / 65536 = omega arith in
    let b : n / 256 % 256 ≡ n % 65536 / 256 = omega arith in
    let c : n % 256 ≡ n % 65536 % 256 = omega arith in
    cc (bytes-more 3 n, bytes-more 2 (n / 256))
