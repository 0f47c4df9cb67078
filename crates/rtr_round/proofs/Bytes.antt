-- A number that was read from bytes is written as those bytes again: reading takes number * 256 + byte, writing the quotient and the
-- remainder by 256, and a byte is below 256. Assumes nothing.
use Prim.Native.Nat.{ℕ, zero, suc, ◌+◌, ◌*◌, ◌/◌, ◌%◌, ◌≤◌, ◌<◌}
use mathlib.Core.List.{List, [], ◌∷◌, ◌++◌}
use mathlib.Core.Logic.{◌↔◌}
use mathlib.Core.Path.{◌≡◌, refl, sym, ap, ◌∙◌}
use native.Mathlib.Nat.{add-zero, zero-add}
use native.Mathlib.Omega.{arith}
use lib.ListN.{length, get_or, take, drop, length-drop}
use lib.Seq.{take-suc, get_or-drop, take_at, drop_at, take-add, drop-drop, length-take-le}
use Rattle.rtr_codec.specs.Bytes.{number}
use Rattle.rtr_codec.proofs.Laws.{number-none, number_more, number_fits}
use Rattle.rtr_encode.specs.Encode.{bytes_of}
use Rattle.rtr_encode.proofs.Laws.{bytes-none, bytes-more, bytes-long}
use Rattle.rtr_round.specs.RoundTrip.{Bytes}

pub length-bytes : (size n : ℕ) → length (bytes_of size n) ≡ size
length-bytes = bytes-long

-- a number of one byte is that byte
pub byte_at : (s : List ℕ) (at : ℕ) → number s at 1 ≡ get_or s at 0
byte_at s at = number_more s at 0 ∙ rw number-none (simp (zero-add, add-zero))

pub bytes-of-number : (s : List ℕ) → Bytes s → (at size : ℕ) → at + size ≤ length s → bytes_of size (number s at size) ≡ take size (drop at s)
bytes-of-number s bs at zero h = bytes-none (number s at 0)
bytes-of-number s bs at (suc size) h =
    let x : ℕ = number s at size in
    let b : ℕ = get_or s (at + size) 0 in
    let small : b < 256 = bs (at + size) in
    let q : (x * 256 + b) / 256 ≡ x = omega arith in
    let r : (x * 256 + b) % 256 ≡ b = omega arith in
    let front : bytes_of size x ≡ take size (drop at s) = bytes-of-number s bs at size (omega arith) in
    let last : take (suc size) (drop at s) ≡ take size (drop at s) ++ (b ∷ []) =
    take-suc (drop at s) size 0 (simp length-drop (omega arith)) ∙ simp get_or-drop in
    cc (number_more s at size, bytes-more size (number s at (suc size)))

-- a number of four bytes fits 32 bits
pub four-bytes-fit : (s : List ℕ) → Bytes s → (at : ℕ) → number s at 4 ≤ 4294967295
four-bytes-fit s bs at = omega (arith, number_fits s bs at 4)

-- lists with fronts of one length are the same exactly if their fronts and their rests are
pub append-same : (a b c d : List ℕ) → length a ≡ length c → (a ++ b ≡ c ++ d) ↔ ((a ≡ c) × (b ≡ d))
append-same a b c d e =
    (λ q. (sym (take_at a b (length c) e) ∙ ap (take (length c)) q ∙ take_at c d (length c) refl, sym (drop_at a b (length c) e) ∙ ap (drop (length c)) q ∙ drop_at c d (length c) refl), λ q. cc (q.0, q.1))

-- the w + k bytes from `at`, split behind the first w
pub part-split : (s : List ℕ) (at w k : ℕ) → take (w + k) (drop at s) ≡ take w (drop at s) ++ take k (drop (at + w) s)
part-split s at w k = take-add w k (drop at s) ∙ ap (λ (l : List ℕ). take w (drop at s) ++ take k l) (drop-drop w at s)

pub length_part : (s : List ℕ) (at w : ℕ) → at + w ≤ length s → length (take w (drop at s)) ≡ w
length_part s at w h = length-take-le w (drop at s) (simp length-drop (omega arith))

-- w bytes x and then y are the w + k bytes from `at` exactly if each is its part of them
pub front-and-rest : (s x y : List ℕ) (at w k : ℕ) → length x ≡ w → at + w ≤ length s
    → (x ++ y ≡ take (w + k) (drop at s)) ↔ ((x ≡ take w (drop at s)) × (y ≡ take k (drop (at + w) s)))
front-and-rest s x y at w k e h =
    rw (part-split s at w k) (append-same x y (take w (drop at s)) (take k (drop (at + w) s)) (e ∙ sym (length_part s at w h)))
