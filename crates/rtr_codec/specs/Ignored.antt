-- The bytes of a PDU that are ignored, by its type: document 01, "Reading" (bytes 2 and 3 of types 2, 4, 6, 8 and 9, byte 11 of a prefix, byte 9 of a Router Key; RFC 8210, 5.10: byte 3 of a Router Key alone).
-- `ignored-bytes-ignored` (proofs/Ignored.antt): slices that differ in these bytes alone get one verdict, refusals too.
use Rattle.std.specs.Prelude.{ℕ, Bool, true, false, cond, List, [], ◌∷◌, ◌≡◌, eqb, length, get_or}
use Rattle.rtr_codec.specs.Bytes.{number}
use Rattle.rtr_codec.specs.Reading.{Reading}

abbrev pub ignored_bytes : Reading → ℕ → List ℕ
ignored_bytes R type =
    cond (eqb type 2) (2 ∷ 3 ∷ [])
    (cond (eqb type 4) (2 ∷ 3 ∷ 11 ∷ [])
    (cond (eqb type 6) (2 ∷ 3 ∷ 11 ∷ [])
    (cond (eqb type 8) (2 ∷ 3 ∷ [])
    (cond (eqb type 9) (cond R.key_by_crate (2 ∷ 3 ∷ 9 ∷ []) (3 ∷ []))
    []))))

-- whether a number is in a list
abbrev pub among : ℕ → List ℕ → Bool
among i [] = false
among i (x ∷ xs) = cond (eqb i x) true (among i xs)

-- two slices of one length that have the same bytes but for the ignored ones
pub record Alike (R : Reading) (s t : List ℕ) : Type 0 where
  pub long : length s ≡ length t
  pub same : (i : ℕ) → among i (ignored_bytes R (number s 1 1)) ≡ false → get_or s i 0 ≡ get_or t i 0
