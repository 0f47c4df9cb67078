-- Which slices are refused, by which number and with which values, said of the bytes: document 01, "Reading" (the checks in order, and the lengths) and "Refusal numbers". Each case names a check that fails and
-- has those before it passed. `refused-exactly` (proofs/Refused.antt): a slice is refused so exactly in these cases. With `read-exactly` of Stands, that is all a reader may answer.
use Rattle.std.specs.Prelude.{ℕ, ◌+◌, ◌≤◌, ◌<◌, min, true, false, cond, List, [], ◌∷◌, ◌≡◌, leb, eqb, length, take, drop}
use Rattle.rtr_text.specs.Utf8.{well_formed}
use Rattle.rtr_codec.specs.Bytes.{number}
use Rattle.rtr_codec.specs.Reading.{Reading}

-- check 1: a header is there, and as many bytes as it names
abbrev pub Complete : List ℕ → Type 0
Complete s = (8 ≤ length s) × (number s 4 4 ≤ length s)

-- and check 2: the version is 0 or 1
abbrev pub Versioned : List ℕ → Type 0
Versioned s = Complete s × (number s 0 1 ≤ 1)

-- and check 3: the type is 0 to 4 or 6 to 10
abbrev pub Typed : List ℕ → Type 0
Typed s = Versioned s × (number s 1 1 ≤ 10) × (number s 1 1 ≡ 5 → ⊥)

-- and check 4: no Router Key in version 0
abbrev pub Allowed : List ℕ → Type 0
Allowed s = Typed s × (number s 0 1 ≡ 0 → number s 1 1 ≡ 9 → ⊥)

-- the length of a PDU of this version and type; of types 9 and 10 the least (a Router Key's by its arrangement)
abbrev pub length_at : Reading → ℕ → ℕ → ℕ
length_at R version type =
    cond (leb type 1) 12
    (cond (leb type 3) 8
    (cond (eqb type 4) 20
    (cond (eqb type 6) 32
    (cond (eqb type 7) (cond (eqb version 0) 12 24)
    (cond (eqb type 8) 8
    (cond (eqb type 9) (cond R.key_by_crate 34 32) 16))))))

abbrev pub expected : Reading → List ℕ → ℕ
expected R s = length_at R (number s 0 1) (number s 1 1)

-- and check 5: types 0 to 8 have that length, types 9 and 10 no less
abbrev pub Sized : Reading → List ℕ → Type 0
Sized R s = Allowed s × (number s 1 1 ≤ 8 → number s 4 4 ≡ expected R s) × (9 ≤ number s 1 1 → expected R s ≤ number s 4 4)

-- the last error code of a version: 7 in version 0 and 8 in version 1 (in both where code 8 is read in version 0 too)
abbrev pub last_code_in : Reading → List ℕ → ℕ
last_code_in R s = cond R.code_eight_in_v0 8 (cond (eqb (number s 0 1) 0) 7 8)

-- an Error Report whose code passes check 6
abbrev pub Coded : Reading → List ℕ → Type 0
Coded R s = Sized R s × (number s 1 1 ≡ 10) × (number s 2 2 ≤ last_code_in R s)

-- where an Error Report's text begins, by its encapsulated length, and where it ends, by its text's length
abbrev pub text_from : List ℕ → ℕ
text_from s = 16 + number s 8 4

abbrev pub text_to : List ℕ → ℕ
text_to s = 16 + number s 8 4 + number s (12 + number s 8 4) 4

-- check 7: the text ends with the PDU, or not behind it where bytes behind the text are passed over
abbrev pub Ended : Reading → List ℕ → Type 0
Ended R s = (R.bytes_behind_text ≡ true → text_to s ≤ number s 4 4) × (R.bytes_behind_text ≡ false → text_to s ≡ number s 4 4)

-- a length named in a refusal is 4,294,967,295 at the most
abbrev pub at_most : ℕ → ℕ
at_most n = min n 4294967295

-- the refusals: number and values
pub data Refusal (R : Reading) (s : List ℕ) : ℕ → List ℕ → Type 0 where
  no_header : length s < 8 → Refusal R s 1 (length s ∷ 8 ∷ [])
  cut_short : 8 ≤ length s → length s < number s 4 4 → Refusal R s 1 (length s ∷ number s 4 4 ∷ [])
  version : Complete s → 2 ≤ number s 0 1 → Refusal R s 2 (number s 0 1 ∷ [])
  type_five : Versioned s → number s 1 1 ≡ 5 → Refusal R s 3 (number s 1 1 ∷ [])
  type_over : Versioned s → 11 ≤ number s 1 1 → Refusal R s 3 (number s 1 1 ∷ [])
  key_in_v0 : Typed s → number s 0 1 ≡ 0 → number s 1 1 ≡ 9 → Refusal R s 5 []
  other_length : Allowed s → number s 1 1 ≤ 8 → (number s 4 4 ≡ expected R s → ⊥) → Refusal R s 4 (expected R s ∷ number s 4 4 ∷ number s 1 1 ∷ [])
  too_short : Allowed s → 9 ≤ number s 1 1 → number s 4 4 < expected R s → Refusal R s 4 (expected R s ∷ number s 4 4 ∷ number s 1 1 ∷ [])
  prefix_ipv4 : Sized R s → number s 1 1 ≡ 4 → ((number s 9 1 ≤ number s 10 1) × (number s 10 1 ≤ 32) → ⊥) → Refusal R s 6 (number s 9 1 ∷ number s 10 1 ∷ 32 ∷ [])
  prefix_ipv6 : Sized R s → number s 1 1 ≡ 6 → ((number s 9 1 ≤ number s 10 1) × (number s 10 1 ≤ 128) → ⊥) → Refusal R s 6 (number s 9 1 ∷ number s 10 1 ∷ 128 ∷ [])
  code : Sized R s → number s 1 1 ≡ 10 → last_code_in R s < number s 2 2 → Refusal R s 7 (number s 2 2 ∷ [])
  copy_length : Coded R s → number s 4 4 < text_from s → Refusal R s 4 (at_most (text_from s) ∷ number s 4 4 ∷ 10 ∷ [])
  text_length : Coded R s → text_from s ≤ number s 4 4 → (Ended R s → ⊥) → Refusal R s 4 (at_most (text_to s) ∷ number s 4 4 ∷ 10 ∷ [])
  text : Coded R s → text_from s ≤ number s 4 4 → Ended R s → well_formed (take (number s (12 + number s 8 4) 4) (drop (text_from s) s)) ≡ false → Refusal R s 8 []
