-- The laws that higher crates cite of reading, over every `Reading`. A slice is short (no header), cut (fewer bytes than its header names)
-- or whole; each law goes by these three. Assumes nothing.
use Prim.Native.Nat.{ℕ, zero, suc, ◌+◌, ◌*◌, ◌^◌, ◌≤◌, ◌<◌}
use mathlib.Core.Bool.{Bool, true, false}
use mathlib.Core.List.{List, [], ◌∷◌, ◌++◌}
use mathlib.Core.Logic.{◌↔◌, ◌⊎◌, inl, inr}
use mathlib.Core.Path.{◌≡◌, refl, sym, ap, ◌∙◌, subst}
use native.Mathlib.Nat.{pow-suc}
use native.Mathlib.Omega.{arith}
use borrow.Author.Tests.{leb-true, leb-false, le-leb, lt-leb}
use lib.Dec.{leb}
use lib.ListN.{length, get_or, take, drop, length-append, take-append-drop}
use lib.Seq.{length-take-le, get_or-append-add}
use Rattle.rtr_models.specs.Codes.{version_found}
use Rattle.rtr_models.specs.declared.RtrPdu.{RtrPdu}
use Rattle.rtr_codec.specs.Bytes.{number}
use Rattle.rtr_codec.specs.Reading.{Reading, rfc, crate}
use Rattle.rtr_codec.specs.Departures.{Departure, has, only, applies}
use Rattle.rtr_codec.specs.Departures.Departure.{code_eight_in_v0, bytes_behind_text, key_by_crate}
use Rattle.rtr_codec.specs.Read.{header_length, read_versioned, read, needed}
use Rattle.rtr_codec.specs.Read.Verdict.{accepted, refused}
use Rattle.rtr_codec.specs.Answers.{refusal, number_of}
use Rattle.rtr_codec.specs.declared.RtrError.{RtrError}
use Rattle.rtr_codec.specs.declared.RtrError.TheVariants.{IncompletePdu, InvalidProtocolVersion, InvalidPduType, InvalidLength, RouterKeyInV0, InvalidPrefixLength, InvalidErrorCode, InvalidUtf8}
use Rattle.rtr_codec.proofs.Whole.{Whole, versioned-whole}
use Rattle.rtr_codec.proofs.Behind.{number_behind, header-behind, versioned-behind}
use Rattle.rtr_codec.proofs.Departs.{read_alike}
use Rattle.rtr_codec.proofs.Differ.{agree-alike}

data Reach (s : List ℕ) : Type 0 where
  short : length s < 8 → Reach s
  cut : 8 ≤ length s → length s < header_length s → Reach s
  whole : 8 ≤ length s → header_length s ≤ length s → Reach s

reach : (s : List ℕ) → Reach s
reach s = go (leb 8 (length s)) (leb (header_length s) (length s)) refl refl
  where
    go : (a b : Bool) → leb 8 (length s) ≡ a → leb (header_length s) (length s) ≡ b → Reach s
    go false b p q = short (leb-false 8 (length s) p)
    go true false p q = cut (leb-true 8 (length s) p) (leb-false (header_length s) (length s) q)
    go true true p q = whole (leb-true 8 (length s) p) (leb-true (header_length s) (length s) q)

module _ (R : Reading) (s : List ℕ) where
  short-read : length s < 8 → read R s ≡ refused 1 (length s ∷ 8 ∷ [])
  unfolding read
  short-read h = simp (lt-leb 8 (length s) h)

  cut-read : 8 ≤ length s → length s < header_length s → read R s ≡ refused 1 (length s ∷ header_length s ∷ [])
  unfolding read
  cut-read p q = simp (le-leb 8 (length s) p, lt-leb (header_length s) (length s) q)

  whole-read : 8 ≤ length s → header_length s ≤ length s → read R s ≡ read_versioned R (number s 0 1) (version_found (number s 0 1)) s
  unfolding read
  whole-read p q = simp (le-leb 8 (length s) p, le-leb (header_length s) (length s) q)

  whole-verdict : 8 ≤ length s → header_length s ≤ length s → Whole (header_length s) (read R s)
  whole-verdict p q = rw (whole-read p q) (versioned-whole R (number s 0 1) (version_found (number s 0 1)) s)

-- without a header 8 bytes are needed, with one as many as it names
pub needed-short : (s : List ℕ) → length s < 8 → needed s ≡ 8
unfolding needed
needed-short s h = simp (lt-leb 8 (length s) h)

pub needed-large : (s : List ℕ) → 8 ≤ length s → needed s ≡ header_length s
unfolding needed
needed-large s h = simp (le-leb 8 (length s) h)

-- the header's length is the number in bytes 4 to 7
pub header_is : (s : List ℕ) → header_length s ≡ number s 4 4
unfolding header_length
header_is s = refl

-- a number, byte by byte: none is 0, and one byte more is 256 times those before it and that byte
pub number-none : (s : List ℕ) (at : ℕ) → number s at 0 ≡ 0
unfolding number
number-none s at = refl

pub number_more : (s : List ℕ) (at size : ℕ) → number s at (suc size) ≡ number s at size * 256 + get_or s (at + size) 0
unfolding number
number_more s at size = refl

-- a number of so many bytes fits them
pub number_fits : (s : List ℕ) → ((i : ℕ) → get_or s i 0 < 256) → (at size : ℕ) → number s at size < 256 ^ size
unfolding number
number_fits s bs at zero = omega arith
number_fits s bs at (suc size) = rw pow-suc (omega (arith, bs (at + size), number_fits s bs at size))

-- a number is read of what stands there alone
pub number-behind-front : (p r : List ℕ) (size : ℕ) → number (p ++ r) (length p) size ≡ number r 0 size
unfolding number
number-behind-front p r zero = refl
number-behind-front p r (suc size) =
    let i : 0 + size ≡ size = omega arith in
    cc (number-behind-front p r size, get_or-append-add p r size 0)

-- bytes behind a header leave the length that it names
pub header-stays : (s t : List ℕ) → 8 ≤ length s → header_length (s ++ t) ≡ header_length s
header-stays s t h = header-behind s t h

-- where bytes are missing the answer is 1, with the bytes there and the bytes needed
pub missing-is-one : (R : Reading) (s : List ℕ) → length s < needed s → read R s ≡ refused 1 (length s ∷ needed s ∷ [])
missing-is-one R s h = go (reach s)
  where
    go : Reach s → read R s ≡ refused 1 (length s ∷ needed s ∷ [])
    go (short p) = rw (needed-short s p) (short-read R s p)
    go (cut p q) = rw (needed-large s p) (cut-read R s p q)
    go (whole p q) = absurd (omega (arith, needed-large s p))

-- 1 is given only there
pub one-is-missing : (R : Reading) (s values : List ℕ) → read R s ≡ refused 1 values → length s < needed s
one-is-missing R s values e = go (reach s)
  where
    go : Reach s → length s < needed s
    go (short p) = omega (arith, needed-short s p)
    go (cut p q) = omega (arith, needed-large s p)
    go (whole p q) = absurd (let w : (2 ≤ 1) × (1 ≤ 8) = subst (Whole (header_length s)) e (whole-verdict R s p q) in omega arith)

-- bytes that are all there are refused by 2 to 8
pub refusal-numbers : (R : Reading) (s : List ℕ) (n : ℕ) (values : List ℕ) → 8 ≤ length s → header_length s ≤ length s → read R s ≡ refused n values → (2 ≤ n) × (n ≤ 8)
refusal-numbers R s n values p q e = subst (Whole (header_length s)) e (whole-verdict R s p q)

-- a slice with a header that is as long as its header says is never refused by 1
pub whole-is-not-one : (R : Reading) (s values : List ℕ) → 8 ≤ length s → header_length s ≤ length s → read R s ≡ refused 1 values → ⊥
whole-is-not-one R s values p q e = let w = refusal-numbers R s 1 values p q e in omega arith

-- an accepted read takes the header's length, which is 8 or more, and so many bytes are there
pub read-consumes : (R : Reading) (s : List ℕ) (pdu : RtrPdu) (n : ℕ) → read R s ≡ accepted pdu n → (n ≡ header_length s) × (8 ≤ n) × (n ≤ length s)
read-consumes R s pdu n e = go (reach s)
  where
    other : (k : ℕ) (values : List ℕ) → read R s ≡ refused k values → ⊥
    other k values q = let z : ◌≡◌ {A = ℕ} 0 1 = cc in omega arith

    go : Reach s → (n ≡ header_length s) × (8 ≤ n) × (n ≤ length s)
    go (short p) = absurd (other 1 _ (short-read R s p))
    go (cut p q) = absurd (other 1 _ (cut-read R s p q))
    go (whole p q) =
        let w : (n ≡ header_length s) × (8 ≤ n) = subst (Whole (header_length s)) e (whole-verdict R s p q) in
        (w.0, w.1, omega arith)

-- where the bytes needed are there, bytes added behind change nothing
pub read_behind : (R : Reading) (s t : List ℕ) → needed s ≤ length s → read R (s ++ t) ≡ read R s
read_behind R s t h = go (reach s)
  where
    go : Reach s → read R (s ++ t) ≡ read R s
    go (short p) = absurd (omega (arith, needed-short s p))
    go (cut p q) = absurd (omega (arith, needed-large s p))
    go (whole p q) =
        whole-read R (s ++ t) (simp length-append (omega arith)) (rw (header-behind s t p) (simp length-append (omega arith)))
        ∙ simp (number_behind s t 0 1 (omega arith)) (versioned-behind s t p q R (number s 0 1) (version_found (number s 0 1)))
        ∙ sym (whole-read R s p q)

-- an answer other than 1 stays the answer when bytes are added behind
pub answer-stays : (R : Reading) (s t : List ℕ) → ((values : List ℕ) → read R s ≡ refused 1 values → ⊥) → read R (s ++ t) ≡ read R s
answer-stays R s t other = go (reach s)
  where
    go : Reach s → read R (s ++ t) ≡ read R s
    go (short p) = absurd (other _ (short-read R s p))
    go (cut p q) = absurd (other _ (cut-read R s p q))
    go (whole p q) = read_behind R s t (omega (arith, needed-large s p))

-- an answer other than 1 depends on the consumed bytes alone: n bytes that hold the header and all that it names are enough
pub read-needs-only-consumed : (R : Reading) (s : List ℕ) (n : ℕ) → 8 ≤ n → header_length s ≤ n → n ≤ length s → read R (take n s) ≡ read R s
read-needs-only-consumed R s n p q r =
    let long : length (take n s) ≡ n = length-take-le n s r in
    let front : header_length s ≡ header_length (take n s) =
    ap header_length (sym (take-append-drop n s)) ∙ header-behind (take n s) (drop n s) (omega arith) in
    sym
    (ap (read R) (sym (take-append-drop n s))
    ∙ read_behind R (take n s) (drop n s) (omega (arith, needed-large (take n s) (omega arith))))

-- readings that differ only in departures that do not apply to a slice give the same verdict
pub readings-agree : (R R' : Reading) (s : List ℕ) → ((d : Departure) → (has R d ≡ has R' d) ⊎ (applies R d s ≡ false)) → read R s ≡ read R' s
readings-agree R R' s h = read_alike R R' s h

-- where no named departure applies, the crate reads as the RFCs do
pub read-departs : (s : List ℕ) → ((d : Departure) → applies rfc d s ≡ false) → read crate s ≡ read rfc s
read-departs s h = sym (readings-agree rfc crate s (λ d. inr (h d)))

-- and the other way: readings give the same verdict exactly if each departure in which they differ does not apply
pub readings-agree-exactly : (R R' : Reading) (s : List ℕ) → (read R s ≡ read R' s) ↔ ((d : Departure) → (has R d ≡ has R' d) ⊎ (applies R d s ≡ false))
readings-agree-exactly R R' s = (agree-alike R R' s, readings-agree R R' s)

other_way : (b : Bool) → (false ≡ true) ⊎ (b ≡ false) → b ≡ false
other_way b (inl e) = let z : ◌≡◌ {A = ℕ} 0 1 = cc in absurd (omega arith)
other_way b (inr e) = e

-- so the crate reads as the RFCs do exactly where no departure applies
pub read-departs-exactly : (s : List ℕ) → (read crate s ≡ read rfc s) ↔ ((d : Departure) → applies rfc d s ≡ false)
read-departs-exactly s = (λ e d. differs d (agree-alike rfc crate s (sym e) d), read-departs s)
  where
    differs : (d : Departure) → (has rfc d ≡ has crate d) ⊎ (applies rfc d s ≡ false) → applies rfc d s ≡ false
    differs code_eight_in_v0 x = other_way _ x
    differs bytes_behind_text x = other_way _ x
    differs key_by_crate x = other_way _ x

-- in other words: wherever a departure applies to the RFCs' reading, the crate's differs from it
pub departure-shows : (d : Departure) (s : List ℕ) → applies rfc d s ≡ true → read crate s ≡ read rfc s → ⊥
departure-shows d s a e =
    let none : applies rfc d s ≡ false = (read-departs-exactly s).0 e d in
    let z : ◌≡◌ {A = ℕ} 0 1 = cc in
    omega arith

-- and each departure alone changes the RFCs' reading of exactly the slices to which it applies
pub each-departs-exactly : (d : Departure) (s : List ℕ) → (read (only d) s ≡ read rfc s) ↔ (applies rfc d s ≡ false)
each-departs-exactly code_eight_in_v0 s = (λ e. other_way _ (agree-alike rfc (only code_eight_in_v0) s (sym e) code_eight_in_v0), λ h. sym (readings-agree rfc (only code_eight_in_v0) s (alone h)))
  where
    alone : applies rfc code_eight_in_v0 s ≡ false → (d : Departure) → (has rfc d ≡ has (only code_eight_in_v0) d) ⊎ (applies rfc d s ≡ false)
    alone h code_eight_in_v0 = inr h
    alone h bytes_behind_text = inl refl
    alone h key_by_crate = inl refl
each-departs-exactly bytes_behind_text s = (λ e. other_way _ (agree-alike rfc (only bytes_behind_text) s (sym e) bytes_behind_text), λ h. sym (readings-agree rfc (only bytes_behind_text) s (alone h)))
  where
    alone : applies rfc bytes_behind_text s ≡ false → (d : Departure) → (has rfc d ≡ has (only bytes_behind_text) d) ⊎ (applies rfc d s ≡ false)
    alone h code_eight_in_v0 = inl refl
    alone h bytes_behind_text = inr h
    alone h key_by_crate = inl refl
each-departs-exactly key_by_crate s = (λ e. other_way _ (agree-alike rfc (only key_by_crate) s (sym e) key_by_crate), λ h. sym (readings-agree rfc (only key_by_crate) s (alone h)))
  where
    alone : applies rfc key_by_crate s ≡ false → (d : Departure) → (has rfc d ≡ has (only key_by_crate) d) ⊎ (applies rfc d s ≡ false)
    alone h code_eight_in_v0 = inl refl
    alone h bytes_behind_text = inl refl
    alone h key_by_crate = inr h

-- an error is a refusal by its number, with some values: whoever only needs that lists no errors
pub refusal_is : (error : RtrError) → (values : List ℕ) × (refusal error ≡ refused (number_of (refusal error)) values)
refusal_is (IncompletePdu available needed) = (_, refl)
refusal_is (InvalidPduType type) = (_, refl)
refusal_is (InvalidProtocolVersion version) = (_, refl)
refusal_is (InvalidErrorCode code) = (_, refl)
refusal_is (InvalidLength expected actual type) = (_, refl)
refusal_is (InvalidPrefixLength length max limit) = (_, refl)
refusal_is InvalidUtf8 = (_, refl)
refusal_is RouterKeyInV0 = (_, refl)

-- and its number is 8 at the most
pub refusal-small : (error : RtrError) → number_of (refusal error) ≤ 8
refusal-small (IncompletePdu available needed) = omega arith
refusal-small (InvalidPduType type) = omega arith
refusal-small (InvalidProtocolVersion version) = omega arith
refusal-small (InvalidErrorCode code) = omega arith
refusal-small (InvalidLength expected actual type) = omega arith
refusal-small (InvalidPrefixLength length max limit) = omega arith
refusal-small InvalidUtf8 = omega arith
refusal-small RouterKeyInV0 = omega arith
