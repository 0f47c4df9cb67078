-- The laws that higher crates cite of encoding, over every `Reading`. Assumes nothing.
use Prim.Native.Nat.{ℕ, zero, suc, ◌+◌, ◌*◌, ◌/◌, ◌%◌, ◌^◌, ◌≤◌, ◌<◌}
use mathlib.Core.Bool.{Bool, true, false, cond}
use mathlib.Core.List.{List, [], ◌∷◌, ◌++◌, append_assoc}
use mathlib.Core.Path.{◌≡◌, refl, ap, ◌∙◌}
use native.Mathlib.Nat.{pow-suc}
use native.Mathlib.Omega.{arith}
use borrow.Author.Tests.{le-leb}
use lib.Dec.{leb}
use lib.ListN.{length, get_or, drop, length-append}
use lib.Seq.{get_or_at}
use Rattle.rtr_text.proofs.Laws.{empty-is-well-formed}
use Rattle.rtr_codec.specs.Bytes.{number}
use Rattle.rtr_codec.specs.Layout.{length_of}
use Rattle.rtr_codec.proofs.Laws.{number-none, number_more}
use Rattle.rtr_models.specs.Codes.{version_number, type_number}
use Rattle.rtr_models.specs.Values.{type_of, version_of}
use Rattle.rtr_models.specs.declared.RtrProtocolVersion.{RtrProtocolVersion}
use Rattle.rtr_models.specs.declared.RtrPdu.{RtrPdu}
use Rattle.rtr_codec.specs.Reading.{Reading}
use Rattle.rtr_encode.specs.Encode.{Writing, bytes_of, field_bytes, layout_of, given, values_in, behind, behind_length, unless, places_inside, text_in, encoded_length, encoding, encode_says, encode, out_after}
use Rattle.rtr_encode.specs.Encode.Writing.{written, refused}

-- how long an encoding is, and what it is: version, type, fixed fields, and what follows them
pub encoded-length-is : (R : Reading) (pdu : RtrPdu) → encoded_length R pdu ≡ length_of (layout_of R pdu) + behind_length pdu
unfolding encoded_length
encoded-length-is R pdu = refl

pub encoding-is : (R : Reading) (pdu : RtrPdu) (s : List ℕ)
    → encoding R pdu s ≡ version_number (version_of pdu) ∷ type_number (type_of pdu) ∷ (field_bytes (layout_of R pdu) (encoded_length R pdu) (given (values_in pdu)) s ++ behind pdu s)
unfolding encoding
encoding-is R pdu s = refl

-- a refusal writes nothing
pub refused-keeps-output : (R : Reading) (pdu : RtrPdu) (s out : List ℕ) (k : ℕ) (values : List ℕ) → (encode R pdu s out).says ≡ refused k values → (encode R pdu s out).out ≡ out
unfolding encode
refused-keeps-output R pdu s out k values e = ap (λ (w : Writing). out_after w (encoding R pdu s) out) e

-- what is written is the encoding, and the bytes after it stay
pub written-is-encoding : (R : Reading) (pdu : RtrPdu) (s out : List ℕ) (n : ℕ) → (encode R pdu s out).says ≡ written n → (encode R pdu s out).out ≡ encoding R pdu s ++ drop n out
unfolding encode
written-is-encoding R pdu s out n e = ap (λ (w : Writing). out_after w (encoding R pdu s) out) e

checks-end : (b : Bool) (k : ℕ) (values : List ℕ) (next : Writing) (n : ℕ) → unless b k values next ≡ written n → next ≡ written n
checks-end true k values next n e = e
checks-end false k values next n e = cc

-- as many bytes are written as the encoding has by its picture
pub written-length : (R : Reading) (pdu : RtrPdu) (s out : List ℕ) (n : ℕ) → (encode R pdu s out).says ≡ written n → n ≡ encoded_length R pdu
unfolding encode encode_says
written-length R pdu s out n e =
    let last : written (encoded_length R pdu) ≡ written n =
    checks-end (leb (encoded_length R pdu) (length out)) 9 (encoded_length R pdu ∷ []) (written (encoded_length R pdu)) n
    (checks-end (leb (encoded_length R pdu) 4294967295) 10 [] _ n (checks-end (text_in pdu s) 8 _ _ n (checks-end (places_inside pdu s) 11 [] _ n e))) in
    cc

-- what is written of a query, by the room for it: 8 bytes, or 12
checked-last : (b : Bool) (n : ℕ) → unless b 9 (n ∷ []) (written n) ≡ cond b (written n) (refused 9 (n ∷ []))
checked-last true n = refl
checked-last false n = refl

pub reset-query-says : (R : Reading) (v : RtrProtocolVersion) (out : List ℕ) → (encode R (RtrPdu.ResetQuery (record { version = v })) [] out).says ≡ cond (leb 8 (length out)) (written 8) (refused 9 (8 ∷ []))
unfolding encode encode_says encoded_length
reset-query-says R v out = rw empty-is-well-formed (checked-last (leb 8 (length out)) 8)

pub serial-query-says : (R : Reading) (v : RtrProtocolVersion) (session serial : ℕ) (out : List ℕ) → (encode R (RtrPdu.SerialQuery (record { version = v; session_id = session; serial_number = serial })) [] out).says ≡ cond (leb 12 (length out)) (written 12) (refused 9 (12 ∷ []))
unfolding encode encode_says encoded_length
serial-query-says R v session serial out = rw empty-is-well-formed (checked-last (leb 12 (length out)) 12)

-- where something is written, a test before it holds
test-held : (b : Bool) (k : ℕ) (values : List ℕ) (next : Writing) (n : ℕ) → unless b k values next ≡ written n → (b ≡ true) × (next ≡ written n)
test-held true k values next n e = (refl, e)
test-held false k values next n e = absurd (let z : ◌≡◌ {A = ℕ} 0 1 = cc in omega arith)

-- what was written has its payloads in the slice, a text that is UTF-8, a length that fits 32 bits, and room in the output
pub written-tests
    : (R : Reading) (pdu : RtrPdu) (s out : List ℕ) (n : ℕ) →
    (encode R pdu s out).says ≡ written n →
    (places_inside pdu s ≡ true) × (text_in pdu s ≡ true) × (leb (encoded_length R pdu) 4294967295 ≡ true) × (leb (encoded_length R pdu) (length out) ≡ true)
unfolding encode encode_says
written-tests R pdu s out n e =
    let places = test-held (places_inside pdu s) 11 [] _ n e in
    let text = test-held (text_in pdu s) 8 _ _ n places.1 in
    let short = test-held (leb (encoded_length R pdu) 4294967295) 10 [] _ n text.1 in
    let room = test-held (leb (encoded_length R pdu) (length out)) 9 (encoded_length R pdu ∷ []) (written (encoded_length R pdu)) n short.1 in
    (places.0, text.0, short.0, room.0)

-- and what has all four is written
pub tests-write : (R : Reading) (pdu : RtrPdu) (s out : List ℕ) → places_inside pdu s ≡ true → text_in pdu s ≡ true → encoded_length R pdu ≤ 4294967295 → encoded_length R pdu ≤ length out
    → encode R pdu s out ≡ record { says = written (encoded_length R pdu); out = encoding R pdu s ++ drop (encoded_length R pdu) out }
unfolding encode encode_says
tests-write R pdu s out places text small room = simp (places, text, le-leb (encoded_length R pdu) 4294967295 small, le-leb (encoded_length R pdu) (length out) room)

-- a number's bytes: none, and one more, the number by 256 and the remainder behind it
pub bytes-none : (n : ℕ) → bytes_of 0 n ≡ []
unfolding bytes_of
bytes-none n = refl

pub bytes-more : (size n : ℕ) → bytes_of (suc size) n ≡ bytes_of size (n / 256) ++ (n % 256 ∷ [])
unfolding bytes_of
bytes-more size n = refl

-- as many bytes as asked for
pub bytes-long : (size n : ℕ) → length (bytes_of size n) ≡ size
unfolding bytes_of
bytes-long zero n = refl
bytes-long (suc size) n = length-append (bytes_of size (n / 256)) (n % 256 ∷ []) ∙ omega (arith, bytes-long size (n / 256))

-- a number that fits its bytes is read back from them
pub number-of-bytes : (size n : ℕ) (q : List ℕ) → n < 256 ^ size → number (bytes_of size n ++ q) 0 size ≡ n
unfolding bytes_of
number-of-bytes zero n q h = number-none q 0 ∙ omega arith
number-of-bytes (suc size) n q h =
    let h' : n < 256 ^ size * 256 = rw pow-suc at h in
    let e : bytes_of size (n / 256) ++ (n % 256 ∷ []) ++ q ≡ bytes_of size (n / 256) ++ (n % 256 ∷ q) = append_assoc (bytes_of size (n / 256)) (n % 256 ∷ []) q in
    let front : number (bytes_of size (n / 256) ++ (n % 256 ∷ q)) 0 size ≡ n / 256 = number-of-bytes size (n / 256) (n % 256 ∷ q) (omega arith) in
    let last : get_or (bytes_of size (n / 256) ++ (n % 256 ∷ q)) (0 + size) 0 ≡ n % 256 =
    get_or_at (bytes_of size (n / 256)) (n % 256) q 0 (0 + size) (omega (arith, bytes-long size (n / 256))) in
    ap (λ (l : List ℕ). number l 0 (suc size)) e ∙ number_more (bytes_of size (n / 256) ++ (n % 256 ∷ q)) 0 size ∙ rw (front, last) (omega arith)
