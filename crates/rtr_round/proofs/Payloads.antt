-- Each payload of a PDU in rule is read back as the bytes that it was: what stands at its place in the encoding is what stood at its place
-- in the slice. A key identifier stands among the fixed fields; a key's info, and a report's copy and text, stand behind them (`behind`),
-- whose length is that of their picture. And of a PDU that was read the payloads are the bytes that its picture has for them, so that none is forgotten
-- (`payloads-read`). Assumes nothing.
use Prim.Native.Nat.{ℕ, ◌+◌, ◌-◌, ◌≤◌}
use mathlib.Core.Bool.{Bool, true, false, cond}
use mathlib.Core.List.{List, [], ◌∷◌, ◌++◌, append_assoc}
use mathlib.Core.Path.{◌≡◌, refl, sym, ap, ◌∙◌}
use native.Mathlib.Omega.{arith}
use borrow.Author.Tests.{leb-true, eqb-true}
use lib.Dec.{eqb}
use lib.ListN.{length, take, drop, length-append}
use lib.Seq.{take_at, drop_at}
use Rattle.rtr_models.specs.Parts.{inside, key_inside}
use Rattle.rtr_models.specs.declared.Place.{Place}
use Rattle.rtr_models.specs.declared.RtrRouterKey.{RtrRouterKey}
use Rattle.rtr_models.specs.declared.RtrErrorReport.{RtrErrorReport}
use Rattle.rtr_models.specs.Codes.{version_number, type_number}
use Rattle.rtr_models.specs.Values.{type_of, version_of}
use Rattle.rtr_models.specs.declared.RtrPdu.{RtrPdu}
use Rattle.rtr_models.specs.declared.RtrPdu.TheVariants.{SerialNotify, SerialQuery, ResetQuery, CacheResponse, IPv4Prefix, IPv6Prefix, EndOfData, CacheReset, RouterKey, ErrorReport}
use Rattle.rtr_codec.specs.Reading.{Reading}
use Rattle.rtr_codec.specs.Layout.{Label, length_of, place_of}
use Rattle.rtr_codec.specs.Layout.Label.{flags, as_number, key_identifier}
use Rattle.rtr_codec.specs.Bytes.{number}
use Rattle.rtr_codec.specs.Read.{header_length, key_fields, read}
use Rattle.rtr_codec.specs.Read.Verdict.{accepted}
use Rattle.rtr_codec.specs.Stands.{KeyStands, KindStands, Stands}
use Rattle.rtr_codec.proofs.Exactly.{stands_read}
use Rattle.rtr_encode.specs.Encode.{at, bytes_of, field_bytes, layout_of, given, values_in, encoded_length, encoding}
use Rattle.rtr_encode.proofs.Laws.{encoding-is}
use Rattle.rtr_round.specs.RoundTrip.{InRule, read_back, payloads_of, payloads_at}
use Rattle.rtr_round.proofs.Bytes.{length-bytes, length_part}
use Rattle.rtr_round.proofs.Fields.{length_fields}
use Rattle.rtr_round.proofs.Inside.{both_true, payloads-inside}
use Rattle.rtr_round.proofs.RoundTrip.{read-of-encode}

-- the w bytes x behind n others are what stands there
part_at : (p x q : List ℕ) (n w : ℕ) → length p ≡ n → length x ≡ w → take w (drop n (p ++ (x ++ q))) ≡ x
part_at p x q n w e f = ap (take w) (drop_at p (x ++ q) n e) ∙ take_at x q w f

-- a key identifier stands at its byte, in either arrangement
identifier-written : (by_crate : Bool) (v whole : ℕ) (values : Label → ℕ) (s q : List ℕ) → values key_identifier + 20 ≤ length s
    → at (place_of (key_fields by_crate) key_identifier) (v ∷ 9 ∷ (field_bytes (key_fields by_crate) whole values s ++ q)) ≡ take 20 (drop (values key_identifier) s)
identifier-written true v whole values s q h =
    let x : List ℕ = take 20 (drop (values key_identifier) s) in
    let front : List ℕ = v ∷ 9 ∷ 0 ∷ 0 ∷ (bytes_of 4 whole ++ bytes_of 1 (values flags) ++ (0 ∷ [])) in
    let long : length front ≡ 10 = simp (length-append, length-bytes) in
    let joined : v ∷ 9 ∷ (field_bytes (key_fields true) whole values s ++ q) ≡ front ++ (x ++ (bytes_of 4 (values as_number) ++ q)) = simp append_assoc in
    ap (λ (l : List ℕ). take 20 (drop 10 l)) joined ∙ part_at front x (bytes_of 4 (values as_number) ++ q) 10 20 long (length_part s (values key_identifier) 20 h)
identifier-written false v whole values s q h =
    let x : List ℕ = take 20 (drop (values key_identifier) s) in
    let front : List ℕ = v ∷ 9 ∷ (bytes_of 1 (values flags) ++ (0 ∷ []) ++ bytes_of 4 whole) in
    let long : length front ≡ 8 = simp (length-append, length-bytes) in
    let joined : v ∷ 9 ∷ (field_bytes (key_fields false) whole values s ++ q) ≡ front ++ (x ++ (bytes_of 4 (values as_number) ++ q)) = simp append_assoc in
    ap (λ (l : List ℕ). take 20 (drop 8 l)) joined ∙ part_at front x (bytes_of 4 (values as_number) ++ q) 8 20 long (length_part s (values key_identifier) 20 h)

-- the bytes before what follows the fixed fields
abbrev front_bytes : Reading → RtrPdu → List ℕ → List ℕ
front_bytes R pdu s = version_number (version_of pdu) ∷ type_number (type_of pdu) ∷ field_bytes (layout_of R pdu) (encoded_length R pdu) (given (values_in pdu)) s

module _ (R : Reading) (s rest : List ℕ) where
  length_front : (pdu : RtrPdu) → InRule R pdu s → length (front_bytes R pdu s) ≡ length_of (layout_of R pdu)
  length_front pdu rule = omega (arith, length_fields s (layout_of R pdu) (encoded_length R pdu) (given (values_in pdu)) (payloads-inside R pdu s rule.places))

  key-payloads-back : (p : RtrRouterKey) → InRule R (RouterKey p) s
      → payloads_of (read_back R (RouterKey p)) (encoding R (RouterKey p) s ++ rest) ≡ payloads_of (RouterKey p) s
  key-payloads-back p rule =
      let k : Place = p.subject_key_identifier in
      let i : Place = p.subject_public_key_info in
      let front : List ℕ = front_bytes R (RouterKey p) s in
      let outer = both_true (key_inside k s) (inside i s) rule.places in
      let inner = both_true (eqb k.len 20) (inside k s) outer.0 in
      let twenty : k.len ≡ 20 = eqb-true k.len 20 inner.0 in
      let room : k.start + 20 ≤ length s = omega (arith, leb-true (k.start + k.len) (length s) inner.1) in
      let joined : encoding R (RouterKey p) s ++ rest ≡ front ++ (at i s ++ rest) = ap (λ (l : List ℕ). l ++ rest) (encoding-is R (RouterKey p) s) ∙ append_assoc front (at i s) rest in
      let first : at (place_of (key_fields R.key_by_crate) key_identifier) (front ++ (at i s ++ rest)) ≡ take 20 (drop k.start s) =
      identifier-written R.key_by_crate (version_number p.version) (encoded_length R (RouterKey p)) (given (values_in (RouterKey p))) s (at i s ++ rest) room in
      let second : take i.len (drop (length_of (key_fields R.key_by_crate)) (front ++ (at i s ++ rest))) ≡ at i s =
      part_at front (at i s) rest (length_of (key_fields R.key_by_crate)) i.len (length_front (RouterKey p) rule)
      (length_part s i.start i.len (leb-true (i.start + i.len) (length s) outer.1)) in
      cc

  report-payloads-back : (p : RtrErrorReport) → InRule R (ErrorReport p) s
      → payloads_of (read_back R (ErrorReport p)) (encoding R (ErrorReport p) s ++ rest) ≡ payloads_of (ErrorReport p) s
  report-payloads-back p rule =
      let c : Place = p.erroneous_pdu in
      let x : Place = p.error_text in
      let n : ℕ = c.len in
      let m : ℕ = x.len in
      let front : List ℕ = front_bytes R (ErrorReport p) s in
      let inside = both_true (inside c s) (inside x s) rule.places in
      let long : length (at c s) ≡ n = length_part s c.start n (leb-true _ _ inside.0) in
      let long' : length (at x s) ≡ m = length_part s x.start m (leb-true _ _ inside.1) in
      let twelve : length front ≡ 12 = length_front (ErrorReport p) rule in
      let joined : encoding R (ErrorReport p) s ++ rest ≡ front ++ (at c s ++ (bytes_of 4 m ++ at x s ++ rest)) = rw (encoding-is R (ErrorReport p) s) (simp append_assoc) in
      let joined' : encoding R (ErrorReport p) s ++ rest ≡ front ++ at c s ++ bytes_of 4 m ++ (at x s ++ rest) = rw (encoding-is R (ErrorReport p) s) (simp append_assoc) in
      let copy = part_at front (at c s) (bytes_of 4 m ++ at x s ++ rest) 12 n twelve long in
      let text = part_at (front ++ at c s ++ bytes_of 4 m) (at x s) rest (16 + n) m
      (length-append (front ++ at c s) (bytes_of 4 m)
      ∙ omega (arith, length-bytes 4 m, length-append front (at c s))) long' in
      cc

-- each payload of a PDU in rule is, at its place in the encoding, the bytes that it was in s, whatever follows the encoding
pub payloads-back : (R : Reading) (pdu : RtrPdu) (s rest : List ℕ) → InRule R pdu s
    → payloads_of (read_back R pdu) (encoding R pdu s ++ rest) ≡ payloads_of pdu s
payloads-back R (SerialNotify p) s rest rule = refl
payloads-back R (SerialQuery p) s rest rule = refl
payloads-back R (ResetQuery p) s rest rule = refl
payloads-back R (CacheResponse p) s rest rule = refl
payloads-back R (IPv4Prefix p) s rest rule = refl
payloads-back R (IPv6Prefix p) s rest rule = refl
payloads-back R (EndOfData p) s rest rule = refl
payloads-back R (CacheReset p) s rest rule = refl
payloads-back R (RouterKey p) s rest rule = key-payloads-back R s rest p rule
payloads-back R (ErrorReport p) s rest rule = report-payloads-back R s rest p rule

-- ---- Of a PDU that was read, the payloads are the bytes of its picture that are payloads: no payload of any kind is forgotten
module _ (R : Reading) (s : List ℕ) (n : ℕ) where
  key-payloads : (b : Bool) (p : RtrRouterKey) → n ≡ header_length s → KeyStands b p s
      → payloads_of (RouterKey p) s ≡ cond b (take 20 (drop 10 s) ∷ take (n - 34) (drop 34 s) ∷ []) (take 20 (drop 8 s) ∷ take (n - 32) (drop 32 s) ∷ [])
  key-payloads true p h k = cc (ap (λ (q : Place). at q s) (sym k.2), ap (λ (q : Place). at q s) (sym k.4), h)
  key-payloads false p h k = cc (ap (λ (q : Place). at q s) (sym k.2), ap (λ (q : Place). at q s) (sym k.4), h)

  stand-payloads : (pdu : RtrPdu) → n ≡ header_length s → number s 1 1 ≡ type_number (type_of pdu) → KindStands R s pdu → payloads_of pdu s ≡ payloads_at R n s
  stand-payloads (SerialNotify p) h t k = simp t
  stand-payloads (SerialQuery p) h t k = simp t
  stand-payloads (ResetQuery p) h t k = simp t
  stand-payloads (CacheResponse p) h t k = simp t
  stand-payloads (IPv4Prefix p) h t k = simp t
  stand-payloads (IPv6Prefix p) h t k = simp t
  stand-payloads (EndOfData p) h t k = simp t
  stand-payloads (CacheReset p) h t k = simp t
  stand-payloads (RouterKey p) h t k = simp t (key-payloads R.key_by_crate p h k.1)
  stand-payloads (ErrorReport p) h t k = simp t (cc (ap (λ (q : Place). at q s) (sym k.2), ap (λ (q : Place). at q s) (sym k.3)))

pub payloads-read : (R : Reading) (s : List ℕ) (pdu : RtrPdu) (n : ℕ) → read R s ≡ accepted pdu n → payloads_of pdu s ≡ payloads_at R n s
payloads-read R s pdu n e =
    let k : Stands R s pdu n = stands_read R s pdu n e in
    stand-payloads R s n pdu k.total k.type k.kind

-- and those of a PDU in rule are the payloads of its encoding, whatever follows
pub payloads-sent : (R : Reading) (pdu : RtrPdu) (s rest : List ℕ) → InRule R pdu s → payloads_of pdu s ≡ payloads_at R (encoded_length R pdu) (encoding R pdu s ++ rest)
payloads-sent R pdu s rest rule =
    sym (payloads-back R pdu s rest rule)
    ∙ payloads-read R (encoding R pdu s ++ rest) (read_back R pdu) (encoded_length R pdu) (read-of-encode R pdu s rest rule)
