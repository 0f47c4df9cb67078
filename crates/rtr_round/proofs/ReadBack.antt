-- A list `E` whose header's length, values and payloads are those of a PDU in rule has that PDU standing in it (`Stands` of rtr_codec), its payloads by their places in E: each kind's checks hold by what the PDU's rules say, and the
-- values that stand there are the PDU's. Assumes nothing.
use Rattle.std.specs.Prelude.{Some}
use Prim.Native.Nat.{ℕ, ◌+◌, ◌-◌, ◌≤◌}
use mathlib.Core.Bool.{Bool, true, false}
use mathlib.Core.List.{List, ◌++◌, append_assoc}
use mathlib.Core.Path.{◌≡◌, refl, sym, ap, ◌∙◌}
use native.Mathlib.Omega.{arith}
use borrow.Author.Tests.{leb-true, eq-eqb, le-leb}
use lib.ListN.{length, take, drop, length-append}
use lib.Seq.{take_all, drop_at}
use Rattle.rtr_models.specs.Codes.{code_number}
use Rattle.rtr_models.specs.Parts.{inside}
use Rattle.rtr_models.specs.Values.{type_of, version_of}
use Rattle.rtr_models.specs.declared.RtrProtocolVersion.{RtrProtocolVersion}
use Rattle.rtr_models.specs.declared.RtrProtocolVersion.TheVariants.{V0, V1}
use Rattle.rtr_models.specs.declared.RtrEndOfData.{RtrEndOfData}
use Rattle.rtr_models.specs.declared.RtrRouterKey.{RtrRouterKey}
use Rattle.rtr_models.specs.declared.RtrErrorReport.{RtrErrorReport}
use Rattle.rtr_models.specs.declared.RtrPdu.{RtrPdu}
use Rattle.rtr_models.specs.declared.RtrPdu.TheVariants.{SerialNotify, SerialQuery, ResetQuery, CacheResponse, IPv4Prefix, IPv6Prefix, EndOfData, CacheReset, RouterKey, ErrorReport}
use Rattle.rtr_codec.specs.Bytes.{number}
use Rattle.rtr_codec.specs.Reading.{Reading}
use Rattle.rtr_codec.specs.Layout.{length_of, place, place_of, end_layout}
use Rattle.rtr_codec.specs.Layout.Label.{key_identifier}
use Rattle.rtr_codec.specs.Read.{ends, header_length, key_fields}
use Rattle.rtr_codec.specs.Stands.{EndStands, KeyStands, KindStands}
use Rattle.rtr_encode.specs.Encode.{at, bytes_of, layout_of, given, end_values, values_in, behind, behind_length}
use Rattle.rtr_round.specs.RoundTrip.{InRule, end_back, read_back}
use Rattle.rtr_round.proofs.Bytes.{length-bytes, length_part}
use Rattle.rtr_round.proofs.Inside.{both_true}
use Rattle.rtr_round.proofs.Written.{Valued, number-written}

-- a text that ends with the PDU ends in rule
ends-exactly : (b : Bool) (x h : ℕ) → x ≡ h → ends b x h ≡ true
ends-exactly true x h e = le-leb x h (omega arith)
ends-exactly false x h e = eq-eqb x h e

-- a PDU's reading back has its version and its type
end-version : (v : RtrProtocolVersion) (p : RtrEndOfData) → (end_back v p).version ≡ v
end-version V0 p = refl
end-version V1 p = refl

pub back_head : (R : Reading) (pdu : RtrPdu) → (version_of (read_back R pdu) ≡ version_of pdu) × (type_of (read_back R pdu) ≡ type_of pdu)
back_head R (SerialNotify p) = (refl, refl)
back_head R (SerialQuery p) = (refl, refl)
back_head R (ResetQuery p) = (refl, refl)
back_head R (CacheResponse p) = (refl, refl)
back_head R (IPv4Prefix p) = (refl, refl)
back_head R (IPv6Prefix p) = (refl, refl)
back_head R (EndOfData p) = (end-version p.version p, refl)
back_head R (CacheReset p) = (refl, refl)
back_head R (RouterKey p) = (refl, refl)
back_head R (ErrorReport p) = (refl, refl)

module _ (R : Reading) (E : List ℕ) where
  end_back_lem : (v : RtrProtocolVersion) (p : RtrEndOfData) → header_length E ≡ length_of (end_layout v) + 0 → Valued 2 (end_layout v) (given (end_values v p)) E
      → EndStands (end_back v p).version (end_back v p) E
  end_back_lem V0 p h e = (h, e.0, e.1.0, refl, refl, refl)
  end_back_lem V1 p h e = (h, e.0, e.1.0, ap Some e.1.1.0, ap Some e.1.1.1.0, ap Some e.1.1.1.1.0)

  -- a Router Key with its identifier and its info where the encoding has them
  abbrev key_back : Bool → RtrRouterKey → RtrRouterKey
  key_back b p =
      record { version = p.version; flags = p.flags; subject_key_identifier = place_of (key_fields b) key_identifier; asn = p.asn; subject_public_key_info = place (length_of (key_fields b)) p.subject_public_key_info.len }

  key_back_lem : (b : Bool) (p : RtrRouterKey) → header_length E ≡ length_of (key_fields b) + p.subject_public_key_info.len
      → Valued 2 (key_fields b) (given (values_in (RouterKey p))) E → KeyStands b (key_back b p) E
  key_back_lem true p h e =
      let rest : header_length E - 34 ≡ p.subject_public_key_info.len = omega arith in
      (omega arith, e.0, refl, e.1.0, ap (place 34) rest)
  key_back_lem false p h e =
      let rest : header_length E - 32 ≡ p.subject_public_key_info.len = omega arith in
      (omega arith, e.0, refl, e.1.0, ap (place 32) rest)

  -- a report's copy stands behind its picture, and its text behind its length
  report-back : (p : RtrErrorReport) (s front : List ℕ) → InRule R (ErrorReport p) s → 16 + p.erroneous_pdu.len + p.error_text.len ≤ 4294967295
      → header_length E ≡ 12 + (p.erroneous_pdu.len + 4 + p.error_text.len) → number E 2 2 ≡ code_number p.error_code → number E 8 4 ≡ p.erroneous_pdu.len → length front ≡ 12 → E ≡ front ++ behind (ErrorReport p) s
      → KindStands R E (read_back R (ErrorReport p))
  report-back p s front rule short h c a l q =
      let n : ℕ = p.erroneous_pdu.len in
      let m : ℕ = p.error_text.len in
      let copy : List ℕ = at p.erroneous_pdu s in
      let text : List ℕ = at p.error_text s in
      let inside = both_true (inside p.erroneous_pdu s) (inside p.error_text s) rule.places in
      let long : length copy ≡ n = length_part s p.erroneous_pdu.start n (leb-true _ _ inside.0) in
      let long' : length text ≡ m = length_part s p.error_text.start m (leb-true _ _ inside.1) in
      let second : E ≡ front ++ copy ++ (bytes_of 4 m ++ text) = q ∙ simp append_assoc in
      let third : E ≡ front ++ copy ++ bytes_of 4 m ++ text = q ∙ simp append_assoc in
      let b : number E (12 + n) 4 ≡ m =
      rw second
      (number-written (front ++ copy) text (12 + n) 4 m (simp length-append (omega arith)) (omega arith)) in
      let d : take m (drop (16 + n) E) ≡ text =
      ap (λ (z : List ℕ). take m (drop (16 + n) z)) third
      ∙ ap (take m) (drop_at (front ++ copy ++ bytes_of 4 m) text (16 + n) (simp (length-append, length-bytes) (omega arith)))
      ∙ take_all m text (omega arith) in
      rw (a, b) (c, rw c rule.kind, refl, refl, ends-exactly R.bytes_behind_text (16 + n + m) (header_length E) (omega arith), rw d rule.text)

  pub as-back : (pdu : RtrPdu) (s front : List ℕ) → InRule R pdu s → length_of (layout_of R pdu) + behind_length pdu ≤ 4294967295 → header_length E ≡ length_of (layout_of R pdu) + behind_length pdu
      → Valued 2 (layout_of R pdu) (given (values_in pdu)) E → length front ≡ length_of (layout_of R pdu) → E ≡ front ++ behind pdu s
      → KindStands R E (read_back R pdu)
  as-back (SerialNotify p) s front rule short h e l q = (h, e.0, e.1.0)
  as-back (SerialQuery p) s front rule short h e l q = (h, e.0, e.1.0)
  as-back (ResetQuery p) s front rule short h e l q = h
  as-back (CacheResponse p) s front rule short h e l q = (h, e.0)
  as-back (IPv4Prefix p) s front rule short h e l q =
      let word = e.1.1.1 in
      (h, e.0, e.1.0, e.1.1.0, word.0, word.1.0, rule.kind.0, rule.kind.1)
  as-back (IPv6Prefix p) s front rule short h e l q =
      let word = e.1.1.1 in
      (h, e.0, e.1.0, e.1.1.0, word.0, word.1.0, word.1.1.0, word.1.1.1.0, word.1.1.1.1.0, rule.kind.0, rule.kind.1)
  as-back (EndOfData p) s front rule short h e l q = end_back_lem p.version p h e
  as-back (CacheReset p) s front rule short h e l q = h
  as-back (RouterKey p) s front rule short h e l q = (sym rule.kind, key_back_lem R.key_by_crate p h e)
  as-back (ErrorReport p) s front rule short h e l q = report-back p s front rule (omega arith) h e.0 e.1.0 l q
