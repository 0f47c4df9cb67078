-- Encoding held to the RFCs' own pictures (specs/Rfc.antt). Every PDU in rule is written as its picture with the reserved fields zero, by every reading, but
-- for a Router Key by one that has the crate's arrangement of it (`encoder-writes-rfc`, `in-use-writes-rfc`). Kind by kind: what is written of a number that
-- fits is its field (Pictures). Assumes nothing.
use Rattle.std.specs.Prelude.{Option, Some, None}
use Prim.Native.Nat.{ℕ, ◌+◌, ◌≤◌, ◌<◌}
use mathlib.Core.Bool.{true, false}
use mathlib.Core.List.{List, [], ◌∷◌, ◌++◌, append_assoc, append-nil}
use mathlib.Core.Path.{◌≡◌, refl, sym, ap, ◌∙◌}
use native.Mathlib.Omega.{arith}
use borrow.Author.Tests.{eqb-true, leb-true}
use lib.Dec.{eqb}
use lib.ListN.{length, take, drop}
use Rattle.rtr_models.specs.Codes.{type_number}
use Rattle.rtr_models.specs.Values.{seconds_or, type_of}
use Rattle.rtr_models.specs.Parts.{inside, key_inside}
use Rattle.rtr_models.specs.declared.Place.{Place}
use Rattle.rtr_models.specs.declared.RtrProtocolVersion.{RtrProtocolVersion}
use Rattle.rtr_models.specs.declared.RtrProtocolVersion.TheVariants.{V0, V1}
use Rattle.rtr_models.specs.declared.RtrEndOfData.{RtrEndOfData}
use Rattle.rtr_models.specs.declared.RtrPdu.{RtrPdu}
use Rattle.rtr_models.specs.declared.RtrPdu.TheVariants.{SerialNotify, SerialQuery, ResetQuery, CacheResponse, IPv4Prefix, IPv6Prefix, EndOfData, CacheReset, RouterKey, ErrorReport}
use Rattle.rtr_codec.specs.Reading.{Reading, rfc, in_use}
use Rattle.rtr_codec.specs.Layout.{length_of, end_layout}
use Rattle.rtr_encode.specs.Encode.{bytes_of, field_bytes, given, end_values, encoded_length, encoding, encode}
use Rattle.rtr_encode.specs.Encode.Writing.{written}
use Rattle.rtr_encode.proofs.Laws.{encoded-length-is, encoding-is, tests-write}
use Rattle.rtr_round.specs.RoundTrip.{InRule, ValuesFit}
use Rattle.rtr_round.specs.Rfc.{bytes, router_key, version, code, named, seconds_of, end_sent, sent}
use Rattle.rtr_round.proofs.Bytes.{length_part}
use Rattle.rtr_round.proofs.Inside.{both_true}
use Rattle.rtr_round.proofs.Pictures.{written_8, written-16, written-32}
use Rattle.rtr_round.proofs.Rfc.{same_version, same_code}
use Rattle.rtr_round.proofs.RoundTrip.{length-encoding}

-- the RFCs' word for an interval that is not given is the table's
same-seconds : (default : ℕ) (i : Option ℕ) → seconds_or default i ≡ seconds_of default i
same-seconds default None = refl
same-seconds default (Some n) = refl

-- a Router Key's bytes, with its payloads at hand
key-joined : (flags asn whole : ℕ) (identifier info : List ℕ) → flags < 256 → asn < 4294967296 → whole ≡ 32 + length info → whole ≤ 4294967295
    → 1 ∷ 9 ∷ (bytes_of 1 flags ++ (0 ∷ (bytes_of 4 whole ++ (identifier ++ (bytes_of 4 asn ++ [])))) ++ info) ≡ bytes (router_key flags 0 identifier asn info)
key-joined flags asn whole identifier info f a l h =
    simp (l, written-32 (32 + length info) (omega arith), written_8 flags f, written-32 asn a, append_assoc, append-nil)

module _ (R : Reading) (s : List ℕ) where
  end-writes : (v : RtrProtocolVersion) (p : RtrEndOfData) (whole : ℕ) → whole ≡ length_of (end_layout v) + 0 → ValuesFit (end_layout v) (given (end_values v p))
      → version v ∷ 7 ∷ (field_bytes (end_layout v) whole (given (end_values v p)) s ++ []) ≡ bytes (end_sent v p)
  end-writes V0 p whole l fits =
      simp (l, written-16 p.session_id fits.0, written-32 12 (omega arith), written-32 p.serial_number fits.1.0)
  end-writes V1 p whole l fits =
      let a = written-32 (seconds_or 3600 p.refresh_interval) fits.1.1.0 in
      let b = written-32 (seconds_or 600 p.retry_interval) fits.1.1.1.0 in
      let c = written-32 (seconds_or 7200 p.expire_interval) fits.1.1.1.1.0 in
      simp (l, written-16 p.session_id fits.0, written-32 24 (omega arith), written-32 p.serial_number fits.1.0, a, b, c, same-seconds)

  writes : (pdu : RtrPdu) → InRule R pdu s → (eqb (type_number (type_of pdu)) 9 ≡ true → R.key_by_crate ≡ false) → encoding R pdu s ≡ sent pdu s
  unfolding sent
  writes (SerialNotify p) rule key =
      encoding-is R (SerialNotify p) s
      ∙ simp (encoded-length-is, same_version, written-16 p.session_id rule.fits.0, written-32 12 (omega arith), written-32 p.serial_number rule.fits.1.0)
  writes (SerialQuery p) rule key =
      encoding-is R (SerialQuery p) s
      ∙ simp (encoded-length-is, same_version, written-16 p.session_id rule.fits.0, written-32 12 (omega arith), written-32 p.serial_number rule.fits.1.0)
  writes (ResetQuery p) rule key = encoding-is R (ResetQuery p) s ∙ simp (encoded-length-is, same_version, written-32 8 (omega arith))
  writes (CacheResponse p) rule key =
      encoding-is R (CacheResponse p) s
      ∙ simp (encoded-length-is, same_version, written-16 p.session_id rule.fits.0, written-32 8 (omega arith))
  writes (IPv4Prefix p) rule key =
      let f = rule.fits in
      encoding-is R (IPv4Prefix p) s
      ∙ simp (
        encoded-length-is,
        same_version,
        written-32 20 (omega arith),
        written_8 p.flags f.0,
        written_8 p.prefix_length f.1.0,
        written_8 p.max_length f.1.1.0,
        written-32 p.prefix f.1.1.1.0,
        written-32 p.asn f.1.1.1.1.0,
      )
  writes (IPv6Prefix p) rule key =
      let f = rule.fits in
      let g = f.1.1.1 in
      encoding-is R (IPv6Prefix p) s
      ∙ simp (
        encoded-length-is,
        same_version,
        written-32 32 (omega arith),
        written_8 p.flags f.0,
        written_8 p.prefix_length f.1.0,
        written_8 p.max_length f.1.1.0,
        written-32 p.prefix.w0 g.0,
        written-32 p.prefix.w1 g.1.0,
        written-32 p.prefix.w2 g.1.1.0,
        written-32 p.prefix.w3 g.1.1.1.0,
        written-32 p.asn g.1.1.1.1.0,
      )
  writes (EndOfData p) rule key =
      encoding-is R (EndOfData p) s
      ∙ simp same_version (end-writes p.version p (encoded_length R (EndOfData p)) (encoded-length-is R (EndOfData p)) rule.fits)
  writes (CacheReset p) rule key = encoding-is R (CacheReset p) s ∙ simp (encoded-length-is, same_version, written-32 8 (omega arith))
  writes (RouterKey p) rule key =
      let k : Place = p.subject_key_identifier in
      let i : Place = p.subject_public_key_info in
      let picture : R.key_by_crate ≡ false = key refl in
      let v : p.version ≡ V1 = rule.kind in
      let outer = both_true (key_inside k s) (inside i s) rule.places in
      let inner = both_true (eqb k.len 20) (inside k s) outer.0 in
      let twenty : k.len ≡ 20 = eqb-true k.len 20 inner.0 in
      let long : length (named i s) ≡ i.len = length_part s i.start i.len (leb-true _ _ outer.1) in
      let whole : encoded_length R (RouterKey p) ≡ 32 + i.len = encoded-length-is R (RouterKey p) ∙ simp picture in
      let f = rw picture at rule.fits in
      encoding-is R (RouterKey p) s
      ∙ rw (whole, picture, v) (key-joined p.flags p.asn (32 + i.len) (take 20 (drop k.start s)) (named i s) f.0 f.1.0 (omega arith) (omega (arith, rule.short)))
      ∙ ap (λ (x : List ℕ). bytes (router_key p.flags 0 x p.asn (named i s))) (ap (λ (m : ℕ). take m (drop k.start s)) (sym twenty))
  writes (ErrorReport p) rule key =
      let c : Place = p.erroneous_pdu in
      let x : Place = p.error_text in
      let in-s = both_true (inside c s) (inside x s) rule.places in
      let long : length (named c s) ≡ c.len = length_part s c.start c.len (leb-true _ _ in-s.0) in
      let long' : length (named x s) ≡ x.len = length_part s x.start x.len (leb-true _ _ in-s.1) in
      let whole : encoded_length R (ErrorReport p) ≡ 16 + c.len + x.len = encoded-length-is R (ErrorReport p) ∙ omega arith in
      let f = rule.fits in
      encoding-is R (ErrorReport p) s
      ∙ simp (
        whole,
        same_version,
        same_code,
        long,
        long',
        written-32 (16 + c.len + x.len) (omega (arith, rule.short)),
        written-16 (code p.error_code) (rw same_code at f.0),
        written-32 c.len f.1.0,
        written-32 x.len (omega (arith, rule.short)),
        append_assoc,
        append-nil,
      )

-- every PDU in rule is written as the RFCs' picture of it, its reserved fields zero
pub encoder-writes-rfc : (pdu : RtrPdu) (s : List ℕ) → InRule rfc pdu s → encoding rfc pdu s ≡ sent pdu s
encoder-writes-rfc pdu s rule = writes rfc s pdu rule (λ _. refl)

-- and so by the reading in use, but for a Router Key
pub in-use-writes-rfc : (pdu : RtrPdu) (s : List ℕ) → InRule in_use pdu s → eqb (type_number (type_of pdu)) 9 ≡ false → encoding in_use pdu s ≡ sent pdu s
in-use-writes-rfc pdu s rule other = writes in_use s pdu rule (λ e. absurd (let z : ◌≡◌ {A = ℕ} 0 1 = cc in omega arith))

-- where the output has room for it, the answer is its length and the output begins with it
module _ (R : Reading) (pdu : RtrPdu) (s out : List ℕ) (rule : InRule R pdu s) (is : encoding R pdu s ≡ sent pdu s) (room : length (sent pdu s) ≤ length out) where
  written_out : encode R pdu s out ≡ record { says = written (length (sent pdu s)); out = sent pdu s ++ drop (length (sent pdu s)) out }
  written_out =
      let long : encoded_length R pdu ≡ length (sent pdu s) = sym (length-encoding R pdu s rule.places) ∙ ap length is in
      tests-write R pdu s out rule.places rule.text rule.short (omega arith) ∙ simp (long, is)

pub rfc-written : (pdu : RtrPdu) (s out : List ℕ) → InRule rfc pdu s → length (sent pdu s) ≤ length out
    → encode rfc pdu s out ≡ record { says = written (length (sent pdu s)); out = sent pdu s ++ drop (length (sent pdu s)) out }
rfc-written pdu s out rule room = written_out rfc pdu s out rule (encoder-writes-rfc pdu s rule) room

pub in-use-written : (pdu : RtrPdu) (s out : List ℕ) → InRule in_use pdu s → eqb (type_number (type_of pdu)) 9 ≡ false → length (sent pdu s) ≤ length out
    → encode in_use pdu s out ≡ record { says = written (length (sent pdu s)); out = sent pdu s ++ drop (length (sent pdu s)) out }
in-use-written pdu s out rule other room = written_out in_use pdu s out rule (in-use-writes-rfc pdu s rule other) room
