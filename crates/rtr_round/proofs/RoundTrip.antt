-- Encoding what was read gives back the bytes that were read, exactly if the ignored bytes are zero and nothing follows an Error Report's
-- text; and the encoder accepts whatever was read. Of a PDU that was read (`Found`), the first two bytes and what follows the fixed fields
-- are written as they stood; the fixed fields are too, exactly if the ignored ones are zero (`fields_back`); and the encoding is as long as
-- the PDU read exactly if nothing follows the text.
-- Reading what was encoded gives back the PDU, its payloads where the encoding has them: of the encoding, the header's length is its own
-- (`total-written`) and the values are the PDU's (`values-written`), so each kind stands there as itself (`as-back`).
-- Assumes nothing.
use Prim.Native.Nat.{ℕ, ◌+◌, ◌≤◌}
use mathlib.Core.Bool.{true, false}
use mathlib.Core.List.{List, [], ◌∷◌, ◌++◌}
use mathlib.Core.Logic.{◌↔◌}
use mathlib.Core.Path.{◌≡◌, refl, sym, ap, ◌∙◌}
use native.Mathlib.Omega.{arith}
use lib.ListN.{length, get_or, take, drop, length-append}
use lib.Seq.{length-take-le, take-add}
use Rattle.rtr_models.specs.Codes.{version_number, type_number}
use Rattle.rtr_models.specs.Values.{type_of, version_of}
use Rattle.rtr_models.specs.declared.RtrPdu.{RtrPdu}
use Rattle.rtr_codec.specs.Bytes.{number}
use Rattle.rtr_codec.specs.Reading.{Reading}
use Rattle.rtr_codec.specs.Layout.{widths, length_of}
use Rattle.rtr_codec.specs.Read.{header_length, read, needed}
use Rattle.rtr_codec.specs.Read.Verdict.{accepted}
use Rattle.rtr_codec.proofs.Laws.{header_is, needed-large, read-consumes, read_behind}
use Rattle.rtr_codec.proofs.Exactly.{reads-standing}
use Rattle.rtr_encode.specs.Encode.{field_bytes, layout_of, given, values_in, behind, behind_length, encoded_length, encoding, places_inside, text_in, encode}
use Rattle.rtr_encode.specs.Encode.Writing.{written}
use Rattle.rtr_encode.proofs.Laws.{encoded-length-is, encoding-is, tests-write}
use Rattle.rtr_round.specs.RoundTrip.{Bytes, IgnoredZero, NothingBehind, InRule, read_back}
use Rattle.rtr_round.proofs.Bytes.{byte_at, four-bytes-fit, append-same, length_part}
use Rattle.rtr_round.proofs.Fields.{total-at-4, fields-long, length_fields, fields_back}
use Rattle.rtr_round.proofs.Inside.{payloads-inside, length-behind}
use Rattle.rtr_round.proofs.Accepted.{Found, accepted-found}
use Rattle.rtr_round.proofs.Written.{Valued, values-written, total-written}
use Rattle.rtr_round.proofs.ReadBack.{back_head, as-back}

first_two : (s : List ℕ) → 2 ≤ length s → take 2 s ≡ number s 0 1 ∷ number s 1 1 ∷ []
first_two [] h = absurd (omega arith)
first_two (a ∷ []) h = absurd (omega arith)
first_two (a ∷ b ∷ s) h = simp byte_at

-- the fixed fields as they are written
abbrev fixed_bytes : Reading → RtrPdu → List ℕ → List ℕ
fixed_bytes R pdu s = field_bytes (layout_of R pdu) (encoded_length R pdu) (given (values_in pdu)) s

-- and as they stand
abbrev fixed_part : Reading → RtrPdu → List ℕ → List ℕ
fixed_part R pdu s = take (widths (layout_of R pdu)) (drop 2 s)

-- as many bytes behind them as are written there
abbrev rest_part : Reading → RtrPdu → List ℕ → List ℕ
rest_part R pdu s = take (behind_length pdu) (drop (length_of (layout_of R pdu)) s)

module _ (R : Reading) (pdu : RtrPdu) (s : List ℕ) (places : places_inside pdu s ≡ true) where
  length-fixed : length (fixed_bytes R pdu s) ≡ widths (layout_of R pdu)
  length-fixed = length_fields s (layout_of R pdu) (encoded_length R pdu) (given (values_in pdu)) (payloads-inside R pdu s places)

  pub length-encoding : length (encoding R pdu s) ≡ encoded_length R pdu
  length-encoding =
      ap length (encoding-is R pdu s) ∙ simp length-append (omega (arith, encoded-length-is R pdu, length-fixed, length-behind pdu s places))

module _ (R : Reading) (s : List ℕ) (pdu : RtrPdu) (n : ℕ) (found : Found R s pdu n) (large : 8 ≤ n) (inside : n ≤ length s) where
  fixed-inside : 2 + widths (layout_of R pdu) ≤ length s
  fixed-inside = omega (arith, encoded-length-is R pdu, found.fits)

  front-split : take (encoded_length R pdu) s ≡ take 2 s ++ fixed_part R pdu s ++ rest_part R pdu s
  front-split =
      ap (λ (k : ℕ). take k s) (encoded-length-is R pdu)
      ∙ take-add (length_of (layout_of R pdu)) (behind_length pdu) s
      ∙ ap (λ (l : List ℕ). l ++ rest_part R pdu s) (take-add 2 (widths (layout_of R pdu)) s)

  -- all but the fixed fields is written as it stood
  fixed-decide : (encoding R pdu s ≡ take (encoded_length R pdu) s) ↔ (fixed_bytes R pdu s ≡ fixed_part R pdu s)
  fixed-decide =
      let head : List ℕ = version_number (version_of pdu) ∷ type_number (type_of pdu) ∷ [] in
      let same : head ≡ take 2 s = cc (first_two s (omega arith), found.version, found.type) in
      let long : length (fixed_part R pdu s) ≡ widths (layout_of R pdu) = length_part s 2 (widths (layout_of R pdu)) fixed-inside in
      let two : length (take 2 s) ≡ 2 = length-take-le 2 s (omega arith) in
      let outer = append-same (head ++ fixed_bytes R pdu s) (behind pdu s) (take 2 s ++ fixed_part R pdu s) (rest_part R pdu s)
      (simp length-append (omega (arith, length-fixed R pdu s found.places))) in
      let inner = append-same head (fixed_bytes R pdu s) (take 2 s) (fixed_part R pdu s) (sym two) in
      let is : encoding R pdu s ≡ head ++ fixed_bytes R pdu s ++ behind pdu s = encoding-is R pdu s in
      (λ q. (inner.0 (outer.0 (sym is ∙ q ∙ front-split)).0).1, λ q. is ∙ outer.1 (inner.1 (same, q), found.rest) ∙ sym front-split)

-- encoding what was read gives back its bytes exactly if the ignored ones are zero and nothing follows an Error Report's text
pub encode-of-read : (R : Reading) (s : List ℕ) (pdu : RtrPdu) (n : ℕ) → Bytes s → read R s ≡ accepted pdu n
    → (encoding R pdu s ≡ take n s) ↔ (IgnoredZero 2 (layout_of R pdu) s × NothingBehind pdu n)
encode-of-read R s pdu n bs e =
    let found : Found R s pdu n = accepted-found R s pdu n bs e in
    let c : (n ≡ header_length s) × (8 ≤ n) × (n ≤ length s) = read-consumes R s pdu n e in
    let decide = fixed-decide R s pdu n found c.1 c.2 in
    let back = fields_back s bs false 2 (layout_of R pdu) (given (values_in pdu)) found.values (fixed-inside R s pdu n found c.1 c.2) (total-at-4 R pdu) in
    let fixed : encoded_length R pdu ≡ n → fixed_bytes R pdu s ≡ field_bytes (layout_of R pdu) (header_length s) (given (values_in pdu)) s =
    λ m. cc (m, c.0) in (
      λ q.
          let m : encoded_length R pdu ≡ n = sym (length-encoding R pdu s found.places) ∙ ap length q ∙ length-take-le n s c.2 in
          (back.0 (sym (fixed m) ∙ decide.0 (q ∙ ap (λ (k : ℕ). take k s) (sym m))), found.last.0 m),
      λ z.
          let m : encoded_length R pdu ≡ n = found.last.1 z.1 in
          decide.1 (fixed m ∙ back.1 z.0) ∙ ap (λ (k : ℕ). take k s) m,
    )

-- every payload of a PDU that was read lies in the slice that it was read from, and its text is UTF-8
pub read-places-inside : (R : Reading) (s : List ℕ) (pdu : RtrPdu) (n : ℕ) → Bytes s → read R s ≡ accepted pdu n → (places_inside pdu s ≡ true) × (text_in pdu s ≡ true)
read-places-inside R s pdu n bs e = ((accepted-found R s pdu n bs e).places, (accepted-found R s pdu n bs e).text)

-- its encoding is no longer than what was read, and fits 32 bits
pub read_fits : (R : Reading) (s : List ℕ) (pdu : RtrPdu) (n : ℕ) → Bytes s → read R s ≡ accepted pdu n → (encoded_length R pdu ≤ n) × (encoded_length R pdu ≤ 4294967295)
read_fits R s pdu n bs e =
    let found : Found R s pdu n = accepted-found R s pdu n bs e in
    (found.fits, omega (arith, four-bytes-fit s bs 4, header_is s, found.fits, (read-consumes R s pdu n e).0))

-- what was read is encoded: its payloads lie in the slice, its text is UTF-8, and its length fits 32 bits
pub encode-accepts-read : (R : Reading) (s : List ℕ) (pdu : RtrPdu) (n : ℕ) → Bytes s → read R s ≡ accepted pdu n
    → (out : List ℕ) → encoded_length R pdu ≤ length out
    → encode R pdu s out ≡ record { says = written (encoded_length R pdu); out = encoding R pdu s ++ drop (encoded_length R pdu) out }
encode-accepts-read R s pdu n bs e out room =
    let found : Found R s pdu n = accepted-found R s pdu n bs e in
    let c : (n ≡ header_length s) × (8 ≤ n) × (n ≤ length s) = read-consumes R s pdu n e in
    let small : encoded_length R pdu ≤ 4294967295 = omega (arith, four-bytes-fit s bs 4, header_is s, found.fits) in
    tests-write R pdu s out found.places found.text small room

module _ (R : Reading) (pdu : RtrPdu) (s : List ℕ) (rule : InRule R pdu s) where
  length-written : length (encoding R pdu s) ≡ encoded_length R pdu
  length-written = length-encoding R pdu s rule.places

  large-written : 8 ≤ encoded_length R pdu
  large-written = omega (arith, encoded-length-is R pdu, fields-long 2 (layout_of R pdu) (total-at-4 R pdu))

  header-written : header_length (encoding R pdu s) ≡ encoded_length R pdu
  header-written =
      header_is (encoding R pdu s)
      ∙ total-written s (encoding R pdu s) (behind pdu s) (encoded_length R pdu) (layout_of R pdu) 2 (given (values_in pdu))
      (version_number (version_of pdu) ∷ type_number (type_of pdu) ∷ []) (payloads-inside R pdu s rule.places) (total-at-4 R pdu) rule.short refl (encoding-is R pdu s)

  values-back : Valued 2 (layout_of R pdu) (given (values_in pdu)) (encoding R pdu s)
  values-back =
      values-written s (encoding R pdu s) (behind pdu s) (encoded_length R pdu) (layout_of R pdu) 2 (given (values_in pdu))
      (version_number (version_of pdu) ∷ type_number (type_of pdu) ∷ []) (payloads-inside R pdu s rule.places) rule.fits refl (encoding-is R pdu s)

  version-written : number (encoding R pdu s) 0 1 ≡ version_number (version_of pdu)
  version-written = byte_at (encoding R pdu s) 0 ∙ ap (λ (l : List ℕ). get_or l 0 0) (encoding-is R pdu s)

  type-written : number (encoding R pdu s) 1 1 ≡ type_number (type_of pdu)
  type-written = byte_at (encoding R pdu s) 1 ∙ ap (λ (l : List ℕ). get_or l 1 0) (encoding-is R pdu s)

  read-written : read R (encoding R pdu s) ≡ accepted (read_back R pdu) (encoded_length R pdu)
  read-written =
      let long : encoded_length R pdu ≡ length_of (layout_of R pdu) + behind_length pdu = encoded-length-is R pdu in
      let head = back_head R pdu in
      reads-standing R (encoding R pdu s) (read_back R pdu) (encoded_length R pdu)
      (record {
        header = large-written;
        whole = omega (arith, length-written);
        total = sym header-written;
        version = version-written ∙ ap version_number (sym head.0);
        type = type-written ∙ ap type_number (sym head.1);
        kind =
            as-back R (encoding R pdu s) pdu s (version_number (version_of pdu) ∷ type_number (type_of pdu) ∷ fixed_bytes R pdu s) rule (omega (arith, rule.short))
            (header-written ∙ long) values-back (omega (arith, length-fixed R pdu s rule.places)) (encoding-is R pdu s);
      })

  all_there : needed (encoding R pdu s) ≤ length (encoding R pdu s)
  all_there = omega (arith, needed-large (encoding R pdu s) (omega (arith, length-written, large-written)), length-written, header-written)

-- reading the encoding of a PDU in rule gives back the PDU, its payloads where the encoding has them, whatever follows
pub read-of-encode : (R : Reading) (pdu : RtrPdu) (s rest : List ℕ) → InRule R pdu s
    → read R (encoding R pdu s ++ rest) ≡ accepted (read_back R pdu) (encoded_length R pdu)
read-of-encode R pdu s rest rule = read_behind R (encoding R pdu s) rest (all_there R pdu s rule) ∙ read-written R pdu s rule
