-- Demand 2 of the calls: what is proved of `read` and `encoding` (RoundTrip.antt) holds of what `parse_rtr_pdu` and `encode` leave in lent memory. A contract is taken as data, as Rattle reads it off
-- the source (`Post`), so one that is weakened breaks this file. Of two contracts met one after the other, that the slice's elements are bytes is asked for, or that the PDU's values fit;
-- of `recode` and `send`, the code that makes the calls, it is proved. Assumes nothing.
use Rattle.std.specs.Prelude.{Ok, ⊤, Result, Err}
use Prim.Native.Nat.{ℕ, ◌+◌, ◌-◌, ◌≤◌, ◌<◌}
use mathlib.Core.Bool.{Bool, true}
use mathlib.Core.List.{List, [], ◌∷◌, ◌++◌}
use mathlib.Core.Logic.{◌↔◌}
use mathlib.Core.Path.{◌≡◌, refl, sym, ap, ◌∙◌, subst}
use native.Mathlib.Omega.{arith}
use borrow.Author.Tests.{le-leb}
use denote.Ref.{Bor}
use lib.ListN.{length, take, drop}
use lib.Seq.{take_at}
use Rattle.rtr_models.specs.declared.PlaceOutside.{PlaceOutside as Outside}
use Rattle.rtr_models.specs.Parts.{inside, key_inside, PartOf, part_number, number_if}
use Rattle.rtr_models.specs.declared.Place.{Place}
use Rattle.rtr_models.specs.declared.RtrRouterKey.{RtrRouterKey}
use Rattle.rtr_models.specs.declared.RtrErrorReport.{RtrErrorReport}
use Rattle.rtr_models.specs.declared.RtrPdu.{RtrPdu}
use Rattle.rtr_models.specs.declared.RtrPdu.TheVariants.{SerialNotify, SerialQuery, ResetQuery, CacheResponse, IPv4Prefix, IPv6Prefix, EndOfData, CacheReset, RouterKey, ErrorReport}
use Rattle.rtr_models.proofs.RtrRouterKey.subject_key_identifier_answer.Reads as identifier-answer
use Rattle.rtr_models.proofs.RtrRouterKey.subject_key_identifier_part.Reads as identifier-part
use Rattle.rtr_models.proofs.RtrRouterKey.subject_public_key_info_answer.Reads as info-answer
use Rattle.rtr_models.proofs.RtrRouterKey.subject_public_key_info_part.Reads as info-part
use Rattle.rtr_models.proofs.RtrErrorReport.erroneous_pdu_answer.Reads as copy-answer
use Rattle.rtr_models.proofs.RtrErrorReport.erroneous_pdu_part.Reads as copy-part
use Rattle.rtr_models.proofs.RtrErrorReport.error_text_answer.Reads as text-answer
use Rattle.rtr_models.proofs.RtrErrorReport.error_text_part.Reads as text-part
use Rattle.rtr_codec.specs.Reading.{in_use}
use Rattle.rtr_codec.specs.Bytes.{number}
use Rattle.rtr_codec.specs.Layout.{place}
use Rattle.rtr_codec.specs.Read.{Verdict, header_length, read}
use Rattle.rtr_codec.specs.Read.Verdict.{accepted}
use Rattle.rtr_codec.specs.Answers.{verdict, refusal}
use Rattle.rtr_codec.specs.Refusals.{Refusal}
use Rattle.rtr_codec.specs.declared.RtrError.{RtrError}
use Rattle.rtr_codec.specs.Stands.{Stands}
use Rattle.rtr_codec.proofs.Exactly.{ends-within, stands_read}
use Rattle.rtr_codec.proofs.Refused.{refused-exactly}
use Rattle.rtr_codec.proofs.parse_rtr_pdu.Reads as parse
use Rattle.rtr_encode.specs.Encode.{Encoded, layout_of, given, values_in, encoded_length, encoding}
use Rattle.rtr_encode.specs.Encode as paper
use Rattle.rtr_encode.specs.Encode.Writing.{written, refused}
use Rattle.rtr_encode.specs.Answers.{writing, leaves}
use Rattle.rtr_encode.specs.declared.EncodeError.{EncodeError}
use Rattle.rtr_encode.specs.declared.EncodeError.TheVariants.{PlaceOutside, InvalidUtf8, TooLong, OutputShort}
use Rattle.rtr_encode.proofs.Laws.{refused-keeps-output, written-is-encoding}
use Rattle.rtr_encode.proofs.Refused.{short-refused}
use Rattle.rtr_encode.proofs.encode.Reads as encode
use Rattle.rtr_round.specs.RoundTrip.{Bytes, IgnoredZero, NothingBehind, ValuesFit, KindInRule, InRule, read_back}
use Rattle.rtr_round.proofs.Output.{written_all}
use Rattle.rtr_round.proofs.RoundTrip.{encode-of-read, read-places-inside, read_fits, encode-accepts-read}
use Rattle.rtr_round.proofs.Rule.{read-of-written, read-in-rule, read-back-same}
use Rattle.rtr_round.proofs.recode.Reads as recode
use Rattle.rtr_round.proofs.send.Reads as send

-- the answer that has so many bytes written is that one
answer-written : (answer : Result ℕ EncodeError) (m : ℕ) → writing answer ≡ written m → answer ≡ Ok m
answer-written (Ok k) m e = cc
answer-written (Err PlaceOutside) m e = cc
answer-written (Err InvalidUtf8) m e = cc
answer-written (Err TooLong) m e = cc
answer-written (Err (OutputShort k)) m e = cc

answer-short : (answer : Result ℕ EncodeError) (m : ℕ) → writing answer ≡ refused 9 (m ∷ []) → answer ≡ Err (OutputShort m)
answer-short (Ok k) m e = cc
answer-short (Err PlaceOutside) m e = absurd (let z : ◌≡◌ {A = ℕ} 11 9 = cc in omega arith)
answer-short (Err InvalidUtf8) m e = absurd (let z : ◌≡◌ {A = ℕ} 8 9 = cc in omega arith)
answer-short (Err TooLong) m e = absurd (let z : ◌≡◌ {A = ℕ} 10 9 = cc in omega arith)
answer-short (Err (OutputShort k)) m e = cc

-- ---- What the contracts' equations say of a slice s, and of an output that was `out` and is `left`
module _ (s out left : List ℕ) (pdu : RtrPdu) (n : ℕ) (answer : Result ℕ EncodeError) (bytes : Bytes s)
    (reads : accepted pdu n ≡ read in_use s) (leaving : leaves answer left ≡ paper.encode in_use pdu s out) where
  gives_back : (m : ℕ) → answer ≡ Ok m → (take m left ≡ take n s) ↔ (IgnoredZero 2 (layout_of in_use pdu) s × NothingBehind pdu n)
  gives_back m e =
      let says : (paper.encode in_use pdu s out).says ≡ written m = sym (ap (λ (x : Encoded). x.says) leaving) ∙ ap writing e in
      let is : left ≡ encoding in_use pdu s ++ drop m out = ap (λ (x : Encoded). x.out) leaving ∙ written-is-encoding in_use pdu s out m says in
      let front : take m left ≡ encoding in_use pdu s = ap (take m) is ∙ take_at (encoding in_use pdu s) (drop m out) m (written_all in_use pdu s out m says) in
      let law = encode-of-read in_use s pdu n bytes (sym reads) in
      (λ q. law.0 (sym front ∙ q), λ z. front ∙ law.1 z)

  writes : encoded_length in_use pdu ≤ length out → (answer ≡ Ok (encoded_length in_use pdu)) × (left ≡ encoding in_use pdu s ++ drop (encoded_length in_use pdu) out)
  writes room =
      let law = leaving ∙ encode-accepts-read in_use s pdu n bytes (sym reads) out room in
      (answer-written answer (encoded_length in_use pdu) (ap (λ (x : Encoded). x.says) law), ap (λ (x : Encoded). x.out) law)

  -- without room it is refused by 9, with the length that is needed, and the output stays
  wants : length out < encoded_length in_use pdu → (answer ≡ Err (OutputShort (encoded_length in_use pdu))) × (left ≡ out)
  wants short =
      let inside = read-places-inside in_use s pdu n bytes (sym reads) in
      let fits = read_fits in_use s pdu n bytes (sym reads) in
      let law = leaving ∙ short-refused in_use pdu s out inside.0 inside.1 (omega (arith, fits.1)) short in
      (answer-short answer (encoded_length in_use pdu) (ap (λ (x : Encoded). x.says) law), ap (λ (x : Encoded). x.out) law)

-- ---- Of the two contracts, wherever they are met: the PDU encoded is the one read, and its slice has the bytes read
module _ (κs : _) (a : _) (pdu : RtrPdu) (n : ℕ) (st : _) (κs' : _) (a' : _) (answer : Result ℕ EncodeError) (st' : _)
    (reads : parse.Post κs a (Ok (pdu, n)) st) (writes' : encode.Post κs' a' answer st') (same : a'.0 ≡ pdu) (slice : a'.1.0.now ≡ a.0.now) (bytes : Bytes a.0.now) where
  leaving : leaves answer st'.1.1.0.now ≡ paper.encode in_use pdu a.0.now a'.1.1.0.now
  leaving = writes' ∙ (λ i. paper.encode in_use (same i) (slice i) a'.1.1.0.now)

  -- the written bytes are the consumed ones exactly if the ignored bytes are zero and nothing follows an Error Report's text
  pub contracts-give-back : (m : ℕ) → answer ≡ Ok m
      → (take m st'.1.1.0.now ≡ take n a.0.now) ↔ (IgnoredZero 2 (layout_of in_use pdu) a.0.now × NothingBehind pdu n)
  contracts-give-back m e = gives_back a.0.now a'.1.1.0.now st'.1.1.0.now pdu n answer bytes reads leaving m e

  -- with room for the encoding it is written, and the rest of the output stays
  pub contracts-write : encoded_length in_use pdu ≤ length a'.1.1.0.now
      → (answer ≡ Ok (encoded_length in_use pdu)) × (st'.1.1.0.now ≡ encoding in_use pdu a.0.now ++ drop (encoded_length in_use pdu) a'.1.1.0.now)
  contracts-write room = writes a.0.now a'.1.1.0.now st'.1.1.0.now pdu n answer bytes reads leaving room

-- ---- Reading what was encoded, of the two contracts the other way round: what `encode` wrote is read as the PDU, its payloads where the encoding has them, if its values fit and its kind's rules hold
pub contracts-read-back : (κs : _) (a : _) (m : ℕ) (st : _) → encode.Post κs a (Ok m) st → ValuesFit (layout_of in_use a.0) (given (values_in a.0)) → KindInRule in_use a.0
    → (κs' : _) (a' : _) (r : _) (st' : _) → parse.Post κs' a' r st' → a'.0.now ≡ st.1.1.0.now → verdict r ≡ accepted (read_back in_use a.0) m
contracts-read-back κs a m st writes fits kind κs' a' r st' reads same =
    let s : List ℕ = a.1.0.now in
    let out : List ℕ = a.1.1.0.now in
    reads
    ∙ ap (read in_use) (same ∙ ap (λ (x : Encoded). x.out) writes)
    ∙ read-of-written in_use a.0 s out m (sym (ap (λ (x : Encoded). x.says) writes)) fits kind

-- an encoding that is refused, by whatever number, leaves the output
pub call-refused-keeps : (κs : _) (a : _) (error : EncodeError) (st : _) → encode.Post κs a (Err error) st → st.1.1.0.now ≡ a.1.1.0.now
call-refused-keeps κs a error st p = by error p
  where
    keeps : (left : List ℕ) (k : ℕ) (x : List ℕ) → record { says = refused k x; out = left } ≡ paper.encode in_use a.0 a.1.0.now a.1.1.0.now → left ≡ a.1.1.0.now
    keeps left k x e = ap (λ (y : Encoded). y.out) e ∙ refused-keeps-output in_use a.0 a.1.0.now a.1.1.0.now k x (sym (ap (λ (y : Encoded). y.says) e))

    by : (e : EncodeError) → leaves (Err e) st.1.1.0.now ≡ paper.encode in_use a.0 a.1.0.now a.1.1.0.now → st.1.1.0.now ≡ a.1.1.0.now
    by PlaceOutside e = keeps st.1.1.0.now 11 [] e
    by InvalidUtf8 e = keeps st.1.1.0.now 8 [] e
    by TooLong e = keeps st.1.1.0.now 10 [] e
    by (OutputShort n) e = keeps st.1.1.0.now 9 (n ∷ []) e

-- ---- Of the code that makes the two calls, on every lent slice and output
module _ (κs : _) (a : _) (pdu : RtrPdu) (n : ℕ) (answer : Result ℕ EncodeError) (st : _) (calls : recode.Post κs a (Ok (pdu, n, answer)) st) where
  pub call-gives-back : (m : ℕ) → answer ≡ Ok m
      → (take m st.1.0.now ≡ take n a.0.now) ↔ (IgnoredZero 2 (layout_of in_use pdu) a.0.now × NothingBehind pdu n)
  call-gives-back m e = gives_back a.0.now a.1.0.now st.1.0.now pdu n answer calls.0 calls.1 calls.2 m e

  pub call-writes : encoded_length in_use pdu ≤ length a.1.0.now
      → (answer ≡ Ok (encoded_length in_use pdu)) × (st.1.0.now ≡ encoding in_use pdu a.0.now ++ drop (encoded_length in_use pdu) a.1.0.now)
  call-writes room = writes a.0.now a.1.0.now st.1.0.now pdu n answer calls.0 calls.1 calls.2 room

  -- without room it is refused by 9 with the length that is needed, so never by 11, 8 or 10; and no more is needed than was read
  pub call-short : length a.1.0.now < encoded_length in_use pdu → (answer ≡ Err (OutputShort (encoded_length in_use pdu))) × (st.1.0.now ≡ a.1.0.now)
  call-short short = wants a.0.now a.1.0.now st.1.0.now pdu n answer calls.0 calls.1 calls.2 short

  pub call-needs-no-more : encoded_length in_use pdu ≤ n
  call-needs-no-more = (read_fits in_use a.0.now pdu n calls.0 (sym calls.1)).0

  -- what was written is read again as the PDU that was read, in as many bytes as were written
  pub call-reads-again : (m : ℕ) → answer ≡ Ok m → (κs' : _) (a' : _) (r : _) (st' : _) → parse.Post κs' a' r st' → a'.0.now ≡ st.1.0.now → verdict r ≡ accepted pdu m
  call-reads-again m e κs' a' r st' again same =
      let s : List ℕ = a.0.now in
      let out : List ℕ = a.1.0.now in
      let rule : InRule in_use pdu s = read-in-rule in_use s pdu n calls.0 (sym calls.1) in
      let says : (paper.encode in_use pdu s out).says ≡ written m = sym (ap (λ (x : Encoded). x.says) calls.2) ∙ ap writing e in
      again
      ∙ ap (read in_use) (same ∙ ap (λ (x : Encoded). x.out) calls.2)
      ∙ read-of-written in_use pdu s out m says rule.fits rule.kind
      ∙ ap (λ (p : RtrPdu). accepted p m) (read-back-same in_use s pdu n calls.0 (sym calls.1))

-- what `send` wrote is read as the PDU, its payloads where the encoding has them, if its kind's rules hold: that its values fit is proved
pub call-reads-back : (κs : _) (a : _) (m : ℕ) (st : _) → send.Post κs a (Ok m) st → KindInRule in_use a.0
    → (κs' : _) (a' : _) (r : _) (st' : _) → parse.Post κs' a' r st' → a'.0.now ≡ st.1.1.0.now → verdict r ≡ accepted (read_back in_use a.0) m
call-reads-back κs a m st sends kind κs' a' r st' reads same =
    reads
    ∙ ap (read in_use) (same ∙ ap (λ (x : Encoded). x.out) sends.0)
    ∙ read-of-written in_use a.0 a.1.0.now a.1.1.0.now m (sym (ap (λ (x : Encoded). x.says) sends.0)) sends.1 kind

-- what is not read is a case of rtr_codec's page Refusals, and the output stays
pub call-unread : (κs : _) (a : _) (error : RtrError) (st : _) → recode.Post κs a (Err error) st
    → (st.1.0.now ≡ a.1.0.now) × ((k : ℕ) (values : List ℕ) → refusal error ≡ Verdict.refused k values → Refusal in_use a.0.now k values)
call-unread κs a error st calls = (calls.2, λ k values e. (refused-exactly in_use a.0.now k values).0 (sym calls.1 ∙ e))

-- ---- The parts of what was read, asked for by the eight calls, are never refused by 11, and each is that very part of the slice
answer-part : (r : Result ⊤ Outside) (fits : Bool) → fits ≡ true → part_number r ≡ number_if fits → r ≡ Ok tt
answer-part (Ok tt) fits f e = refl
answer-part (Err refusal) fits f e = absurd (let z : 11 ≡ 0 = e ∙ ap number_if f in omega arith)

part-is : (fits : Bool) (p : Place) (slice r : Bor (List ℕ)) → fits ≡ true → PartOf fits p slice r → PartOf true p slice r
part-is fits p slice r f e = subst (λ (b : Bool). PartOf b p slice r) f e

-- a place that is this one, and ends within s, is inside it
place_inside : (s : List ℕ) (start len : ℕ) (p : Place) → place start len ≡ p → start + len ≤ length s → inside p s ≡ true
place_inside s start len p e h = ap (λ (q : Place). inside q s) (sym e) ∙ le-leb (start + len) (length s) h

key-place-inside : (s : List ℕ) (start : ℕ) (p : Place) → place start 20 ≡ p → start + 20 ≤ length s → key_inside p s ≡ true
key-place-inside s start p e h = ap (λ (q : Place). key_inside q s) (sym e) ∙ le-leb (start + 20) (length s) h

-- what that says, of a Router Key and of an Error Report
abbrev KeyParts : RtrRouterKey → Bor (List ℕ) → Type 0
KeyParts p slice =
    ((κs : _) (r : _) (st : _) → identifier-answer.Post κs (p, (slice, tt)) r st → r ≡ Ok tt)
    × ((κs : _) (r : _) (st : _) → identifier-part.Post κs (p, (slice, tt)) r st → PartOf true p.subject_key_identifier slice r)
    × ((κs : _) (r : _) (st : _) → info-answer.Post κs (p, (slice, tt)) r st → r ≡ Ok tt)
    × ((κs : _) (r : _) (st : _) → info-part.Post κs (p, (slice, tt)) r st → PartOf true p.subject_public_key_info slice r)

abbrev ReportParts : RtrErrorReport → Bor (List ℕ) → Type 0
ReportParts p slice =
    ((κs : _) (r : _) (st : _) → copy-answer.Post κs (p, (slice, tt)) r st → r ≡ Ok tt)
    × ((κs : _) (r : _) (st : _) → copy-part.Post κs (p, (slice, tt)) r st → PartOf true p.erroneous_pdu slice r)
    × ((κs : _) (r : _) (st : _) → text-answer.Post κs (p, (slice, tt)) r st → r ≡ Ok tt)
    × ((κs : _) (r : _) (st : _) → text-part.Post κs (p, (slice, tt)) r st → PartOf true p.error_text slice r)

abbrev PartsInside : RtrPdu → Bor (List ℕ) → Type 0
PartsInside (SerialNotify p) slice = Unit {0}
PartsInside (SerialQuery p) slice = Unit {0}
PartsInside (ResetQuery p) slice = Unit {0}
PartsInside (CacheResponse p) slice = Unit {0}
PartsInside (IPv4Prefix p) slice = Unit {0}
PartsInside (IPv6Prefix p) slice = Unit {0}
PartsInside (EndOfData p) slice = Unit {0}
PartsInside (CacheReset p) slice = Unit {0}
PartsInside (RouterKey p) slice = KeyParts p slice
PartsInside (ErrorReport p) slice = ReportParts p slice

module _ (slice : Bor (List ℕ)) where
  key-parts : (p : RtrRouterKey) (n : ℕ) → Stands in_use slice.now (RouterKey p) n → KeyParts p slice
  key-parts p n k =
      let s : List ℕ = slice.now in
      let long : (34 ≤ header_length s) × (header_length s ≤ length s) = (k.kind.1.0, omega (arith, k.total, k.whole)) in
      let identifier : key_inside p.subject_key_identifier s ≡ true = key-place-inside s 10 _ k.kind.1.2 (omega (arith, long.0, long.1)) in
      let info : inside p.subject_public_key_info s ≡ true = place_inside s 34 (header_length s - 34) _ k.kind.1.4 (omega (arith, long.0, long.1)) in (
        λ _ r _ e. answer-part r _ identifier e,
        λ _ r _ e. part-is _ p.subject_key_identifier slice r identifier e,
        λ _ r _ e. answer-part r _ info e,
        λ _ r _ e. part-is _ p.subject_public_key_info slice r info e,
      )

  report-parts : (p : RtrErrorReport) (n : ℕ) → Stands in_use slice.now (ErrorReport p) n → ReportParts p slice
  report-parts p n k =
      let s : List ℕ = slice.now in
      let e : ℕ = number s 8 4 in
      let t : ℕ = number s (12 + e) 4 in
      let end : 16 + e + t ≤ length s = omega (arith, ends-within true (16 + e + t) (header_length s) k.kind.4, k.total, k.whole) in
      let copy : inside p.erroneous_pdu s ≡ true = place_inside s 12 e _ k.kind.2 (omega (arith, end)) in
      let text : inside p.error_text s ≡ true = place_inside s (16 + e) t _ k.kind.3 (omega (arith, end)) in (
        λ _ r _ q. answer-part r _ copy q,
        λ _ r _ q. part-is _ p.erroneous_pdu slice r copy q,
        λ _ r _ q. answer-part r _ text q,
        λ _ r _ q. part-is _ p.error_text slice r text q,
      )

  parts-stand : (pdu : RtrPdu) (n : ℕ) → Stands in_use slice.now pdu n → PartsInside pdu slice
  parts-stand (SerialNotify p) n k = tt
  parts-stand (SerialQuery p) n k = tt
  parts-stand (ResetQuery p) n k = tt
  parts-stand (CacheResponse p) n k = tt
  parts-stand (IPv4Prefix p) n k = tt
  parts-stand (IPv6Prefix p) n k = tt
  parts-stand (EndOfData p) n k = tt
  parts-stand (CacheReset p) n k = tt
  parts-stand (RouterKey p) n k = key-parts p n k
  parts-stand (ErrorReport p) n k = report-parts p n k

-- the parts of a PDU that `parse_rtr_pdu` read, asked for with a slice of the same bytes
pub call-parts-inside : (κs : _) (a : _) (pdu : RtrPdu) (n : ℕ) (st : _) → parse.Post κs a (Ok (pdu, n)) st → (slice : Bor (List ℕ)) → slice.now ≡ a.0.now → PartsInside pdu slice
call-parts-inside κs a pdu n st reads slice same = parts-stand slice pdu n (stands_read in_use slice.now pdu n (ap (read in_use) same ∙ sym reads))
