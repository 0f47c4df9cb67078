-- What `encode` comes to for the kinds with payloads: refused where a place or a text is out of rule, and else the checks of the length on
-- the bytes that the code puts together. Assumes nothing.
use Prim.Native.Nat.{ℕ, ◌+◌, ◌≤◌, ◌<◌}
use mathlib.Core.Bool.{Bool, true, false, ◌&&◌}
use mathlib.Core.List.{List, [], ◌∷◌, ◌++◌}
use mathlib.Core.Path.{◌≡◌, refl, sym, ap, ◌∙◌}
use native.Mathlib.Omega.{arith}
use borrow.Author.Tests.{le-leb, lt-leb, eqb-true}
use lib.Dec.{eqb}
use lib.ListN.{length, drop, length-append}
use Rattle.rtr_text.specs.Utf8.{well_formed, well_formed_up_to}
use Rattle.rtr_text.proofs.Laws.{empty-is-well-formed}
use Rattle.rtr_models.specs.Codes.{code_number}
use Rattle.rtr_models.specs.Parts.{inside, key_inside, part_if}
use Rattle.rtr_models.specs.declared.RtrProtocolVersion.{RtrProtocolVersion}
use Rattle.rtr_models.specs.declared.Place.{Place}
use Rattle.rtr_models.specs.declared.RtrRouterKey.{RtrRouterKey}
use Rattle.rtr_models.specs.declared.RtrErrorReport.{RtrErrorReport}
use Rattle.rtr_models.specs.declared.RtrPdu.{RtrPdu}
use Rattle.rtr_models.specs.declared.RtrPdu.TheVariants.{RouterKey, ErrorReport}
use Rattle.rtr_codec.specs.Read.{text_refusal}
use Rattle.rtr_codec.specs.Reading.{Reading, in_use}
use Rattle.rtr_base.specs.Over.{over}
use Rattle.rtr_base.proofs.Overs.{over-front}
use Rattle.rtr_encode.specs.Encode.{bytes_of, at, places_inside, text_in, text_of, encoded_length, encoding, encode_says, encode}
use Rattle.rtr_encode.specs.Private.{key_bytes, report_bytes, last_checks}
use Rattle.rtr_encode.specs.Encode.Writing.{written, refused}
use Rattle.rtr_encode.proofs.Payloads.{length-bytes, part-long}

module _ (n : ℕ) (bytes out : List ℕ) where
  pub too_long : 4294967295 < n → record { says = refused 10 []; out = out } ≡ last_checks n bytes out
  too_long h = simp (lt-leb n 4294967295 h)

  pub no_room : n ≤ 4294967295 → length out < n → record { says = refused 9 (n ∷ []); out = out } ≡ last_checks n bytes out
  no_room f h = simp (le-leb n 4294967295 f, lt-leb n (length out) h)

  pub all_in : (exit : List ℕ) → n ≤ 4294967295 → n ≤ length out → length bytes ≡ n → exit ≡ over out 0 bytes → record { says = written n; out = exit } ≡ last_checks n bytes out
  all_in exit f h l q =
      let e : exit ≡ bytes ++ drop n out = q ∙ over-front out bytes ∙ ap (λ (k : ℕ). bytes ++ drop k out) l in
      simp (le-leb n 4294967295 f, le-leb n (length out) h, e)

-- a PDU with no payload comes to those checks at once
pub plain-encodes : (R : Reading) (pdu : RtrPdu) (s out : List ℕ) (n : ℕ) (bytes : List ℕ) → places_inside pdu s ≡ true → text_in pdu s ≡ true
    → encoded_length R pdu ≡ n → encoding R pdu s ≡ bytes → last_checks n bytes out ≡ encode R pdu s out
unfolding encode encode_says
plain-encodes R pdu s out n bytes p t e b = simp (p, t, e, b)

pub key-length : (v : RtrProtocolVersion) (flags asn whole : ℕ) (identifier info : List ℕ) → length identifier ≡ 20 → length (key_bytes v flags identifier asn info whole) ≡ 34 + length info
key-length v flags asn whole identifier info h = simp (length-append, length-bytes) (omega arith)

pub report-length : (v : RtrProtocolVersion) (code whole : ℕ) (copy text : List ℕ) → length (report_bytes v code copy text whole) ≡ 16 + length copy + length text
report-length v code whole copy text = simp (length-append, length-bytes) (omega arith)

-- refused at once: nothing is written
pub place-outside : (R : Reading) (pdu : RtrPdu) (s out : List ℕ) → places_inside pdu s ≡ false → record { says = refused 11 []; out = out } ≡ encode R pdu s out
unfolding encode encode_says
place-outside R pdu s out e = simp e

pub text-refused : (R : Reading) (pdu : RtrPdu) (s out : List ℕ) → places_inside pdu s ≡ true → text_in pdu s ≡ false → record { says = refused 8 (text_refusal (well_formed_up_to (text_of pdu s))); out = out } ≡ encode R pdu s out
unfolding encode encode_says
text-refused R pdu s out p t = simp (p, t)

-- a part whose place is inside is the bytes at that place
pub part_at : (b : Bool) (p : Place) (s r : List ℕ) → r ≡ part_if b p s → b ≡ true → r ≡ at p s
part_at true p s r e q = e
part_at false p s r e q = cc

and_first : (a b : Bool) → a && b ≡ true → a ≡ true
and_first true b e = refl
and_first false b e = e

and_second : (a b : Bool) → a && b ≡ true → b ≡ true
and_second true b e = e
and_second false b e = cc

-- a key identifier that is inside has 20 bytes
pub key-inside-20 : (p : Place) (s r : List ℕ) → r ≡ part_if (key_inside p s) p s → key_inside p s ≡ true → length r ≡ 20
key-inside-20 p s r e k =
    ap length (part_at (key_inside p s) p s r e k)
    ∙ part-long p s (and_second (eqb p.len 20) (inside p s) k)
    ∙ eqb-true p.len 20 (and_first (eqb p.len 20) (inside p s) k)

-- the picture's bytes are the code's, read from left to right
key-encoding : (p : RtrRouterKey) (s : List ℕ) → p.subject_key_identifier.len ≡ 20
    → encoding in_use (RouterKey p) s ≡ key_bytes p.version p.flags (at p.subject_key_identifier s) p.asn (at p.subject_public_key_info s) (34 + p.subject_public_key_info.len)
unfolding bytes_of encoding encoded_length
key-encoding p s e = simp e

report-encoding : (p : RtrErrorReport) (s : List ℕ) → inside p.erroneous_pdu s ≡ true → inside p.error_text s ≡ true
    → encoding in_use (ErrorReport p) s
    ≡ report_bytes p.version (code_number p.error_code) (at p.erroneous_pdu s) (at p.error_text s) (16 + p.erroneous_pdu.len + p.error_text.len)
unfolding bytes_of encoding encoded_length
report-encoding p s i j =
    let w : 12 + (p.erroneous_pdu.len + 4 + p.error_text.len) ≡ 16 + p.erroneous_pdu.len + p.error_text.len = omega arith in
    simp (part-long p.erroneous_pdu s i, part-long p.error_text s j, w)

key-core : (p : RtrRouterKey) (s out : List ℕ) → key_inside p.subject_key_identifier s ≡ true → inside p.subject_public_key_info s ≡ true
    → last_checks (34 + p.subject_public_key_info.len) (encoding in_use (RouterKey p) s) out ≡ encode in_use (RouterKey p) s out
unfolding encode encode_says encoded_length
key-core p s out k i = simp (k, i, empty-is-well-formed)

report-core : (p : RtrErrorReport) (s out : List ℕ) → inside p.erroneous_pdu s ≡ true → inside p.error_text s ≡ true → well_formed (at p.error_text s) ≡ true
    → last_checks (16 + p.erroneous_pdu.len + p.error_text.len) (encoding in_use (ErrorReport p) s) out ≡ encode in_use (ErrorReport p) s out
unfolding encode encode_says encoded_length
report-core p s out i j w =
    let n : 12 + (p.erroneous_pdu.len + 4 + p.error_text.len) ≡ 16 + p.erroneous_pdu.len + p.error_text.len = omega arith in
    simp (i, j, w, n)

pub key-encodes : (p : RtrRouterKey) (s out identifier info : List ℕ) → key_inside p.subject_key_identifier s ≡ true → inside p.subject_public_key_info s ≡ true
    → identifier ≡ at p.subject_key_identifier s → info ≡ at p.subject_public_key_info s
    → last_checks (34 + length info) (key_bytes p.version p.flags identifier p.asn info (34 + length info)) out ≡ encode in_use (RouterKey p) s out
key-encodes p s out identifier info k i e₁ e₂ =
    let long : length info ≡ p.subject_public_key_info.len = ap length e₂ ∙ part-long p.subject_public_key_info s i in
    let bytes : key_bytes p.version p.flags identifier p.asn info (34 + length info) ≡ encoding in_use (RouterKey p) s =
    ap (λ (n : ℕ). key_bytes p.version p.flags identifier p.asn info (34 + n)) long
    ∙ ap (λ (x : List ℕ). key_bytes p.version p.flags x p.asn info (34 + p.subject_public_key_info.len)) e₁
    ∙ ap (λ (x : List ℕ). key_bytes p.version p.flags (at p.subject_key_identifier s) p.asn x (34 + p.subject_public_key_info.len)) e₂
    ∙ sym (key-encoding p s (eqb-true p.subject_key_identifier.len 20 (and_first (eqb p.subject_key_identifier.len 20) _ k))) in
    ap (λ (x : List ℕ). last_checks (34 + length info) x out) bytes
    ∙ ap (λ (n : ℕ). last_checks (34 + n) (encoding in_use (RouterKey p) s) out) long
    ∙ key-core p s out k i

pub report-encodes : (p : RtrErrorReport) (s out copy text : List ℕ) (code : ℕ) → inside p.erroneous_pdu s ≡ true → inside p.error_text s ≡ true
    → well_formed text ≡ true → code ≡ code_number p.error_code → copy ≡ at p.erroneous_pdu s → text ≡ at p.error_text s
    → last_checks (16 + length copy + length text) (report_bytes p.version code copy text (16 + length copy + length text)) out ≡ encode in_use (ErrorReport p) s out
report-encodes p s out copy text code i j w c e₁ e₂ =
    let l₁ : length copy ≡ p.erroneous_pdu.len = ap length e₁ ∙ part-long p.erroneous_pdu s i in
    let l₂ : length text ≡ p.error_text.len = ap length e₂ ∙ part-long p.error_text s j in
    let n : 16 + length copy + length text ≡ 16 + p.erroneous_pdu.len + p.error_text.len = omega arith in
    let same : (a b : List ℕ) (k m : ℕ) → a ≡ copy → b ≡ text → k ≡ code → m ≡ 16 + length copy + length text
    → report_bytes p.version code copy text (16 + length copy + length text) ≡ report_bytes p.version k a b m = λ a b k m q r t u. cc in
    let bytes : report_bytes p.version code copy text (16 + length copy + length text) ≡ encoding in_use (ErrorReport p) s =
    same (at p.erroneous_pdu s) (at p.error_text s) (code_number p.error_code) (16 + p.erroneous_pdu.len + p.error_text.len) (sym e₁) (sym e₂) (sym c) (sym n)
    ∙ sym (report-encoding p s i j) in
    ap (λ (x : List ℕ). last_checks (16 + length copy + length text) x out) bytes
    ∙ ap (λ (m : ℕ). last_checks m (encoding in_use (ErrorReport p) s) out) n
    ∙ report-core p s out i j (ap well_formed (sym e₂) ∙ w)
