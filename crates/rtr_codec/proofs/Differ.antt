-- Where a departure applies, readings that differ in it differ in their verdicts: the converse of Departs. Where it applies, the checks before its switch have
-- passed, so the verdict is what the switch gives: another length expected or another place for a key, 7 for a code, 4 for bytes behind a text. Assumes
-- nothing.
use Rattle.std.specs.Prelude.{Option, Some, None}
use Prim.Native.Nat.{ℕ, ◌+◌, ◌≤◌}
use mathlib.Core.Bool.{Bool, true, false, cond, ◌&&◌, ◌||◌, and-false}
use mathlib.Core.List.{List, [], ◌∷◌}
use mathlib.Core.Logic.{◌⊎◌, inl, inr}
use mathlib.Core.Path.{◌≡◌, refl, sym, ap, ◌∙◌}
use native.Mathlib.Omega.{arith}
use borrow.Author.Tests.{eqb-true, leb-true, ltb-true, le-leb, ne_eqb}
use lib.Dec.{leb, ltb, eqb}
use lib.ListN.{length, take, drop}
use Rattle.rtr_text.specs.Utf8.{well_formed}
use Rattle.rtr_models.specs.Codes.{version_number, code_found}
use Rattle.rtr_models.proofs.Laws.{version-known, code-known, code-unknown}
use Rattle.rtr_models.specs.declared.RtrProtocolVersion.{RtrProtocolVersion}
use Rattle.rtr_models.specs.declared.RtrProtocolVersion.TheVariants.{V0, V1}
use Rattle.rtr_models.specs.declared.RtrErrorCode.{RtrErrorCode}
use Rattle.rtr_models.specs.declared.RtrErrorCode.TheVariants.{CorruptData, InternalError, NoDataAvailable, InvalidRequest, UnsupportedProtocolVersion, UnsupportedPduType, WithdrawalOfUnknownRecord, DuplicateAnnouncementReceived, UnexpectedProtocolVersion}
use Rattle.rtr_models.specs.declared.RtrRouterKey.{RtrRouterKey}
use Rattle.rtr_models.specs.declared.RtrPdu.{RtrPdu}
use Rattle.rtr_codec.specs.Bytes.{number}
use Rattle.rtr_codec.specs.Reading.{Reading}
use Rattle.rtr_codec.specs.Departures.{reported, applies}
use Rattle.rtr_codec.specs.Departures.Departure.{code_eight_in_v0, bytes_behind_text, key_by_crate}
use Rattle.rtr_codec.specs.Answers.{number_of}
use Rattle.rtr_codec.specs.Read.{Verdict, need, header_length, ends, last_code, code_in, key_fields, read_key, read_router_key, read_text, read_encapsulated, read_code, read_error_report, read_as, read_typed, read_versioned, read}
use Rattle.rtr_codec.specs.Read.Verdict.{accepted}
use Rattle.rtr_codec.proofs.Departs.{Alike}

-- a test passes where its failing is absurd
must : (b : Bool) → (b ≡ false → false ≡ true) → b ≡ true
must true f = refl
must false f = f refl

-- ---- A key

-- the two arrangements expect other lengths and name other places
same_key : (b b' : Bool) (s : List ℕ) → read_key (key_fields b) s ≡ read_key (key_fields b') s → b ≡ b'
same_key b b' s e = go b b' e
  where
    differ : (a b : Bool) (h : ℕ) (k l : RtrRouterKey) → k.subject_key_identifier.start ≡ 10 → l.subject_key_identifier.start ≡ 8
        → need a 4 (34 ∷ h ∷ 9 ∷ []) (accepted (RtrPdu.RouterKey k) h) ≡ need b 4 (32 ∷ h ∷ 9 ∷ []) (accepted (RtrPdu.RouterKey l) h) → ⊥
    differ true true h k l p q e = let same : k ≡ l = cc in omega (arith, ap (λ (x : RtrRouterKey). x.subject_key_identifier.start) same)
    differ true false h k l p q e = let z : ◌≡◌ {A = ℕ} 0 1 = cc in omega arith
    differ false true h k l p q e = let z : ◌≡◌ {A = ℕ} 0 1 = cc in omega arith
    differ false false h k l p q e = let z : ◌≡◌ {A = ℕ} 34 32 = cc in omega arith

    go : (b b' : Bool) → read_key (key_fields b) s ≡ read_key (key_fields b') s → b ≡ b'
    go true true e = refl
    go true false e = absurd (differ (leb 34 (header_length s)) (leb 32 (header_length s)) (header_length s) _ _ refl refl e)
    go false true e = absurd (differ (leb 34 (header_length s)) (leb 32 (header_length s)) (header_length s) _ _ refl refl (sym e))
    go false false e = refl

-- ---- A report

-- a code that is in a list is known
code-there : (n : ℕ) → n ≤ 8 → (c : RtrErrorCode) × (code_found n ≡ Some c)
code-there n h = go (code_found n) refl
  where
    go : (f : Option RtrErrorCode) → code_found n ≡ f → (c : RtrErrorCode) × (code_found n ≡ Some c)
    go (Some c) e = (c, e)
    go None e =
        let other = (code-unknown n).0 e in
        let h1 : 1 ≤ n = omega (arith, other CorruptData) in
        let h2 : 2 ≤ n = omega (arith, other InternalError) in
        let h3 : 3 ≤ n = omega (arith, other NoDataAvailable) in
        let h4 : 4 ≤ n = omega (arith, other InvalidRequest) in
        let h5 : 5 ≤ n = omega (arith, other UnsupportedProtocolVersion) in
        let h6 : 6 ≤ n = omega (arith, other UnsupportedPduType) in
        let h7 : 7 ≤ n = omega (arith, other WithdrawalOfUnknownRecord) in
        let h8 : 8 ≤ n = omega (arith, other DuplicateAnnouncementReceived) in
        absurd (omega (arith, other UnexpectedProtocolVersion))

last_code_lem : (v : RtrProtocolVersion) → last_code v ≤ 8
last_code_lem V0 = omega arith
last_code_lem V1 = omega arith

in_list : (b : Bool) (v : RtrProtocolVersion) (n : ℕ) → code_in b v n ≡ true → n ≤ 8
in_list b v n e = go (leb n (last_code v)) b (eqb n 8) refl refl e
  where
    go : (p q r : Bool) → leb n (last_code v) ≡ p → eqb n 8 ≡ r → (p || (q && r)) ≡ true → n ≤ 8
    go true q r x y e = omega (arith, leb-true n (last_code v) x, last_code_lem v)
    go false true true x y e = omega (arith, eqb-true n 8 y)
    go false true false x y e = let z : ◌≡◌ {A = ℕ} 0 1 = cc in absurd (omega arith)
    go false false r x y e = let z : ◌≡◌ {A = ℕ} 0 1 = cc in absurd (omega arith)

-- behind the code's check nothing is refused by 7
past-code : (R : Reading) (v : RtrProtocolVersion) (c : RtrErrorCode) (e : ℕ) (s : List ℕ) → number_of (read_encapsulated R v c e s) ≡ 7 → ⊥
unfolding read_encapsulated read_text
past-code R v c e s q = go (leb (16 + e) (header_length s)) (ends R.bytes_behind_text (16 + e + number s (12 + e) 4) (header_length s)) (well_formed (take (number s (12 + e) 4) (drop (16 + e) s))) _ _ _ _ _ q
  where
    go : (a b d : Bool) (x y z : List ℕ) (pdu : RtrPdu) (n : ℕ) → number_of (need a 4 x (need b 4 y (need d 8 z (accepted pdu n)))) ≡ 7 → ⊥
    go true true true x y z pdu n q = omega arith
    go true true false x y z pdu n q = omega arith
    go true false d x y z pdu n q = omega arith
    go false b d x y z pdu n q = omega arith

-- so of two readings that refuse by 7 alike, both find the code in the list or neither does
same_code : (b b' : Bool) (values : List ℕ) (x y : Verdict) → (number_of x ≡ 7 → ⊥) → (number_of y ≡ 7 → ⊥) → need b 7 values x ≡ need b' 7 values y → b ≡ b'
same_code true true values x y p q e = refl
same_code true false values x y p q e = absurd (p (ap number_of e))
same_code false true values x y p q e = absurd (q (ap number_of (sym e)))
same_code false false values x y p q e = refl

-- error code 8 is in version 0's list by the switch alone
eight-listed : (b : Bool) → code_in b V0 8 ≡ b
eight-listed true = refl
eight-listed false = refl

-- a text that ends before the PDU ends in rule by the switch alone
ends-early : (b : Bool) (x h : ℕ) → ltb x h ≡ true → ends b x h ≡ b
ends-early true x h e = le-leb x h (omega (arith, ltb-true x h e))
ends-early false x h e = ne_eqb x h (λ q. omega (arith, ltb-true x h e))

-- the number of the answer to a report that is longer than its text's end: 4, or where its bytes are passed over what the text gives
abbrev text_number : Bool → Bool → ℕ
text_number passed_over text = cond passed_over (cond text 0 8) 4

text-answered : (b w : Bool) (x y : List ℕ) (pdu : RtrPdu) (n : ℕ) → number_of (need b 4 x (need w 8 y (accepted pdu n))) ≡ text_number b w
text-answered true true x y pdu n = refl
text-answered true false x y pdu n = refl
text-answered false w x y pdu n = refl

-- so two readings of it that answer alike have the switch alike, even if one of them does not list the code
same_text : (b b' c w : Bool) (values : List ℕ) (x : Verdict) → number_of x ≡ text_number b' w → text_number b w ≡ number_of (need c 7 values x) → b ≡ b'
same_text true true c w values x p q = refl
same_text true false true true values x p q = absurd (omega arith)
same_text true false true false values x p q = absurd (omega arith)
same_text true false false true values x p q = absurd (omega arith)
same_text true false false false values x p q = absurd (omega arith)
same_text false true true true values x p q = absurd (omega arith)
same_text false true true false values x p q = absurd (omega arith)
same_text false true false true values x p q = absurd (omega arith)
same_text false true false false values x p q = absurd (omega arith)
same_text false false c w values x p q = refl

-- ---- What is read where a switch is come to

module _ (s : List ℕ) (header : leb 8 (length s) ≡ true) (whole : leb (header_length s) (length s) ≡ true) where
  key-read : (R : Reading) → number s 0 1 ≡ 1 → number s 1 1 ≡ 9 → read R s ≡ read_key (key_fields R.key_by_crate) s
  unfolding read read_versioned read_typed read_as read_router_key
  key-read R v t = simp (header, whole, v, t)

  report-read : (R : Reading) (v : RtrProtocolVersion) (c : RtrErrorCode) → number s 0 1 ≡ version_number v → number s 1 1 ≡ 10 → leb 16 (header_length s) ≡ true → code_found (number s 2 2) ≡ Some c
      → read R s ≡ need (code_in R.code_eight_in_v0 v (number s 2 2)) 7 (number s 2 2 ∷ []) (read_encapsulated R v c (number s 8 4) s)
  unfolding read read_versioned read_typed read_as read_error_report read_code
  report-read R v c q t l k = simp (header, whole, (version-known (number s 0 1) v).1 q, t, l, k)

  -- whether a report's text is UTF-8
  abbrev text_there : Bool
  text_there = well_formed (take (number s (12 + number s 8 4) 4) (drop (16 + number s 8 4) s))

  text-number : (R : Reading) (v : RtrProtocolVersion) (c : RtrErrorCode) → ltb (16 + number s 8 4 + number s (12 + number s 8 4) 4) (header_length s) ≡ true
      → number_of (read_encapsulated R v c (number s 8 4) s) ≡ text_number R.bytes_behind_text text_there
  unfolding read_encapsulated read_text
  text-number R v c h =
      let e : ℕ = number s 8 4 in
      let t : ℕ = number s (12 + e) 4 in
      simp (le-leb (16 + e) (header_length s) (omega (arith, ltb-true (16 + e + t) (header_length s) h)), ends-early R.bytes_behind_text (16 + e + t) (header_length s) h)
      (text-answered R.bytes_behind_text text_there _ _ _ _)

  -- readings that agree have each switch alike that they come to
  module _ (R R' : Reading) (agree : read R s ≡ read R' s) where
    keys-alike : number s 0 1 ≡ 1 → number s 1 1 ≡ 9 → R.key_by_crate ≡ R'.key_by_crate
    keys-alike v t = same_key _ _ s (sym (key-read R v t) ∙ agree ∙ key-read R' v t)

    codes-alike : number s 0 1 ≡ 0 → number s 1 1 ≡ 10 → leb 16 (header_length s) ≡ true → number s 2 2 ≡ 8 → R.code_eight_in_v0 ≡ R'.code_eight_in_v0
    codes-alike v t l c =
        let known : code_found (number s 2 2) ≡ Some UnexpectedProtocolVersion = (code-known (number s 2 2) UnexpectedProtocolVersion).1 c in
        let same = same_code (code_in R.code_eight_in_v0 V0 (number s 2 2)) (code_in R'.code_eight_in_v0 V0 (number s 2 2)) (number s 2 2 ∷ []) _ _
        (past-code R V0 UnexpectedProtocolVersion (number s 8 4) s) (past-code R' V0 UnexpectedProtocolVersion (number s 8 4) s)
        (sym (report-read R V0 UnexpectedProtocolVersion v t l known) ∙ agree ∙ report-read R' V0 UnexpectedProtocolVersion v t l known) in
        sym (eight-listed R.code_eight_in_v0) ∙ ap (code_in R.code_eight_in_v0 V0) (sym c) ∙ same ∙ ap (code_in R'.code_eight_in_v0 V0) c ∙ eight-listed R'.code_eight_in_v0

    texts-alike : (v : RtrProtocolVersion) → number s 0 1 ≡ version_number v → number s 1 1 ≡ 10 → code_in R.code_eight_in_v0 v (number s 2 2) ≡ true
        → ltb (16 + number s 8 4 + number s (12 + number s 8 4) 4) (header_length s) ≡ true → R.bytes_behind_text ≡ R'.bytes_behind_text
    texts-alike v q t listed h =
        let known = code-there (number s 2 2) (in_list R.code_eight_in_v0 v (number s 2 2) listed) in
        let long : leb 16 (header_length s) ≡ true = le-leb 16 (header_length s) (omega (arith, ltb-true (16 + number s 8 4 + number s (12 + number s 8 4) 4) (header_length s) h)) in
        let first : read R s ≡ read_encapsulated R v known.0 (number s 8 4) s = report-read R v known.0 q t long known.1 ∙ simp listed in
        same_text R.bytes_behind_text R'.bytes_behind_text (code_in R'.code_eight_in_v0 v (number s 2 2)) text_there (number s 2 2 ∷ []) _ (text-number R' v known.0 h)
        (sym (text-number R v known.0 h) ∙ ap number_of (sym first ∙ agree ∙ report-read R' v known.0 q t long known.1))

-- a test fails, or what follows from it holds
or-fails : {A : Type 0} (b : Bool) → (b ≡ true → A) → A ⊎ (b ≡ false)
or-fails true f = inl (f refl)
or-fails false f = inr refl

-- a report that is reported is of version 0 or 1, and its code is in the reading's list
reported-comes : (R : Reading) (s : List ℕ) → reported R s ≡ true → (v : RtrProtocolVersion) × (number s 0 1 ≡ version_number v) × (number s 1 1 ≡ 10) × (code_in R.code_eight_in_v0 v (number s 2 2) ≡ true)
reported-comes R s r = go (eqb (number s 0 1) 0) refl
  where
    type : number s 1 1 ≡ 10
    type = eqb-true (number s 1 1) 10 (must (eqb (number s 1 1) 10) (λ z. simp (z, and-false) at r))

    go : (b : Bool) → eqb (number s 0 1) 0 ≡ b → (v : RtrProtocolVersion) × (number s 0 1 ≡ version_number v) × (number s 1 1 ≡ 10) × (code_in R.code_eight_in_v0 v (number s 2 2) ≡ true)
    go true e =
        let version : number s 0 1 ≡ 0 = eqb-true (number s 0 1) 0 e in
        (V0, version, type, must (code_in R.code_eight_in_v0 V0 (number s 2 2)) (λ z. simp (z, version, type) at r))
    go false e =
        let version : number s 0 1 ≡ 1 = eqb-true (number s 0 1) 1 (must (eqb (number s 0 1) 1) (λ z. simp (e, z) at r)) in
        (V1, version, type, must (code_in R.code_eight_in_v0 V1 (number s 2 2)) (λ z. simp (z, version, type) at r))

pub agree-alike : (R R' : Reading) (s : List ℕ) → read R s ≡ read R' s → Alike R R' s
unfolding applies
agree-alike R R' s agree key_by_crate =
    or-fails (applies R key_by_crate s)
    (λ a.
    let header = must (leb 8 (length s)) (λ z. simp z at a) in
    let whole = must (leb (header_length s) (length s)) (λ z. simp (header, z) at a) in
    let version = must (eqb (number s 0 1) 1) (λ z. simp (header, whole, z) at a) in
    let type = must (eqb (number s 1 1) 9) (λ z. simp (header, whole, version, z) at a) in
    keys-alike s header whole R R' agree (eqb-true (number s 0 1) 1 version) (eqb-true (number s 1 1) 9 type))
agree-alike R R' s agree code_eight_in_v0 =
    or-fails (applies R code_eight_in_v0 s)
    (λ a.
    let header = must (leb 8 (length s)) (λ z. simp z at a) in
    let whole = must (leb (header_length s) (length s)) (λ z. simp (header, z) at a) in
    let version = must (eqb (number s 0 1) 0) (λ z. simp (header, whole, z) at a) in
    let type = must (eqb (number s 1 1) 10) (λ z. simp (header, whole, version, z) at a) in
    let long = must (leb 16 (header_length s)) (λ z. simp (header, whole, version, type, z) at a) in
    let code = must (eqb (number s 2 2) 8) (λ z. simp (header, whole, version, type, long, z) at a) in
    codes-alike s header whole R R' agree (eqb-true (number s 0 1) 0 version) (eqb-true (number s 1 1) 10 type) long (eqb-true (number s 2 2) 8 code))
agree-alike R R' s agree bytes_behind_text =
    or-fails (applies R bytes_behind_text s)
    (λ a.
    let header = must (leb 8 (length s)) (λ z. simp z at a) in
    let whole = must (leb (header_length s) (length s)) (λ z. simp (header, z) at a) in
    let known = must (reported R s) (λ z. simp (header, whole, z) at a) in
    let end = must (ltb (16 + number s 8 4 + number s (12 + number s 8 4) 4) (header_length s)) (λ z. simp (header, whole, known, z) at a) in
    let x = reported-comes R s known in
    texts-alike s header whole R R' agree x.0 x.1 x.2 x.3 end)
