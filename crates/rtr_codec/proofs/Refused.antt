-- A slice is refused by a number with values exactly in the cases of specs/Refusals.antt (`refused-exactly`). One way: a check that fails gives its case, those before it being passed, in the order in which `read`
-- has them. The other: by what a case says of the bytes each check before it passes and its own fails. Assumes nothing.
use Rattle.std.specs.Prelude.{Option, Some, None}
use Prim.Native.Nat.{ℕ, zero, suc, ◌+◌, ◌≤◌, ◌<◌}
use mathlib.Core.Bool.{Bool, true, false, cond, ◌&&◌, ◌||◌}
use mathlib.Core.List.{List, [], ◌∷◌}
use mathlib.Core.Logic.{◌↔◌}
use mathlib.Core.Path.{◌≡◌, refl, sym, ap, ◌∙◌, subst}
use native.Mathlib.Omega.{arith}
use borrow.Author.Tests.{eqb-true, eqb-false, leb-true, leb-false, le-leb, lt-leb, eq-eqb, ne_eqb}
use lib.Dec.{leb, eqb}
use lib.ListN.{length, take, drop}
use Rattle.rtr_text.specs.Utf8.{well_formed}
use Rattle.rtr_models.specs.Codes.{version_number, type_number, code_number, version_found, type_found, code_found}
use Rattle.rtr_models.proofs.Laws.{version-known, version-unknown, type-known, type-unknown, code-known, code-unknown}
use Rattle.rtr_models.specs.declared.RtrProtocolVersion.{RtrProtocolVersion}
use Rattle.rtr_models.specs.declared.RtrProtocolVersion.TheVariants.{V0, V1}
use Rattle.rtr_models.specs.declared.RtrErrorCode.{RtrErrorCode}
use Rattle.rtr_models.specs.declared.RtrErrorCode.TheVariants.{CorruptData, InternalError, NoDataAvailable, InvalidRequest, UnsupportedProtocolVersion, UnsupportedPduType, WithdrawalOfUnknownRecord, DuplicateAnnouncementReceived, UnexpectedProtocolVersion}
use Rattle.rtr_models.specs.declared.RtrPduType.{RtrPduType}
use Rattle.rtr_models.specs.declared.RtrPduType.TheVariants.{SerialNotify, SerialQuery, ResetQuery, CacheResponse, IPv4Prefix, IPv6Prefix, EndOfData, CacheReset, RouterKey, ErrorReport}
use Rattle.rtr_codec.specs.Bytes.{number}
use Rattle.rtr_codec.specs.Reading.{Reading, in_use}
use Rattle.rtr_codec.specs.Layout.{length_of}
use Rattle.rtr_codec.specs.Read.{Verdict, need, ends, code_in, last_code, header_length, key_fields, read_serial_notify, read_serial_query, read_reset_query, read_cache_response, read_ipv4_prefix, read_ipv6_prefix, read_end_of_data, read_cache_reset, read_router_key, read_text, read_encapsulated, read_code, read_error_report, read_as, read_typed, read_versioned, read}
use Rattle.rtr_codec.specs.Read.Verdict.{accepted, refused}
use Rattle.rtr_codec.specs.Answers.{verdict}
use Rattle.rtr_codec.specs.Refusals.{Complete, Versioned, Typed, Allowed, length_at, expected, Sized, last_code_in, Coded, text_to, Refusal}
use Rattle.rtr_codec.specs.Refusals.Refusal.{no_header, cut_short, version, type_five, type_over, key_in_v0, other_length, too_short, prefix_ipv4, prefix_ipv6, code, copy_length, text_length, text}
use Rattle.rtr_codec.proofs.parse_rtr_pdu.Reads as reads

-- ---- Numbers of versions, types and codes
version-small : (v : RtrProtocolVersion) → version_number v ≤ 1
version-small V0 = omega arith
version-small V1 = omega arith

type-small : (t : RtrPduType) → type_number t ≤ 10
type-small SerialNotify = omega arith
type-small SerialQuery = omega arith
type-small ResetQuery = omega arith
type-small CacheResponse = omega arith
type-small IPv4Prefix = omega arith
type-small IPv6Prefix = omega arith
type-small EndOfData = omega arith
type-small CacheReset = omega arith
type-small RouterKey = omega arith
type-small ErrorReport = omega arith

type-not-five : (t : RtrPduType) → type_number t ≡ 5 → ⊥
type-not-five SerialNotify e = omega arith
type-not-five SerialQuery e = omega arith
type-not-five ResetQuery e = omega arith
type-not-five CacheResponse e = omega arith
type-not-five IPv4Prefix e = omega arith
type-not-five IPv6Prefix e = omega arith
type-not-five EndOfData e = omega arith
type-not-five CacheReset e = omega arith
type-not-five RouterKey e = omega arith
type-not-five ErrorReport e = omega arith

-- the version, type and code of a small number
version_of : (n : ℕ) → n ≤ 1 → (v : RtrProtocolVersion) × (n ≡ version_number v)
version_of zero h = (V0, refl)
version_of (suc zero) h = (V1, refl)
version_of (suc (suc n)) h = absurd (omega arith)

type-of : (n : ℕ) → n ≤ 10 → (n ≡ 5 → ⊥) → (t : RtrPduType) × (n ≡ type_number t)
type-of zero h five = (SerialNotify, refl)
type-of (suc zero) h five = (SerialQuery, refl)
type-of (suc (suc zero)) h five = (ResetQuery, refl)
type-of (suc (suc (suc zero))) h five = (CacheResponse, refl)
type-of (suc (suc (suc (suc zero)))) h five = (IPv4Prefix, refl)
type-of (suc (suc (suc (suc (suc zero))))) h five = absurd (five refl)
type-of (suc (suc (suc (suc (suc (suc zero)))))) h five = (IPv6Prefix, refl)
type-of (suc (suc (suc (suc (suc (suc (suc zero))))))) h five = (EndOfData, refl)
type-of (suc (suc (suc (suc (suc (suc (suc (suc zero)))))))) h five = (CacheReset, refl)
type-of (suc (suc (suc (suc (suc (suc (suc (suc (suc zero))))))))) h five = (RouterKey, refl)
type-of (suc (suc (suc (suc (suc (suc (suc (suc (suc (suc zero)))))))))) h five = (ErrorReport, refl)
type-of (suc (suc (suc (suc (suc (suc (suc (suc (suc (suc (suc n))))))))))) h five = absurd (omega arith)

code_of : (n : ℕ) → n ≤ 8 → (c : RtrErrorCode) × (n ≡ code_number c)
code_of zero h = (CorruptData, refl)
code_of (suc zero) h = (InternalError, refl)
code_of (suc (suc zero)) h = (NoDataAvailable, refl)
code_of (suc (suc (suc zero))) h = (InvalidRequest, refl)
code_of (suc (suc (suc (suc zero)))) h = (UnsupportedProtocolVersion, refl)
code_of (suc (suc (suc (suc (suc zero))))) h = (UnsupportedPduType, refl)
code_of (suc (suc (suc (suc (suc (suc zero)))))) h = (WithdrawalOfUnknownRecord, refl)
code_of (suc (suc (suc (suc (suc (suc (suc zero))))))) h = (DuplicateAnnouncementReceived, refl)
code_of (suc (suc (suc (suc (suc (suc (suc (suc zero)))))))) h = (UnexpectedProtocolVersion, refl)
code_of (suc (suc (suc (suc (suc (suc (suc (suc (suc n))))))))) h = absurd (omega arith)

-- ---- Tests of a pair of bounds, of an error code and of a text's end
in_order : (a b limit : ℕ) → (a ≤ b) × (b ≤ limit) → leb a b && leb b limit ≡ true
in_order a b limit h = simp (le-leb a b h.0, le-leb b limit h.1)

true-is-not-false : true ≡ false → ⊥
true-is-not-false e = let z : ◌≡◌ {A = ℕ} 0 1 = cc in omega arith

not-in-order : (a b limit : ℕ) → ((a ≤ b) × (b ≤ limit) → ⊥) → leb a b && leb b limit ≡ false
not-in-order a b limit fails = go (leb a b) (leb b limit) refl refl
  where
    go : (p q : Bool) → leb a b ≡ p → leb b limit ≡ q → p && q ≡ false
    go true true s t = absurd (fails (leb-true a b s, leb-true b limit t))
    go true false s t = refl
    go false q s t = refl

-- the last code that is read, of a version
abbrev last_of : Bool → RtrProtocolVersion → ℕ
last_of b v = cond b 8 (last_code v)

code-in : (b : Bool) (v : RtrProtocolVersion) (n : ℕ) → n ≤ last_of b v → code_in b v n ≡ true
code-in true V0 n h = go (leb n 7) refl
  where
    go : (p : Bool) → leb n 7 ≡ p → p || eqb n 8 ≡ true
    go true e = refl
    go false e = eq-eqb n 8 (omega (arith, leb-false n 7 e))
code-in true V1 n h = simp (le-leb n 8 h)
code-in false V0 n h = simp (le-leb n 7 h)
code-in false V1 n h = simp (le-leb n 8 h)

code_out : (b : Bool) (v : RtrProtocolVersion) (n : ℕ) → last_of b v < n → code_in b v n ≡ false
code_out true V0 n h = simp (lt-leb n 7 (omega arith), ne_eqb n 8 (λ e. omega arith))
code_out true V1 n h = simp (lt-leb n 8 (omega arith), ne_eqb n 8 (λ e. omega arith))
code_out false V0 n h = simp (lt-leb n 7 (omega arith))
code_out false V1 n h = simp (lt-leb n 8 (omega arith))

last-at-most-8 : (b : Bool) (v : RtrProtocolVersion) → last_of b v ≤ 8
last-at-most-8 true v = omega arith
last-at-most-8 false V0 = omega arith
last-at-most-8 false V1 = omega arith

-- a number is in a list of codes, or past its end
code-side : (b : Bool) (v : RtrProtocolVersion) (n : ℕ) (p : Bool) → code_in b v n ≡ p → leb n (last_of b v) ≡ p
code-side b v n p e = go (leb n (last_of b v)) refl
  where
    go : (q : Bool) → leb n (last_of b v) ≡ q → q ≡ p
    go true s = sym (code-in b v n (leb-true n (last_of b v) s)) ∙ e
    go false s = sym (code_out b v n (leb-false n (last_of b v) s)) ∙ e

-- a version's last code, by its number
last-is : (b : Bool) (v : RtrProtocolVersion) (n : ℕ) → n ≡ version_number v → cond b 8 (cond (eqb n 0) 7 8) ≡ last_of b v
last-is b V0 n e = ap (λ (k : ℕ). cond b 8 (cond (eqb k 0) 7 8)) e
last-is b V1 n e = ap (λ (k : ℕ). cond b 8 (cond (eqb k 0) 7 8)) e

-- a text's end in rule, and out of rule
abbrev EndsAt : Bool → ℕ → ℕ → Type 0
EndsAt b x h = (b ≡ true → x ≤ h) × (b ≡ false → x ≡ h)

ends-in : (b : Bool) (x h : ℕ) → EndsAt b x h → ends b x h ≡ true
ends-in true x h k = le-leb x h (k.0 refl)
ends-in false x h k = eq-eqb x h (k.1 refl)

ends-out : (b : Bool) (x h : ℕ) → (EndsAt b x h → ⊥) → ends b x h ≡ false
ends-out true x h fails = go (leb x h) refl
  where
    go : (p : Bool) → leb x h ≡ p → p ≡ false
    go true e = absurd (fails (λ _. leb-true x h e, λ q. absurd (true-is-not-false q)))
    go false e = refl
ends-out false x h fails = go (eqb x h) refl
  where
    go : (p : Bool) → eqb x h ≡ p → p ≡ false
    go true e = absurd (fails (λ q. absurd (true-is-not-false (sym q)), λ _. eqb-true x h e))
    go false e = refl

ended : (b : Bool) (x h : ℕ) → ends b x h ≡ true → EndsAt b x h
ended true x h e = (λ _. leb-true x h e, λ q. absurd (true-is-not-false q))
ended false x h e = (λ q. absurd (true-is-not-false (sym q)), λ _. eqb-true x h e)

-- a Router Key's least length, in either arrangement
key-length : (b : Bool) → length_of (key_fields b) ≡ cond b 34 32
key-length true = refl
key-length false = refl

module _ (R : Reading) (s : List ℕ) where
  -- ---- What is refused is a case

  -- that, of a verdict that refuses
  abbrev Explains : Verdict → Type 0
  Explains (accepted pdu n) = Unit {0}
  Explains (refused k values) = Refusal R s k values

  checked : (b : Bool) (k : ℕ) (values : List ℕ) (next : Verdict) → (b ≡ false → Refusal R s k values) → (b ≡ true → Explains next) → Explains (need b k values next)
  checked true k values next fails holds = holds refl
  checked false k values next fails holds = fails refl

  typed-of : (v : RtrProtocolVersion) (t : RtrPduType) → Complete s → number s 0 1 ≡ version_number v → number s 1 1 ≡ type_number t → Typed s
  typed-of v t c pv pt =
      ((c, omega (arith, pv, version-small v)), omega (arith, pt, type-small t), λ e. type-not-five t (sym pt ∙ e))

  -- check 5 failed, of a type with one length x and of a type with a least length x
  other : (x y : ℕ) → Allowed s → expected R s ≡ x → number s 1 1 ≡ y → y ≤ 8 → eqb (number s 4 4) x ≡ false → Refusal R s 4 (x ∷ number s 4 4 ∷ y ∷ [])
  other x y al ex ty le fails =
      subst (Refusal R s 4) (λ i. ex i ∷ number s 4 4 ∷ ty i ∷ [])
      (other_length al (omega (arith, ty, le)) (λ e. eqb-false (number s 4 4) x fails (e ∙ ex)))

  short : (x y : ℕ) → Allowed s → expected R s ≡ x → number s 1 1 ≡ y → 9 ≤ y → leb x (number s 4 4) ≡ false → Refusal R s 4 (x ∷ number s 4 4 ∷ y ∷ [])
  short x y al ex ty ge fails =
      subst (Refusal R s 4) (λ i. ex i ∷ number s 4 4 ∷ ty i ∷ []) (too_short al (omega (arith, ty, ge)) (omega (arith, leb-false x (number s 4 4) fails, ex)))

  -- check 5 passed
  sized_same : (x y : ℕ) → Allowed s → expected R s ≡ x → number s 1 1 ≡ y → y ≤ 8 → eqb (number s 4 4) x ≡ true → Sized R s
  sized_same x y al ex ty le holds = (al, λ _. eqb-true (number s 4 4) x holds ∙ sym ex, λ h. absurd (omega (arith, h, ty, le)))

  sized-least : (x y : ℕ) → Allowed s → expected R s ≡ x → number s 1 1 ≡ y → 9 ≤ y → leb x (number s 4 4) ≡ true → Sized R s
  sized-least x y al ex ty ge holds = (al, λ h. absurd (omega (arith, h, ty, ge)), λ _. omega (arith, leb-true x (number s 4 4) holds, ex))

  code-explains : (v : RtrProtocolVersion) (f : Option RtrErrorCode) → code_found (number s 2 2) ≡ f → Sized R s → number s 0 1 ≡ version_number v → number s 1 1 ≡ 10
      → Explains (read_code R v (number s 2 2) f s)
  unfolding header_length read_code read_encapsulated read_text
  code-explains v None q sz pv pt = code sz pt (go (leb (number s 2 2) 8) refl)
    where
      go : (p : Bool) → leb (number s 2 2) 8 ≡ p → last_code_in R s < number s 2 2
      go true e =
          let c = code_of (number s 2 2) (leb-true (number s 2 2) 8 e) in
          absurd ((code-unknown (number s 2 2)).0 q c.0 c.1)
      go false e = omega (arith, leb-false (number s 2 2) 8 e, last-is R.code_eight_in_v0 v (number s 0 1) pv, last-at-most-8 R.code_eight_in_v0 v)
  code-explains v (Some c) q sz pv pt =
      let n : ℕ = number s 2 2 in
      let e : ℕ = number s 8 4 in
      let t : ℕ = number s (12 + e) 4 in
      let last : last_code_in R s ≡ last_of R.code_eight_in_v0 v = last-is R.code_eight_in_v0 v (number s 0 1) pv in
      checked (code_in R.code_eight_in_v0 v n) 7 _ _
      (λ fails. code sz pt (omega (arith, last, leb-false n (last_of R.code_eight_in_v0 v) (code-side R.code_eight_in_v0 v n false fails))))
      (λ holds.
      let coded : Coded R s = (sz, pt, omega (arith, last, leb-true n (last_of R.code_eight_in_v0 v) (code-side R.code_eight_in_v0 v n true holds))) in
      checked (leb (16 + e) (number s 4 4)) 4 _ _ (λ fails. copy_length coded (leb-false (16 + e) (number s 4 4) fails))
      (λ copy. checked (ends R.bytes_behind_text (16 + e + t) (number s 4 4)) 4 _ _
      (λ fails. text_length coded (leb-true (16 + e) (number s 4 4) copy) (λ k. true-is-not-false (sym (ends-in R.bytes_behind_text (16 + e + t) (number s 4 4) k) ∙ fails)))
      (λ end. checked (well_formed (take t (drop (16 + e) s))) 8 _ _
      (λ fails. text coded (leb-true (16 + e) (number s 4 4) copy) (ended R.bytes_behind_text (16 + e + t) (number s 4 4) end) fails)
      (λ _. tt))))

  as-explains : (v : RtrProtocolVersion) (t : RtrPduType) → Complete s → number s 0 1 ≡ version_number v → number s 1 1 ≡ type_number t → Explains (read_as R v t s)
  unfolding header_length read_as read_serial_notify read_serial_query read_reset_query read_cache_response read_ipv4_prefix read_ipv6_prefix read_end_of_data read_cache_reset read_router_key read_error_report
  as-explains v SerialNotify c pv pt =
      checked (eqb (number s 4 4) 12) 4 _ _ (other 12 0 (typed-of v SerialNotify c pv pt, λ _ z. omega (arith, pt, z)) (ap (length_at R (number s 0 1)) pt) pt (omega arith)) (λ _. tt)
  as-explains v SerialQuery c pv pt =
      checked (eqb (number s 4 4) 12) 4 _ _ (other 12 1 (typed-of v SerialQuery c pv pt, λ _ z. omega (arith, pt, z)) (ap (length_at R (number s 0 1)) pt) pt (omega arith)) (λ _. tt)
  as-explains v ResetQuery c pv pt =
      checked (eqb (number s 4 4) 8) 4 _ _ (other 8 2 (typed-of v ResetQuery c pv pt, λ _ z. omega (arith, pt, z)) (ap (length_at R (number s 0 1)) pt) pt (omega arith)) (λ _. tt)
  as-explains v CacheResponse c pv pt =
      checked (eqb (number s 4 4) 8) 4 _ _ (other 8 3 (typed-of v CacheResponse c pv pt, λ _ z. omega (arith, pt, z)) (ap (length_at R (number s 0 1)) pt) pt (omega arith)) (λ _. tt)
  as-explains v IPv4Prefix c pv pt =
      let al : Allowed s = (typed-of v IPv4Prefix c pv pt, λ _ z. omega (arith, pt, z)) in
      let ex : expected R s ≡ 20 = ap (length_at R (number s 0 1)) pt in
      checked (eqb (number s 4 4) 20) 4 _ _ (other 20 4 al ex pt (omega arith))
      (λ size. checked (leb (number s 9 1) (number s 10 1) && leb (number s 10 1) 32) 6 _ _
      (λ fails. prefix_ipv4 (sized_same 20 4 al ex pt (omega arith) size) pt (λ h. true-is-not-false (sym (in_order (number s 9 1) (number s 10 1) 32 h) ∙ fails)))
      (λ _. tt))
  as-explains v IPv6Prefix c pv pt =
      let al : Allowed s = (typed-of v IPv6Prefix c pv pt, λ _ z. omega (arith, pt, z)) in
      let ex : expected R s ≡ 32 = ap (length_at R (number s 0 1)) pt in
      checked (eqb (number s 4 4) 32) 4 _ _ (other 32 6 al ex pt (omega arith))
      (λ size. checked (leb (number s 9 1) (number s 10 1) && leb (number s 10 1) 128) 6 _ _
      (λ fails. prefix_ipv6 (sized_same 32 6 al ex pt (omega arith) size) pt (λ h. true-is-not-false (sym (in_order (number s 9 1) (number s 10 1) 128 h) ∙ fails)))
      (λ _. tt))
  as-explains V0 EndOfData c pv pt =
      checked (eqb (number s 4 4) 12) 4 _ _ (other 12 7 (typed-of V0 EndOfData c pv pt, λ _ z. omega (arith, pt, z)) (λ i. length_at R (pv i) (pt i)) pt (omega arith)) (λ _. tt)
  as-explains V1 EndOfData c pv pt =
      checked (eqb (number s 4 4) 24) 4 _ _ (other 24 7 (typed-of V1 EndOfData c pv pt, λ _ z. omega (arith, pt, z)) (λ i. length_at R (pv i) (pt i)) pt (omega arith)) (λ _. tt)
  as-explains v CacheReset c pv pt =
      checked (eqb (number s 4 4) 8) 4 _ _ (other 8 8 (typed-of v CacheReset c pv pt, λ _ z. omega (arith, pt, z)) (ap (length_at R (number s 0 1)) pt) pt (omega arith)) (λ _. tt)
  as-explains V0 RouterKey c pv pt = key_in_v0 (typed-of V0 RouterKey c pv pt) pv pt
  as-explains V1 RouterKey c pv pt =
      checked (leb (length_of (key_fields R.key_by_crate)) (number s 4 4)) 4 _ _
      (short (length_of (key_fields R.key_by_crate)) 9 (typed-of V1 RouterKey c pv pt, λ z _. omega (arith, pv, z))
      (ap (length_at R (number s 0 1)) pt ∙ sym (key-length R.key_by_crate)) pt (omega arith))
      (λ _. tt)
  as-explains v ErrorReport c pv pt =
      let al : Allowed s = (typed-of v ErrorReport c pv pt, λ _ z. omega (arith, pt, z)) in
      let ex : expected R s ≡ 16 = ap (length_at R (number s 0 1)) pt in
      checked (leb 16 (number s 4 4)) 4 _ _ (short 16 10 al ex pt (omega arith))
      (λ size. code-explains v (code_found (number s 2 2)) refl (sized-least 16 10 al ex pt (omega arith) size) pv pt)

  typed-explains : (v : RtrProtocolVersion) (f : Option RtrPduType) → type_found (number s 1 1) ≡ f → Complete s → number s 0 1 ≡ version_number v → Explains (read_typed R v (number s 1 1) f s)
  unfolding read_typed
  typed-explains v None e c pv = go (leb (number s 1 1) 10) (eqb (number s 1 1) 5) refl refl
    where
      versioned : Versioned s
      versioned = (c, omega (arith, pv, version-small v))

      go : (p q : Bool) → leb (number s 1 1) 10 ≡ p → eqb (number s 1 1) 5 ≡ q → Refusal R s 3 (number s 1 1 ∷ [])
      go p true h five = type_five versioned (eqb-true (number s 1 1) 5 five)
      go false false h five = type_over versioned (leb-false (number s 1 1) 10 h)
      go true false h five =
          let t = type-of (number s 1 1) (leb-true (number s 1 1) 10 h) (eqb-false (number s 1 1) 5 five) in
          absurd ((type-unknown (number s 1 1)).0 e t.0 t.1)
  typed-explains v (Some t) e c pv = as-explains v t c pv ((type-known (number s 1 1) t).0 e)

  versioned-explains : (f : Option RtrProtocolVersion) → version_found (number s 0 1) ≡ f → Complete s → Explains (read_versioned R (number s 0 1) f s)
  unfolding read_versioned
  versioned-explains None e c = go (leb (number s 0 1) 1) refl
    where
      go : (p : Bool) → leb (number s 0 1) 1 ≡ p → Refusal R s 2 (number s 0 1 ∷ [])
      go true h = let v = version_of (number s 0 1) (leb-true (number s 0 1) 1 h) in absurd ((version-unknown (number s 0 1)).0 e v.0 v.1)
      go false h = version c (leb-false (number s 0 1) 1 h)
  versioned-explains (Some v) e c = typed-explains v (type_found (number s 1 1)) refl c ((version-known (number s 0 1) v).0 e)

  read-explains : Explains (read R s)
  unfolding header_length read
  read-explains =
      checked (leb 8 (length s)) 1 _ _ (λ fails. no_header (leb-false 8 (length s) fails))
      (λ header. checked (leb (number s 4 4) (length s)) 1 _ _ (λ fails. cut_short (leb-true 8 (length s) header) (leb-false (number s 4 4) (length s) fails))
      (λ whole. versioned-explains (version_found (number s 0 1)) refl (leb-true 8 (length s) header, leb-true (number s 4 4) (length s) whole)))

  pub refused-case : (n : ℕ) (values : List ℕ) → read R s ≡ refused n values → Refusal R s n values
  refused-case n values e = subst Explains e read-explains

  -- ---- A case is refused

  short-refused : length s < 8 → read R s ≡ refused 1 (length s ∷ 8 ∷ [])
  unfolding read
  short-refused h = simp (lt-leb 8 (length s) h)

  cut-refused : 8 ≤ length s → length s < number s 4 4 → read R s ≡ refused 1 (length s ∷ number s 4 4 ∷ [])
  unfolding header_length read
  cut-refused p q = simp (le-leb 8 (length s) p, lt-leb (number s 4 4) (length s) q)

  complete-read : Complete s → read R s ≡ read_versioned R (number s 0 1) (version_found (number s 0 1)) s
  unfolding header_length read
  complete-read c = simp (le-leb 8 (length s) c.0, le-leb (number s 4 4) (length s) c.1)

  version-refused : Complete s → 2 ≤ number s 0 1 → read R s ≡ refused 2 (number s 0 1 ∷ [])
  unfolding read_versioned
  version-refused c h =
      complete-read c ∙ simp ((version-unknown (number s 0 1)).1 (λ v e. omega (arith, h, e, version-small v)))

  versioned-read : (v : RtrProtocolVersion) → Complete s → number s 0 1 ≡ version_number v → read R s ≡ read_typed R v (number s 1 1) (type_found (number s 1 1)) s
  unfolding read_versioned
  versioned-read v c pv = complete-read c ∙ simp ((version-known (number s 0 1) v).1 pv)

  type-refused : Versioned s → ((t : RtrPduType) → number s 1 1 ≡ type_number t → ⊥) → read R s ≡ refused 3 (number s 1 1 ∷ [])
  unfolding read_typed
  type-refused h none =
      let v = version_of (number s 0 1) h.1 in
      versioned-read v.0 h.0 v.1 ∙ simp ((type-unknown (number s 1 1)).1 none)

  read_as_lem : (v : RtrProtocolVersion) (t : RtrPduType) → Complete s → number s 0 1 ≡ version_number v → number s 1 1 ≡ type_number t → read R s ≡ read_as R v t s
  unfolding read_typed
  read_as_lem v t c pv pt = versioned-read v c pv ∙ simp ((type-known (number s 1 1) t).1 pt)

  -- check 5 fails, of a type with one length x and of a type with a least length x
  other-refused : (x y : ℕ) (next : Verdict) → expected R s ≡ x → number s 1 1 ≡ y → (number s 4 4 ≡ expected R s → ⊥)
      → need (eqb (number s 4 4) x) 4 (x ∷ number s 4 4 ∷ y ∷ []) next ≡ refused 4 (expected R s ∷ number s 4 4 ∷ number s 1 1 ∷ [])
  other-refused x y next ex ty ne =
      ap (λ (b : Bool). need b 4 (x ∷ number s 4 4 ∷ y ∷ []) next) (ne_eqb (number s 4 4) x (λ e. ne (e ∙ sym ex)))
      ∙ (λ i. refused 4 (sym ex i ∷ number s 4 4 ∷ sym ty i ∷ []))

  least-refused : (x y : ℕ) (next : Verdict) → expected R s ≡ x → number s 1 1 ≡ y → number s 4 4 < expected R s
      → need (leb x (number s 4 4)) 4 (x ∷ number s 4 4 ∷ y ∷ []) next ≡ refused 4 (expected R s ∷ number s 4 4 ∷ number s 1 1 ∷ [])
  least-refused x y next ex ty lt =
      ap (λ (b : Bool). need b 4 (x ∷ number s 4 4 ∷ y ∷ []) next) (lt-leb x (number s 4 4) (omega (arith, lt, ex)))
      ∙ (λ i. refused 4 (sym ex i ∷ number s 4 4 ∷ sym ty i ∷ []))

  other-as : (v : RtrProtocolVersion) (t : RtrPduType) → number s 0 1 ≡ version_number v → number s 1 1 ≡ type_number t → number s 1 1 ≤ 8 → (number s 4 4 ≡ expected R s → ⊥)
      → read_as R v t s ≡ refused 4 (expected R s ∷ number s 4 4 ∷ number s 1 1 ∷ [])
  unfolding header_length read_as read_serial_notify read_serial_query read_reset_query read_cache_response read_ipv4_prefix read_ipv6_prefix read_end_of_data read_cache_reset
  other-as v SerialNotify pv pt le ne = other-refused 12 0 _ (ap (length_at R (number s 0 1)) pt) pt ne
  other-as v SerialQuery pv pt le ne = other-refused 12 1 _ (ap (length_at R (number s 0 1)) pt) pt ne
  other-as v ResetQuery pv pt le ne = other-refused 8 2 _ (ap (length_at R (number s 0 1)) pt) pt ne
  other-as v CacheResponse pv pt le ne = other-refused 8 3 _ (ap (length_at R (number s 0 1)) pt) pt ne
  other-as v IPv4Prefix pv pt le ne = other-refused 20 4 _ (ap (length_at R (number s 0 1)) pt) pt ne
  other-as v IPv6Prefix pv pt le ne = other-refused 32 6 _ (ap (length_at R (number s 0 1)) pt) pt ne
  other-as V0 EndOfData pv pt le ne = other-refused 12 7 _ (λ i. length_at R (pv i) (pt i)) pt ne
  other-as V1 EndOfData pv pt le ne = other-refused 24 7 _ (λ i. length_at R (pv i) (pt i)) pt ne
  other-as v CacheReset pv pt le ne = other-refused 8 8 _ (ap (length_at R (number s 0 1)) pt) pt ne
  other-as v RouterKey pv pt le ne = absurd (omega (arith, pt, le))
  other-as v ErrorReport pv pt le ne = absurd (omega (arith, pt, le))

  least-as : (v : RtrProtocolVersion) (t : RtrPduType) → number s 0 1 ≡ version_number v → number s 1 1 ≡ type_number t → (number s 0 1 ≡ 0 → number s 1 1 ≡ 9 → ⊥) → 9 ≤ number s 1 1
      → number s 4 4 < expected R s → read_as R v t s ≡ refused 4 (expected R s ∷ number s 4 4 ∷ number s 1 1 ∷ [])
  unfolding header_length read_as read_router_key read_error_report
  least-as v SerialNotify pv pt al ge lt = absurd (omega (arith, pt, ge))
  least-as v SerialQuery pv pt al ge lt = absurd (omega (arith, pt, ge))
  least-as v ResetQuery pv pt al ge lt = absurd (omega (arith, pt, ge))
  least-as v CacheResponse pv pt al ge lt = absurd (omega (arith, pt, ge))
  least-as v IPv4Prefix pv pt al ge lt = absurd (omega (arith, pt, ge))
  least-as v IPv6Prefix pv pt al ge lt = absurd (omega (arith, pt, ge))
  least-as v EndOfData pv pt al ge lt = absurd (omega (arith, pt, ge))
  least-as v CacheReset pv pt al ge lt = absurd (omega (arith, pt, ge))
  least-as V0 RouterKey pv pt al ge lt = absurd (al pv pt)
  least-as V1 RouterKey pv pt al ge lt =
      least-refused (length_of (key_fields R.key_by_crate)) 9 _ (ap (length_at R (number s 0 1)) pt ∙ sym (key-length R.key_by_crate)) pt lt
  least-as v ErrorReport pv pt al ge lt = least-refused 16 10 _ (ap (length_at R (number s 0 1)) pt) pt lt

  -- an Error Report of the least length is read by its code
  report-read : Sized R s → number s 1 1 ≡ 10 → (v : RtrProtocolVersion) → number s 0 1 ≡ version_number v → read R s ≡ read_code R v (number s 2 2) (code_found (number s 2 2)) s
  unfolding header_length read_as read_error_report
  report-read sz pt v pv =
      let ex : expected R s ≡ 16 = ap (length_at R (number s 0 1)) pt in
      read_as_lem v ErrorReport sz.0.0.0.0 pv pt ∙ simp (le-leb 16 (number s 4 4) (omega (arith, sz.2 (omega (arith, pt)), ex)))

  code-refused : Sized R s → number s 1 1 ≡ 10 → last_code_in R s < number s 2 2 → read R s ≡ refused 7 (number s 2 2 ∷ [])
  unfolding read_code
  code-refused sz pt lt =
      let v = version_of (number s 0 1) sz.0.0.0.1 in
      report-read sz pt v.0 v.1 ∙ go v.0 v.1 (code_found (number s 2 2))
    where
      go : (v : RtrProtocolVersion) → number s 0 1 ≡ version_number v → (f : Option RtrErrorCode) → read_code R v (number s 2 2) f s ≡ refused 7 (number s 2 2 ∷ [])
      go v pv None = refl
      go v pv (Some c) =
          simp (code_out R.code_eight_in_v0 v (number s 2 2) (omega (arith, lt, last-is R.code_eight_in_v0 v (number s 0 1) pv)))

  coded-read : Coded R s → (v : RtrProtocolVersion) (c : RtrErrorCode) → number s 0 1 ≡ version_number v → number s 2 2 ≡ code_number c → read R s ≡ read_encapsulated R v c (number s 8 4) s
  unfolding read_code
  coded-read k v c pv pc =
      report-read k.0 k.1 v pv
      ∙ simp
      ((code-known (number s 2 2) c).1 pc, code-in R.code_eight_in_v0 v (number s 2 2) (omega (arith, k.2, last-is R.code_eight_in_v0 v (number s 0 1) pv)))

  -- version and code of a report that passes check 6
  coded-parts : Coded R s → (v : RtrProtocolVersion) × (c : RtrErrorCode) × (number s 0 1 ≡ version_number v) × (number s 2 2 ≡ code_number c)
  coded-parts k =
      let v = version_of (number s 0 1) k.0.0.0.0.1 in
      let c = code_of (number s 2 2) (omega (arith, k.2, last-is R.code_eight_in_v0 v.0 (number s 0 1) v.1, last-at-most-8 R.code_eight_in_v0 v.0)) in
      (v.0, c.0, v.1, c.1)

  report-refused : (n : ℕ) (values : List ℕ) → Coded R s → ((v : RtrProtocolVersion) (c : RtrErrorCode) → read_encapsulated R v c (number s 8 4) s ≡ refused n values) → read R s ≡ refused n values
  report-refused n values k all = let p = coded-parts k in coded-read k p.0 p.1 p.2 p.3 ∙ all p.0 p.1

  case-refused : (n : ℕ) (values : List ℕ) → Refusal R s n values → read R s ≡ refused n values
  unfolding header_length read_as read_ipv4_prefix read_ipv6_prefix read_router_key read_encapsulated read_text
  case-refused n values (no_header h) = short-refused h
  case-refused n values (cut_short p q) = cut-refused p q
  case-refused n values (version c h) = version-refused c h
  case-refused n values (type_five h five) = type-refused h (λ t e. type-not-five t (sym e ∙ five))
  case-refused n values (type_over h over) = type-refused h (λ t e. omega (arith, over, e, type-small t))
  case-refused n values (key_in_v0 h pv pt) = read_as_lem V0 RouterKey h.0.0 pv pt
  case-refused n values (other_length al le ne) =
      let v = version_of (number s 0 1) al.0.0.1 in
      let t = type-of (number s 1 1) al.0.1 al.0.2 in
      read_as_lem v.0 t.0 al.0.0.0 v.1 t.1 ∙ other-as v.0 t.0 v.1 t.1 le ne
  case-refused n values (too_short al ge lt) =
      let v = version_of (number s 0 1) al.0.0.1 in
      let t = type-of (number s 1 1) al.0.1 al.0.2 in
      read_as_lem v.0 t.0 al.0.0.0 v.1 t.1 ∙ least-as v.0 t.0 v.1 t.1 al.1 ge lt
  case-refused n values (prefix_ipv4 sz pt bad) =
      let v = version_of (number s 0 1) sz.0.0.0.1 in
      let size : number s 4 4 ≡ 20 = sz.1 (omega (arith, pt)) ∙ ap (length_at R (number s 0 1)) pt in
      read_as_lem v.0 IPv4Prefix sz.0.0.0.0 v.1 pt ∙ simp (eq-eqb (number s 4 4) 20 size, not-in-order (number s 9 1) (number s 10 1) 32 bad)
  case-refused n values (prefix_ipv6 sz pt bad) =
      let v = version_of (number s 0 1) sz.0.0.0.1 in
      let size : number s 4 4 ≡ 32 = sz.1 (omega (arith, pt)) ∙ ap (length_at R (number s 0 1)) pt in
      read_as_lem v.0 IPv6Prefix sz.0.0.0.0 v.1 pt ∙ simp (eq-eqb (number s 4 4) 32 size, not-in-order (number s 9 1) (number s 10 1) 128 bad)
  case-refused n values (code sz pt lt) = code-refused sz pt lt
  case-refused n values (copy_length k lt) = report-refused n values k (λ v c. simp (lt-leb (16 + number s 8 4) (number s 4 4) lt))
  case-refused n values (text_length k le bad) =
      report-refused n values k (λ v c. simp (le-leb (16 + number s 8 4) (number s 4 4) le, ends-out R.bytes_behind_text (text_to s) (number s 4 4) bad))
  case-refused n values (text k le end bad) =
      report-refused n values k (λ v c. simp (le-leb (16 + number s 8 4) (number s 4 4) le, ends-in R.bytes_behind_text (text_to s) (number s 4 4) end, bad))

-- a slice is refused by n with these values exactly in the cases of the page
pub refused-exactly : (R : Reading) (s : List ℕ) (n : ℕ) (values : List ℕ) → (read R s ≡ refused n values) ↔ Refusal R s n values
refused-exactly R s n values = (refused-case R s n values, case-refused R s n values)

-- and so is the call: its contract leaves a refusal of that number and those values exactly there
pub call-refused-exactly : (κs : _) (a : _) (r : _) (st : _) → reads.Post κs a r st → (n : ℕ) (values : List ℕ) → (verdict r ≡ refused n values) ↔ Refusal in_use a.0.now n values
call-refused-exactly κs a r st p n values =
    (λ e. refused-case in_use a.0.now n values (sym p ∙ e), λ k. p ∙ case-refused in_use a.0.now n values k)
