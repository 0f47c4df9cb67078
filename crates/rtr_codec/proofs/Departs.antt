-- Two readings that differ only in departures that do not apply to a slice read it alike. A check before a switch has passed where the switch is asked; the
-- version and the type that were found are the header's (the tables' laws), so each switch is asked only where its departure applies, or where both of its ways
-- give the same test. Assumes nothing.
use Rattle.std.specs.Prelude.{Option, Some, None}
use Prim.Native.Nat.{ℕ, ◌≤◌, ◌+◌}
use mathlib.Core.Bool.{Bool, true, false}
use mathlib.Core.List.{List}
use mathlib.Core.Logic.{◌⊎◌, inl, inr}
use mathlib.Core.Path.{◌≡◌, refl, sym, ap, ◌∙◌}
use native.Mathlib.Omega.{arith}
use borrow.Author.Tests.{eq-eqb, le-leb, leb-true, leb-false, ltb-false, eqb-true, eqb-false, ne_eqb}
use lib.Dec.{leb, ltb, eqb}
use lib.ListN.{length}
use Rattle.rtr_models.specs.Codes.{version_found, version_number, type_found, type_number, code_found}
use Rattle.rtr_models.specs.declared.RtrProtocolVersion.{RtrProtocolVersion}
use Rattle.rtr_models.specs.declared.RtrProtocolVersion.TheVariants.{V0, V1}
use Rattle.rtr_models.specs.declared.RtrPduType.{RtrPduType}
use Rattle.rtr_models.specs.declared.RtrPduType.TheVariants.{SerialNotify, SerialQuery, ResetQuery, CacheResponse, IPv4Prefix, IPv6Prefix, EndOfData, CacheReset, RouterKey, ErrorReport}
use Rattle.rtr_models.specs.declared.RtrErrorCode.{RtrErrorCode}
use Rattle.rtr_models.proofs.Laws.{version-known, type-known, code-known, code-at-most-8}
use Rattle.rtr_codec.specs.Bytes.{number}
use Rattle.rtr_codec.specs.Reading.{Reading}
use Rattle.rtr_codec.specs.Departures.{Departure, has, there, reported, applies}
use Rattle.rtr_codec.specs.Departures.Departure.{code_eight_in_v0, bytes_behind_text, key_by_crate}
use Rattle.rtr_codec.specs.Read.{Verdict, need, header_length, ends, code_in, key_fields, read_key, read_router_key, read_text, read_encapsulated, read_code, read_error_report, read_as, read_typed, read_versioned, read}

-- R and R' agree on a departure, or it does not apply to s
abbrev pub Alike : Reading → Reading → List ℕ → Type 0
Alike R R' s = (d : Departure) → (has R d ≡ has R' d) ⊎ (applies R d s ≡ false)

-- two checks are alike where their tests are, and what comes next is, once the test has passed
need-alike : (b b' : Bool) (k : ℕ) (values : List ℕ) (x y : Verdict) → b ≡ b' → (b ≡ true → x ≡ y) → need b k values x ≡ need b' k values y
need-alike true true k values x y e f = f refl
need-alike true false k values x y e f = let z : ◌≡◌ {A = ℕ} 0 1 = cc in absurd (omega arith)
need-alike false true k values x y e f = let z : ◌≡◌ {A = ℕ} 0 1 = cc in absurd (omega arith)
need-alike false false k values x y e f = refl

-- where the text does not end before the PDU does, both ways of the switch are one test
ends-alike : (b b' : Bool) (x h : ℕ) → (ltb x h ≡ true → b ≡ b') → ends b x h ≡ ends b' x h
ends-alike b b' x h same = go (ltb x h) refl
  where
    one : (c : Bool) → ltb x h ≡ false → ends c x h ≡ eqb x h
    one true e = both (leb x h) refl
      where
        both : (q : Bool) → leb x h ≡ q → leb x h ≡ eqb x h
        both true p = p ∙ sym (eq-eqb x h (omega (arith, leb-true x h p, ltb-false x h e)))
        both false p = p ∙ sym (ne_eqb x h (λ i. omega (arith, leb-false x h p)))
    one false e = refl

    go : (q : Bool) → ltb x h ≡ q → ends b x h ≡ ends b' x h
    go true e = ap (λ (c : Bool). ends c x h) (same e)
    go false e = one b e ∙ sym (one b' e)

-- a known code is in every version's list, but for 8 in version 0
code_alike : (b b' : Bool) (v : RtrProtocolVersion) (n : ℕ) → n ≤ 8 → (version_number v ≡ 0 → n ≡ 8 → b ≡ b') → code_in b v n ≡ code_in b' v n
code_alike b b' V1 n h same = let listed : leb n 8 ≡ true = le-leb n 8 h in simp listed
code_alike b b' V0 n h same = go (eqb n 8) refl
  where
    go : (q : Bool) → eqb n 8 ≡ q → code_in b V0 n ≡ code_in b' V0 n
    go true e = ap (λ (c : Bool). code_in c V0 n) (same refl (eqb-true n 8 e))
    go false e = let listed : leb n 7 ≡ true = le-leb n 7 (omega (arith, eqb-false n 8 e)) in simp listed

-- a report of a known version whose code is in the reading's list is reported
reported-is : (R : Reading) (s : List ℕ) (v : RtrProtocolVersion) → number s 0 1 ≡ version_number v → number s 1 1 ≡ 10 → code_in R.code_eight_in_v0 v (number s 2 2) ≡ true → reported R s ≡ true
reported-is R s V0 q t c = simp (q, t, c)
reported-is R s V1 q t c = simp (q, t, c)

-- a departure applies where its switch is asked and matters
key-applies : (R : Reading) (s : List ℕ) → there s ≡ true → number s 0 1 ≡ 1 → number s 1 1 ≡ 9 → applies R key_by_crate s ≡ true
unfolding applies
key-applies R s here v t = simp (here, v, t)

code-applies : (R : Reading) (s : List ℕ) → there s ≡ true → number s 0 1 ≡ 0 → number s 1 1 ≡ 10 → leb 16 (header_length s) ≡ true → number s 2 2 ≡ 8 → applies R code_eight_in_v0 s ≡ true
unfolding applies
code-applies R s here v t l c = simp (here, v, t, l, c)

text-applies : (R : Reading) (s : List ℕ) → there s ≡ true → reported R s ≡ true → ltb (16 + number s 8 4 + number s (12 + number s 8 4) 4) (header_length s) ≡ true → applies R bytes_behind_text s ≡ true
unfolding applies
text-applies R s here r e = simp (here, r, e)

module _ (R R' : Reading) (s : List ℕ) (alike : Alike R R' s) (here : there s ≡ true) where
  switch : (d : Departure) → applies R d s ≡ true → has R d ≡ has R' d
  switch d a = go (alike d)
    where
      go : (has R d ≡ has R' d) ⊎ (applies R d s ≡ false) → has R d ≡ has R' d
      go (inl e) = e
      go (inr e) = cc

  text-alike : reported R s ≡ true → (v : RtrProtocolVersion) (c : RtrErrorCode)
      → read_text R v c (number s 8 4) (number s (12 + number s 8 4) 4) s ≡ read_text R' v c (number s 8 4) (number s (12 + number s 8 4) 4) s
  unfolding read_text
  text-alike r v c =
      simp (ends-alike R.bytes_behind_text R'.bytes_behind_text (16 + number s 8 4 + number s (12 + number s 8 4) 4) (header_length s) (λ e. switch bytes_behind_text (text-applies R s here r e)))

  encapsulated-alike : reported R s ≡ true → (v : RtrProtocolVersion) (c : RtrErrorCode) → read_encapsulated R v c (number s 8 4) s ≡ read_encapsulated R' v c (number s 8 4) s
  unfolding read_encapsulated
  encapsulated-alike r v c = simp (text-alike r v c)

  by_code : (v : RtrProtocolVersion) → number s 0 1 ≡ version_number v → number s 1 1 ≡ 10 → leb 16 (header_length s) ≡ true → (f : Option RtrErrorCode) → code_found (number s 2 2) ≡ f
      → read_code R v (number s 2 2) f s ≡ read_code R' v (number s 2 2) f s
  unfolding read_code
  by_code v q t l None e = refl
  by_code v q t l (Some c) e =
      let small : number s 2 2 ≤ 8 = omega (arith, (code-known (number s 2 2) c).0 e, code-at-most-8 c) in
      need-alike _ _ 7 _ _ _ (code_alike R.code_eight_in_v0 R'.code_eight_in_v0 v (number s 2 2) small (λ z c. switch code_eight_in_v0 (code-applies R s here (q ∙ z) t l c)))
      (λ x. encapsulated-alike (reported-is R s v q t x) v c)

  report-alike : (v : RtrProtocolVersion) → number s 0 1 ≡ version_number v → number s 1 1 ≡ 10 → read_error_report R v s ≡ read_error_report R' v s
  unfolding read_error_report
  report-alike v q t = need-alike _ _ 4 _ _ _ refl (λ l. by_code v q t l (code_found (number s 2 2)) refl)

  as-alike : (v : RtrProtocolVersion) (type : RtrPduType) → number s 0 1 ≡ version_number v → number s 1 1 ≡ type_number type → read_as R v type s ≡ read_as R' v type s
  unfolding read_as read_router_key
  as-alike v SerialNotify q t = refl
  as-alike v SerialQuery q t = refl
  as-alike v ResetQuery q t = refl
  as-alike v CacheResponse q t = refl
  as-alike v IPv4Prefix q t = refl
  as-alike v IPv6Prefix q t = refl
  as-alike v EndOfData q t = refl
  as-alike v CacheReset q t = refl
  as-alike V0 RouterKey q t = refl
  as-alike V1 RouterKey q t = ap (λ (b : Bool). read_key (key_fields b) s) (switch key_by_crate (key-applies R s here q t))
  as-alike v ErrorReport q t = report-alike v q t

  by-type : (v : RtrProtocolVersion) → number s 0 1 ≡ version_number v → (f : Option RtrPduType) → type_found (number s 1 1) ≡ f → read_typed R v (number s 1 1) f s ≡ read_typed R' v (number s 1 1) f s
  unfolding read_typed
  by-type v q None e = refl
  by-type v q (Some type) e = as-alike v type q ((type-known (number s 1 1) type).0 e)

  by-version : (f : Option RtrProtocolVersion) → version_found (number s 0 1) ≡ f → read_versioned R (number s 0 1) f s ≡ read_versioned R' (number s 0 1) f s
  unfolding read_versioned
  by-version None e = refl
  by-version (Some v) e = by-type v ((version-known (number s 0 1) v).0 e) (type_found (number s 1 1)) refl

pub read_alike : (R R' : Reading) (s : List ℕ) → Alike R R' s → read R s ≡ read R' s
unfolding read
read_alike R R' s alike =
    need-alike (leb 8 (length s)) _ 1 _ _ _ refl
    (λ a. need-alike (leb (header_length s) (length s)) _ 1 _ _ _ refl
    (λ b. by-version R R' s alike (cc) (version_found (number s 0 1)) refl))
