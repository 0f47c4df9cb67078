-- Bytes behind a PDU do not change what is read of it. A number that lies in s is the same in s ++ t, so each check goes the same way;
-- where a check passes, what it tested says that the fields behind it lie in s too. Over every reading. Assumes nothing.
use Rattle.std.specs.Prelude.{Option, Some, None}
use Prim.Native.Nat.{ℕ, zero, suc, ◌≤◌, ◌+◌}
use mathlib.Core.Bool.{Bool, true, false, cond}
use mathlib.Core.List.{List, [], ◌∷◌, ◌++◌}
use mathlib.Core.Path.{◌≡◌, refl, ap, ◌∙◌}
use native.Mathlib.Omega.{arith}
use borrow.Author.Tests.{eqb-true, leb-true}
use lib.Dec.{leb, eqb}
use lib.ListN.{length, get_or, take, drop, length-drop, get_or-append}
use lib.Seq.{take-append-le, drop-append-le}
use Rattle.rtr_models.specs.Codes.{type_found, code_found}
use Rattle.rtr_models.specs.declared.RtrProtocolVersion.{RtrProtocolVersion}
use Rattle.rtr_models.specs.declared.RtrProtocolVersion.TheVariants.{V0, V1}
use Rattle.rtr_models.specs.declared.RtrPduType.{RtrPduType}
use Rattle.rtr_models.specs.declared.RtrPduType.TheVariants.{SerialNotify, SerialQuery, ResetQuery, CacheResponse, IPv4Prefix, IPv6Prefix, EndOfData, CacheReset, RouterKey, ErrorReport}
use Rattle.rtr_models.specs.declared.RtrErrorCode.{RtrErrorCode}
use Rattle.rtr_models.specs.declared.Place.{Place}
use Rattle.rtr_codec.specs.Bytes.{number}
use Rattle.rtr_codec.specs.Reading.{Reading}
use Rattle.rtr_codec.specs.Layout.{Label, Field, widths, length_of, same, place, place_from, value_from, value_of}
use Rattle.rtr_codec.specs.Layout.Label.{flags, as_number}
use Rattle.rtr_codec.specs.Layout.Field.{ignored, total, value, payload}
use Rattle.rtr_codec.specs.Read.{Verdict, need, header_length, ends, key_fields, read_key, read_serial_notify, read_serial_query, read_reset_query, read_cache_response, read_ipv4_prefix, read_ipv6_prefix, read_end_of_data, read_cache_reset, read_router_key, read_text, read_encapsulated, read_code, read_error_report, read_as, read_typed, read_versioned}

-- a check that passes or fails for both alike
same_check : (b : Bool) (k : ℕ) (values : List ℕ) (next next' : Verdict) → (b ≡ true → next ≡ next') → need b k values next ≡ need b k values next'
same_check true k values next next' f = f refl
same_check false k values next next' f = refl

-- where a text ends in rule, it does not end behind the PDU
ends-within : (b : Bool) (x h : ℕ) → ends b x h ≡ true → x ≤ h
ends-within true x h e = leb-true x h e
ends-within false x h e = omega (arith, eqb-true x h e)

-- the field of a label ends within the fields: it is the first of them, or one of the others
within-either : (b : Bool) (at n : ℕ) (fs : List Field) (other : Place) → other.start + other.len ≤ at + n + widths fs
    → (cond b (place at n) other).start + (cond b (place at n) other).len ≤ at + (n + widths fs)
within-either true at n fs other h = omega arith
within-either false at n fs other h = omega arith

place-within : (at : ℕ) (fs : List Field) (l : Label) → (place_from at fs l).start + (place_from at fs l).len ≤ at + widths fs
place-within at [] l = omega arith
place-within at (ignored n ∷ fs) l = omega (arith, place-within (at + n) fs l)
place-within at (total ∷ fs) l = omega (arith, place-within (at + 4) fs l)
place-within at (value m n ∷ fs) l = within-either (same m l) at n fs (place_from (at + n) fs l) (place-within (at + n) fs l)
place-within at (payload m n ∷ fs) l = within-either (same m l) at n fs (place_from (at + n) fs l) (place-within (at + n) fs l)

module _ (s t : List ℕ) where
  pub number_behind : (at size : ℕ) → at + size ≤ length s → number (s ++ t) at size ≡ number s at size
  unfolding number
  number_behind at zero h = refl
  number_behind at (suc size) h =
      let byte : get_or (s ++ t) (at + size) 0 ≡ get_or s (at + size) 0 = get_or-append s t 0 (at + size) (omega arith) in
      let front : number (s ++ t) at size ≡ number s at size = number_behind at size (omega arith) in
      cc

  value-behind : (at : ℕ) (fs : List Field) (l : Label) → at + widths fs ≤ length s → value_from at fs (s ++ t) l ≡ value_from at fs s l
  value-behind at fs l h = number_behind (place_from at fs l).start (place_from at fs l).len (omega (arith, place-within at fs l))

  pub header-behind : 8 ≤ length s → header_length (s ++ t) ≡ header_length s
  unfolding header_length
  header-behind h = number_behind 4 4 h

  text-part-behind : (a n : ℕ) → a + n ≤ length s → take n (drop a (s ++ t)) ≡ take n (drop a s)
  text-part-behind a n h =
      ap (take n) (drop-append-le a s t (omega arith))
      ∙ take-append-le n (drop a s) t (simp length-drop (omega arith))

module _ (s t : List ℕ) (large : 8 ≤ length s) (fits : header_length s ≤ length s) where
  -- a number within the header's length
  inside : (n : ℕ) → n ≤ header_length s → (at size : ℕ) → at + size ≤ n → number (s ++ t) at size ≡ number s at size
  inside n h at size i = number_behind s t at size (omega arith)

  exact : (n : ℕ) → eqb (header_length s) n ≡ true → (at size : ℕ) → at + size ≤ n → number (s ++ t) at size ≡ number s at size
  exact n e at size i = number_behind s t at size (omega (arith, eqb-true (header_length s) n e))

  key-behind : (fields : List Field) → read_key fields (s ++ t) ≡ read_key fields s
  key-behind fields =
      simp (header-behind s t large)
      (same_check (leb (length_of fields) (header_length s)) 4 _ _ _
      (λ e.
      let here : (l : Label) → value_of fields (s ++ t) l ≡ value_of fields s l = λ l. value-behind s t 2 fields l (omega (arith, leb-true (length_of fields) (header_length s) e)) in
      simp (here flags, here as_number)))

  text-behind : (R : Reading) (v : RtrProtocolVersion) (c : RtrErrorCode) (e n : ℕ) → read_text R v c e n (s ++ t) ≡ read_text R v c e n s
  unfolding read_text
  text-behind R v c e n =
      simp (header-behind s t large)
      (same_check (ends R.bytes_behind_text (16 + e + n) (header_length s)) 4 _ _ _
      (λ q. simp (text-part-behind s t (16 + e) n (omega (arith, ends-within R.bytes_behind_text (16 + e + n) (header_length s) q)))))

  encapsulated-behind : (R : Reading) (v : RtrProtocolVersion) (c : RtrErrorCode) (e : ℕ) → read_encapsulated R v c e (s ++ t) ≡ read_encapsulated R v c e s
  unfolding read_encapsulated
  encapsulated-behind R v c e =
      simp (header-behind s t large)
      (same_check (leb (16 + e) (header_length s)) 4 _ _ _
      (λ q. simp (inside (16 + e) (leb-true (16 + e) (header_length s) q) (12 + e) 4 (omega arith)) (text-behind R v c e (number s (12 + e) 4))))

  code-behind : (R : Reading) (v : RtrProtocolVersion) (n : ℕ) (f : Option RtrErrorCode) → 16 ≤ header_length s → read_code R v n f (s ++ t) ≡ read_code R v n f s
  unfolding read_code
  code-behind R v n None h = refl
  code-behind R v n (Some c) h = simp (inside 16 h 8 4 (omega arith), encapsulated-behind R v c (number s 8 4))

  as-behind : (R : Reading) (v : RtrProtocolVersion) (type : RtrPduType) → read_as R v type (s ++ t) ≡ read_as R v type s
  unfolding read_as read_serial_notify read_serial_query read_reset_query read_cache_response read_ipv4_prefix read_ipv6_prefix read_end_of_data read_cache_reset read_router_key read_error_report
  as-behind R v SerialNotify =
      simp (header-behind s t large)
      (same_check (eqb (header_length s) 12) 4 _ _ _ (λ e. simp (exact 12 e 2 2 (omega arith), exact 12 e 8 4 (omega arith))))
  as-behind R v SerialQuery =
      simp (header-behind s t large)
      (same_check (eqb (header_length s) 12) 4 _ _ _ (λ e. simp (exact 12 e 2 2 (omega arith), exact 12 e 8 4 (omega arith))))
  as-behind R v ResetQuery = simp (header-behind s t large)
  as-behind R v CacheResponse =
      simp (header-behind s t large) (same_check (eqb (header_length s) 8) 4 _ _ _ (λ e. simp (exact 8 e 2 2 (omega arith))))
  as-behind R v IPv4Prefix =
      simp (header-behind s t large)
      (same_check (eqb (header_length s) 20) 4 _ _ _
      (λ e. simp
      (exact 20 e 8 1 (omega arith), exact 20 e 9 1 (omega arith), exact 20 e 10 1 (omega arith), exact 20 e 12 4 (omega arith), exact 20 e 16 4 (omega arith))))
  as-behind R v IPv6Prefix =
      simp (header-behind s t large)
      (same_check (eqb (header_length s) 32) 4 _ _ _
      (λ e. simp
      (exact 32 e 8 1 (omega arith), exact 32 e 9 1 (omega arith), exact 32 e 10 1 (omega arith), exact 32 e 12 4 (omega arith), exact 32 e 16 4 (omega arith), exact 32 e 20 4 (omega arith), exact 32 e 24 4 (omega arith), exact 32 e 28 4 (omega arith))))
  as-behind R V0 EndOfData =
      simp (header-behind s t large)
      (same_check (eqb (header_length s) 12) 4 _ _ _ (λ e. simp (exact 12 e 2 2 (omega arith), exact 12 e 8 4 (omega arith))))
  as-behind R V1 EndOfData =
      simp (header-behind s t large)
      (same_check (eqb (header_length s) 24) 4 _ _ _
      (λ e. simp
      (exact 24 e 2 2 (omega arith), exact 24 e 8 4 (omega arith), exact 24 e 12 4 (omega arith), exact 24 e 16 4 (omega arith), exact 24 e 20 4 (omega arith))))
  as-behind R v CacheReset = simp (header-behind s t large)
  as-behind R V0 RouterKey = refl
  as-behind R V1 RouterKey = key-behind (key_fields R.key_by_crate)
  as-behind R v ErrorReport =
      simp (header-behind s t large)
      (same_check (leb 16 (header_length s)) 4 _ _ _
      (λ e. simp (number_behind s t 2 2 (omega arith)) (code-behind R v (number s 2 2) (code_found (number s 2 2)) (leb-true 16 (header_length s) e))))

  typed-behind : (R : Reading) (v : RtrProtocolVersion) (n : ℕ) (f : Option RtrPduType) → read_typed R v n f (s ++ t) ≡ read_typed R v n f s
  unfolding read_typed
  typed-behind R v n None = refl
  typed-behind R v n (Some type) = as-behind R v type

  pub versioned-behind : (R : Reading) (n : ℕ) (f : Option RtrProtocolVersion) → read_versioned R n f (s ++ t) ≡ read_versioned R n f s
  unfolding read_versioned
  versioned-behind R n None = refl
  versioned-behind R n (Some v) =
      simp (number_behind s t 1 1 (omega arith)) (typed-behind R v (number s 1 1) (type_found (number s 1 1)))
