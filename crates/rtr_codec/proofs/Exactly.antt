-- A slice is read as a PDU of n bytes exactly if the PDU stands in its first n bytes (`read-exactly`). One way: a check (`need`) that passes says what it tested, so each kind follows from its last line. The other: each check
-- passes by what stands there. Assumes nothing.
use Rattle.std.specs.Prelude.{Option, Some, None}
use Prim.Native.Nat.{ℕ, ◌+◌, ◌-◌, ◌≤◌}
use mathlib.Core.Bool.{Bool, true, false, ◌&&◌}
use mathlib.Core.List.{List}
use mathlib.Core.Logic.{◌↔◌}
use mathlib.Core.Path.{◌≡◌, refl, sym, ap, ◌∙◌, subst}
use native.Mathlib.Omega.{arith}
use borrow.Author.Tests.{eqb-true, leb-true, le-leb}
use lib.Dec.{leb, eqb}
use lib.ListN.{length, take, drop}
use Rattle.rtr_text.specs.Utf8.{well_formed}
use Rattle.rtr_models.specs.Codes.{version_number, type_number, version_found, type_found, code_found}
use Rattle.rtr_models.specs.Values.{type_of, version_of}
use Rattle.rtr_models.proofs.Laws.{version-known, type-known, code-known}
use Rattle.rtr_models.specs.declared.RtrProtocolVersion.{RtrProtocolVersion}
use Rattle.rtr_models.specs.declared.RtrProtocolVersion.TheVariants.{V0, V1}
use Rattle.rtr_models.specs.declared.RtrPduType.{RtrPduType}
use Rattle.rtr_models.specs.declared.RtrPduType.TheVariants.{SerialNotify, SerialQuery, ResetQuery, CacheResponse, IPv4Prefix, IPv6Prefix, EndOfData, CacheReset, RouterKey, ErrorReport}
use Rattle.rtr_models.specs.declared.RtrEndOfData.{RtrEndOfData}
use Rattle.rtr_models.specs.declared.RtrRouterKey.{RtrRouterKey}
use Rattle.rtr_models.specs.declared.RtrErrorReport.{RtrErrorReport}
use Rattle.rtr_models.specs.declared.RtrPdu.{RtrPdu}
use Rattle.rtr_codec.specs.Bytes.{number}
use Rattle.rtr_codec.specs.Reading.{Reading}
use Rattle.rtr_codec.specs.Layout.{length_of, place, place_of, value_of}
use Rattle.rtr_codec.specs.Layout.Label.{flags, as_number, key_identifier}
use Rattle.rtr_codec.specs.Read.{Verdict, need, ends, code_in, header_length, key_fields, read_key, read_serial_notify, read_serial_query, read_reset_query, read_cache_response, read_ipv4_prefix, read_ipv6_prefix, read_end_of_data, read_cache_reset, read_router_key, read_text, read_encapsulated, read_code, read_error_report, read_as, read_typed, read_versioned, read}
use Rattle.rtr_codec.specs.Read.Verdict.{accepted, refused}
use Rattle.rtr_codec.specs.Stands.{EndStands, KeyStands, ReportStands, KindStands, Stands}
use Rattle.rtr_codec.proofs.Laws.{read-consumes}
use Rattle.rtr_models.specs.declared.RtrErrorCode.{RtrErrorCode}

-- check 6 of a prefix
in_order : (a b limit : ℕ) → leb a b && leb b limit ≡ true → (a ≤ b) × (b ≤ limit)
in_order a b limit e = go (leb a b) (leb b limit) refl refl e
  where
    go : (p q : Bool) → leb a b ≡ p → leb b limit ≡ q → p && q ≡ true → (a ≤ b) × (b ≤ limit)
    go true true s t e = (leb-true a b s, leb-true b limit t)
    go true false s t e = absurd (let z : ◌≡◌ {A = ℕ} 0 1 = cc in omega arith)
    go false q s t e = absurd (let z : ◌≡◌ {A = ℕ} 0 1 = cc in omega arith)

-- a text that ends in rule does not end behind the PDU
pub ends-within : (b : Bool) (x h : ℕ) → ends b x h ≡ true → x ≤ h
ends-within true x h e = leb-true x h e
ends-within false x h e = omega (arith, eqb-true x h e)

module _ (R : Reading) (s : List ℕ) where
  -- ---- What is read stands there

  -- that, of a verdict that accepts
  abbrev StandsIn : Verdict → Type 0
  StandsIn (accepted pdu n) = (number s 0 1 ≡ version_number (version_of pdu)) × (number s 1 1 ≡ type_number (type_of pdu)) × KindStands R s pdu
  StandsIn (refused k values) = Unit {0}

  checked : (b : Bool) (k : ℕ) (values : List ℕ) (next : Verdict) → (b ≡ true → StandsIn next) → StandsIn (need b k values next)
  checked true k values next keeps = keeps refl
  checked false k values next keeps = tt

  -- a Router Key as it is read, in either arrangement
  abbrev key_read : Bool → RtrRouterKey
  key_read b =
      record {
        version = V1;
        flags = value_of (key_fields b) s flags;
        subject_key_identifier = place_of (key_fields b) key_identifier;
        asn = value_of (key_fields b) s as_number;
        subject_public_key_info = place (length_of (key_fields b)) (header_length s - length_of (key_fields b));
      }

  key-stands : (b : Bool) → leb (length_of (key_fields b)) (header_length s) ≡ true → KeyStands b (key_read b) s
  key-stands true e = (leb-true 34 (header_length s) e, refl, refl, refl, refl)
  key-stands false e = (leb-true 32 (header_length s) e, refl, refl, refl, refl)

  code-stands : (v : RtrProtocolVersion) (f : Option RtrErrorCode) → code_found (number s 2 2) ≡ f → number s 0 1 ≡ version_number v → number s 1 1 ≡ 10 → StandsIn (read_code R v (number s 2 2) f s)
  unfolding read_code read_encapsulated read_text
  code-stands v None q pv pt = tt
  code-stands v (Some c) q pv pt =
      let e : ℕ = number s 8 4 in
      let t : ℕ = number s (12 + e) 4 in
      checked (code_in R.code_eight_in_v0 v (number s 2 2)) 7 _ _
      (λ code. checked (leb (16 + e) (header_length s)) 4 _ _
      (λ _. checked (ends R.bytes_behind_text (16 + e + t) (header_length s)) 4 _ _
      (λ end. checked (well_formed (take t (drop (16 + e) s))) 8 _ _
      (λ text. (pv, pt, ((code-known (number s 2 2) c).0 q, code, refl, refl, end, text))))))

  as-stands : (v : RtrProtocolVersion) (t : RtrPduType) → number s 0 1 ≡ version_number v → number s 1 1 ≡ type_number t → StandsIn (read_as R v t s)
  unfolding read_as read_serial_notify read_serial_query read_reset_query read_cache_response read_ipv4_prefix read_ipv6_prefix read_end_of_data read_cache_reset read_router_key read_error_report
  as-stands v SerialNotify pv pt = checked (eqb (header_length s) 12) 4 _ _ (λ e. (pv, pt, (eqb-true _ _ e, refl, refl)))
  as-stands v SerialQuery pv pt = checked (eqb (header_length s) 12) 4 _ _ (λ e. (pv, pt, (eqb-true _ _ e, refl, refl)))
  as-stands v ResetQuery pv pt = checked (eqb (header_length s) 8) 4 _ _ (λ e. (pv, pt, eqb-true _ _ e))
  as-stands v CacheResponse pv pt = checked (eqb (header_length s) 8) 4 _ _ (λ e. (pv, pt, (eqb-true _ _ e, refl)))
  as-stands v IPv4Prefix pv pt =
      checked (eqb (header_length s) 20) 4 _ _
      (λ e. checked (leb (number s 9 1) (number s 10 1) && leb (number s 10 1) 32) 6 _ _
      (λ x.
      let rule = in_order (number s 9 1) (number s 10 1) 32 x in
      (pv, pt, (eqb-true _ _ e, refl, refl, refl, refl, refl, rule.0, rule.1))))
  as-stands v IPv6Prefix pv pt =
      checked (eqb (header_length s) 32) 4 _ _
      (λ e. checked (leb (number s 9 1) (number s 10 1) && leb (number s 10 1) 128) 6 _ _
      (λ x.
      let rule = in_order (number s 9 1) (number s 10 1) 128 x in
      (pv, pt, (eqb-true _ _ e, refl, refl, refl, refl, refl, refl, refl, refl, rule.0, rule.1))))
  as-stands V0 EndOfData pv pt = checked (eqb (header_length s) 12) 4 _ _ (λ e. (pv, pt, (eqb-true _ _ e, refl, refl, refl, refl, refl)))
  as-stands V1 EndOfData pv pt = checked (eqb (header_length s) 24) 4 _ _ (λ e. (pv, pt, (eqb-true _ _ e, refl, refl, refl, refl, refl)))
  as-stands v CacheReset pv pt = checked (eqb (header_length s) 8) 4 _ _ (λ e. (pv, pt, eqb-true _ _ e))
  as-stands V0 RouterKey pv pt = tt
  as-stands V1 RouterKey pv pt =
      checked (leb (length_of (key_fields R.key_by_crate)) (header_length s)) 4 _ _ (λ e. (pv, pt, (refl, key-stands R.key_by_crate e)))
  as-stands v ErrorReport pv pt = checked (leb 16 (header_length s)) 4 _ _ (λ _. code-stands v (code_found (number s 2 2)) refl pv pt)

  typed-stands : (v : RtrProtocolVersion) (f : Option RtrPduType) → type_found (number s 1 1) ≡ f → number s 0 1 ≡ version_number v → StandsIn (read_typed R v (number s 1 1) f s)
  unfolding read_typed
  typed-stands v None e pv = tt
  typed-stands v (Some t) e pv = as-stands v t pv ((type-known (number s 1 1) t).0 e)

  versioned-stands : (f : Option RtrProtocolVersion) → version_found (number s 0 1) ≡ f → StandsIn (read_versioned R (number s 0 1) f s)
  unfolding read_versioned
  versioned-stands None e = tt
  versioned-stands (Some v) e = typed-stands v (type_found (number s 1 1)) refl ((version-known (number s 0 1) v).0 e)

  read-stands : StandsIn (read R s)
  unfolding read
  read-stands =
      checked (leb 8 (length s)) 1 _ _
      (λ _. checked (leb (header_length s) (length s)) 1 _ _ (λ _. versioned-stands (version_found (number s 0 1)) refl))

  pub stands_read : (pdu : RtrPdu) (n : ℕ) → read R s ≡ accepted pdu n → Stands R s pdu n
  stands_read pdu n e =
      let c = read-consumes R s pdu n e in
      let k : StandsIn (accepted pdu n) = subst StandsIn e read-stands in
      record { header = c.1; whole = c.2; total = c.0; version = k.0; type = k.1; kind = k.2 }

  -- ---- What stands there is read

  end_reads : (v : RtrProtocolVersion) (p : RtrEndOfData) → v ≡ p.version → EndStands v p s → read_end_of_data v s ≡ accepted (RtrPdu.EndOfData p) (header_length s)
  unfolding read_end_of_data
  end_reads V0 p v k =
      simp k.0
      (λ i. accepted
      (RtrPdu.EndOfData (record { version = v i; session_id = k.1 i; serial_number = k.2 i; refresh_interval = k.3 i; retry_interval = k.4 i; expire_interval = k.5 i }))
      12)
  end_reads V1 p v k =
      simp k.0
      (λ i. accepted
      (RtrPdu.EndOfData (record { version = v i; session_id = k.1 i; serial_number = k.2 i; refresh_interval = k.3 i; retry_interval = k.4 i; expire_interval = k.5 i }))
      24)

  key_reads : (b : Bool) (p : RtrRouterKey) → V1 ≡ p.version → KeyStands b p s → read_key (key_fields b) s ≡ accepted (RtrPdu.RouterKey p) (header_length s)
  key_reads true p v k =
      simp (le-leb 34 (header_length s) k.0)
      (λ i. accepted (RtrPdu.RouterKey (record { version = v i; flags = k.1 i; subject_key_identifier = k.2 i; asn = k.3 i; subject_public_key_info = k.4 i })) (header_length s))
  key_reads false p v k =
      simp (le-leb 32 (header_length s) k.0)
      (λ i. accepted (RtrPdu.RouterKey (record { version = v i; flags = k.1 i; subject_key_identifier = k.2 i; asn = k.3 i; subject_public_key_info = k.4 i })) (header_length s))

  report-reads : (p : RtrErrorReport) → ReportStands R p (number s 8 4) (number s (12 + number s 8 4) 4) s → read_error_report R p.version s ≡ accepted (RtrPdu.ErrorReport p) (header_length s)
  unfolding read_error_report read_code read_encapsulated read_text
  report-reads p k =
      let e : ℕ = number s 8 4 in
      let t : ℕ = number s (12 + e) 4 in
      let within : 16 + e + t ≤ header_length s = ends-within R.bytes_behind_text (16 + e + t) (header_length s) k.4 in
      let code : code_found (number s 2 2) ≡ Some p.error_code = (code-known (number s 2 2) p.error_code).1 k.0 in
      simp (code, k.1, le-leb 16 (header_length s) (omega arith), le-leb (16 + e) (header_length s) (omega arith), k.4, k.5)
      (λ i. accepted (RtrPdu.ErrorReport (record { version = p.version; error_code = p.error_code; erroneous_pdu = k.2 i; error_text = k.3 i })) (header_length s))

  kind-reads : (pdu : RtrPdu) → KindStands R s pdu → read_as R (version_of pdu) (type_of pdu) s ≡ accepted pdu (header_length s)
  unfolding read_as read_serial_notify read_serial_query read_reset_query read_cache_response read_ipv4_prefix read_ipv6_prefix read_cache_reset read_router_key
  kind-reads (RtrPdu.SerialNotify p) k = simp (k.0, k.1, k.2)
  kind-reads (RtrPdu.SerialQuery p) k = simp (k.0, k.1, k.2)
  kind-reads (RtrPdu.ResetQuery p) k = simp k
  kind-reads (RtrPdu.CacheResponse p) k = simp (k.0, k.1)
  kind-reads (RtrPdu.IPv4Prefix p) k =
      simp (k.0, k.1, k.2, k.3, k.4, k.5, le-leb p.prefix_length p.max_length k.6, le-leb p.max_length 32 k.7)
  kind-reads (RtrPdu.IPv6Prefix p) k =
      simp (k.0, k.1, k.2, k.3, k.4, k.5, k.6, k.7, k.8, le-leb p.prefix_length p.max_length k.9, le-leb p.max_length 128 k.10)
  kind-reads (RtrPdu.EndOfData p) k = end_reads p.version p refl k
  kind-reads (RtrPdu.CacheReset p) k = simp k
  kind-reads (RtrPdu.RouterKey p) k = ap (λ (v : RtrProtocolVersion). read_router_key R v s) (sym k.0) ∙ key_reads R.key_by_crate p k.0 k.1
  kind-reads (RtrPdu.ErrorReport p) k = report-reads p k

  pub reads-standing : (pdu : RtrPdu) (n : ℕ) → Stands R s pdu n → read R s ≡ accepted pdu n
  unfolding read read_versioned read_typed
  reads-standing pdu n k =
      let header : leb 8 (length s) ≡ true = le-leb 8 (length s) (omega (arith, k.header, k.whole)) in
      let whole : leb (header_length s) (length s) ≡ true = le-leb (header_length s) (length s) (omega (arith, k.total, k.whole)) in
      let version = (version-known (number s 0 1) (version_of pdu)).1 k.version in
      let type = (type-known (number s 1 1) (type_of pdu)).1 k.type in
      simp (header, whole, version, type) (kind-reads pdu k.kind) ∙ ap (accepted pdu) (sym k.total)

-- a slice is read as a PDU of n bytes exactly if the PDU stands in them
pub read-exactly : (R : Reading) (s : List ℕ) (pdu : RtrPdu) (n : ℕ) → (read R s ≡ accepted pdu n) ↔ Stands R s pdu n
read-exactly R s pdu n = (stands_read R s pdu n, reads-standing R s pdu n)

-- so one PDU at most stands in a slice, in so many bytes
pub stands-once : (R : Reading) (s : List ℕ) (pdu pdu' : RtrPdu) (n n' : ℕ) → Stands R s pdu n → Stands R s pdu' n' → (pdu ≡ pdu') × (n ≡ n')
stands-once R s pdu pdu' n n' k k' =
    let e : accepted pdu n ≡ accepted pdu' n' = sym (reads-standing R s pdu n k) ∙ reads-standing R s pdu' n' k' in
    let p : pdu ≡ pdu' = cc in
    let q : n ≡ n' = cc in
    (p, q)
