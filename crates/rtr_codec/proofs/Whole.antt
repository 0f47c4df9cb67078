-- What reading answers once the header's bytes are there: a PDU of exactly the header's length, which is 8 or more, or a refusal by 2
-- to 8. `Whole` says so of a verdict; a check (`need`) keeps it, so each kind follows from its last line. Assumes nothing.
use Rattle.std.specs.Prelude.{Option, Some, None}
use Prim.Native.Nat.{ℕ, ◌≤◌, ◌+◌}
use mathlib.Core.Bool.{Bool, true, false, ◌&&◌}
use mathlib.Core.List.{List}
use mathlib.Core.Path.{◌≡◌, refl}
use native.Mathlib.Omega.{arith}
use borrow.Author.Tests.{eqb-true, leb-true}
use Rattle.rtr_models.specs.declared.RtrProtocolVersion.{RtrProtocolVersion}
use Rattle.rtr_models.specs.declared.RtrProtocolVersion.TheVariants.{V0, V1}
use Rattle.rtr_models.specs.declared.RtrPduType.{RtrPduType}
use Rattle.rtr_models.specs.declared.RtrPduType.TheVariants.{SerialNotify, SerialQuery, ResetQuery, CacheResponse, IPv4Prefix, IPv6Prefix, EndOfData, CacheReset, RouterKey, ErrorReport}
use Rattle.rtr_models.specs.declared.RtrErrorCode.{RtrErrorCode}
use Rattle.rtr_models.specs.declared.RtrPdu.{RtrPdu}
use Rattle.rtr_codec.specs.Reading.{Reading}
use Rattle.rtr_codec.specs.Layout.{Field, length_of}
use Rattle.rtr_models.specs.Codes.{code_found, type_found}
use Rattle.rtr_codec.specs.Bytes.{number}
use Rattle.rtr_text.specs.Utf8.{well_formed}
use lib.Dec.{leb}
use lib.ListN.{take, drop}
use Rattle.rtr_codec.specs.Read.{Verdict, need, prefixes, ends, code_in, header_length, key_fields, read_key, read_serial_notify, read_serial_query, read_reset_query, read_cache_response, read_ipv4_prefix, read_ipv6_prefix, read_end_of_data, read_cache_reset, read_router_key, read_text, read_encapsulated, read_code, read_error_report, read_as, read_typed, read_versioned}
use Rattle.rtr_codec.specs.Read.Verdict.{accepted, refused}

-- a PDU of h bytes, 8 or more, or a refusal by 2 to 8
abbrev pub Whole : ℕ → Verdict → Type 0
Whole h (accepted pdu n) = (n ≡ h) × (8 ≤ n)
Whole h (refused k values) = (2 ≤ k) × (k ≤ 8)

checked : (h : ℕ) (b : Bool) (k : ℕ) (values : List ℕ) (next : Verdict) → (2 ≤ k) × (k ≤ 8) → (b ≡ true → Whole h next) → Whole h (need b k values next)
checked h true k values next other keeps = keeps refl
checked h false k values next other keeps = other

-- the last check before a PDU of h bytes
last : (h : ℕ) (b : Bool) (k : ℕ) (values : List ℕ) (pdu : RtrPdu) → (2 ≤ k) × (k ≤ 8) → (b ≡ true → 8 ≤ h) → Whole h (need b k values (accepted pdu h))
last h true k values pdu other large = (refl, large refl)
last h false k values pdu other large = other

prefixes-whole : (h l m limit : ℕ) (pdu : RtrPdu) → 8 ≤ h → Whole h (prefixes l m limit (accepted pdu h))
prefixes-whole h l m limit pdu large = last h (leb l m && leb m limit) 6 _ pdu (omega arith, omega arith) (λ _. large)

key-whole : (fields : List Field) (s : List ℕ) → 8 ≤ length_of fields → Whole (header_length s) (read_key fields s)
key-whole fields s h =
    last (header_length s) _ 4 _ _ (omega arith, omega arith) (λ e. omega (arith, leb-true (length_of fields) (header_length s) e))

key-length : (b : Bool) → 8 ≤ length_of (key_fields b)
key-length true = omega arith
key-length false = omega arith

text-whole : (R : Reading) (v : RtrProtocolVersion) (c : RtrErrorCode) (e t : ℕ) (s : List ℕ) → 16 ≤ header_length s → Whole (header_length s) (read_text R v c e t s)
unfolding read_text
text-whole R v c e t s h =
    checked (header_length s) (ends R.bytes_behind_text (16 + e + t) (header_length s)) 4 _ _ (omega arith, omega arith)
    (λ _. last (header_length s) (well_formed (take t (drop (16 + e) s))) 8 _ _ (omega arith, omega arith) (λ _. omega arith))

encapsulated-whole : (R : Reading) (v : RtrProtocolVersion) (c : RtrErrorCode) (e : ℕ) (s : List ℕ) → 16 ≤ header_length s → Whole (header_length s) (read_encapsulated R v c e s)
unfolding read_encapsulated
encapsulated-whole R v c e s h =
    checked (header_length s) (leb (16 + e) (header_length s)) 4 _ _ (omega arith, omega arith) (λ _. text-whole R v c e (number s (12 + e) 4) s h)

code-whole : (R : Reading) (v : RtrProtocolVersion) (n : ℕ) (f : Option RtrErrorCode) (s : List ℕ) → 16 ≤ header_length s → Whole (header_length s) (read_code R v n f s)
unfolding read_code
code-whole R v n None s h = (omega arith, omega arith)
code-whole R v n (Some c) s h =
    checked (header_length s) (code_in R.code_eight_in_v0 v n) 7 _ _ (omega arith, omega arith) (λ _. encapsulated-whole R v c (number s 8 4) s h)

as-whole : (R : Reading) (v : RtrProtocolVersion) (t : RtrPduType) (s : List ℕ) → Whole (header_length s) (read_as R v t s)
unfolding read_as read_serial_notify read_serial_query read_reset_query read_cache_response read_ipv4_prefix read_ipv6_prefix read_end_of_data read_cache_reset read_router_key read_error_report
as-whole R v SerialNotify s = last (header_length s) _ 4 _ _ (omega arith, omega arith) (λ e. omega (arith, eqb-true (header_length s) 12 e))
as-whole R v SerialQuery s = last (header_length s) _ 4 _ _ (omega arith, omega arith) (λ e. omega (arith, eqb-true (header_length s) 12 e))
as-whole R v ResetQuery s = last (header_length s) _ 4 _ _ (omega arith, omega arith) (λ e. omega (arith, eqb-true (header_length s) 8 e))
as-whole R v CacheResponse s = last (header_length s) _ 4 _ _ (omega arith, omega arith) (λ e. omega (arith, eqb-true (header_length s) 8 e))
as-whole R v IPv4Prefix s =
    checked (header_length s) _ 4 _ _ (omega arith, omega arith)
    (λ e. prefixes-whole (header_length s) (number s 9 1) (number s 10 1) 32 _ (omega (arith, eqb-true (header_length s) 20 e)))
as-whole R v IPv6Prefix s =
    checked (header_length s) _ 4 _ _ (omega arith, omega arith)
    (λ e. prefixes-whole (header_length s) (number s 9 1) (number s 10 1) 128 _ (omega (arith, eqb-true (header_length s) 32 e)))
as-whole R V0 EndOfData s = last (header_length s) _ 4 _ _ (omega arith, omega arith) (λ e. omega (arith, eqb-true (header_length s) 12 e))
as-whole R V1 EndOfData s = last (header_length s) _ 4 _ _ (omega arith, omega arith) (λ e. omega (arith, eqb-true (header_length s) 24 e))
as-whole R v CacheReset s = last (header_length s) _ 4 _ _ (omega arith, omega arith) (λ e. omega (arith, eqb-true (header_length s) 8 e))
as-whole R V0 RouterKey s = (omega arith, omega arith)
as-whole R V1 RouterKey s = key-whole (key_fields R.key_by_crate) s (key-length R.key_by_crate)
as-whole R v ErrorReport s =
    checked (header_length s) (leb 16 (header_length s)) 4 _ _ (omega arith, omega arith)
    (λ e. code-whole R v (number s 2 2) (code_found (number s 2 2)) s (leb-true 16 (header_length s) e))

typed-whole : (R : Reading) (v : RtrProtocolVersion) (n : ℕ) (f : Option RtrPduType) (s : List ℕ) → Whole (header_length s) (read_typed R v n f s)
unfolding read_typed
typed-whole R v n None s = (omega arith, omega arith)
typed-whole R v n (Some t) s = as-whole R v t s

pub versioned-whole : (R : Reading) (n : ℕ) (f : Option RtrProtocolVersion) (s : List ℕ) → Whole (header_length s) (read_versioned R n f s)
unfolding read_versioned
versioned-whole R n None s = (omega arith, omega arith)
versioned-whole R n (Some v) s = typed-whole R v (number s 1 1) (type_found (number s 1 1)) s
