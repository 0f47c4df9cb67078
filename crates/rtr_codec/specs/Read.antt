-- Reading one PDU from a slice: document 01, "Reading". The checks stand in its order, each with its refusal's number and values; what is
-- read off the bytes is RFC 8210, sections 5.1 to 5.11, but for the switches of a `Reading`.
use Rattle.std.specs.Prelude.{ℕ, ◌+◌, ◌-◌, min, Bool, true, false, cond, ◌&&◌, ◌||◌, List, [], ◌∷◌, length, take, drop, leb, eqb, Option, Some, None}
use Rattle.rtr_text.specs.Utf8.{well_formed, well_formed_up_to}
use Rattle.rtr_codec.specs.Bytes.{number}
use Rattle.rtr_codec.specs.Layout.{Label, Field, serial_layout, bare_layout, response_layout, ipv4_layout, ipv6_layout, end_layout, key_layout, crate_key_layout, report_layout, text_layout, length_of, place, place_of, value_from, value_of, encapsulated_start, text_start}
use Rattle.rtr_codec.specs.Layout.Label.{session_id, serial_number, flags, prefix_length, max_length, address0, address1, address2, address3, as_number, refresh_interval, retry_interval, expire_interval, key_identifier, error_code, encapsulated_length, text_length}
use Rattle.rtr_codec.specs.Reading.{Reading}
use Rattle.rtr_models.specs.Codes.{version_found, type_found, code_found, type_number}
use Rattle.rtr_models.specs.declared.RtrProtocolVersion.{RtrProtocolVersion}
use Rattle.rtr_models.specs.declared.RtrProtocolVersion.TheVariants.{V0, V1}
use Rattle.rtr_models.specs.declared.RtrPduType.{RtrPduType}
use Rattle.rtr_models.specs.declared.RtrPduType.TheVariants.{SerialNotify, SerialQuery, ResetQuery, CacheResponse, IPv4Prefix, IPv6Prefix, EndOfData, CacheReset, RouterKey, ErrorReport}
use Rattle.rtr_models.specs.declared.RtrErrorCode.{RtrErrorCode}
use Rattle.rtr_models.specs.declared.RtrPdu.{RtrPdu}

-- what a reader may answer: a PDU and the bytes that it took, or a refusal's number and values (document 01, "Refusal numbers")
pub data Verdict : Type 0 where
  accepted : RtrPdu → ℕ → Verdict
  refused : ℕ → List ℕ → Verdict

-- go on where the test holds, else refuse
abbrev pub need : Bool → ℕ → List ℕ → Verdict → Verdict
need true n values next = next
need false n values next = refused n values

-- the header's length (RFC 8210, 5.1, Length)
unfoldable pub header_length : List ℕ → ℕ
header_length s = number s 4 4

-- check 5: the length is that of the fields; what comes next has their values by their labels
abbrev pub fixed : RtrPduType → List Field → List ℕ → ((Label → ℕ) → Verdict) → Verdict
fixed type fields s next =
    need (eqb (header_length s) (length_of fields)) 4 (length_of fields ∷ header_length s ∷ type_number type ∷ [])
    (next (value_of fields s))

-- check 6: prefix length ≤ max length ≤ the family's bits
abbrev pub prefixes : ℕ → ℕ → ℕ → Verdict → Verdict
prefixes length max limit next = need (leb length max && leb max limit) 6 (length ∷ max ∷ limit ∷ []) next

-- 5.2
unfoldable pub read_serial_notify : RtrProtocolVersion → List ℕ → Verdict
read_serial_notify v s =
    fixed SerialNotify serial_layout s
    (λ x. accepted (RtrPdu.SerialNotify (record { version = v; session_id = x session_id; serial_number = x serial_number })) (header_length s))

-- 5.3
unfoldable pub read_serial_query : RtrProtocolVersion → List ℕ → Verdict
read_serial_query v s =
    fixed SerialQuery serial_layout s
    (λ x. accepted (RtrPdu.SerialQuery (record { version = v; session_id = x session_id; serial_number = x serial_number })) (header_length s))

-- 5.4
unfoldable pub read_reset_query : RtrProtocolVersion → List ℕ → Verdict
read_reset_query v s = fixed ResetQuery bare_layout s (λ x. accepted (RtrPdu.ResetQuery (record { version = v })) (header_length s))

-- 5.5
unfoldable pub read_cache_response : RtrProtocolVersion → List ℕ → Verdict
read_cache_response v s =
    fixed CacheResponse response_layout s
    (λ x. accepted (RtrPdu.CacheResponse (record { version = v; session_id = x session_id })) (header_length s))

-- 5.6
unfoldable pub read_ipv4_prefix : RtrProtocolVersion → List ℕ → Verdict
read_ipv4_prefix v s =
    fixed IPv4Prefix ipv4_layout s
    (λ x. prefixes (x prefix_length) (x max_length) 32
    (accepted
    (RtrPdu.IPv4Prefix
    (record {
      version = v;
      flags = x flags;
      prefix_length = x prefix_length;
      max_length = x max_length;
      prefix = x address0;
      asn = x as_number;
    }))
    (header_length s)))

-- 5.7
unfoldable pub read_ipv6_prefix : RtrProtocolVersion → List ℕ → Verdict
read_ipv6_prefix v s =
    fixed IPv6Prefix ipv6_layout s
    (λ x. prefixes (x prefix_length) (x max_length) 128
    (accepted
    (RtrPdu.IPv6Prefix
    (record {
      version = v;
      flags = x flags;
      prefix_length = x prefix_length;
      max_length = x max_length;
      prefix = record { w0 = x address0; w1 = x address1; w2 = x address2; w3 = x address3 };
      asn = x as_number;
    }))
    (header_length s)))

-- 5.8: version 0 has no intervals
unfoldable pub read_end_of_data : RtrProtocolVersion → List ℕ → Verdict
read_end_of_data V0 s =
    fixed EndOfData (end_layout V0) s
    (λ x. accepted
    (RtrPdu.EndOfData
    (record {
      version = V0;
      session_id = x session_id;
      serial_number = x serial_number;
      refresh_interval = None;
      retry_interval = None;
      expire_interval = None;
    }))
    (header_length s))
read_end_of_data V1 s =
    fixed EndOfData (end_layout V1) s
    (λ x. accepted
    (RtrPdu.EndOfData
    (record {
      version = V1;
      session_id = x session_id;
      serial_number = x serial_number;
      refresh_interval = Some (x refresh_interval);
      retry_interval = Some (x retry_interval);
      expire_interval = Some (x expire_interval);
    }))
    (header_length s))

-- 5.9
unfoldable pub read_cache_reset : RtrProtocolVersion → List ℕ → Verdict
read_cache_reset v s = fixed CacheReset bare_layout s (λ x. accepted (RtrPdu.CacheReset (record { version = v })) (header_length s))

-- 5.10: check 4, not in version 0; check 5, at least its fields; the key info is the rest
abbrev pub key_fields : Bool → List Field
key_fields by_crate = cond by_crate crate_key_layout key_layout

abbrev pub read_key : List Field → List ℕ → Verdict
read_key fields s =
    need (leb (length_of fields) (header_length s)) 4 (length_of fields ∷ header_length s ∷ type_number RouterKey ∷ [])
    (accepted
    (RtrPdu.RouterKey
    (record {
      version = V1;
      flags = value_of fields s flags;
      subject_key_identifier = place_of fields key_identifier;
      asn = value_of fields s as_number;
      subject_public_key_info = place (length_of fields) (header_length s - length_of fields);
    }))
    (header_length s))

unfoldable pub read_router_key : Reading → RtrProtocolVersion → List ℕ → Verdict
read_router_key R V0 s = refused 5 []
read_router_key R V1 s = read_key (key_fields R.key_by_crate) s

-- 5.11: behind the header the encapsulated PDU's length and bytes, then the text's; a sum that does not fit 32 bits is named by the
-- largest number that does (document 01)
abbrev pub capped : ℕ → ℕ
capped n = min n 4294967295

-- the text's end is the PDU's end, or does not lie behind it where bytes behind the text are passed over
abbrev pub ends : Bool → ℕ → ℕ → Bool
ends passed_over end total = cond passed_over (leb end total) (eqb end total)

-- what goes with refusal 8, for a text that is well formed up to so many bytes: nothing (document 01, "Refusal numbers")
abbrev pub text_refusal : ℕ → List ℕ
text_refusal up_to = []

-- check 7: the encapsulated length e, then the text's length t, then the text
unfoldable pub read_text : Reading → RtrProtocolVersion → RtrErrorCode → ℕ → ℕ → List ℕ → Verdict
read_text R v c e t s =
    need (ends R.bytes_behind_text (text_start e + t) (header_length s)) 4 (capped (text_start e + t) ∷ header_length s ∷ type_number ErrorReport ∷ [])
    (need (well_formed (take t (drop (text_start e) s))) 8 (text_refusal (well_formed_up_to (take t (drop (text_start e) s))))
    (accepted
    (RtrPdu.ErrorReport
    (record {
      version = v;
      error_code = c;
      erroneous_pdu = place encapsulated_start e;
      error_text = place (text_start e) t;
    }))
    (header_length s)))

unfoldable pub read_encapsulated : Reading → RtrProtocolVersion → RtrErrorCode → ℕ → List ℕ → Verdict
read_encapsulated R v c e s =
    need (leb (text_start e) (header_length s)) 4 (capped (text_start e) ∷ header_length s ∷ type_number ErrorReport ∷ [])
    (read_text R v c e (value_from (encapsulated_start + e) text_layout s text_length) s)

-- RFC 6810, section 10, has the codes 0 to 7; RFC 8210, section 12, adds 8
abbrev pub last_code : RtrProtocolVersion → ℕ
last_code V0 = 7
last_code V1 = 8

abbrev pub code_in : Bool → RtrProtocolVersion → ℕ → Bool
code_in eight_in_v0 v n = leb n (last_code v) || (eight_in_v0 && eqb n 8)

-- check 6, the error code
unfoldable pub read_code : Reading → RtrProtocolVersion → ℕ → Option RtrErrorCode → List ℕ → Verdict
read_code R v n None s = refused 7 (n ∷ [])
read_code R v n (Some c) s =
    need (code_in R.code_eight_in_v0 v n) 7 (n ∷ []) (read_encapsulated R v c (value_of report_layout s encapsulated_length) s)

unfoldable pub read_error_report : Reading → RtrProtocolVersion → List ℕ → Verdict
read_error_report R v s =
    need (leb (text_start 0) (header_length s)) 4 (text_start 0 ∷ header_length s ∷ type_number ErrorReport ∷ [])
    (read_code R v (value_of report_layout s error_code) (code_found (value_of report_layout s error_code)) s)

-- checks 4 to 7, by the PDU's type
unfoldable pub read_as : Reading → RtrProtocolVersion → RtrPduType → List ℕ → Verdict
read_as R v SerialNotify s = read_serial_notify v s
read_as R v SerialQuery s = read_serial_query v s
read_as R v ResetQuery s = read_reset_query v s
read_as R v CacheResponse s = read_cache_response v s
read_as R v IPv4Prefix s = read_ipv4_prefix v s
read_as R v IPv6Prefix s = read_ipv6_prefix v s
read_as R v EndOfData s = read_end_of_data v s
read_as R v CacheReset s = read_cache_reset v s
read_as R v RouterKey s = read_router_key R v s
read_as R v ErrorReport s = read_error_report R v s

-- check 3
unfoldable pub read_typed : Reading → RtrProtocolVersion → ℕ → Option RtrPduType → List ℕ → Verdict
read_typed R v n None s = refused 3 (n ∷ [])
read_typed R v n (Some t) s = read_as R v t s

-- check 2
unfoldable pub read_versioned : Reading → ℕ → Option RtrProtocolVersion → List ℕ → Verdict
read_versioned R n None s = refused 2 (n ∷ [])
read_versioned R n (Some v) s = read_typed R v (number s 1 1) (type_found (number s 1 1)) s

-- check 1, and all: what reading a slice gives
unfoldable pub read : Reading → List ℕ → Verdict
read R s =
    need (leb 8 (length s)) 1 (length s ∷ 8 ∷ [])
    (need (leb (header_length s) (length s)) 1 (length s ∷ header_length s ∷ [])
    (read_versioned R (number s 0 1) (version_found (number s 0 1)) s))

-- how many bytes there must be before a slice is answered by anything but 1: the header's 8, and then as many as it names
unfoldable pub needed : List ℕ → ℕ
needed s = cond (leb 8 (length s)) (header_length s) 8
