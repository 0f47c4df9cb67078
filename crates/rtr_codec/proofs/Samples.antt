-- The smallest slice of each departure, read both ways, and one slice of its kind to which it does not apply: docs/DIFFERENCES.md has them in
-- hex. Then document 01's edges of reading, which rtr_edges cites. Each is computed. Assumes nothing.
use Rattle.std.specs.Prelude.{Some}
use Prim.Native.Nat.{ℕ}
use mathlib.Core.Bool.{true, false}
use mathlib.Core.List.{List, [], ◌∷◌, ◌++◌}
use mathlib.Core.Path.{◌≡◌, refl}
use native.Mathlib.Omega.{arith}
use lib.ListN.{drop, replicate}
use Rattle.rtr_text.proofs.Laws.{empty-is-well-formed}
use Rattle.rtr_text.proofs.Passes.{ascii-passes, nul-passes}
use Rattle.rtr_models.specs.declared.RtrProtocolVersion.TheVariants.{V0, V1}
use Rattle.rtr_models.specs.declared.RtrErrorCode.TheVariants.{CorruptData, UnexpectedProtocolVersion}
use Rattle.rtr_models.specs.declared.RtrPdu.{RtrPdu}
use Rattle.rtr_models.specs.declared.RtrPdu.TheVariants.{ResetQuery, CacheResponse, IPv4Prefix, EndOfData, RouterKey, ErrorReport}
use Rattle.rtr_codec.specs.Bytes.{number}
use Rattle.rtr_codec.specs.Reading.{Reading, rfc, crate, in_use}
use Rattle.rtr_codec.specs.Departures.{applies}
use Rattle.rtr_codec.specs.Departures.Departure.{code_eight_in_v0, bytes_behind_text, key_by_crate}
use Rattle.rtr_codec.specs.Read.{header_length, read_reset_query, read_cache_response, read_ipv4_prefix, read_end_of_data, read_router_key, read_text, read_encapsulated, read_code, read_error_report, read_as, read_typed, read_versioned, read}
use Rattle.rtr_codec.specs.Read.Verdict.{accepted, refused}

-- a version 0 report of code 8, with nothing in it
abbrev pub report_of_eight : List ℕ
report_of_eight = 0 ∷ 10 ∷ 0 ∷ 8 ∷ 0 ∷ 0 ∷ 0 ∷ 16 ∷ 0 ∷ 0 ∷ 0 ∷ 0 ∷ 0 ∷ 0 ∷ 0 ∷ 0 ∷ []

pub eight-in-crate : read crate report_of_eight
    ≡ accepted
    (ErrorReport (record { version = V0; error_code = UnexpectedProtocolVersion; erroneous_pdu = record { start = 12; len = 0 }; error_text = record { start = 16; len = 0 } }))
    16
unfolding number header_length read_text read_encapsulated read_code read_error_report read_as read_typed read_versioned read
eight-in-crate = rw empty-is-well-formed refl

pub eight-in-rfc : read rfc report_of_eight ≡ refused 7 (8 ∷ [])
unfolding number header_length read_code read_error_report read_as read_typed read_versioned read
eight-in-rfc = refl

-- a report of 17 bytes with an empty copy and an empty text
abbrev pub byte_behind : List ℕ
byte_behind = 1 ∷ 10 ∷ 0 ∷ 0 ∷ 0 ∷ 0 ∷ 0 ∷ 17 ∷ 0 ∷ 0 ∷ 0 ∷ 0 ∷ 0 ∷ 0 ∷ 0 ∷ 0 ∷ 255 ∷ []

pub behind-in-crate : read crate byte_behind
    ≡ accepted
    (ErrorReport (record { version = V1; error_code = CorruptData; erroneous_pdu = record { start = 12; len = 0 }; error_text = record { start = 16; len = 0 } }))
    17
unfolding number header_length read_text read_encapsulated read_code read_error_report read_as read_typed read_versioned read
behind-in-crate = rw empty-is-well-formed refl

pub behind-in-rfc : read rfc byte_behind ≡ refused 4 (16 ∷ 17 ∷ 10 ∷ [])
unfolding number header_length read_text read_encapsulated read_code read_error_report read_as read_typed read_versioned read
behind-in-rfc = refl

-- a Router Key's bare header of length 0: both refuse, and expect another length
abbrev pub bare_key : List ℕ
bare_key = 1 ∷ 9 ∷ 0 ∷ 0 ∷ 0 ∷ 0 ∷ 0 ∷ 0 ∷ []

pub bare-in-crate : read crate bare_key ≡ refused 4 (34 ∷ 0 ∷ 9 ∷ [])
unfolding number header_length read_router_key read_as read_typed read_versioned read
bare-in-crate = refl

pub bare-in-rfc : read rfc bare_key ≡ refused 4 (32 ∷ 0 ∷ 9 ∷ [])
unfolding number header_length read_router_key read_as read_typed read_versioned read
bare-in-rfc = refl

-- the smallest key that the RFC's picture reads: a Router Key of 32 bytes, announced, identifier of zeros, AS 1, no key info
abbrev pub short_key : List ℕ
short_key =
    1 ∷ 9 ∷ 1 ∷ 0 ∷ 0 ∷ 0 ∷ 0 ∷ 32 ∷ 0 ∷ 0 ∷ 0 ∷ 0 ∷ 0 ∷ 0 ∷ 0 ∷ 0 ∷ 0 ∷ 0 ∷ 0 ∷ 0 ∷ 0 ∷ 0 ∷ 0 ∷ 0 ∷ 0 ∷ 0 ∷ 0 ∷ 0 ∷ 0 ∷ 0 ∷ 0 ∷ 1 ∷ []

pub key-in-crate : read crate short_key ≡ refused 4 (34 ∷ 32 ∷ 9 ∷ [])
unfolding number header_length read_router_key read_as read_typed read_versioned read
key-in-crate = refl

pub key-in-rfc : read rfc short_key
    ≡ accepted
    (RouterKey (record { version = V1; flags = 1; subject_key_identifier = record { start = 8; len = 20 }; asn = 1; subject_public_key_info = record { start = 32; len = 0 } }))
    32
unfolding number header_length read_router_key read_as read_typed read_versioned read
key-in-rfc = refl

-- each departure applies to its slice, and not to the like of it that the RFCs allow
pub departures-apply : (R : Reading) → (applies R code_eight_in_v0 report_of_eight ≡ true) × (applies R bytes_behind_text byte_behind ≡ true) × (applies R key_by_crate bare_key ≡ true)
unfolding number header_length applies
departures-apply R = (refl, refl, refl)

pub departures-spare : (R : Reading)
    → (applies R code_eight_in_v0 (1 ∷ drop 1 report_of_eight) ≡ false) × (applies R bytes_behind_text (1 ∷ drop 1 report_of_eight) ≡ false) × (applies R key_by_crate (0 ∷ drop 1 bare_key) ≡ false)
unfolding number header_length applies
departures-spare R = (refl, refl, refl)

-- Document 01, Either side of each edge: the lines for reading

pub nothing_read : read in_use [] ≡ refused 1 (0 ∷ 8 ∷ [])
unfolding read
nothing_read = refl

pub query-read : read in_use (0x01 ∷ 0x02 ∷ 0x00 ∷ 0x00 ∷ 0x00 ∷ 0x00 ∷ 0x00 ∷ 0x08 ∷ []) ≡ accepted (ResetQuery (record { version = V1 })) 8
unfolding number header_length read_reset_query read_as read_typed read_versioned read
query-read = refl

pub query-of-no-length : read in_use (0x01 ∷ 0x02 ∷ 0x00 ∷ 0x00 ∷ 0x00 ∷ 0x00 ∷ 0x00 ∷ 0x00 ∷ []) ≡ refused 4 (8 ∷ 0 ∷ 2 ∷ [])
unfolding number header_length read_reset_query read_as read_typed read_versioned read
query-of-no-length = refl

pub missing-before-version : read in_use (0x09 ∷ 0x05 ∷ 0x00 ∷ 0x00 ∷ 0x00 ∷ 0x00 ∷ 0x00 ∷ 0x09 ∷ []) ≡ refused 1 (8 ∷ 9 ∷ [])
unfolding number header_length read
missing-before-version = refl

pub version-before-type : read in_use (0x09 ∷ 0x05 ∷ 0x00 ∷ 0x00 ∷ 0x00 ∷ 0x00 ∷ 0x00 ∷ 0x08 ∷ []) ≡ refused 2 (9 ∷ [])
unfolding number header_length read_versioned read
version-before-type = refl

pub type-unknown-read : read in_use (0x01 ∷ 0x05 ∷ 0x00 ∷ 0x00 ∷ 0x00 ∷ 0x00 ∷ 0x00 ∷ 0x08 ∷ []) ≡ refused 3 (5 ∷ [])
unfolding number header_length read_typed read_versioned read
type-unknown-read = refl

pub key-in-version-0 : read in_use (0x00 ∷ 0x09 ∷ 0x00 ∷ 0x00 ∷ 0x00 ∷ 0x00 ∷ 0x00 ∷ 0x08 ∷ []) ≡ refused 5 []
unfolding number header_length read_router_key read_as read_typed read_versioned read
key-in-version-0 = refl

pub code-nine : read in_use (0x01 ∷ 0x0a ∷ 0x00 ∷ 0x09 ∷ 0x00 ∷ 0x00 ∷ 0x00 ∷ 0x10 ∷ replicate 8 0) ≡ refused 7 (9 ∷ [])
unfolding number header_length read_code read_error_report read_as read_typed read_versioned read
code-nine = refl

pub copy-past-the-end
    : read in_use (0x01 ∷ 0x0a ∷ 0x00 ∷ 0x00 ∷ 0x00 ∷ 0x00 ∷ 0x00 ∷ 0x10 ∷ 0x00 ∷ 0x00 ∷ 0x00 ∷ 0x01 ∷ replicate 4 0) ≡ refused 4 (17 ∷ 16 ∷ 10 ∷ [])
unfolding number header_length read_encapsulated read_code read_error_report read_as read_typed read_versioned read
copy-past-the-end = refl

-- a copy, and then a text, of 4,294,967,295 bytes: 16 more do not fit 32 bits, and the expected length is the largest that does; 17 bytes fewer are named as they are
pub copy-past-32-bits
    : read in_use (0x01 ∷ 0x0a ∷ 0x00 ∷ 0x00 ∷ 0x00 ∷ 0x00 ∷ 0x00 ∷ 0x10 ∷ 0xff ∷ 0xff ∷ 0xff ∷ 0xff ∷ replicate 4 0) ≡ refused 4 (4294967295 ∷ 16 ∷ 10 ∷ [])
unfolding number header_length read_encapsulated read_code read_error_report read_as read_typed read_versioned read
copy-past-32-bits = refl

pub text-past-32-bits
    : read in_use (0x01 ∷ 0x0a ∷ 0x00 ∷ 0x00 ∷ 0x00 ∷ 0x00 ∷ 0x00 ∷ 0x10 ∷ 0x00 ∷ 0x00 ∷ 0x00 ∷ 0x00 ∷ 0xff ∷ 0xff ∷ 0xff ∷ 0xff ∷ []) ≡ refused 4 (4294967295 ∷ 16 ∷ 10 ∷ [])
unfolding number header_length read_text read_encapsulated read_code read_error_report read_as read_typed read_versioned read
text-past-32-bits = refl

pub copy-within-32-bits
    : read in_use (0x01 ∷ 0x0a ∷ 0x00 ∷ 0x00 ∷ 0x00 ∷ 0x00 ∷ 0x00 ∷ 0x10 ∷ 0xff ∷ 0xff ∷ 0xff ∷ 0xee ∷ replicate 4 0) ≡ refused 4 (4294967294 ∷ 16 ∷ 10 ∷ [])
unfolding number header_length read_encapsulated read_code read_error_report read_as read_typed read_versioned read
copy-within-32-bits = refl

-- a report whose text is NUL, a letter and NUL
pub nul-text-read : read in_use (0x01 ∷ 0x0a ∷ 0x00 ∷ 0x00 ∷ 0x00 ∷ 0x00 ∷ 0x00 ∷ 0x13 ∷ replicate 4 0 ++ (0x00 ∷ 0x00 ∷ 0x00 ∷ 0x03 ∷ 0x00 ∷ 0x61 ∷ 0x00 ∷ []))
    ≡ accepted
    (ErrorReport (record { version = V1; error_code = CorruptData; erroneous_pdu = record { start = 12; len = 0 }; error_text = record { start = 16; len = 3 } }))
    19
unfolding number header_length read_text read_encapsulated read_code read_error_report read_as read_typed read_versioned read
nul-text-read = rw (nul-passes (0x61 ∷ 0x00 ∷ []) (ascii-passes 0x61 (0x00 ∷ []) (omega arith) (nul-passes [] empty-is-well-formed))) refl

-- a report about that Reset Query
pub report-of-query : read in_use
    (0x01 ∷ 0x0a ∷ 0x00 ∷ 0x00 ∷ 0x00 ∷ 0x00 ∷ 0x00 ∷ 0x18 ∷ 0x00 ∷ 0x00 ∷ 0x00 ∷ 0x08
    ∷ 0x01 ∷ 0x02 ∷ 0x00 ∷ 0x00 ∷ 0x00 ∷ 0x00 ∷ 0x00 ∷ 0x08 ∷ replicate 4 0)
    ≡ accepted
    (ErrorReport (record { version = V1; error_code = CorruptData; erroneous_pdu = record { start = 12; len = 8 }; error_text = record { start = 24; len = 0 } }))
    24
unfolding number header_length read_text read_encapsulated read_code read_error_report read_as read_typed read_versioned read
report-of-query = rw empty-is-well-formed refl

-- Document 01, The listing: its input's three PDUs, the prefix withdrawn, and an End of Data of serial 8 and one of another session. rtr_receiver's worked histories cite
-- them.

abbrev pub response_bytes : List ℕ
response_bytes = 0x01 ∷ 0x03 ∷ 0x12 ∷ 0x34 ∷ 0x00 ∷ 0x00 ∷ 0x00 ∷ 0x08 ∷ []

-- a prefix with these flags: 192.0.2.0/24, max 24, AS 64496
abbrev pub prefix_bytes : ℕ → List ℕ
prefix_bytes flags =
    0x01 ∷ 0x04 ∷ 0x00 ∷ 0x00 ∷ 0x00 ∷ 0x00 ∷ 0x00 ∷ 0x14
    ∷ flags ∷ 0x18 ∷ 0x18 ∷ 0x00 ∷ 0xc0 ∷ 0x00 ∷ 0x02 ∷ 0x00 ∷ 0x00 ∷ 0x00 ∷ 0xfb ∷ 0xf0 ∷ []

-- an End of Data, of the two bytes of its session and the last byte of its serial; 3,600, 600 and 7,200 seconds
abbrev pub end_bytes : ℕ → ℕ → ℕ → List ℕ
end_bytes high low serial =
    0x01 ∷ 0x07 ∷ high ∷ low ∷ 0x00 ∷ 0x00 ∷ 0x00 ∷ 0x18 ∷ 0x00 ∷ 0x00 ∷ 0x00 ∷ serial
    ∷ 0x00 ∷ 0x00 ∷ 0x0e ∷ 0x10 ∷ 0x00 ∷ 0x00 ∷ 0x02 ∷ 0x58 ∷ 0x00 ∷ 0x00 ∷ 0x1c ∷ 0x20 ∷ []

abbrev pub response_pdu : RtrPdu
response_pdu = CacheResponse (record { version = V1; session_id = 4660 })

abbrev pub prefix_pdu : ℕ → RtrPdu
prefix_pdu flags = IPv4Prefix (record { version = V1; flags = flags; prefix_length = 24; max_length = 24; prefix = 3221225984; asn = 64496 })

abbrev pub end_pdu : ℕ → ℕ → RtrPdu
end_pdu session serial =
    EndOfData
    (record {
      version = V1;
      session_id = session;
      serial_number = serial;
      refresh_interval = Some 3600;
      retry_interval = Some 600;
      expire_interval = Some 7200;
    })

pub response-read : read in_use response_bytes ≡ accepted response_pdu 8
unfolding number header_length read_cache_response read_as read_typed read_versioned read
response-read = refl

pub announced-read : read in_use (prefix_bytes 1) ≡ accepted (prefix_pdu 1) 20
unfolding number header_length read_ipv4_prefix read_as read_typed read_versioned read
announced-read = refl

pub withdrawn-read : read in_use (prefix_bytes 0) ≡ accepted (prefix_pdu 0) 20
unfolding number header_length read_ipv4_prefix read_as read_typed read_versioned read
withdrawn-read = refl

pub end_read : read in_use (end_bytes 0x12 0x34 7) ≡ accepted (end_pdu 4660 7) 24
unfolding number header_length read_end_of_data read_as read_typed read_versioned read
end_read = refl

pub later-end-read : read in_use (end_bytes 0x12 0x34 8) ≡ accepted (end_pdu 4660 8) 24
unfolding number header_length read_end_of_data read_as read_typed read_versioned read
later-end-read = refl

pub other-end-read : read in_use (end_bytes 0x12 0x35 7) ≡ accepted (end_pdu 4661 7) 24
unfolding number header_length read_end_of_data read_as read_typed read_versioned read
other-end-read = refl
