-- The PDUs as RFC 6810 (version 0, sections 5.2 to 5.10) and RFC 8210 (version 1, sections 5.2 to 5.11) draw them, written down from those texts alone: nothing
-- of reading, encoding or their layouts is used here. A section's number is RFC 8210's; RFC 6810 has the same section and the same picture, where nothing else
-- is said. `rfc-exactly` (proofs/Rfc.antt) holds reading to this page, `encoder-writes-rfc` (proofs/RfcSent.antt) encoding.
use Rattle.std.specs.Prelude.{ℕ, ◌+◌, ◌/◌, ◌%◌, ◌≤◌, List, [], ◌∷◌, ◌++◌, ◌≡◌, length, take, drop, Option, Some, None}
use Rattle.rtr_text.specs.Utf8.{Characters}
use Rattle.rtr_models.specs.declared.Place.{Place}
use Rattle.rtr_models.specs.declared.RtrProtocolVersion.{RtrProtocolVersion}
use Rattle.rtr_models.specs.declared.RtrProtocolVersion.TheVariants.{V0, V1}
use Rattle.rtr_models.specs.declared.RtrErrorCode.{RtrErrorCode}
use Rattle.rtr_models.specs.declared.RtrErrorCode.TheVariants.{CorruptData, InternalError, NoDataAvailable, InvalidRequest, UnsupportedProtocolVersion, UnsupportedPduType, WithdrawalOfUnknownRecord, DuplicateAnnouncementReceived, UnexpectedProtocolVersion}
use Rattle.rtr_models.specs.declared.RtrEndOfData.{RtrEndOfData}
use Rattle.rtr_models.specs.declared.RtrPdu.{RtrPdu}
use Rattle.rtr_models.specs.declared.RtrPdu.TheVariants.{SerialNotify, SerialQuery, ResetQuery, CacheResponse, IPv4Prefix, IPv6Prefix, EndOfData, CacheReset, RouterKey, ErrorReport}

-- ---- Fields

-- a number in 8, 16 or 32 bits, its high byte first (document 01: big-endian). Of a number too large for its field the first byte is over 255, so no slice of
-- bytes has it
abbrev pub bits8 : ℕ → List ℕ
bits8 n = n ∷ []

abbrev pub bits16 : ℕ → List ℕ
bits16 n = n / 256 ∷ n % 256 ∷ []

abbrev pub bits32 : ℕ → List ℕ
bits32 n = bits16 (n / 65536) ++ bits16 (n % 65536)

-- a picture is its fields, row by row as the RFCs draw them, and from left to right; its bytes are theirs
abbrev pub Picture : Type 0
Picture = List (List ℕ)

abbrev pub bytes : Picture → List ℕ
bytes [] = []
bytes (field ∷ more) = field ++ bytes more

-- ---- Pictures. A field marked zero is called reserved, and is any number: it is ignored on receipt (section 5; RFC 6810, 5.1). The second field is the type

-- 5.2 Serial Notify
abbrev pub serial_notify : ℕ → ℕ → ℕ → Picture
serial_notify version session serial =
    bits8 version ∷ bits8 0 ∷ bits16 session ∷
    bits32 12 ∷
    bits32 serial ∷ []

-- 5.3 Serial Query
abbrev pub serial_query : ℕ → ℕ → ℕ → Picture
serial_query version session serial =
    bits8 version ∷ bits8 1 ∷ bits16 session ∷
    bits32 12 ∷
    bits32 serial ∷ []

-- 5.4 Reset Query
abbrev pub reset_query : ℕ → ℕ → Picture
reset_query version reserved =
    bits8 version ∷ bits8 2 ∷ bits16 reserved ∷
    bits32 8 ∷ []

-- 5.5 Cache Response
abbrev pub cache_response : ℕ → ℕ → Picture
cache_response version session =
    bits8 version ∷ bits8 3 ∷ bits16 session ∷
    bits32 8 ∷ []

-- 5.6 IPv4 Prefix
abbrev pub ipv4_prefix : ℕ → ℕ → ℕ → ℕ → ℕ → ℕ → ℕ → ℕ → Picture
ipv4_prefix version reserved flags prefix_length max_length reserved' prefix asn =
    bits8 version ∷ bits8 4 ∷ bits16 reserved ∷
    bits32 20 ∷
    bits8 flags ∷ bits8 prefix_length ∷ bits8 max_length ∷ bits8 reserved' ∷
    bits32 prefix ∷
    bits32 asn ∷ []

-- 5.7 IPv6 Prefix: the prefix is 128 bits, four rows
abbrev pub ipv6_prefix : ℕ → ℕ → ℕ → ℕ → ℕ → ℕ → ℕ → ℕ → ℕ → ℕ → ℕ → Picture
ipv6_prefix version reserved flags prefix_length max_length reserved' prefix0 prefix1 prefix2 prefix3 asn =
    bits8 version ∷ bits8 6 ∷ bits16 reserved ∷
    bits32 32 ∷
    bits8 flags ∷ bits8 prefix_length ∷ bits8 max_length ∷ bits8 reserved' ∷
    bits32 prefix0 ∷
    bits32 prefix1 ∷
    bits32 prefix2 ∷
    bits32 prefix3 ∷
    bits32 asn ∷ []

-- RFC 6810, 5.8 End of Data: no intervals
abbrev pub end_of_data_v0 : ℕ → ℕ → Picture
end_of_data_v0 session serial =
    bits8 0 ∷ bits8 7 ∷ bits16 session ∷
    bits32 12 ∷
    bits32 serial ∷ []

-- 5.8 End of Data
abbrev pub end_of_data_v1 : ℕ → ℕ → ℕ → ℕ → ℕ → Picture
end_of_data_v1 session serial refresh retry expire =
    bits8 1 ∷ bits8 7 ∷ bits16 session ∷
    bits32 24 ∷
    bits32 serial ∷
    bits32 refresh ∷
    bits32 retry ∷
    bits32 expire ∷ []

-- 5.9 Cache Reset
abbrev pub cache_reset : ℕ → ℕ → Picture
cache_reset version reserved =
    bits8 version ∷ bits8 8 ∷ bits16 reserved ∷
    bits32 8 ∷ []

-- 5.10 Router Key (RFC 6810 has none): "Length" is all of it (5.1), so 32 and the key info
abbrev pub router_key : ℕ → ℕ → List ℕ → ℕ → List ℕ → Picture
router_key flags reserved identifier asn info =
    bits8 1 ∷ bits8 9 ∷ bits8 flags ∷ bits8 reserved ∷
    bits32 (32 + length info) ∷
    identifier ∷
    bits32 asn ∷
    info ∷ []

-- 5.11 Error Report (RFC 6810, 5.10): so 16 and both payloads
abbrev pub error_report : ℕ → ℕ → List ℕ → List ℕ → Picture
error_report version code copy text =
    bits8 version ∷ bits8 10 ∷ bits16 code ∷
    bits32 (16 + length copy + length text) ∷
    bits32 (length copy) ∷
    copy ∷
    bits32 (length text) ∷
    text ∷ []

-- ---- Numbers

-- 5.1, Protocol Version
abbrev pub version : RtrProtocolVersion → ℕ
version V0 = 0
version V1 = 1

-- section 12 (RFC 6810, section 10)
abbrev pub code : RtrErrorCode → ℕ
code CorruptData = 0
code InternalError = 1
code NoDataAvailable = 2
code InvalidRequest = 3
code UnsupportedProtocolVersion = 4
code UnsupportedPduType = 5
code WithdrawalOfUnknownRecord = 6
code DuplicateAnnouncementReceived = 7
code UnexpectedProtocolVersion = 8

-- the last code that a version's list has
abbrev pub last_code : RtrProtocolVersion → ℕ
last_code V0 = 7
last_code V1 = 8

-- ---- Received: these bytes b are this PDU. Payloads are named by place, which is where the picture has them. What section 6 asks of intervals binds the cache
-- alone (docs/DIFFERENCES.md)

abbrev pub placed : ℕ → ℕ → Place
placed start len = record { start = start; len = len }

-- 5.8, by version
abbrev pub EndReceived : RtrProtocolVersion → RtrEndOfData → List ℕ → Type 0
EndReceived V0 p b =
    (b ≡ bytes (end_of_data_v0 p.session_id p.serial_number))
    × (p.refresh_interval ≡ None)
    × (p.retry_interval ≡ None)
    × (p.expire_interval ≡ None)
EndReceived V1 p b =
    (refresh : ℕ)
    × (retry : ℕ)
    × (expire : ℕ)
    × (b ≡ bytes (end_of_data_v1 p.session_id p.serial_number refresh retry expire))
    × (p.refresh_interval ≡ Some refresh)
    × (p.retry_interval ≡ Some retry)
    × (p.expire_interval ≡ Some expire)

abbrev pub Received : RtrPdu → List ℕ → Type 0
Received (SerialNotify p) b = b ≡ bytes (serial_notify (version p.version) p.session_id p.serial_number)
Received (SerialQuery p) b = b ≡ bytes (serial_query (version p.version) p.session_id p.serial_number)
Received (ResetQuery p) b = (reserved : ℕ) × (b ≡ bytes (reset_query (version p.version) reserved))
Received (CacheResponse p) b = b ≡ bytes (cache_response (version p.version) p.session_id)
-- 5.6: "0..32", and 5.1: the max length "MUST NOT be less than the Prefix Length"
Received (IPv4Prefix p) b =
    (reserved : ℕ)
    × (reserved' : ℕ)
    × (b ≡ bytes (ipv4_prefix (version p.version) reserved p.flags p.prefix_length p.max_length reserved' p.prefix p.asn))
    × (p.prefix_length ≤ p.max_length)
    × (p.max_length ≤ 32)
-- 5.7: "0..128"
Received (IPv6Prefix p) b =
    (reserved : ℕ)
    × (reserved' : ℕ)
    × (b ≡ bytes (ipv6_prefix (version p.version) reserved p.flags p.prefix_length p.max_length reserved' p.prefix.w0 p.prefix.w1 p.prefix.w2 p.prefix.w3 p.asn))
    × (p.prefix_length ≤ p.max_length)
    × (p.max_length ≤ 128)
Received (EndOfData p) b = EndReceived p.version p b
Received (CacheReset p) b = (reserved : ℕ) × (b ≡ bytes (cache_reset (version p.version) reserved))
-- 5.10: "20 octets"
Received (RouterKey p) b =
    (reserved : ℕ)
    × (identifier : List ℕ)
    × (info : List ℕ)
    × (p.version ≡ V1)
    × (b ≡ bytes (router_key p.flags reserved identifier p.asn info))
    × (length identifier ≡ 20)
    × (p.subject_key_identifier ≡ placed 8 20)
    × (p.subject_public_key_info ≡ placed 32 (length info))
-- 5.11: a code of the version's list, and a text "in UTF-8 encoding"
Received (ErrorReport p) b =
    (copy : List ℕ)
    × (text : List ℕ)
    × (b ≡ bytes (error_report (version p.version) (code p.error_code) copy text))
    × (code p.error_code ≤ last_code p.version)
    × Characters text
    × (p.erroneous_pdu ≡ placed 12 (length copy))
    × (p.error_text ≡ placed (16 + length copy) (length text))

-- the first n bytes of s are this PDU
abbrev pub Begins : List ℕ → RtrPdu → ℕ → Type 0
Begins s pdu n = (n ≤ length s) × Received pdu (take n s)

-- ---- Sent: the bytes of this PDU, with what it names in s. Reserved fields are zero (section 5; RFC 6810, 5.1); flags are the PDU's, whatever their reserved
-- bits (docs/DIFFERENCES.md)

abbrev pub named : Place → List ℕ → List ℕ
named p s = take p.len (drop p.start s)

-- section 6: an interval that is not given has its recommended default
abbrev pub seconds_of : ℕ → Option ℕ → ℕ
seconds_of default None = default
seconds_of default (Some n) = n

abbrev pub end_sent : RtrProtocolVersion → RtrEndOfData → Picture
end_sent V0 p = end_of_data_v0 p.session_id p.serial_number
end_sent V1 p =
    end_of_data_v1 p.session_id p.serial_number (seconds_of 3600 p.refresh_interval) (seconds_of 600 p.retry_interval) (seconds_of 7200 p.expire_interval)

abbrev pub sent_picture : RtrPdu → List ℕ → Picture
sent_picture (SerialNotify p) s = serial_notify (version p.version) p.session_id p.serial_number
sent_picture (SerialQuery p) s = serial_query (version p.version) p.session_id p.serial_number
sent_picture (ResetQuery p) s = reset_query (version p.version) 0
sent_picture (CacheResponse p) s = cache_response (version p.version) p.session_id
sent_picture (IPv4Prefix p) s = ipv4_prefix (version p.version) 0 p.flags p.prefix_length p.max_length 0 p.prefix p.asn
sent_picture (IPv6Prefix p) s =
    ipv6_prefix (version p.version) 0 p.flags p.prefix_length p.max_length 0 p.prefix.w0 p.prefix.w1 p.prefix.w2 p.prefix.w3 p.asn
sent_picture (EndOfData p) s = end_sent p.version p
sent_picture (CacheReset p) s = cache_reset (version p.version) 0
sent_picture (RouterKey p) s = router_key p.flags 0 (named p.subject_key_identifier s) p.asn (named p.subject_public_key_info s)
sent_picture (ErrorReport p) s = error_report (version p.version) (code p.error_code) (named p.erroneous_pdu s) (named p.error_text s)

unfoldable pub sent : RtrPdu → List ℕ → List ℕ
sent pdu s = bytes (sent_picture pdu s)
