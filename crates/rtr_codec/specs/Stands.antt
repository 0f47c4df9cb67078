-- Which slices are read, and as which PDU, said of the PDU: which of its numbers stands at which byte, and what holds of them. RFC 8210, sections 5.2 to 5.11, byte by byte (version 0: RFC 6810, 5.2 to 5.10); bytes that are not named are
-- ignored. `read-exactly` (proofs/Exactly.antt): a slice is read as a PDU of n bytes exactly if the PDU stands so in it; `stands-once`: one PDU at most does. Of refusals this says nothing: their numbers, values and order are Read's.
-- Read's too are `header_length` and an Error Report's `ends` and `code_in`, which, as a Router Key's arrangement, go by the switches of a `Reading`.
use Rattle.std.specs.Prelude.{ℕ, ◌+◌, ◌-◌, ◌≤◌, Bool, true, false, List, ◌≡◌, length, take, drop, Some, None}
use Rattle.rtr_text.specs.Utf8.{well_formed}
use Rattle.rtr_models.specs.Codes.{version_number, type_number, code_number}
use Rattle.rtr_models.specs.Values.{type_of, version_of}
use Rattle.rtr_models.specs.declared.RtrProtocolVersion.{RtrProtocolVersion}
use Rattle.rtr_models.specs.declared.RtrProtocolVersion.TheVariants.{V0, V1}
use Rattle.rtr_models.specs.declared.RtrEndOfData.{RtrEndOfData}
use Rattle.rtr_models.specs.declared.RtrRouterKey.{RtrRouterKey}
use Rattle.rtr_models.specs.declared.RtrErrorReport.{RtrErrorReport}
use Rattle.rtr_models.specs.declared.RtrPdu.{RtrPdu}
use Rattle.rtr_models.specs.declared.RtrPdu.TheVariants.{SerialNotify, SerialQuery, ResetQuery, CacheResponse, IPv4Prefix, IPv6Prefix, EndOfData, CacheReset, RouterKey, ErrorReport}
use Rattle.rtr_codec.specs.Bytes.{number}
use Rattle.rtr_codec.specs.Reading.{Reading}
use Rattle.rtr_codec.specs.Layout.{place}
use Rattle.rtr_codec.specs.Read.{header_length, ends, code_in}

-- 5.8: version 0 has no intervals
abbrev pub EndStands : RtrProtocolVersion → RtrEndOfData → List ℕ → Type 0
EndStands V0 p s =
    (header_length s ≡ 12)
    × (number s 2 2 ≡ p.session_id)
    × (number s 8 4 ≡ p.serial_number)
    × (None ≡ p.refresh_interval)
    × (None ≡ p.retry_interval)
    × (None ≡ p.expire_interval)
EndStands V1 p s =
    (header_length s ≡ 24)
    × (number s 2 2 ≡ p.session_id)
    × (number s 8 4 ≡ p.serial_number)
    × (Some (number s 12 4) ≡ p.refresh_interval)
    × (Some (number s 16 4) ≡ p.retry_interval)
    × (Some (number s 20 4) ≡ p.expire_interval)

-- 5.10: flags at byte 2, identifier, AS number, and the key info to the end; in the crate's arrangement (document 01, "Reading") flags at byte 8, and all behind them two bytes later
abbrev pub KeyStands : Bool → RtrRouterKey → List ℕ → Type 0
KeyStands false p s =
    (32 ≤ header_length s)
    × (number s 2 1 ≡ p.flags)
    × (place 8 20 ≡ p.subject_key_identifier)
    × (number s 28 4 ≡ p.asn)
    × (place 32 (header_length s - 32) ≡ p.subject_public_key_info)
KeyStands true p s =
    (34 ≤ header_length s)
    × (number s 8 1 ≡ p.flags)
    × (place 10 20 ≡ p.subject_key_identifier)
    × (number s 30 4 ≡ p.asn)
    × (place 34 (header_length s - 34) ≡ p.subject_public_key_info)

-- 5.11: the copy of e bytes behind its length, which is the 4 bytes from 8, and the text of t bytes behind its own, the 4 bytes behind the copy
abbrev pub ReportStands : Reading → RtrErrorReport → ℕ → ℕ → List ℕ → Type 0
ReportStands R p e t s =
    (number s 2 2 ≡ code_number p.error_code)
    × (code_in R.code_eight_in_v0 p.version (number s 2 2) ≡ true)
    × (place 12 e ≡ p.erroneous_pdu)
    × (place (16 + e) t ≡ p.error_text)
    × (ends R.bytes_behind_text (16 + e + t) (header_length s) ≡ true)
    × (well_formed (take t (drop (16 + e) s)) ≡ true)

-- behind version and type, by kind
abbrev pub KindStands : Reading → List ℕ → RtrPdu → Type 0
-- 5.2, type 0
KindStands R s (SerialNotify p) = (header_length s ≡ 12) × (number s 2 2 ≡ p.session_id) × (number s 8 4 ≡ p.serial_number)
-- 5.3, type 1
KindStands R s (SerialQuery p) = (header_length s ≡ 12) × (number s 2 2 ≡ p.session_id) × (number s 8 4 ≡ p.serial_number)
-- 5.4, type 2
KindStands R s (ResetQuery p) = header_length s ≡ 8
-- 5.5, type 3
KindStands R s (CacheResponse p) = (header_length s ≡ 8) × (number s 2 2 ≡ p.session_id)
-- 5.6, type 4
KindStands R s (IPv4Prefix p) =
    (header_length s ≡ 20)
    × (number s 8 1 ≡ p.flags)
    × (number s 9 1 ≡ p.prefix_length)
    × (number s 10 1 ≡ p.max_length)
    × (number s 12 4 ≡ p.prefix)
    × (number s 16 4 ≡ p.asn)
    × (p.prefix_length ≤ p.max_length)
    × (p.max_length ≤ 32)
-- 5.7, type 6
KindStands R s (IPv6Prefix p) =
    (header_length s ≡ 32)
    × (number s 8 1 ≡ p.flags)
    × (number s 9 1 ≡ p.prefix_length)
    × (number s 10 1 ≡ p.max_length)
    × (number s 12 4 ≡ p.prefix.w0)
    × (number s 16 4 ≡ p.prefix.w1)
    × (number s 20 4 ≡ p.prefix.w2)
    × (number s 24 4 ≡ p.prefix.w3)
    × (number s 28 4 ≡ p.asn)
    × (p.prefix_length ≤ p.max_length)
    × (p.max_length ≤ 128)
-- 5.8, type 7
KindStands R s (EndOfData p) = EndStands p.version p s
-- 5.9, type 8
KindStands R s (CacheReset p) = header_length s ≡ 8
-- 5.10, type 9, version 1 alone
KindStands R s (RouterKey p) = (V1 ≡ p.version) × KeyStands R.key_by_crate p s
-- 5.11, type 10
KindStands R s (ErrorReport p) = ReportStands R p (number s 8 4) (number s (12 + number s 8 4) 4) s

-- the PDU stands in the first n bytes of s, n being the header's length, the version byte 0 and the type byte 1 (5.1)
pub record Stands (R : Reading) (s : List ℕ) (pdu : RtrPdu) (n : ℕ) : Type 0 where
  pub header : 8 ≤ n
  pub whole : n ≤ length s
  pub total : n ≡ header_length s
  pub version : number s 0 1 ≡ version_number (version_of pdu)
  pub type : number s 1 1 ≡ type_number (type_of pdu)
  pub kind : KindStands R s pdu
