-- What a PDU value says of itself: RFC 8210, sections 5.1, 5.8 and 6.
use Rattle.std.specs.Prelude.{ℕ, ◌%◌, Bool, eqb, Option, Some, None}
use Rattle.rtr_models.specs.declared.RtrProtocolVersion.{RtrProtocolVersion}
use Rattle.rtr_models.specs.declared.RtrPduType.{RtrPduType}
use Rattle.rtr_models.specs.declared.RtrPdu.{RtrPdu}
use Rattle.rtr_models.specs.declared.RtrPdu.TheVariants.{SerialNotify, SerialQuery, ResetQuery, CacheResponse, IPv4Prefix, IPv6Prefix, EndOfData, CacheReset, RouterKey, ErrorReport}

-- 5.1, Flags: the lowest-order bit is 1 for an announcement and 0 for a withdrawal; the others are ignored
abbrev pub announces : ℕ → Bool
announces flags = eqb (flags % 2) 1

abbrev pub withdraws : ℕ → Bool
withdraws flags = eqb (flags % 2) 0

-- an interval's seconds, or the default where it is absent
abbrev pub seconds_or : ℕ → Option ℕ → ℕ
seconds_or default None = default
seconds_or default (Some n) = n

-- the type of a PDU
abbrev pub type_of : RtrPdu → RtrPduType
type_of (SerialNotify p) = RtrPduType.SerialNotify
type_of (SerialQuery p) = RtrPduType.SerialQuery
type_of (ResetQuery p) = RtrPduType.ResetQuery
type_of (CacheResponse p) = RtrPduType.CacheResponse
type_of (IPv4Prefix p) = RtrPduType.IPv4Prefix
type_of (IPv6Prefix p) = RtrPduType.IPv6Prefix
type_of (EndOfData p) = RtrPduType.EndOfData
type_of (CacheReset p) = RtrPduType.CacheReset
type_of (RouterKey p) = RtrPduType.RouterKey
type_of (ErrorReport p) = RtrPduType.ErrorReport

-- the version of a PDU
abbrev pub version_of : RtrPdu → RtrProtocolVersion
version_of (SerialNotify p) = p.version
version_of (SerialQuery p) = p.version
version_of (ResetQuery p) = p.version
version_of (CacheResponse p) = p.version
version_of (IPv4Prefix p) = p.version
version_of (IPv6Prefix p) = p.version
version_of (EndOfData p) = p.version
version_of (CacheReset p) = p.version
version_of (RouterKey p) = p.version
version_of (ErrorReport p) = p.version
