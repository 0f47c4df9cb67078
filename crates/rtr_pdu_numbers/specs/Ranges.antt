-- What a PDU value of Rattle's types has, and that an End of Data has the intervals of its version: such a PDU comes back from its numbers
-- (proofs/Laws.antt).
use Rattle.std.specs.Prelude.{Option, Some, None, ℕ}
use Rattle.rtr_models.specs.declared.RtrProtocolVersion.{RtrProtocolVersion}
use Rattle.rtr_models.specs.declared.RtrProtocolVersion.TheVariants.{V0, V1}
use Rattle.rtr_models.specs.declared.RtrPdu.{RtrPdu}
use Rattle.rtr_models.specs.declared.RtrPdu.TheVariants.{SerialNotify, SerialQuery, ResetQuery, CacheResponse, IPv4Prefix, IPv6Prefix, EndOfData, CacheReset, RouterKey, ErrorReport}
use Rattle.rtr_numbers.specs.Ranges.{Fits8, Fits16, Fits32}

-- an interval of an End of Data: none in version 0, one in version 1 (a value that mixes them has the numbers of another)
abbrev pub IntervalFits : RtrProtocolVersion → Option ℕ → Type 0
IntervalFits V0 None = Unit
IntervalFits V0 (Some n) = ⊥
IntervalFits V1 None = ⊥
IntervalFits V1 (Some n) = Fits32 n

-- a PDU whose numbers fit, and whose intervals are those of its version
abbrev pub PduFits : RtrPdu → Type 0
PduFits (SerialNotify p) = Fits16 p.session_id × Fits32 p.serial_number
PduFits (SerialQuery p) = Fits16 p.session_id × Fits32 p.serial_number
PduFits (ResetQuery p) = Unit
PduFits (CacheResponse p) = Fits16 p.session_id
PduFits (IPv4Prefix p) = Fits8 p.flags × Fits8 p.prefix_length × Fits8 p.max_length × Fits32 p.prefix × Fits32 p.asn
PduFits (IPv6Prefix p) =
    Fits8 p.flags
    × Fits8 p.prefix_length
    × Fits8 p.max_length
    × Fits32 p.prefix.w0
    × Fits32 p.prefix.w1
    × Fits32 p.prefix.w2
    × Fits32 p.prefix.w3
    × Fits32 p.asn
PduFits (EndOfData p) =
    Fits16 p.session_id
    × Fits32 p.serial_number
    × IntervalFits p.version p.refresh_interval
    × IntervalFits p.version p.retry_interval
    × IntervalFits p.version p.expire_interval
PduFits (CacheReset p) = Unit
PduFits (RouterKey p) = Fits8 p.flags × Fits32 p.asn
PduFits (ErrorReport p) = Unit
