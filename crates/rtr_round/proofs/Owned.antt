-- Whoever holds a PDU holds numbers that fit their types (`Is`, what owning a value of a Rattle type tells), so each value fits the bytes of its field. An Error Report's copy can be longer than 32 bits say: of one
-- that is written the encoding's length was tested. Assumes nothing.
use Rattle.std.specs.Prelude.{Option, Some, None}
use Prim.Native.Nat.{ℕ, ◌<◌, ◌≤◌}
use mathlib.Core.List.{List}
use native.Mathlib.Omega.{arith}
use mir.Val.{Val}
use denote.Laws.{Is}
use denote.Builtin.{u32}
use denote.Enum.Declared as enum
use Rattle.std.specs.contracts.option.Option.{the_row as option-of}
use Rattle.rtr_models.specs.contracts.RtrPdu as pdu-type
use Rattle.rtr_models.proofs.Laws.{code-at-most-8}
use Rattle.rtr_models.specs.Values.{seconds_or}
use Rattle.rtr_models.specs.declared.RtrProtocolVersion.{RtrProtocolVersion}
use Rattle.rtr_models.specs.declared.RtrProtocolVersion.TheVariants.{V0, V1}
use Rattle.rtr_models.specs.declared.RtrEndOfData.{RtrEndOfData}
use Rattle.rtr_models.specs.declared.RtrPdu.{RtrPdu}
use Rattle.rtr_models.specs.declared.RtrPdu.TheVariants.{SerialNotify, SerialQuery, ResetQuery, CacheResponse, IPv4Prefix, IPv6Prefix, EndOfData, CacheReset, RouterKey, ErrorReport}
use Rattle.rtr_codec.specs.Reading.{in_use}
use Rattle.rtr_codec.specs.Layout.{end_layout}
use Rattle.rtr_encode.specs.Encode.{layout_of, given, end_values, values_in, encoded_length}
use Rattle.rtr_encode.proofs.Laws.{encoded-length-is}
use Rattle.rtr_round.specs.RoundTrip.{ValuesFit}

-- an interval, or the default in its place, fits 32 bits
interval-owned : (i : Option ℕ) (vs : List Val) → Is (option-of u32) i vs → (default : ℕ) → default < 4294967296 → seconds_or default i < 4294967296
interval-owned None vs h default small = small
interval-owned (Some n) vs h default small = omega arith

-- an End of Data of either version
end_fits : (v : RtrProtocolVersion) (p : RtrEndOfData) → p.session_id < 65536 → p.serial_number < 4294967296
    → seconds_or 3600 p.refresh_interval < 4294967296 → seconds_or 600 p.retry_interval < 4294967296 → seconds_or 7200 p.expire_interval < 4294967296
    → ValuesFit (end_layout v) (given (end_values v p))
end_fits V0 p a b c d e = (a, (b, tt))
end_fits V1 p a b c d e = (a, (b, (c, (d, (e, tt)))))

pub pdu-owned : (pdu : RtrPdu) (vs : List Val) → Is (enum.row pdu-type.the_type) pdu vs → encoded_length in_use pdu ≤ 4294967295 → ValuesFit (layout_of in_use pdu) (given (values_in pdu))
pdu-owned (SerialNotify p) vs h small = (omega arith, (omega arith, tt))
pdu-owned (SerialQuery p) vs h small = (omega arith, (omega arith, tt))
pdu-owned (ResetQuery p) vs h small = tt
pdu-owned (CacheResponse p) vs h small = (omega arith, tt)
pdu-owned (IPv4Prefix p) vs h small = (omega arith, (omega arith, (omega arith, (omega arith, (omega arith, tt)))))
pdu-owned (IPv6Prefix p) vs h small = (omega arith, (omega arith, (omega arith, (omega arith, (omega arith, (omega arith, (omega arith, (omega arith, tt))))))))
pdu-owned (EndOfData p) vs h small =
    end_fits p.version p (omega arith) (omega arith)
    (interval-owned p.refresh_interval _ h.1.1.1.1.0.1.1.1.1.1.0 3600 (omega arith))
    (interval-owned p.retry_interval _ h.1.1.1.1.0.1.1.1.1.1.1.0 600 (omega arith))
    (interval-owned p.expire_interval _ h.1.1.1.1.0.1.1.1.1.1.1.1.0 7200 (omega arith))
pdu-owned (CacheReset p) vs h small = tt
pdu-owned (RouterKey p) vs h small = (omega arith, (omega arith, tt))
pdu-owned (ErrorReport p) vs h small = (omega (arith, code-at-most-8 p.error_code), (omega (arith, small, encoded-length-is in_use (ErrorReport p)), tt))
