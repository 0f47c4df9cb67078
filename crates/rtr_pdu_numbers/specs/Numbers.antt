-- The numbers of a PDU, as a host without Rattle's types has it.
use Rattle.std.specs.Prelude.{ℕ, List, [], ◌∷◌, Option}
use Rattle.rtr_models.specs.Codes.{version_number, code_number}
use Rattle.rtr_models.specs.Values.{seconds_or}
use Rattle.rtr_models.specs.declared.RtrProtocolVersion.{RtrProtocolVersion}
use Rattle.rtr_models.specs.declared.RtrProtocolVersion.TheVariants.{V0, V1}
use Rattle.rtr_models.specs.declared.RtrPdu.{RtrPdu}
use Rattle.rtr_models.specs.declared.RtrPdu.TheVariants.{SerialNotify, SerialQuery, ResetQuery, CacheResponse, IPv4Prefix, IPv6Prefix, EndOfData, CacheReset, RouterKey, ErrorReport}

-- an interval of an End of Data, as it is encoded: none in version 0, in version 1 the default where it is absent
abbrev pub end_seconds : RtrProtocolVersion → ℕ → Option ℕ → ℕ
end_seconds V0 default interval = 0
end_seconds V1 default interval = seconds_or default interval

-- the 12 numbers of a PDU and the bytes that it took: type, version, bytes taken, then its fields in their order, zeros behind them
unfoldable pub pdu_numbers : RtrPdu → ℕ → List ℕ
pdu_numbers (SerialNotify p) n =
    0 ∷ version_number p.version ∷ n ∷ p.session_id ∷ p.serial_number ∷ 0 ∷ 0 ∷ 0 ∷ 0 ∷ 0 ∷ 0 ∷ 0 ∷ []
pdu_numbers (SerialQuery p) n =
    1 ∷ version_number p.version ∷ n ∷ p.session_id ∷ p.serial_number ∷ 0 ∷ 0 ∷ 0 ∷ 0 ∷ 0 ∷ 0 ∷ 0 ∷ []
pdu_numbers (ResetQuery p) n = 2 ∷ version_number p.version ∷ n ∷ 0 ∷ 0 ∷ 0 ∷ 0 ∷ 0 ∷ 0 ∷ 0 ∷ 0 ∷ 0 ∷ []
pdu_numbers (CacheResponse p) n = 3 ∷ version_number p.version ∷ n ∷ p.session_id ∷ 0 ∷ 0 ∷ 0 ∷ 0 ∷ 0 ∷ 0 ∷ 0 ∷ 0 ∷ []
pdu_numbers (IPv4Prefix p) n =
    4 ∷ version_number p.version ∷ n ∷ p.flags ∷ p.prefix_length ∷ p.max_length ∷ p.prefix ∷ p.asn ∷ 0 ∷ 0 ∷ 0 ∷ 0 ∷ []
pdu_numbers (IPv6Prefix p) n =
    6
    ∷ version_number p.version
    ∷ n
    ∷ p.flags
    ∷ p.prefix_length
    ∷ p.max_length
    ∷ p.prefix.w0
    ∷ p.prefix.w1
    ∷ p.prefix.w2
    ∷ p.prefix.w3
    ∷ p.asn
    ∷ 0
    ∷ []
pdu_numbers (EndOfData p) n =
    7
    ∷ version_number p.version
    ∷ n
    ∷ p.session_id
    ∷ p.serial_number
    ∷ end_seconds p.version 3600 p.refresh_interval
    ∷ end_seconds p.version 600 p.retry_interval
    ∷ end_seconds p.version 7200 p.expire_interval
    ∷ 0
    ∷ 0
    ∷ 0
    ∷ 0
    ∷ []
pdu_numbers (CacheReset p) n = 8 ∷ version_number p.version ∷ n ∷ 0 ∷ 0 ∷ 0 ∷ 0 ∷ 0 ∷ 0 ∷ 0 ∷ 0 ∷ 0 ∷ []
pdu_numbers (RouterKey p) n =
    9
    ∷ version_number p.version
    ∷ n
    ∷ p.flags
    ∷ p.subject_key_identifier.start
    ∷ p.subject_key_identifier.len
    ∷ p.asn
    ∷ p.subject_public_key_info.start
    ∷ p.subject_public_key_info.len
    ∷ 0
    ∷ 0
    ∷ 0
    ∷ []
pdu_numbers (ErrorReport p) n =
    10
    ∷ version_number p.version
    ∷ n
    ∷ code_number p.error_code
    ∷ p.erroneous_pdu.start
    ∷ p.erroneous_pdu.len
    ∷ p.error_text.start
    ∷ p.error_text.len
    ∷ 0
    ∷ 0
    ∷ 0
    ∷ 0
    ∷ []
