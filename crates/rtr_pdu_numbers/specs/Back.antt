-- What is read back from a PDU's numbers: a first guess (as in rtr_numbers), which stands exactly where its own numbers are those given.
use Rattle.std.specs.Prelude.{ℕ, cond, List, eqb, get_or, Option, Some, None}
use Rattle.rtr_models.specs.declared.Place.{Place}
use Rattle.rtr_models.specs.declared.RtrProtocolVersion.{RtrProtocolVersion}
use Rattle.rtr_models.specs.declared.RtrProtocolVersion.TheVariants.{V0, V1}
use Rattle.rtr_models.specs.declared.RtrSerialNotify.{RtrSerialNotify}
use Rattle.rtr_models.specs.declared.RtrSerialQuery.{RtrSerialQuery}
use Rattle.rtr_models.specs.declared.RtrCacheResponse.{RtrCacheResponse}
use Rattle.rtr_models.specs.declared.RtrIPv4Prefix.{RtrIPv4Prefix}
use Rattle.rtr_models.specs.declared.RtrIPv6Prefix.{RtrIPv6Prefix}
use Rattle.rtr_models.specs.declared.RtrEndOfData.{RtrEndOfData}
use Rattle.rtr_models.specs.declared.RtrRouterKey.{RtrRouterKey}
use Rattle.rtr_models.specs.declared.RtrErrorReport.{RtrErrorReport}
use Rattle.rtr_models.specs.declared.RtrPdu.{RtrPdu}
use Rattle.rtr_models.specs.declared.RtrPdu.TheVariants.{SerialNotify, SerialQuery, ResetQuery, CacheResponse, IPv4Prefix, IPv6Prefix, EndOfData, CacheReset, RouterKey, ErrorReport}
use Rattle.rtr_numbers.specs.Back.{alike, low8, low16, low32, loose_version, loose_code}
use Rattle.rtr_pdu_numbers.specs.Numbers.{pdu_numbers}

-- the PDU whose numbers these are, with the bytes that it took
unfoldable pub pdu_if : RtrPdu → List ℕ → Option (RtrPdu × ℕ)
pdu_if pdu n = cond (alike (pdu_numbers pdu (get_or n 2 0)) n) (Some (pdu, (get_or n 2 0))) None

-- ---- The guesses

-- version 1 has intervals
abbrev pub loose_interval : RtrProtocolVersion → ℕ → Option ℕ
loose_interval V0 n = None
loose_interval V1 n = Some (low32 n)

-- a place from the numbers of its start and its length
abbrev pub loose_place : List ℕ → ℕ → ℕ → Place
loose_place n i j = record { start = get_or n i 0; len = get_or n j 0 }

-- a Serial Notify from the numbers behind the first three
abbrev pub loose_notify : RtrProtocolVersion → List ℕ → RtrSerialNotify
loose_notify version n = record { version = version; session_id = low16 (get_or n 3 0); serial_number = low32 (get_or n 4 0) }

-- a Serial Query
abbrev pub loose_query : RtrProtocolVersion → List ℕ → RtrSerialQuery
loose_query version n = record { version = version; session_id = low16 (get_or n 3 0); serial_number = low32 (get_or n 4 0) }

-- a Cache Response
abbrev pub loose_response : RtrProtocolVersion → List ℕ → RtrCacheResponse
loose_response version n = record { version = version; session_id = low16 (get_or n 3 0) }

-- an IPv4 Prefix
abbrev pub loose_ipv4 : RtrProtocolVersion → List ℕ → RtrIPv4Prefix
loose_ipv4 version n =
    record {
      version = version;
      flags = low8 (get_or n 3 0);
      prefix_length = low8 (get_or n 4 0);
      max_length = low8 (get_or n 5 0);
      prefix = low32 (get_or n 6 0);
      asn = low32 (get_or n 7 0);
    }

-- an IPv6 Prefix
abbrev pub loose_ipv6 : RtrProtocolVersion → List ℕ → RtrIPv6Prefix
loose_ipv6 version n =
    record {
      version = version;
      flags = low8 (get_or n 3 0);
      prefix_length = low8 (get_or n 4 0);
      max_length = low8 (get_or n 5 0);
      prefix = record { w0 = low32 (get_or n 6 0); w1 = low32 (get_or n 7 0); w2 = low32 (get_or n 8 0); w3 = low32 (get_or n 9 0) };
      asn = low32 (get_or n 10 0);
    }

-- an End of Data, with the intervals of its version
abbrev pub loose_end : RtrProtocolVersion → List ℕ → RtrEndOfData
loose_end version n =
    record {
      version = version;
      session_id = low16 (get_or n 3 0);
      serial_number = low32 (get_or n 4 0);
      refresh_interval = loose_interval version (get_or n 5 0);
      retry_interval = loose_interval version (get_or n 6 0);
      expire_interval = loose_interval version (get_or n 7 0);
    }

-- a Router Key
abbrev pub loose_key : RtrProtocolVersion → List ℕ → RtrRouterKey
loose_key version n =
    record {
      version = version;
      flags = low8 (get_or n 3 0);
      subject_key_identifier = loose_place n 4 5;
      asn = low32 (get_or n 6 0);
      subject_public_key_info = loose_place n 7 8;
    }

-- an Error Report
abbrev pub loose_report : RtrProtocolVersion → List ℕ → RtrErrorReport
loose_report version n =
    record {
      version = version;
      error_code = loose_code (get_or n 3 0);
      erroneous_pdu = loose_place n 4 5;
      error_text = loose_place n 6 7;
    }

-- the PDU of a type from 0 to 9, or else an Error Report
unfoldable pub loose_pdu : RtrProtocolVersion → List ℕ → RtrPdu
loose_pdu version n =
    cond (eqb (get_or n 0 0) 0) (SerialNotify (loose_notify version n))
    (cond (eqb (get_or n 0 0) 1) (SerialQuery (loose_query version n))
    (cond (eqb (get_or n 0 0) 2) (ResetQuery (record { version = version }))
    (cond (eqb (get_or n 0 0) 3) (CacheResponse (loose_response version n))
    (cond (eqb (get_or n 0 0) 4) (IPv4Prefix (loose_ipv4 version n))
    (cond (eqb (get_or n 0 0) 6) (IPv6Prefix (loose_ipv6 version n))
    (cond (eqb (get_or n 0 0) 7) (EndOfData (loose_end version n))
    (cond (eqb (get_or n 0 0) 8) (CacheReset (record { version = version }))
    (cond (eqb (get_or n 0 0) 9) (RouterKey (loose_key version n)) (ErrorReport (loose_report version n))))))))))

-- ---- What is found

-- the PDU that has these numbers, with the bytes that it took
abbrev pub pdu_of : List ℕ → Option (RtrPdu × ℕ)
pdu_of n = pdu_if (loose_pdu (loose_version (get_or n 1 0)) n) n
