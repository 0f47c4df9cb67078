-- What the contracts of private functions say: an End of Data of one version, the bytes that the code puts together, the last two checks. No promise of a public function speaks of it.
use Rattle.std.specs.Prelude.{ℕ, List, [], ◌∷◌, ◌++◌, length, leb, Some}
use Rattle.rtr_models.specs.Codes.{version_number}
use Rattle.rtr_models.specs.declared.RtrProtocolVersion.{RtrProtocolVersion}
use Rattle.rtr_models.specs.declared.RtrProtocolVersion.TheVariants.{V1}
use Rattle.rtr_models.specs.declared.RtrEndOfData.{RtrEndOfData}
use Rattle.rtr_encode.specs.Encode.{Writing, bytes_of, unless, out_after, Encoded}
use Rattle.rtr_encode.specs.Encode.Writing.{written}

-- an End of Data with this version
abbrev pub with_version : RtrProtocolVersion → RtrEndOfData → RtrEndOfData
with_version v p =
    record {
      version = v;
      session_id = p.session_id;
      serial_number = p.serial_number;
      refresh_interval = p.refresh_interval;
      retry_interval = p.retry_interval;
      expire_interval = p.expire_interval;
    }

-- a version 1 End of Data of these numbers
abbrev pub end_of_data : ℕ → ℕ → ℕ → ℕ → ℕ → RtrEndOfData
end_of_data session serial refresh retry expire =
    record {
      version = V1;
      session_id = session;
      serial_number = serial;
      refresh_interval = Some refresh;
      retry_interval = Some retry;
      expire_interval = Some expire;
    }

-- a header's bytes
abbrev pub header_bytes : RtrProtocolVersion → ℕ → ℕ → ℕ → List ℕ
header_bytes v type session whole = version_number v ∷ type ∷ (bytes_of 2 session ++ bytes_of 4 whole)

-- a Router Key's bytes in the crate's arrangement, with its payloads at hand
abbrev pub key_bytes : RtrProtocolVersion → ℕ → List ℕ → ℕ → List ℕ → ℕ → List ℕ
key_bytes v flags identifier asn info whole =
    header_bytes v 9 0 whole ++ (bytes_of 1 flags ++ (0 ∷ [])) ++ identifier ++ bytes_of 4 asn ++ info

-- an Error Report's bytes, with its payloads at hand
abbrev pub report_bytes : RtrProtocolVersion → ℕ → List ℕ → List ℕ → ℕ → List ℕ
report_bytes v code copy text whole =
    header_bytes v 10 code whole ++ bytes_of 4 (length copy) ++ copy ++ bytes_of 4 (length text) ++ text

-- the checks that are left once the payloads are in rule: 10, then 9
abbrev pub last_says : ℕ → ℕ → Writing
last_says n room = unless (leb n 4294967295) 10 [] (unless (leb n room) 9 (n ∷ []) (written n))

abbrev pub last_checks : ℕ → List ℕ → List ℕ → Encoded
last_checks n bytes out = record { says = last_says n (length out); out = out_after (last_says n (length out)) bytes out }
