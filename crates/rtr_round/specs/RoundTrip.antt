-- When encoding what was read gives back the bytes, and when reading what was encoded gives back the PDU: demand 2.
use Rattle.std.specs.Prelude.{ℕ, ◌+◌, ◌-◌, ◌<◌, ◌≤◌, ◌^◌, List, [], ◌∷◌, true, cond, ◌≡◌, eqb, get_or, take, drop, replicate, Some, None}
use Rattle.rtr_models.specs.Codes.{code_number}
use Rattle.rtr_models.specs.Values.{seconds_or}
use Rattle.rtr_models.specs.declared.RtrProtocolVersion.{RtrProtocolVersion}
use Rattle.rtr_models.specs.declared.RtrProtocolVersion.TheVariants.{V0, V1}
use Rattle.rtr_models.specs.declared.RtrEndOfData.{RtrEndOfData}
use Rattle.rtr_models.specs.declared.RtrPdu.{RtrPdu}
use Rattle.rtr_models.specs.declared.RtrPdu.TheVariants.{SerialNotify, SerialQuery, ResetQuery, CacheResponse, IPv4Prefix, IPv6Prefix, EndOfData, CacheReset, RouterKey, ErrorReport}
use Rattle.rtr_codec.specs.Bytes.{number}
use Rattle.rtr_codec.specs.Reading.{Reading}
use Rattle.rtr_codec.specs.Layout.{Label, Field, length_of, place, place_of, encapsulated_start, text_start}
use Rattle.rtr_codec.specs.Layout.Field.{ignored, total, value, payload}
use Rattle.rtr_codec.specs.Layout.Label.{key_identifier}
use Rattle.rtr_codec.specs.Read.{code_in, key_fields}
use Rattle.rtr_encode.specs.Encode.{layout_of, given, values_in, encoded_length, places_inside, text_in, at}

-- every element of a slice is a byte, as in any slice of the code
abbrev pub Bytes : List ℕ → Type 0
Bytes s = (i : ℕ) → get_or s i 0 < 256

-- the ignored bytes of the fields that stand from `at` on are zero
abbrev pub IgnoredZero : ℕ → List Field → List ℕ → Type 0
IgnoredZero at [] s = Unit {0}
IgnoredZero at (ignored n ∷ fs) s = (take n (drop at s) ≡ replicate n 0) × IgnoredZero (at + n) fs s
IgnoredZero at (total ∷ fs) s = IgnoredZero (at + 4) fs s
IgnoredZero at (value label n ∷ fs) s = IgnoredZero (at + n) fs s
IgnoredZero at (payload label n ∷ fs) s = IgnoredZero (at + n) fs s

-- nothing follows an Error Report's text in the n bytes of the PDU
abbrev pub NothingBehind : RtrPdu → ℕ → Type 0
NothingBehind (SerialNotify p) n = Unit {0}
NothingBehind (SerialQuery p) n = Unit {0}
NothingBehind (ResetQuery p) n = Unit {0}
NothingBehind (CacheResponse p) n = Unit {0}
NothingBehind (IPv4Prefix p) n = Unit {0}
NothingBehind (IPv6Prefix p) n = Unit {0}
NothingBehind (EndOfData p) n = Unit {0}
NothingBehind (CacheReset p) n = Unit {0}
NothingBehind (RouterKey p) n = Unit {0}
NothingBehind (ErrorReport p) n = n ≡ p.error_text.start + p.error_text.len

-- each value fits the bytes of its field
abbrev pub ValuesFit : List Field → (Label → ℕ) → Type 0
ValuesFit [] values = Unit {0}
ValuesFit (ignored n ∷ fs) values = ValuesFit fs values
ValuesFit (total ∷ fs) values = ValuesFit fs values
ValuesFit (value label n ∷ fs) values = (values label < 256 ^ n) × ValuesFit fs values
ValuesFit (payload label n ∷ fs) values = ValuesFit fs values

-- the rules of single kinds: a prefix's lengths, a Router Key's version, an error code of the version's list
abbrev pub KindInRule : Reading → RtrPdu → Type 0
KindInRule R (SerialNotify p) = Unit {0}
KindInRule R (SerialQuery p) = Unit {0}
KindInRule R (ResetQuery p) = Unit {0}
KindInRule R (CacheResponse p) = Unit {0}
KindInRule R (IPv4Prefix p) = (p.prefix_length ≤ p.max_length) × (p.max_length ≤ 32)
KindInRule R (IPv6Prefix p) = (p.prefix_length ≤ p.max_length) × (p.max_length ≤ 128)
KindInRule R (EndOfData p) = Unit {0}
KindInRule R (CacheReset p) = Unit {0}
KindInRule R (RouterKey p) = p.version ≡ V1
KindInRule R (ErrorReport p) = code_in R.code_eight_in_v0 p.version (code_number p.error_code) ≡ true

-- a PDU that can be sent and read: its values fit, its payloads lie in s, its text is UTF-8, its length fits 32 bits, its kind's rules hold
pub record InRule (R : Reading) (pdu : RtrPdu) (s : List ℕ) : Type 0 where
  pub fits : ValuesFit (layout_of R pdu) (given (values_in pdu))
  pub places : places_inside pdu s ≡ true
  pub text : text_in pdu s ≡ true
  pub short : encoded_length R pdu ≤ 4294967295
  pub kind : KindInRule R pdu

-- an End of Data as its version has it: no intervals in version 0, all three in version 1
abbrev pub end_back : RtrProtocolVersion → RtrEndOfData → RtrEndOfData
end_back V0 p =
    record {
      version = V0;
      session_id = p.session_id;
      serial_number = p.serial_number;
      refresh_interval = None;
      retry_interval = None;
      expire_interval = None;
    }
end_back V1 p =
    record {
      version = V1;
      session_id = p.session_id;
      serial_number = p.serial_number;
      refresh_interval = Some (seconds_or 3600 p.refresh_interval);
      retry_interval = Some (seconds_or 600 p.retry_interval);
      expire_interval = Some (seconds_or 7200 p.expire_interval);
    }

-- the PDU that its encoding is read as: the same, with its payloads where the encoding has them
abbrev pub read_back : Reading → RtrPdu → RtrPdu
read_back R (SerialNotify p) = SerialNotify p
read_back R (SerialQuery p) = SerialQuery p
read_back R (ResetQuery p) = ResetQuery p
read_back R (CacheResponse p) = CacheResponse p
read_back R (IPv4Prefix p) = IPv4Prefix p
read_back R (IPv6Prefix p) = IPv6Prefix p
read_back R (EndOfData p) = EndOfData (end_back p.version p)
read_back R (CacheReset p) = CacheReset p
read_back R (RouterKey p) =
    RouterKey
    (record {
      version = p.version;
      flags = p.flags;
      subject_key_identifier = place_of (key_fields R.key_by_crate) key_identifier;
      asn = p.asn;
      subject_public_key_info = place (length_of (key_fields R.key_by_crate)) p.subject_public_key_info.len;
    })
read_back R (ErrorReport p) =
    ErrorReport
    (record {
      version = p.version;
      error_code = p.error_code;
      erroneous_pdu = place encapsulated_start p.erroneous_pdu.len;
      error_text = place (text_start p.erroneous_pdu.len) p.error_text.len;
    })

-- the payloads of a PDU, as they stand in s: a Router Key's identifier and info, an Error Report's copy and text
abbrev pub payloads_of : RtrPdu → List ℕ → List (List ℕ)
payloads_of (SerialNotify p) s = []
payloads_of (SerialQuery p) s = []
payloads_of (ResetQuery p) s = []
payloads_of (CacheResponse p) s = []
payloads_of (IPv4Prefix p) s = []
payloads_of (IPv6Prefix p) s = []
payloads_of (EndOfData p) s = []
payloads_of (CacheReset p) s = []
payloads_of (RouterKey p) s = at p.subject_key_identifier s ∷ at p.subject_public_key_info s ∷ []
payloads_of (ErrorReport p) s = at p.erroneous_pdu s ∷ at p.error_text s ∷ []

-- the payloads among a PDU's n bytes, by its type and where its picture has them (document 01, "Reading"; a Router Key's by its arrangement)
abbrev pub payloads_at : Reading → ℕ → List ℕ → List (List ℕ)
payloads_at R n s =
    cond (eqb (number s 1 1) 9)
    (cond R.key_by_crate (take 20 (drop 10 s) ∷ take (n - 34) (drop 34 s) ∷ []) (take 20 (drop 8 s) ∷ take (n - 32) (drop 32 s) ∷ []))
    (cond (eqb (number s 1 1) 10)
    (take (number s 8 4) (drop 12 s) ∷ take (number s (12 + number s 8 4) 4) (drop (16 + number s 8 4) s) ∷ [])
    [])
