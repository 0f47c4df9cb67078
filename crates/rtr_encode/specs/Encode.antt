-- Encoding one PDU into a lent buffer: document 01, "Encoding". The bytes are read off the same pictures as reading's (Layout of
-- rtr_codec): RFC 8210, sections 5.2 to 5.11, and for a Router Key the arrangement of a `Reading`.
use Rattle.std.specs.Prelude.{ℕ, zero, suc, ◌+◌, ◌/◌, ◌%◌, Bool, true, false, cond, ◌&&◌, List, [], ◌∷◌, ◌++◌, length, take, drop, replicate, leb}
use Rattle.rtr_text.specs.Utf8.{well_formed, well_formed_up_to}
use Rattle.rtr_models.specs.Codes.{version_number, type_number, code_number}
use Rattle.rtr_models.specs.Values.{seconds_or, type_of, version_of}
use Rattle.rtr_models.specs.Parts.{inside, key_inside}
use Rattle.rtr_models.specs.declared.RtrProtocolVersion.{RtrProtocolVersion}
use Rattle.rtr_models.specs.declared.RtrProtocolVersion.TheVariants.{V0, V1}
use Rattle.rtr_models.specs.declared.RtrEndOfData.{RtrEndOfData}
use Rattle.rtr_models.specs.declared.Place.{Place}
use Rattle.rtr_models.specs.declared.RtrPdu.{RtrPdu}
use Rattle.rtr_models.specs.declared.RtrPdu.TheVariants.{SerialNotify, SerialQuery, ResetQuery, CacheResponse, IPv4Prefix, IPv6Prefix, EndOfData, CacheReset, RouterKey, ErrorReport}
use Rattle.rtr_codec.specs.Reading.{Reading}
use Rattle.rtr_codec.specs.Layout.{Label, Field, serial_layout, bare_layout, response_layout, ipv4_layout, ipv6_layout, end_layout, report_layout, text_layout, widths, length_of, same}
use Rattle.rtr_codec.specs.Layout.Label.{session_id, serial_number, flags, prefix_length, max_length, address0, address1, address2, address3, as_number, refresh_interval, retry_interval, expire_interval, key_identifier, error_code, encapsulated_length}
use Rattle.rtr_codec.specs.Layout.Field.{ignored, total, value, payload}
use Rattle.rtr_codec.specs.Read.{key_fields, text_refusal}

-- a number in so many bytes, big-endian
unfoldable pub bytes_of : ℕ → ℕ → List ℕ
bytes_of zero n = []
bytes_of (suc size) n = bytes_of size (n / 256) ++ (n % 256 ∷ [])

-- the fields' bytes: ignored bytes are zero, `whole` stands for the PDU's length, each value by its label, payloads as parts of s
abbrev pub field_bytes : List Field → ℕ → (Label → ℕ) → List ℕ → List ℕ
field_bytes [] whole values s = []
field_bytes (ignored n ∷ fs) whole values s = replicate n 0 ++ field_bytes fs whole values s
field_bytes (total ∷ fs) whole values s = bytes_of 4 whole ++ field_bytes fs whole values s
field_bytes (value label n ∷ fs) whole values s = bytes_of n (values label) ++ field_bytes fs whole values s
field_bytes (payload label n ∷ fs) whole values s = take n (drop (values label) s) ++ field_bytes fs whole values s

-- a PDU's picture, as far as its key info or its encapsulated PDU
abbrev pub layout_of : Reading → RtrPdu → List Field
layout_of R (SerialNotify p) = serial_layout
layout_of R (SerialQuery p) = serial_layout
layout_of R (ResetQuery p) = bare_layout
layout_of R (CacheResponse p) = response_layout
layout_of R (IPv4Prefix p) = ipv4_layout
layout_of R (IPv6Prefix p) = ipv6_layout
layout_of R (EndOfData p) = end_layout p.version
layout_of R (CacheReset p) = bare_layout
layout_of R (RouterKey p) = key_fields R.key_by_crate
layout_of R (ErrorReport p) = report_layout

-- the value of a field, by its label; of a payload, the place where it begins
pub data Given : Type 0 where
  ◌≔◌ : Label → ℕ → Given

infix 68 ◌≔◌
-- what a label is given, 0 where it is given nothing
abbrev pub given : List Given → Label → ℕ
given [] l = 0
given (m ≔ n ∷ more) l = cond (same m l) n (given more l)

-- document 01: a version 1 End of Data without an interval gets its default, a version 0 one drops intervals
abbrev pub end_values : RtrProtocolVersion → RtrEndOfData → List Given
end_values V0 p = session_id ≔ p.session_id ∷ serial_number ≔ p.serial_number ∷ []
end_values V1 p =
    session_id ≔ p.session_id ∷ serial_number ≔ p.serial_number ∷ refresh_interval ≔ seconds_or 3600 p.refresh_interval ∷ retry_interval ≔ seconds_or 600 p.retry_interval ∷ expire_interval ≔ seconds_or 7200 p.expire_interval ∷ []

-- the values of a PDU's fields
abbrev pub values_in : RtrPdu → List Given
values_in (SerialNotify p) = session_id ≔ p.session_id ∷ serial_number ≔ p.serial_number ∷ []
values_in (SerialQuery p) = session_id ≔ p.session_id ∷ serial_number ≔ p.serial_number ∷ []
values_in (ResetQuery p) = []
values_in (CacheResponse p) = session_id ≔ p.session_id ∷ []
values_in (IPv4Prefix p) =
    flags ≔ p.flags ∷ prefix_length ≔ p.prefix_length ∷ max_length ≔ p.max_length ∷ address0 ≔ p.prefix ∷ as_number ≔ p.asn ∷ []
values_in (IPv6Prefix p) =
    flags ≔ p.flags ∷ prefix_length ≔ p.prefix_length ∷ max_length ≔ p.max_length ∷ address0 ≔ p.prefix.w0 ∷ address1 ≔ p.prefix.w1 ∷ address2 ≔ p.prefix.w2 ∷ address3 ≔ p.prefix.w3 ∷ as_number ≔ p.asn ∷ []
values_in (EndOfData p) = end_values p.version p
values_in (CacheReset p) = []
values_in (RouterKey p) = flags ≔ p.flags ∷ key_identifier ≔ p.subject_key_identifier.start ∷ as_number ≔ p.asn ∷ []
values_in (ErrorReport p) = error_code ≔ code_number p.error_code ∷ encapsulated_length ≔ p.erroneous_pdu.len ∷ []

-- the bytes at a place
abbrev pub at : Place → List ℕ → List ℕ
at p s = take p.len (drop p.start s)

-- what follows the picture: a key's info; a report's copy, and its text behind its length
abbrev pub behind : RtrPdu → List ℕ → List ℕ
behind (SerialNotify p) s = []
behind (SerialQuery p) s = []
behind (ResetQuery p) s = []
behind (CacheResponse p) s = []
behind (IPv4Prefix p) s = []
behind (IPv6Prefix p) s = []
behind (EndOfData p) s = []
behind (CacheReset p) s = []
behind (RouterKey p) s = at p.subject_public_key_info s
behind (ErrorReport p) s =
    at p.erroneous_pdu s ++ bytes_of (widths text_layout) p.error_text.len ++ at p.error_text s

-- and how many bytes that is
abbrev pub behind_length : RtrPdu → ℕ
behind_length (SerialNotify p) = 0
behind_length (SerialQuery p) = 0
behind_length (ResetQuery p) = 0
behind_length (CacheResponse p) = 0
behind_length (IPv4Prefix p) = 0
behind_length (IPv6Prefix p) = 0
behind_length (EndOfData p) = 0
behind_length (CacheReset p) = 0
behind_length (RouterKey p) = p.subject_public_key_info.len
behind_length (ErrorReport p) = p.erroneous_pdu.len + widths text_layout + p.error_text.len

-- the length of a PDU's encoding
unfoldable pub encoded_length : Reading → RtrPdu → ℕ
encoded_length R pdu = length_of (layout_of R pdu) + behind_length pdu

-- the encoding: version, type, fields, and what follows them
unfoldable pub encoding : Reading → RtrPdu → List ℕ → List ℕ
encoding R pdu s =
    version_number (version_of pdu) ∷ type_number (type_of pdu) ∷ (field_bytes (layout_of R pdu) (encoded_length R pdu) (given (values_in pdu)) s ++ behind pdu s)

-- check 11: every payload lies in the slice, a key identifier with its 20 bytes
abbrev pub places_inside : RtrPdu → List ℕ → Bool
places_inside (SerialNotify p) s = true
places_inside (SerialQuery p) s = true
places_inside (ResetQuery p) s = true
places_inside (CacheResponse p) s = true
places_inside (IPv4Prefix p) s = true
places_inside (IPv6Prefix p) s = true
places_inside (EndOfData p) s = true
places_inside (CacheReset p) s = true
places_inside (RouterKey p) s = key_inside p.subject_key_identifier s && inside p.subject_public_key_info s
places_inside (ErrorReport p) s = inside p.erroneous_pdu s && inside p.error_text s

-- the text of a report, and no text in other kinds
abbrev pub text_of : RtrPdu → List ℕ → List ℕ
text_of (SerialNotify p) s = []
text_of (SerialQuery p) s = []
text_of (ResetQuery p) s = []
text_of (CacheResponse p) s = []
text_of (IPv4Prefix p) s = []
text_of (IPv6Prefix p) s = []
text_of (EndOfData p) s = []
text_of (CacheReset p) s = []
text_of (RouterKey p) s = []
text_of (ErrorReport p) s = at p.error_text s

-- check 8: it is UTF-8
abbrev pub text_in : RtrPdu → List ℕ → Bool
text_in pdu s = well_formed (text_of pdu s)

-- so many bytes written, or a refusal's number and values
pub data Writing : Type 0 where
  written : ℕ → Writing
  refused : ℕ → List ℕ → Writing

-- go on where the test holds, else refuse
abbrev pub unless : Bool → ℕ → List ℕ → Writing → Writing
unless true n values next = next
unless false n values next = refused n values

-- the checks in document 01's order, for an output of `room` bytes
unfoldable pub encode_says : Reading → RtrPdu → List ℕ → ℕ → Writing
encode_says R pdu s room =
    unless (places_inside pdu s) 11 []
    (unless (text_in pdu s) 8 (text_refusal (well_formed_up_to (text_of pdu s)))
    (unless (leb (encoded_length R pdu) 4294967295) 10 []
    (unless (leb (encoded_length R pdu) room) 9 (encoded_length R pdu ∷ []) (written (encoded_length R pdu)))))

-- the output afterwards: the encoding and then the bytes that stood behind it; unchanged where it is refused
abbrev pub out_after : Writing → List ℕ → List ℕ → List ℕ
out_after (written n) bytes out = bytes ++ drop n out
out_after (refused n values) bytes out = out

-- all that a call leaves: what it says, and the output
pub record Encoded : Type 0 where
  pub says : Writing
  pub out : List ℕ

unfoldable pub encode : Reading → RtrPdu → List ℕ → List ℕ → Encoded
encode R pdu s out =
    record { says = encode_says R pdu s (length out); out = out_after (encode_says R pdu s (length out)) (encoding R pdu s) out }
