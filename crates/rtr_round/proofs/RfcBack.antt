-- What is sent by the RFCs' page is received by it: the bytes of a PDU in rule (`sent`) are that PDU (`Received`), its payloads where the picture has them.
-- What is written of bytes is bytes, so `rfc-exactly` speaks of it, and reading gives the PDU back (`read-of-encode`). Assumes nothing.
use Prim.Native.Nat.{ℕ, zero, suc, ◌+◌, ◌/◌, ◌%◌, ◌<◌}
use mathlib.Core.List.{List, [], ◌∷◌, ◌++◌, append-nil}
use mathlib.Core.Path.{◌≡◌, sym, ap, ◌∙◌, subst}
use native.Mathlib.Omega.{arith}
use lib.ListN.{take, drop, replicate}
use lib.Seq.{get_or-drop, take_all}
use Rattle.rtr_models.specs.Codes.{version_number, type_number}
use Rattle.rtr_models.specs.Values.{type_of, version_of}
use Rattle.rtr_models.specs.declared.Place.{Place}
use Rattle.rtr_models.specs.declared.RtrProtocolVersion.{RtrProtocolVersion}
use Rattle.rtr_models.specs.declared.RtrProtocolVersion.TheVariants.{V0, V1}
use Rattle.rtr_models.specs.declared.RtrPduType.{RtrPduType}
use Rattle.rtr_models.specs.declared.RtrPdu.{RtrPdu}
use Rattle.rtr_models.specs.declared.RtrPdu.TheVariants.{SerialNotify, SerialQuery, ResetQuery, CacheResponse, IPv4Prefix, IPv6Prefix, EndOfData, CacheReset, RouterKey, ErrorReport}
use Rattle.rtr_codec.specs.Reading.{Reading, rfc}
use Rattle.rtr_codec.specs.Layout.{Label, Field}
use Rattle.rtr_codec.specs.Layout.Field.{ignored, total, value, payload}
use Rattle.rtr_codec.specs.Read.{read}
use Rattle.rtr_codec.specs.Read.Verdict.{accepted}
use Rattle.rtr_encode.specs.Encode.{at, bytes_of, field_bytes, layout_of, given, values_in, behind, encoded_length, encoding}
use Rattle.rtr_encode.proofs.Laws.{bytes-none, bytes-more, encoding-is}
use Rattle.rtr_round.specs.RoundTrip.{Bytes, InRule, read_back}
use Rattle.rtr_round.specs.Rfc.{Received, sent}
use Rattle.rtr_round.proofs.RoundTrip.{length-encoding, read-of-encode}
use Rattle.rtr_round.proofs.Rfc.{rfc-exactly}
use Rattle.rtr_round.proofs.RfcSent.{encoder-writes-rfc}

-- bytes and bytes are bytes, and so is a part of bytes
no_bytes : Bytes []
no_bytes i = omega arith

a_byte : (b : ℕ) (l : List ℕ) → b < 256 → Bytes l → Bytes (b ∷ l)
a_byte b l h bs zero = h
a_byte b l h bs (suc i) = bs i

joined : (a b : List ℕ) → Bytes a → Bytes b → Bytes (a ++ b)
joined [] b p q = q
joined (x ∷ a) b p q = a_byte x (a ++ b) (p 0) (joined a b (λ j. p (suc j)) q)

front : (n : ℕ) (l : List ℕ) → Bytes l → Bytes (take n l)
front zero l p = no_bytes
front (suc n) [] p = no_bytes
front (suc n) (x ∷ l) p = a_byte x (take n l) (p 0) (front n l (λ j. p (suc j)))

part : (n m : ℕ) (l : List ℕ) → Bytes l → Bytes (take n (drop m l))
part n m l p = front n (drop m l) (λ i. rw get_or-drop (p (m + i)))

zeros : (n : ℕ) → Bytes (replicate n 0)
zeros zero = no_bytes
zeros (suc n) = a_byte 0 (replicate n 0) (omega arith) (zeros n)

number-bytes : (size n : ℕ) → Bytes (bytes_of size n)
number-bytes zero n = rw bytes-none no_bytes
number-bytes (suc size) n = rw bytes-more (joined (bytes_of size (n / 256)) (n % 256 ∷ []) (number-bytes size (n / 256)) (a_byte (n % 256) [] (omega arith) no_bytes))

module _ (s : List ℕ) (bs : Bytes s) where
  field-bytes : (fs : List Field) (whole : ℕ) (values : Label → ℕ) → Bytes (field_bytes fs whole values s)
  field-bytes [] whole values = no_bytes
  field-bytes (ignored n ∷ fs) whole values = joined (replicate n 0) (field_bytes fs whole values s) (zeros n) (field-bytes fs whole values)
  field-bytes (total ∷ fs) whole values = joined (bytes_of 4 whole) (field_bytes fs whole values s) (number-bytes 4 whole) (field-bytes fs whole values)
  field-bytes (value l n ∷ fs) whole values = joined (bytes_of n (values l)) (field_bytes fs whole values s) (number-bytes n (values l)) (field-bytes fs whole values)
  field-bytes (payload l n ∷ fs) whole values = joined (take n (drop (values l) s)) (field_bytes fs whole values s) (part n (values l) s bs) (field-bytes fs whole values)

  place-bytes : (p : Place) → Bytes (at p s)
  place-bytes p = part p.len p.start s bs

  behind-bytes : (pdu : RtrPdu) → Bytes (behind pdu s)
  behind-bytes (SerialNotify p) = no_bytes
  behind-bytes (SerialQuery p) = no_bytes
  behind-bytes (ResetQuery p) = no_bytes
  behind-bytes (CacheResponse p) = no_bytes
  behind-bytes (IPv4Prefix p) = no_bytes
  behind-bytes (IPv6Prefix p) = no_bytes
  behind-bytes (EndOfData p) = no_bytes
  behind-bytes (CacheReset p) = no_bytes
  behind-bytes (RouterKey p) = place-bytes p.subject_public_key_info
  behind-bytes (ErrorReport p) =
      joined (at p.erroneous_pdu s ++ bytes_of 4 p.error_text.len) (at p.error_text s)
      (joined (at p.erroneous_pdu s) (bytes_of 4 p.error_text.len) (place-bytes p.erroneous_pdu) (number-bytes 4 p.error_text.len))
      (place-bytes p.error_text)

version-byte : (v : RtrProtocolVersion) → version_number v < 256
version-byte V0 = omega arith
version-byte V1 = omega arith

type-byte : (t : RtrPduType) → type_number t < 256
type-byte RtrPduType.SerialNotify = omega arith
type-byte RtrPduType.SerialQuery = omega arith
type-byte RtrPduType.ResetQuery = omega arith
type-byte RtrPduType.CacheResponse = omega arith
type-byte RtrPduType.IPv4Prefix = omega arith
type-byte RtrPduType.IPv6Prefix = omega arith
type-byte RtrPduType.EndOfData = omega arith
type-byte RtrPduType.CacheReset = omega arith
type-byte RtrPduType.RouterKey = omega arith
type-byte RtrPduType.ErrorReport = omega arith

-- what is written of a slice of bytes is bytes
pub encoding-bytes : (R : Reading) (pdu : RtrPdu) (s : List ℕ) → Bytes s → Bytes (encoding R pdu s)
encoding-bytes R pdu s bs =
    let fields : List ℕ = field_bytes (layout_of R pdu) (encoded_length R pdu) (given (values_in pdu)) s in
    let rest : List ℕ = fields ++ behind pdu s in
    rw encoding-is
    (a_byte (version_number (version_of pdu)) (type_number (type_of pdu) ∷ rest) (version-byte (version_of pdu))
    (a_byte (type_number (type_of pdu)) rest (type-byte (type_of pdu))
    (joined fields (behind pdu s) (field-bytes s bs (layout_of R pdu) (encoded_length R pdu) (given (values_in pdu))) (behind-bytes s bs pdu))))

-- what is sent of a PDU in rule is received as that PDU, its payloads where the picture has them
pub sent-received : (pdu : RtrPdu) (s : List ℕ) → Bytes s → InRule rfc pdu s → Received (read_back rfc pdu) (sent pdu s)
sent-received pdu s bs rule =
    let E : List ℕ = encoding rfc pdu s in
    let back : read rfc E ≡ accepted (read_back rfc pdu) (encoded_length rfc pdu) = ap (read rfc) (sym (append-nil E)) ∙ read-of-encode rfc pdu s [] rule in
    let begins = (rfc-exactly E (read_back rfc pdu) (encoded_length rfc pdu) (encoding-bytes rfc pdu s bs)).0 back in
    let all : take (encoded_length rfc pdu) E ≡ E = take_all (encoded_length rfc pdu) E (omega (arith, length-encoding rfc pdu s rule.places)) in
    subst (Received (read_back rfc pdu)) (all ∙ encoder-writes-rfc pdu s rule) begins.1
