-- Where encoding departs from the RFCs' pictures: a Router Key's arrangement, and nowhere else. Assumes nothing.
use Prim.Native.Nat.{ℕ, ◌+◌}
use mathlib.Core.Bool.{false}
use mathlib.Core.List.{List}
use mathlib.Core.Path.{◌≡◌, refl}
use native.Mathlib.Omega.{arith}
use lib.Dec.{eqb}
use Rattle.rtr_models.specs.Codes.{type_number}
use Rattle.rtr_models.specs.Values.{type_of}
use Rattle.rtr_models.specs.declared.RtrRouterKey.{RtrRouterKey}
use Rattle.rtr_models.specs.declared.RtrPdu.{RtrPdu}
use Rattle.rtr_models.specs.declared.RtrPdu.TheVariants.{SerialNotify, SerialQuery, ResetQuery, CacheResponse, IPv4Prefix, IPv6Prefix, EndOfData, CacheReset, RouterKey, ErrorReport}
use Rattle.rtr_codec.specs.Reading.{Reading, crate, rfc}
use Rattle.rtr_encode.specs.Encode.{layout_of, encoded_length, encoding, encode_says, encode}

-- a reading has a say in an encoding only by the PDU's picture
pub encodings-agree : (R R' : Reading) (pdu : RtrPdu) (s out : List ℕ) → layout_of R pdu ≡ layout_of R' pdu → encode R pdu s out ≡ encode R' pdu s out
unfolding encode encode_says encoding encoded_length
encodings-agree R R' pdu s out e = cc

-- so every PDU but a Router Key is written as in the RFCs' pictures
pub encode-departs : (pdu : RtrPdu) (s out : List ℕ) → eqb (type_number (type_of pdu)) 9 ≡ false → encode crate pdu s out ≡ encode rfc pdu s out
encode-departs (SerialNotify p) s out h = encodings-agree crate rfc (SerialNotify p) s out refl
encode-departs (SerialQuery p) s out h = encodings-agree crate rfc (SerialQuery p) s out refl
encode-departs (ResetQuery p) s out h = encodings-agree crate rfc (ResetQuery p) s out refl
encode-departs (CacheResponse p) s out h = encodings-agree crate rfc (CacheResponse p) s out refl
encode-departs (IPv4Prefix p) s out h = encodings-agree crate rfc (IPv4Prefix p) s out refl
encode-departs (IPv6Prefix p) s out h = encodings-agree crate rfc (IPv6Prefix p) s out refl
encode-departs (EndOfData p) s out h = encodings-agree crate rfc (EndOfData p) s out refl
encode-departs (CacheReset p) s out h = encodings-agree crate rfc (CacheReset p) s out refl
encode-departs (RouterKey p) s out h = cc
encode-departs (ErrorReport p) s out h = encodings-agree crate rfc (ErrorReport p) s out refl

-- and a Router Key is two bytes longer than in the picture
pub key-departs : (p : RtrRouterKey) → encoded_length crate (RouterKey p) ≡ encoded_length rfc (RouterKey p) + 2
unfolding encoded_length
key-departs p = omega arith
