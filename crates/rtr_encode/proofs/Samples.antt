-- Document 01, Either side of each edge: the line for encoding, which rtr_edges cites. It is computed. Assumes nothing.
use mathlib.Core.List.{[], ◌∷◌, ◌++◌}
use mathlib.Core.Path.{◌≡◌, refl}
use lib.ListN.{replicate}
use Rattle.rtr_text.proofs.Laws.{empty-is-well-formed}
use Rattle.rtr_models.specs.declared.RtrProtocolVersion.TheVariants.{V1}
use Rattle.rtr_models.specs.declared.RtrErrorCode.TheVariants.{CorruptData}
use Rattle.rtr_models.specs.declared.RtrPdu.TheVariants.{ErrorReport}
use Rattle.rtr_codec.specs.Reading.{in_use}
use Rattle.rtr_codec.proofs.Samples.{byte_behind}
use Rattle.rtr_encode.specs.Encode.{bytes_of, encoded_length, encoding, encode_says, encode}
use Rattle.rtr_encode.specs.Encode.Writing.{written}

-- the byte behind a report's text is not written: of 17 bytes of output the last one stays
pub behind-not-written : encode in_use
    (ErrorReport (record { version = V1; error_code = CorruptData; erroneous_pdu = record { start = 12; len = 0 }; error_text = record { start = 16; len = 0 } }))
    byte_behind
    (replicate 17 0xaa)
    ≡ record { says = written 16; out = 0x01 ∷ 0x0a ∷ 0x00 ∷ 0x00 ∷ 0x00 ∷ 0x00 ∷ 0x00 ∷ 0x10 ∷ replicate 8 0 ++ (0xaa ∷ []) }
unfolding bytes_of encoded_length encoding encode_says encode
behind-not-written = rw empty-is-well-formed refl
