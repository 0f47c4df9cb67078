-- `encode_cache_reset` writes a header alone: its picture. Assumes nothing.
use mathlib.Core.List.{[]}
use mathlib.Core.Path.{refl, ◌∙◌}
use Rattle.rtr_text.proofs.Laws.{empty-is-well-formed}
use Rattle.rtr_models.specs.declared.RtrPdu.TheVariants.{CacheReset}
use Rattle.rtr_codec.specs.Reading.{in_use}
use Rattle.rtr_encode.specs.Encode.{bytes_of, encoded_length, encoding}
use Rattle.rtr_encode.proofs.Checks.{plain-encodes}
use Rattle.rtr_encode.proofs.encode_cache_reset.Goals as goal

pub returns : goal.returns
unfolding bytes_of encoded_length encoding
returns c =
    let a = c.args in
    c.encode_bare.ensures ∙ plain-encodes in_use (CacheReset a.pdu) [] a.out.now _ _ refl empty-is-well-formed refl refl
