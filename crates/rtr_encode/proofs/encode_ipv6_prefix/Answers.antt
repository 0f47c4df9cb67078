-- `encode_ipv6_prefix` writes the picture from the front, field behind field, where the output has room for it. Assumes nothing.
use mathlib.Core.List.{[]}
use mathlib.Core.Path.{refl}
use native.Mathlib.Omega.{arith}
use Rattle.rtr_text.proofs.Laws.{empty-is-well-formed}
use Rattle.rtr_models.specs.declared.RtrPdu.TheVariants.{IPv6Prefix}
use Rattle.rtr_codec.specs.Reading.{in_use}
use Rattle.rtr_encode.specs.Encode.{bytes_of, encoded_length, encoding}
use Rattle.rtr_base.proofs.Overs.{next}
use Rattle.rtr_encode.proofs.Written.{too_short, wrote}
use Rattle.rtr_encode.proofs.encode_ipv6_prefix.Goals as goal

pub returns-then-out-lt32 : goal.returns-then-out-lt32
unfolding encoded_length
returns-then-out-lt32 c =
    let a = c.args in
    rw c.short.ensures (too_short in_use (IPv6Prefix a.pdu) [] a.out.now 32 refl empty-is-well-formed refl (omega arith) c.if-out-lt32.true)

pub returns : goal.returns
unfolding bytes_of encoded_length encoding
returns c =
    let a = c.args in
    wrote in_use (IPv6Prefix a.pdu) [] a.out.now 32 refl empty-is-well-formed refl (omega arith) _ c.if-out-lt32.false refl
    (next a.out.now _ _ _ _ 28 (next a.out.now _ _ _ _ 24 (next a.out.now _ _ _ _ 20 (next a.out.now _ _ _ _ 16 (next a.out.now _ _ _ _ 12 (next a.out.now _ _ _ _ 8 c.put_header.ensures refl c.put_lengths.ensures) refl c.put32.ensures) refl c.put32-2.ensures) refl c.put32-3.ensures) refl c.put32-4.ensures) refl c.put32-5.ensures)
