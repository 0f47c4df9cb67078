-- `encode_end_of_data_v1` writes the picture from the front, field behind field, where the output has room for it. Assumes nothing.
use mathlib.Core.List.{[]}
use mathlib.Core.Path.{refl}
use native.Mathlib.Omega.{arith}
use Rattle.rtr_text.proofs.Laws.{empty-is-well-formed}
use Rattle.rtr_models.specs.declared.RtrPdu.TheVariants.{EndOfData}
use Rattle.rtr_codec.specs.Reading.{in_use}
use Rattle.rtr_encode.specs.Encode.{bytes_of, encoded_length, encoding}
use Rattle.rtr_base.proofs.Overs.{next}
use Rattle.rtr_encode.proofs.Written.{too_short, wrote}
use Rattle.rtr_encode.specs.Private.{end_of_data}
use Rattle.rtr_encode.proofs.encode_end_of_data_v1.Goals as goal

pub returns-then-out-lt24 : goal.returns-then-out-lt24
unfolding encoded_length
returns-then-out-lt24 c =
    let a = c.args in
    rw c.short.ensures (too_short in_use (EndOfData (end_of_data a.session_id a.serial_number a.refresh a.retry a.expire)) [] a.out.now 24 refl empty-is-well-formed refl (omega arith) c.if-out-lt24.true)

pub returns : goal.returns
unfolding bytes_of encoded_length encoding
returns c =
    let a = c.args in
    wrote in_use (EndOfData (end_of_data a.session_id a.serial_number a.refresh a.retry a.expire)) [] a.out.now 24 refl empty-is-well-formed refl (omega arith) _ c.if-out-lt24.false refl
    (next a.out.now _ _ _ _ 20 (next a.out.now _ _ _ _ 16 (next a.out.now _ _ _ _ 12 (next a.out.now _ _ _ _ 8 c.put_header.ensures refl c.put32.ensures) refl c.put32-2.ensures) refl c.put32-3.ensures) refl c.put32-4.ensures)
