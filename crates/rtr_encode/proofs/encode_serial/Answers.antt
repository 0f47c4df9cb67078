-- `encode_serial` makes the last two checks, of which the first always passes, and then writes all. Assumes nothing.
use mathlib.Core.List.{◌++◌}
use mathlib.Core.Path.{refl}
use native.Mathlib.Omega.{arith}
use Rattle.rtr_encode.specs.Encode.{bytes_of}
use Rattle.rtr_encode.specs.Private.{header_bytes}
use Rattle.rtr_base.proofs.Overs.{next}
use Rattle.rtr_encode.proofs.Checks.{no_room, all_in}
use Rattle.rtr_encode.proofs.encode_serial.Goals as goal

pub returns-then-out-lt12 : goal.returns-then-out-lt12
returns-then-out-lt12 c =
    let a = c.args in
    rw c.short.ensures (no_room 12 (header_bytes a.version a.pdu_type a.session 12 ++ bytes_of 4 a.serial_number) a.out.now (omega arith) c.if-out-lt12.true)

pub returns : goal.returns
unfolding bytes_of
returns c =
    let a = c.args in
    all_in 12 (header_bytes a.version a.pdu_type a.session 12 ++ bytes_of 4 a.serial_number) a.out.now _ (omega arith) c.if-out-lt12.false refl (next a.out.now _ _ _ _ 8 c.put_header.ensures refl c.put32.ensures)
