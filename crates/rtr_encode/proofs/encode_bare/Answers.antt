-- `encode_bare` makes the last two checks, of which the first always passes, and then writes all. Assumes nothing.
use mathlib.Core.Path.{refl}
use native.Mathlib.Omega.{arith}
use Rattle.rtr_encode.specs.Encode.{bytes_of}
use Rattle.rtr_encode.specs.Private.{header_bytes}
use Rattle.rtr_encode.proofs.Checks.{no_room, all_in}
use Rattle.rtr_encode.proofs.encode_bare.Goals as goal

pub returns-then-out-lt8 : goal.returns-then-out-lt8
returns-then-out-lt8 c =
    let a = c.args in
    rw c.short.ensures (no_room 8 (header_bytes a.version a.pdu_type a.session 8) a.out.now (omega arith) c.if-out-lt8.true)

pub returns : goal.returns
unfolding bytes_of
returns c =
    let a = c.args in
    all_in 8 (header_bytes a.version a.pdu_type a.session 8) a.out.now _ (omega arith) c.if-out-lt8.false refl c.put_header.ensures
