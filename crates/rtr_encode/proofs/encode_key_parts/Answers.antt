-- `encode_key_parts` makes the last two checks, and then writes all. Assumes nothing.
use Prim.Native.Nat.{◌+◌}
use native.Mathlib.Omega.{arith}
use lib.ListN.{length}
use Rattle.rtr_encode.specs.Private.{key_bytes}
use Rattle.rtr_encode.proofs.Checks.{too_long, no_room, all_in, key-length}
use Rattle.rtr_encode.proofs.encode_key_parts.Goals as goal

pub returns-then-whole-gt4294967295 : goal.returns-then-whole-gt4294967295
returns-then-whole-gt4294967295 c =
    let a = c.args in
    let n = 34 + length a.info.now in
    let bytes = key_bytes a.version a.flags a.identifier.now a.asn a.info.now n in
    too_long n bytes a.out.now (omega arith)

pub returns-then-out-whole : goal.returns-then-out-whole
returns-then-out-whole c =
    let a = c.args in
    let n = 34 + length a.info.now in
    let bytes = key_bytes a.version a.flags a.identifier.now a.asn a.info.now n in
    rw c.short.ensures (no_room n bytes a.out.now (omega arith) (omega arith))

pub returns : goal.returns
returns c =
    let a = c.args in
    let n = 34 + length a.info.now in
    let bytes = key_bytes a.version a.flags a.identifier.now a.asn a.info.now n in
    all_in n bytes a.out.now _ (omega arith) (omega arith) (key-length a.version a.flags a.asn n a.identifier.now a.info.now c.requires) c.put_router_key.ensures
