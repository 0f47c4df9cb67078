-- `put_router_key` writes the key from the front, part behind part; the identifier's 20 bytes are a block of 16 and one of 4. Assumes nothing.
use native.Mathlib.Omega.{arith}
use Rattle.rtr_encode.proofs.Blocks.{ends}
use Rattle.rtr_encode.proofs.Payloads.{key-stored}
use Rattle.rtr_encode.proofs.put_router_key.Goals as goal

pub returns : goal.returns
returns c =
    let a = c.args in
    let identifier = ends _ _ _ a.identifier.now 10 16 16 4 (omega arith) (omega arith) (omega arith) (omega arith) c.put_block.ensures c.put_block-2.ensures in
    key-stored a.version a.flags a.asn a.whole a.identifier.now a.info.now a.out.now _ _ _ _ _ c.requires.0
    c.put_header.ensures c.put_flags.ensures identifier c.put32.ensures c.put_part.ensures
