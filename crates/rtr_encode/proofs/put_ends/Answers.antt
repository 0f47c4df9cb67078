-- `put_ends` stores a first block and a last one that together cover the part. Assumes nothing.
use native.Mathlib.Omega.{arith}
use Rattle.rtr_encode.proofs.Blocks.{ends}
use Rattle.rtr_encode.proofs.put_ends.Goals as goal

pub returns : goal.returns
returns g c =
    let a = c.args in
    ends a.out.now _ _ a.part.now a.at g.row.N _ g.row.N (omega arith) (omega arith) (omega arith) (omega arith)
    c.put_block.ensures c.put_block-2.ensures
