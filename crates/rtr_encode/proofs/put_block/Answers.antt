-- `put_block` loads a block and stores it. Assumes nothing.
use native.Mathlib.Omega.{arith}
use lib.ListN.{take}
use lib.Seq.{length-take-le}
use Rattle.rtr_encode.proofs.Blocks.{block-stored}
use Rattle.rtr_encode.proofs.put_block.Goals as goal

pub returns : goal.returns
returns g c =
    let a = c.args in
    block-stored a.out.now a.at (take g.row.N a.part.now) (omega (arith, length-take-le g.row.N a.part.now c.requires.0))
