use native.Mathlib.Omega.{arith}
use Rattle.rtr_base.proofs.Copies.{copied-one-more}
use Rattle.rtr_base.proofs.Overs.{copied-whole}
use Rattle.rtr_encode.proofs.put_few.Goals as goal

pub loop-i-preserved : goal.loop-i-preserved
loop-i-preserved c = copied-one-more c.args.out.now c.args.at c.args.part.now c.loop-i.i c.loop-i.out c.loop-i.invariant (omega arith) (omega arith)

pub returns : goal.returns
returns c = copied-whole c.args.out.now c.args.at c.args.part.now c.loop-i.i c.loop-i.out c.loop-i.invariant (omega arith)
