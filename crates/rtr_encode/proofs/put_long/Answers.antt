use Prim.Native.Nat.{◌+◌}
use mathlib.Core.Path.{sym, ◌∙◌}
use native.Mathlib.Omega.{arith}
use Rattle.rtr_base.proofs.Overs.{over_nothing}
use Rattle.rtr_encode.proofs.Blocks.{more, ends}
use Rattle.rtr_encode.proofs.put_long.Goals.{else-loop-i-test, then-loop-i-test+else-last-i-gt16}
use Rattle.rtr_encode.proofs.put_long.Goals as goal

pub loop-i-init : goal.loop-i-init
loop-i-init c = record { stored = sym (over_nothing c.args.out.now c.args.at); within = omega arith }

pub loop-i-preserved : goal.loop-i-preserved
loop-i-preserved c =
    let a = c.args in
    record {
      stored = more a.out.now c.loop-i.out _ a.part.now a.at c.loop-i.i 16 (omega arith) (omega arith) c.loop-i.invariant.stored c.put_block.ensures;
      within = omega arith;
    }

pub returns : goal.returns
returns c =
    let a = c.args in
    elim c.loop-i-test.branch [
      | else-loop-i-test w ↦
          ends a.out.now c.loop-i-test.out _ a.part.now a.at c.loop-i.i _ 32 (omega arith) (omega arith) (omega arith) (omega arith)
          (w.out-is ∙ c.loop-i.invariant.stored) c.put_block-2.ensures
      | then-loop-i-test+else-last-i-gt16 w ↦
          ends a.out.now c.loop-i-test.out _ a.part.now a.at (c.loop-i.i + 16) _ 32 (omega arith) (omega arith) (omega arith) (omega arith)
          (w.out-is ∙ more a.out.now c.loop-i.out _ a.part.now a.at c.loop-i.i 16 (omega arith) (omega arith) c.loop-i.invariant.stored w.put_block.ensures) c.put_block-2.ensures
    ]
