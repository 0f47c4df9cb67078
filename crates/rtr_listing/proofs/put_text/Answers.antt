use mathlib.Core.Path.{refl}
use native.Mathlib.Omega.{arith}
use lib.Seq.{paste-zero}
use Rattle.rtr_base.proofs.Copies.{copied-one-more}
use Rattle.rtr_base.proofs.Overs.{copied-whole}
use Rattle.rtr_listing.proofs.put_text.Goals as goal

pub loop-i-init : goal.loop-i-init
loop-i-init c = paste-zero c.args.out.now c.args.at c.args.text.now

pub loop-i-preserved : goal.loop-i-preserved
loop-i-preserved c =
    let a = c.args in
    let l = c.loop-i in
    copied-one-more a.out.now a.at a.text.now l.i l.out l.invariant (omega arith) (omega arith)

pub returns : goal.returns
returns c =
    let a = c.args in
    let l = c.loop-i in
    record {
      place = refl;
      content = copied-whole a.out.now a.at a.text.now l.i l.out l.invariant (omega arith);
    }
