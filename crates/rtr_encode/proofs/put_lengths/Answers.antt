-- `put_lengths` is four stores. Assumes nothing.
use mathlib.Core.Path.{ap, ◌∙◌}
use native.Mathlib.Omega.{arith}
use lib.ListN.{length-set}
use Rattle.rtr_base.specs.Over.{over}
use Rattle.rtr_base.proofs.Overs.{stored-4}
use Rattle.rtr_encode.proofs.Numbers.{bytes-of-8}
use Rattle.rtr_encode.proofs.put_lengths.Goals as goal

pub bounds-out-9 : goal.bounds-out-9
bounds-out-9 c = simp length-set (omega arith)

pub bounds-out-10 : goal.bounds-out-10
bounds-out-10 c = simp length-set (omega arith)

pub returns : goal.returns
returns c =
    let a = c.args in
    stored-4 _ 8 _ _ _ _ c.requires ∙ ap (over a.out.now 8) (bytes-of-8 a.flags a.prefix_length a.max_length (omega arith) (omega arith) (omega arith))
