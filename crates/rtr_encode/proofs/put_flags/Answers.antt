-- `put_flags` is two stores. Assumes nothing.
use mathlib.Core.Path.{ap, ◌∙◌}
use native.Mathlib.Omega.{arith}
use Rattle.rtr_base.specs.Over.{over}
use Rattle.rtr_base.proofs.Overs.{stored-2}
use Rattle.rtr_encode.proofs.Payloads.{flags-and-zero}
use Rattle.rtr_encode.proofs.put_flags.Goals as goal

pub returns : goal.returns
returns c =
    let a = c.args in
    stored-2 _ 8 _ _ c.requires ∙ ap (over a.out.now 8) (flags-and-zero a.flags (omega arith))
