-- `put16` stores the number's bytes, the highest first. Assumes nothing.
use Prim.Native.Nat.{ℕ}
use mathlib.Core.List.{List}
use lib.ListN.{take}
use mathlib.Core.Path.{ap, ◌∙◌}
use Rattle.rtr_base.specs.Over.{over}
use Rattle.rtr_encode.proofs.Numbers.{bytes-of-16}
use Rattle.rtr_encode.proofs.put16.Goals as goal

pub returns : goal.returns
returns c =
    let a = c.args in
    c.put_block.ensures ∙ ap (λ (b : List ℕ). over a.out.now a.at (take 2 b)) c.to_be_bytes.ensures ∙ ap (over a.out.now a.at) (bytes-of-16 a.n)
