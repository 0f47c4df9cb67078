-- `put32` stores the number's bytes, the highest first. Assumes nothing.
use Prim.Native.Nat.{ℕ}
use mathlib.Core.List.{List}
use lib.ListN.{take}
use mathlib.Core.Path.{ap, ◌∙◌}
use Rattle.rtr_base.specs.Over.{over}
use Rattle.rtr_encode.proofs.Numbers.{bytes-of-32}
use Rattle.rtr_encode.proofs.put32.Goals as goal

pub returns : goal.returns
returns c =
    let a = c.args in
    c.put_block.ensures ∙ ap (λ (b : List ℕ). over a.out.now a.at (take 4 b)) c.to_be_bytes.ensures ∙ ap (over a.out.now a.at) (bytes-of-32 a.n)
