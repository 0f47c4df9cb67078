-- `be16` reads its two bytes as `number` does. Assumes nothing.
use native.Mathlib.Nat.{add-zero}
use native.Mathlib.Omega.{arith}
use Rattle.rtr_codec.specs.Bytes.{number}
use Rattle.rtr_codec.proofs.be16.Goals as goal

pub returns : goal.returns
unfolding number
returns c = simp (add-zero) (omega arith)
