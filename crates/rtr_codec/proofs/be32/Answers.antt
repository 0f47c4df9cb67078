-- `be32` reads its four bytes as `number` does. Assumes nothing.
use native.Mathlib.Nat.{add-zero}
use native.Mathlib.Omega.{arith}
use Rattle.rtr_codec.specs.Bytes.{number}
use Rattle.rtr_codec.proofs.be32.Goals as goal

pub returns : goal.returns
unfolding number
returns c = simp (add-zero) (omega arith)
