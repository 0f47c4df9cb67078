-- `leading_alike`: what `leading-is` says, of two words of 32 bits. Assumes nothing.
use native.Mathlib.Omega.{arith}
use Rattle.rtr_origin.proofs.Bits.{leading-is}
use Rattle.rtr_origin.proofs.leading_alike.Goals as goal

pub returns : goal.returns
returns c = leading-is c.args.x c.args.y (omega arith) (omega arith)
