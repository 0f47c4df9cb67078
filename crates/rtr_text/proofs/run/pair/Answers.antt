-- `rtr_text::run::pair` meets its contract: the second byte is put on top of the first (`on-top`). Assumes nothing.
use native.Mathlib.Omega.{arith}
use Rattle.rtr_text.proofs.Words.{on-top}
use Rattle.rtr_text.proofs.run.pair.Goals as goal

pub returns : goal.returns
returns c = let f = c.ranges in record { value = on-top 8 c.args.first c.args.second (omega arith) f.first.fits f.second.fits; first_bound = (f.first.fits, f.second.fits) }
