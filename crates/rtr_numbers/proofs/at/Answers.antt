-- `at` gives the number there, or 0 behind the end. Assumes nothing.
use mathlib.Core.Path.{sym}
use lib.ListN.{get_or-eq_default}
use Rattle.rtr_numbers.proofs.at.Goals as goal

pub returns : goal.returns
returns c = sym (get_or-eq_default c.args.numbers.now 0 c.if-i-numbers.false)
