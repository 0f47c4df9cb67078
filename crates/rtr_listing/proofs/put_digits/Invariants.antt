-- `put_digits` writes the last digit first: at the loop's head i digits of `rest` are still to be written, and with them the output is the one
-- that is promised. Assumes nothing.
use mathlib.Core.Path.{◌≡◌}
use Rattle.rtr_base.specs.Over.{over}
use Rattle.rtr_listing.specs.Listing.{digits}
use Rattle.rtr_listing.proofs.put_digits.Given as goal

abbrev pub invariant-loop-i : goal.invariant-loop-i
invariant-loop-i l = over l.out l.at (digits l.base l.i l.rest) ≡ over l.initial.out l.at (digits l.base l.k l.n)
