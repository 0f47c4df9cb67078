-- `stopped_as`: the number of the stop, and 0 in the other phases. Assumes nothing.
use mathlib.Core.Path.{sym}
use Rattle.rtr_listing.proofs.Calls.{not_stopped}
use borrow.Enum.Refused.{opened}
use Rattle.rtr_listing.proofs.stopped_as.Goals as goal

pub returns-in_default : goal.returns-in_default
returns-in_default c = sym (not_stopped c.args.phase (opened c.in_default.in_default-own.keys2))
