-- `is_too_long`: each family has its limit. Assumes nothing.
use mathlib.Core.Path.{ap}
use Rattle.rtr_origin.specs.Origin.{longest_in}
use Rattle.rtr_origin.proofs.Answers.{over}
use Rattle.rtr_origin.proofs.is_too_long.Goals as goal

pub returns-in-IPv4 : goal.returns-in-IPv4
returns-in-IPv4 c = over 32 c.args.q (ap longest_in c.in-IPv4.is)

pub returns-in-IPv6 : goal.returns-in-IPv6
returns-in-IPv6 c = over 128 c.args.q (ap longest_in c.in-IPv6.is)
