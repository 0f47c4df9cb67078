-- `as_record`: each family has its first number, and the length is a byte. Assumes nothing.
use native.Mathlib.Omega.{arith}
use Rattle.rtr_origin.proofs.Judging.{target-four, target-six}
use Rattle.rtr_origin.proofs.as_record.Goals as goal

pub returns-in-IPv4 : goal.returns-in-IPv4
returns-in-IPv4 c = (target-four c.args.q _ _ c.in-IPv4.is c.wide.ensures.0, omega arith)

pub returns-in-IPv6 : goal.returns-in-IPv6
returns-in-IPv6 c = (target-six c.args.q _ _ c.in-IPv6.is c.wide.ensures.0, omega arith)
