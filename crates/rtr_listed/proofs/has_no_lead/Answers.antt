-- `has_no_lead`: by how many digits there are. Assumes nothing.
use mathlib.Core.Path.{sym}
use native.Mathlib.Omega.{arith}
use Rattle.rtr_listed.proofs.Numbers.{lead-none, lead-one, lead-more}
use Rattle.rtr_listed.proofs.has_no_lead.Goals as goal

pub returns-then-value-eq0 : goal.returns-then-value-eq0
returns-then-value-eq0 c = sym (lead-none c.args.value.now (omega arith))

pub returns-then-value-eq1 : goal.returns-then-value-eq1
returns-then-value-eq1 c = sym (lead-one c.args.value.now (omega arith))

pub returns : goal.returns
returns c = sym (lead-more c.args.value.now (omega arith))
