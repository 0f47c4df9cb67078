-- `behind`: by what the answer is. Assumes nothing.
use mathlib.Core.Path.{sym, ap}
use native.Mathlib.Omega.{arith}
use Rattle.rtr_cache.specs.Private.{behind_of}
use Rattle.rtr_cache.proofs.behind.Goals as goal

pub overflow_add-result : goal.overflow_add-result
overflow_add-result c = omega (arith, ap (behind_of c.args.at) c.in-Ok.is, c.requires)

pub returns-in-Ok : goal.returns-in-Ok
returns-in-Ok c = sym (ap (behind_of c.args.at) c.in-Ok.is)
