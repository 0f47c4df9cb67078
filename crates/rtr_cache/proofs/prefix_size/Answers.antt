-- `prefix_size`: by the family. Assumes nothing.
use mathlib.Core.Path.{sym, ◌∙◌}
use native.Mathlib.Omega.{arith}
use Rattle.rtr_cache.specs.Private.{sided}
use Rattle.rtr_cache.proofs.NoPayload.{prefix-four-long, prefix-other-long}
use Rattle.rtr_cache.proofs.prefix_size.Goals as goal

pub returns-then-family-eq4 : goal.returns-then-family-eq4
returns-then-family-eq4 c = (λ version announced. sym (prefix-four-long version (sided announced c.args.r) (sym c.family.ensures ∙ c.if-family-eq4.true)), omega arith)

pub returns : goal.returns
returns c = (λ version announced. sym (prefix-other-long version (sided announced c.args.r) (λ e. c.if-family-eq4.false (c.family.ensures ∙ e))), omega arith)
