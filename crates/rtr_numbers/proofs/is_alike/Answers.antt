-- `is_alike` is `==`. Assumes nothing.
use Rattle.std.proofs.Common.{rules}
use Rattle.rtr_numbers.proofs.Lists.{alike-pointwise}
use Rattle.rtr_numbers.proofs.is_alike.Goals as goal

pub returns : goal.returns
returns c = search (rules, alike-pointwise)
