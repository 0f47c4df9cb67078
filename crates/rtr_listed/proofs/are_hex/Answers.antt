use mathlib.Core.Path.{◌∙◌}
use borrow.Author.Tests.{tests}
use Rattle.std.proofs.Common.{rules}
use Rattle.std.proofs.lemmas.Iterator.{YieldsList-from_slice}
use Rattle.std.proofs.lemmas.Iterator.Search.{all_from_yields_List}
use Rattle.rtr_listing.specs.Digits.{is_hex}
use Rattle.rtr_listed.proofs.Values.{hex-all}
use Rattle.rtr_listed.proofs.are_hex.Goals as goal

pub returns : goal.returns
returns c =
    all_from_yields_List is_hex _ _ c.all.result c.all.ensures.ran (YieldsList-from_slice c.args.value.now cc) (λ x b q k. search (rules, tests))
    ∙ hex-all c.args.value.now
