-- `family_line`: a number's line, and one test more. Assumes nothing.
use mathlib.Core.Bool.{◌||◌}
use mathlib.Core.Path.{sym, ap, ◌∙◌, subst}
use lib.Dec.{eqb}
use Rattle.rtr_listing.specs.Listing.{text}
use Rattle.rtr_listed.specs.Listed.{named, number_in}
use Rattle.rtr_listed.specs.Private.{NumberTook, narrowed}
use Rattle.rtr_listed.proofs.Cursors.{narrow-took}
use Rattle.rtr_listed.proofs.Numbers.{family-low}
use Rattle.rtr_listed.proofs.family_line.Goals as goal

pub returns : goal.returns
returns c =
    let a = c.args in
    let read = c.number_line-read in
    let took = narrow-took a.listing.now a.c (text "family=") 6 (λ n. eqb n 4 || eqb n 6)
    family-low
    read.result c.requires.0 read.ensures in
    subst (NumberTook (named (text "family=") (number_in (λ n. eqb n 4 || eqb n 6))) a.listing.now a.c 6) (sym (c.narrow.ensures ∙ ap (narrowed a.c read.result) c.is_family.ensures)) took
