-- `count_line`: the value where it stands, read as a count. Assumes nothing.
use Prim.Native.Nat.{ℕ}
use mathlib.Core.List.{List}
use mathlib.Core.Path.{sym, subst}
use Rattle.rtr_listing.specs.Listing.{text}
use Rattle.rtr_listed.specs.Listed.{Fit, named, count_widths, count_in}
use Rattle.rtr_listed.specs.Private.{NumberTook}
use Rattle.rtr_listed.proofs.Numbers.{count_fits}
use Rattle.rtr_listed.proofs.Cursors.{number-took}
use Rattle.rtr_listed.proofs.count_line.Goals as goal

pub returns-in-Some : goal.returns-in-Some
returns-in-Some c =
    let a = c.args in
    let reads : List ℕ → Fit ℕ = count_in count_widths a.limit in
    subst (NumberTook (named (text "count=") reads) a.listing.now a.c a.limit) (sym c.took.ensures)
    (number-took reads a.listing.now a.c (text "count=") a.limit c.in-Some.span.from c.in-Some.span.end c.count_in.result c.in-Some.ensures c.count_in.ensures (λ n e. (count_fits a.limit _ n e).2) c.requires.0)
