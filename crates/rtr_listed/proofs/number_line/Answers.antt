-- `number_line`: the value where it stands, read as a number. Assumes nothing.
use Prim.Native.Nat.{ℕ}
use mathlib.Core.List.{List}
use mathlib.Core.Path.{sym, subst}
use borrow.Author.Tests.{leb-true}
use lib.Dec.{leb}
use Rattle.rtr_listed.specs.Listed.{Fit, named, number_in}
use Rattle.rtr_listed.specs.Private.{NumberTook}
use Rattle.rtr_listed.proofs.Numbers.{number_fits}
use Rattle.rtr_listed.proofs.Cursors.{number-took}
use Rattle.rtr_listed.proofs.number_line.Goals as goal

pub returns-in-Some : goal.returns-in-Some
returns-in-Some c =
    let a = c.args in
    let reads : List ℕ → Fit ℕ = number_in (λ n. leb n a.most) in
    subst (NumberTook (named a.name.now reads) a.listing.now a.c a.most) (sym c.took.ensures)
    (number-took reads a.listing.now a.c a.name.now a.most c.in-Some.span.from c.in-Some.span.end c.number_in.result c.in-Some.ensures c.number_in.ensures (λ n e. leb-true n a.most (number_fits (λ k. leb k a.most) _ n e).1) c.requires.0)
