-- `address_line`: the value where it stands, read as an address. Assumes nothing.
use mathlib.Core.Path.{◌≡◌, sym, ap, ◌∙◌, subst}
use Rattle.rtr_listing.specs.Listing.{text}
use Rattle.rtr_listed.specs.Listed.{named, address_in}
use Rattle.rtr_listed.specs.Listed.Fit.{fits}
use Rattle.rtr_listed.specs.Private.{address_said, Took, Near, between, ValueAt}
use Rattle.rtr_listed.specs.declared.Cursor.{Cursor}
use Rattle.rtr_listed.proofs.Cursors.{past_near, value-took}
use Rattle.rtr_listed.proofs.address_line.Goals as goal

pub returns : goal.returns
returns c =
    let a = c.args in
    let span = c.in-Some.span in
    let there : ValueAt a.listing.now a.c (text "address=") span.from span.end = c.in-Some.ensures in
    let read : address_in a.family (between a.listing.now span.from span.end) ≡ fits c.in-Some-address_in.words = sym c.address_in.ensures ∙ ap address_said c.in-Some-address_in.is in
    subst (λ (next : Cursor). Took (named (text "address=") (address_in a.family)) a.listing.now a.c c.in-Some-address_in.words next × Near a.listing.now 1 a.c next) (sym c.past.ensures)
    (value-took (address_in a.family) a.listing.now a.c (text "address=") span.from span.end c.in-Some-address_in.words there read, past_near a.listing.now a.c span.end there.inside)
