-- `hingemoss_read_listing` tests the head's length, reads the listing, and writes the head's numbers or the line. Assumes nothing.
use borrow.Author.Tests.{ne_eqb}
use Rattle.rtr_c.specs.Calls.{read_listing_c}
use Rattle.rtr_c.proofs.Serving.{listing-read, listing-misread}
use Rattle.rtr_c.proofs.hingemoss_read_listing.Goals as goal

pub returns-then-head-ne-HEAD_NUMBERS : goal.returns-then-head-ne-HEAD_NUMBERS
unfolding read_listing_c
returns-then-head-ne-HEAD_NUMBERS c = simp (ne_eqb _ _ c.if-head-ne-HEAD_NUMBERS.true)

pub returns-in-Ok : goal.returns-in-Ok
returns-in-Ok c =
    let a = c.args in
    listing-read a.text.now a.room.now a.head.now c.if-head-ne-HEAD_NUMBERS.false c.read_listing.result _ c.read_listing.ensures
    _ _ _ c.in-Ok.is c.head_numbers-numbers.ensures c.put_numbers.ensures.1

pub returns-in-Err : goal.returns-in-Err
returns-in-Err c =
    let a = c.args in
    listing-misread a.text.now a.room.now a.head.now c.if-head-ne-HEAD_NUMBERS.false c.read_listing.result _ c.read_listing.ensures
    _ _ _ c.in-Err.is c.number.ensures c.line_number.ensures
