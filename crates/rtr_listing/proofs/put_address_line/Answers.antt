-- `put_address_line`: the name, the address and the line feed, one behind the other. Assumes nothing.
use native.Mathlib.Omega.{arith}
use Rattle.rtr_listing.specs.Listing.{address_of, line_of}
use Rattle.rtr_listing.proofs.Puts.{put_then}
use Rattle.rtr_listing.proofs.Lines.{line-length}
use Rattle.rtr_listing.proofs.put_address_line.Goals as goal

pub put_text-value-requires : goal.put_text-value-requires
put_text-value-requires c =
    let a = c.args in
    omega (arith, line-length a.name.now (address_of a.r))

pub put_address-end-requires : goal.put_address-end-requires
put_address-end-requires c =
    let a = c.args in
    omega (arith, line-length a.name.now (address_of a.r))

pub put_text-requires : goal.put_text-requires
put_text-requires c =
    let a = c.args in
    omega (arith, line-length a.name.now (address_of a.r))

pub returns : goal.returns
unfolding line_of
returns c =
    let inside = c.requires in
    put_then (omega arith) (put_then (omega arith) c.put_text-value.ensures c.put_address-end.ensures) c.put_text.ensures
