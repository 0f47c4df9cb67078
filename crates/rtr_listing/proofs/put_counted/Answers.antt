-- `put_counted`: the name, the digits and the line feed, one behind the other. Assumes nothing.
use native.Mathlib.Omega.{arith}
use Rattle.rtr_listing.specs.Listing.{digits, line_of}
use Rattle.rtr_listing.proofs.Puts.{put_then}
use Rattle.rtr_listing.proofs.Digits.{digits-length}
use Rattle.rtr_listing.proofs.Lines.{line-length}
use Rattle.rtr_listing.proofs.put_counted.Goals as goal

pub put_text-value-requires : goal.put_text-value-requires
put_text-value-requires c =
    let a = c.args in
    omega (arith, line-length a.name.now (digits 10 a.k a.n), digits-length 10 a.k a.n)

pub put_digits-end-requires : goal.put_digits-end-requires
put_digits-end-requires c =
    let a = c.args in
    omega (arith, line-length a.name.now (digits 10 a.k a.n), digits-length 10 a.k a.n)

pub put_text-requires : goal.put_text-requires
put_text-requires c =
    let a = c.args in
    omega (arith, line-length a.name.now (digits 10 a.k a.n), digits-length 10 a.k a.n)

pub returns : goal.returns
unfolding line_of
returns c =
    let inside = c.requires in
    put_then (omega arith) (put_then (omega arith) c.put_text-value.ensures c.put_digits-end.ensures) c.put_text.ensures
