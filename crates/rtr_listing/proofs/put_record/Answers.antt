-- `put_record`: the five lines, one behind the other. Assumes nothing.
use native.Mathlib.Omega.{arith}
use Rattle.rtr_listing.specs.Listing.{text, record_lines}
use Rattle.rtr_listing.proofs.Puts.{put_then}
use Rattle.rtr_listing.proofs.Lines.{same_number, record-length}
use Rattle.rtr_listing.proofs.put_record.Goals as goal

pub put_number-address-requires : goal.put_number-address-requires
put_number-address-requires c = omega (arith, record-length c.args.r, same_number (text "family=") _ _ c.family.ensures)

pub put_address_line-length-requires : goal.put_address_line-length-requires
put_address_line-length-requires c = omega (arith, record-length c.args.r, same_number (text "family=") _ _ c.family.ensures)

pub put_number-max-requires : goal.put_number-max-requires
put_number-max-requires c = omega (arith, record-length c.args.r, same_number (text "family=") _ _ c.family.ensures, same_number (text "length=") _ _ c.prefix_length.ensures)

pub put_number-asn-requires : goal.put_number-asn-requires
put_number-asn-requires c = omega (arith, record-length c.args.r, same_number (text "family=") _ _ c.family.ensures, same_number (text "length=") _ _ c.prefix_length.ensures, same_number (text "max=") _ _ c.max_length.ensures)

pub put_number-requires : goal.put_number-requires
put_number-requires c = omega (arith, record-length c.args.r, same_number (text "family=") _ _ c.family.ensures, same_number (text "length=") _ _ c.prefix_length.ensures, same_number (text "max=") _ _ c.max_length.ensures)

pub returns : goal.returns
unfolding record_lines
returns c =
    let inside = c.requires in
    let family = rw c.family.ensures at c.put_number-address.ensures in
    let length = rw c.prefix_length.ensures at c.put_number-max.ensures in
    let max = rw c.max_length.ensures at c.put_number-asn.ensures in
    put_then (omega arith)
    (put_then (omega arith) (put_then (omega arith) (put_then (omega arith) family c.put_address_line-length.ensures) length) max)
    c.put_number.ensures
