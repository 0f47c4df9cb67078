-- `put_table`: the six lines, one behind the other. Assumes nothing.
use native.Mathlib.Omega.{arith}
use Rattle.rtr_listing.specs.Listing.{field_lines, table_lines}
use Rattle.rtr_listing.proofs.Puts.{put_then}
use Rattle.rtr_listing.proofs.Lines.{table-length}
use Rattle.rtr_listing.proofs.put_table.Goals as goal

pub put_number-serial-requires : goal.put_number-serial-requires
put_number-serial-requires c =
    let a = c.args in
    omega (
      arith,
      table-length a.t a.count,
      c.requires,
    )

pub put_number-refresh-requires : goal.put_number-refresh-requires
put_number-refresh-requires c =
    let a = c.args in
    omega (
      arith,
      table-length a.t a.count,
      c.requires,
      c.put_number-serial.ensures.place,
    )

pub put_number-retry-requires : goal.put_number-retry-requires
put_number-retry-requires c =
    let a = c.args in
    omega (
      arith,
      table-length a.t a.count,
      c.requires,
      c.put_number-serial.ensures.place,
      c.put_number-refresh.ensures.place,
    )

pub put_number-expire-requires : goal.put_number-expire-requires
put_number-expire-requires c =
    let a = c.args in
    omega (
      arith,
      table-length a.t a.count,
      c.requires,
      c.put_number-serial.ensures.place,
      c.put_number-refresh.ensures.place,
      c.put_number-retry.ensures.place,
    )

pub put_number-last-requires : goal.put_number-last-requires
put_number-last-requires c =
    let a = c.args in
    omega (
      arith,
      table-length a.t a.count,
      c.requires,
      c.put_number-serial.ensures.place,
      c.put_number-refresh.ensures.place,
      c.put_number-retry.ensures.place,
      c.put_number-expire.ensures.place,
    )

pub put_counted-requires : goal.put_counted-requires
put_counted-requires c =
    let a = c.args in
    omega (
      arith,
      table-length a.t a.count,
      c.requires,
      c.put_number-serial.ensures.place,
      c.put_number-refresh.ensures.place,
      c.put_number-retry.ensures.place,
      c.put_number-expire.ensures.place,
      c.put_number-last.ensures.place,
    )

pub returns : goal.returns
unfolding field_lines table_lines
returns c =
    let inside = c.requires in
    put_then (omega (arith, inside))
    (put_then (omega (arith, inside))
    (put_then (omega (arith, inside))
    (put_then (omega (arith, inside))
    (put_then (omega (arith, inside)) c.put_number-serial.ensures c.put_number-refresh.ensures)
    c.put_number-retry.ensures)
    c.put_number-expire.ensures)
    c.put_number-last.ensures)
    c.put_counted.ensures
