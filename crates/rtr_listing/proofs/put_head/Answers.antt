-- `put_head`: the stop's line, and behind it the table's lines or that there is none. Assumes nothing.
use Rattle.std.specs.Prelude.{Option}
use mathlib.Core.Path.{ap}
use native.Mathlib.Omega.{arith}
use lib.ListN.{length}
use Rattle.rtr_listing.specs.Listing.{table_lines, head_lines}
use Rattle.rtr_listing.proofs.Puts.{put_then}
use Rattle.rtr_listing.proofs.Lines.{no-table-lines, head-length}
use Rattle.rtr_listing.proofs.put_head.Goals as goal
use Rattle.rtr_receiver.specs.declared.Table.{Table}

pub put_number-next-requires : goal.put_number-next-requires
put_number-next-requires c = omega (arith, head-length c.args.head)

pub put_text-requires : goal.put_text-requires
put_text-requires c =
    let h = c.args.head in
    omega (arith, head-length h, ap length (no-table-lines h.table h.count c.in-None.is))

pub put_table-requires : goal.put_table-requires
put_table-requires c =
    let h = c.args.head in
    omega (arith, head-length h, ap (λ (t : Option Table). length (table_lines t h.count)) c.in-Some.is)

pub returns-in-None : goal.returns-in-None
unfolding head_lines
returns-in-None c =
    let h = c.args.head in
    let inside = c.requires in
    rw (no-table-lines h.table h.count c.in-None.is)
    (put_then (omega arith) c.put_number-next.ensures c.put_text.ensures)

pub returns-in-Some : goal.returns-in-Some
unfolding head_lines
returns-in-Some c =
    let inside = c.requires in
    rw c.in-Some.is
    (put_then (omega arith) c.put_number-next.ensures c.put_table.ensures)
