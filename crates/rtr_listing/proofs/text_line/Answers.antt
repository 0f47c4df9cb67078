-- `text_line` refuses by 9 where the output is shorter than the line, else it writes it at the front. Assumes nothing.
use native.Mathlib.Omega.{arith}
use Rattle.rtr_listing.specs.Listing.{line_of}
use Rattle.rtr_listing.proofs.Calls.{too_short, wrote}
use Rattle.rtr_listing.proofs.Lines.{line-length}
use Rattle.rtr_listing.proofs.Puts.{put_then}
use Rattle.rtr_listing.proofs.text_line.Goals as goal

pub returns-then-out-needed : goal.returns-then-out-needed
returns-then-out-needed c =
    let a = c.args in
    let bytes = line_of a.name.now a.value.now in
    rw c.short.ensures (too_short bytes a.out.now _ (line-length a.name.now a.value.now) c.if-out-needed.true)

pub returns : goal.returns
unfolding line_of
returns c =
    let a = c.args in
    let bytes = line_of a.name.now a.value.now in
    wrote bytes a.out.now _ _ _ (line-length a.name.now a.value.now) (omega arith)
    (put_then (omega arith) (put_then (omega arith) c.put_text-from.ensures c.put_text-end.ensures) c.put_text.ensures)
