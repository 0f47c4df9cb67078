-- `record_lines` refuses by 9 where the output is shorter than the lines, else it writes them at the front. Assumes nothing.
use mathlib.Core.Path.{sym}
use Rattle.rtr_listing.specs.Listing.{record_lines}
use Rattle.rtr_listing.proofs.Calls.{too_short, wrote}
use Rattle.rtr_listing.proofs.record_lines.Goals as goal

pub returns-then-out-needed : goal.returns-then-out-needed
returns-then-out-needed c =
    let a = c.args in
    rw c.short.ensures (too_short (record_lines a.r) a.out.now _ (sym c.record_length-needed.ensures.0) c.if-out-needed.true)

pub returns : goal.returns
returns c =
    let a = c.args in
    wrote (record_lines a.r) a.out.now _ _ _ (sym c.record_length-needed.ensures.0) c.if-out-needed.false c.put_record.ensures
