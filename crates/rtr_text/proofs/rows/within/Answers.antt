-- `rtr_text::rows::within` meets its contract: what the byte is compared with is the range's test, and past the end no range fits. Assumes nothing.
use Prim.Native.Nat.{◌+◌}
use borrow.Author.Tests.{le-leb, lt-leb}
use lib.ListN.{get_or}
use Rattle.rtr_text.specs.Utf8.{◌to◌}
use Rattle.rtr_text.proofs.Begins.{range_at, range-past}
use Rattle.rtr_text.proofs.rows.within.Goals as goal

pub returns-then-text-at : goal.returns-then-text-at
returns-then-text-at c = let a = c.args in range-past (a.low to a.high) a.text.now (a.at + a.i) c.if-text-at.true

pub bounds-text-at : goal.bounds-text-at
bounds-text-at c = c.if-text-at.false

pub returns-then-low-b : goal.returns-then-low-b
returns-then-low-b c =
    let a = c.args in
    rw (range_at (a.low to a.high) a.text.now (a.at + a.i) c.if-text-at.false, le-leb a.low (get_or a.text.now (a.at + a.i) 0) c.if-low-b.true)

pub returns-else-low-b : goal.returns-else-low-b
returns-else-low-b c =
    let a = c.args in
    rw (range_at (a.low to a.high) a.text.now (a.at + a.i) c.if-text-at.false, lt-leb a.low (get_or a.text.now (a.at + a.i) 0) c.if-low-b.false)
