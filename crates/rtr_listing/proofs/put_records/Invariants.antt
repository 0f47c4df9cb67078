-- `put_records`: at the loop's head the lines of the first i records are written, and `next` is behind them. Each is in the room, so the way out in
-- the middle is never taken. Assumes nothing.
use Rattle.rtr_room.specs.Room.{records}
use Rattle.rtr_listing.specs.Listing.{all_lines}
use Rattle.rtr_listing.specs.Private.{Put}
use Rattle.rtr_listing.proofs.put_records.Given as goal

abbrev pub invariant-loop-i : goal.invariant-loop-i
invariant-loop-i l = Put l.initial.out l.at (all_lines (records l.i l.live)) l.next l.out
