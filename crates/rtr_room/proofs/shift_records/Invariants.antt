-- `shift_records`: at the loop's head the records from i to the end stand so many further. Assumes nothing.
use Rattle.std.proofs.Common.{◌≡◌, ◌≤◌}
use Rattle.rtr_room.proofs.Merges.{moved}
use Rattle.rtr_room.proofs.shift_records.Given as goal

abbrev pub invariant-loop-i : goal.invariant-loop-i
invariant-loop-i l = (l.room ≡ moved l.initial.room l.i l.end l.by) × (l.from ≤ l.i)
