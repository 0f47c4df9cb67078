-- `put_long` copies block by block: at the head of each turn the part's first i bytes are in. The last block is the part's last 32 bytes,
-- over what was stored. Assumes nothing.
use Rattle.std.proofs.Common.{◌≡◌, ◌≤◌, length, take}
use Rattle.rtr_base.specs.Over.{over}
use Rattle.rtr_encode.proofs.put_long.Given as goal

abbrev pub invariant-loop-i : goal.invariant-loop-i
invariant-loop-i l = record { stored : l.out ≡ over l.initial.out l.at (take l.i l.part); within : l.i ≤ length l.part }
