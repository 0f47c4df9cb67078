-- `put_part` copies: at the loop's head the part's first i bytes stand in the hold behind what is held. Assumes nothing.
use Rattle.std.proofs.Common.{◌≡◌, ◌+◌, ◌++◌, take}
use Rattle.rtr_stream.proofs.put_part.Given as goal

abbrev pub invariant-loop-i : goal.invariant-loop-i
invariant-loop-i l = take (l.held + l.i) l.hold ≡ take l.held l.initial.hold ++ take l.i l.part
