-- `put_few` copies: at the loop's head the output is as it was with the part's first i bytes in it from `at` on. Assumes nothing.
use Rattle.std.proofs.Common.{◌≡◌}
use lib.Seq.{paste}
use Rattle.rtr_encode.proofs.put_few.Given as goal

abbrev pub invariant-loop-i : goal.invariant-loop-i
invariant-loop-i l = l.out ≡ paste l.initial.out l.at l.part l.i
