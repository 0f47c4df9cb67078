-- `put_numbers` compares the lengths, then copies: at the loop's head the first i numbers are in. Assumes nothing.
use Rattle.std.proofs.Common.{◌≡◌, ◌++◌, take, drop}
use Rattle.rtr_numbers.proofs.put_numbers.Given as goal

abbrev pub invariant-loop-i : goal.invariant-loop-i
invariant-loop-i l = l.numbers ≡ take l.i l.said ++ drop l.i l.initial.numbers
