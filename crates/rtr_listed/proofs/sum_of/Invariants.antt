-- `sum_of`: at the loop's head the bytes before the next one are digits and `sum` is their number. Assumes nothing.
use Prim.Native.Nat.{◌^◌, ◌<◌}
use Rattle.rtr_listed.proofs.Values.{SumSo}
use Rattle.rtr_listed.proofs.sum_of.Given as goal

abbrev pub invariant-loop-c : goal.invariant-loop-c
invariant-loop-c l = (l.sum < 10 ^ l.c-index) × SumSo l.value l.c-index l.sum
