-- `word_at`: at the loop's head `word` is the number of the digits before the next one. Assumes nothing.
use Prim.Native.Nat.{◌^◌, ◌<◌}
use mathlib.Core.Path.{◌≡◌}
use lib.ListN.{drop}
use Rattle.rtr_listing.specs.Digits.{hex_of}
use Rattle.rtr_listed.proofs.word_at.Given as goal

abbrev pub invariant-loop-c : goal.invariant-loop-c
invariant-loop-c l = (l.word < 16 ^ l.c-index) × (hex_of l.digits 0 ≡ hex_of (drop l.c-index l.digits) l.word)
