-- `rtr_text::run::row_1_run` meets its contract. The loop's invariant: what was passed are ASCII bytes (`Passed`). It goes on over two words that are 0 (`over-words`), and behind the loop over
-- a word's first bytes (`over-front`), over what is left of the text (`over-rest`), or no further. The measure is what is left of the length. Assumes nothing.
use Prim.Native.Nat.{ℕ, ◌-◌, ◌≤◌}
use mathlib.Core.List.{List}
use lib.ListN.{length}
use Rattle.rtr_text.proofs.Words.{Ascii}
use Rattle.rtr_text.proofs.run.row_1_run.Given as goal

-- the bytes from `at` up to `end` are in the text and ASCII
abbrev pub Passed : List ℕ → ℕ → ℕ → Type 0
Passed text at end = (at ≤ end) × (end ≤ length text) × Ascii text at end

abbrev pub invariant-loop-end : goal.invariant-loop-end
invariant-loop-end l = Passed l.text l.at l.end

abbrev pub decreases-loop-end : goal.decreases-loop-end
decreases-loop-end l = length l.text - l.end
