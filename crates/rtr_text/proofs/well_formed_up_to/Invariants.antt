-- `rtr_text::well_formed_up_to` meets its contract. The loop's invariant: the text is well formed up to `at` and as much further as what is left of it is
-- (`Reached`). A run of row 1 takes `at` over itself (`run`), and so does a character (`further`); where there is none, nothing of what is left is well formed.
-- The measure is what is left of the length. Assumes nothing.
use Prim.Native.Nat.{ℕ, ◌+◌, ◌-◌, ◌≤◌}
use mathlib.Core.Path.{◌≡◌}
use mathlib.Core.List.{List}
use lib.ListN.{length, drop}
use Rattle.rtr_text.specs.Utf8.{well_formed_up_to}
use Rattle.rtr_text.proofs.well_formed_up_to.Given as goal

abbrev pub Reached : List ℕ → ℕ → Type 0
Reached text at = (at ≤ length text) × (well_formed_up_to text ≡ at + well_formed_up_to (drop at text))

abbrev pub invariant-loop-at : goal.invariant-loop-at
invariant-loop-at l = Reached l.text l.at

abbrev pub decreases-loop-at : goal.decreases-loop-at
decreases-loop-at l = length l.text - l.at
