-- What `well_formed_up_to` and `well_formed` mean. Assumes nothing.
use Prim.Native.Nat.{ℕ, ◌+◌, ◌≤◌}
use mathlib.Core.Path.{◌≡◌, refl, ap, subst}
use mathlib.Core.Logic.{◌↔◌}
use mathlib.Core.Bool.{true}
use mathlib.Core.List.{List, [], ◌++◌, append-nil}
use native.Mathlib.Omega.{arith}
use borrow.Author.Tests.{eqb-true, eq-eqb}
use lib.ListN.{length}
use lib.Seq.{take_all}
use Rattle.rtr_text.specs.Utf8.{characters, well_formed_up_to, well_formed, Characters}
use Rattle.rtr_text.proofs.Sequences.{passed-is-characters, sequence-passed}
use Rattle.rtr_text.proofs.Steps.{characters-at-most}

-- a text is well formed up to a place within it
pub up-to-at-most : (text : List ℕ) → well_formed_up_to text ≤ length text
unfolding well_formed_up_to
up-to-at-most text = characters-at-most (length text) text

-- the empty text is well formed
pub empty-is-well-formed : well_formed [] ≡ true
unfolding well_formed well_formed_up_to characters
empty-is-well-formed = refl

-- a text is well formed exactly if it is so up to its end
pub well-formed-up-to-all : (text : List ℕ) → (well_formed text ≡ true) ↔ (well_formed_up_to text ≡ length text)
unfolding well_formed
well-formed-up-to-all text = (eqb-true (well_formed_up_to text) (length text), eq-eqb (well_formed_up_to text) (length text))

-- a text is well formed up to its end exactly if it is a sequence of characters
pub well-formed-is-characters : (text : List ℕ) → (well_formed_up_to text ≡ length text) ↔ Characters text
well-formed-is-characters text = (
  λ e. subst Characters (take_all (well_formed_up_to text) text (omega arith)) (unfold well_formed_up_to in passed-is-characters (length text) text),
  λ c. let w : well_formed_up_to (text ++ []) ≡ length text + well_formed_up_to [] = sequence-passed [] c in omega (arith, ap well_formed_up_to (append-nil text), up-to-at-most []),
)
