-- A loop that copies s into d from `at` on: at its head the first j are in (`paste` of lib.Seq), and one store more puts the next in.
-- Assumes nothing.
use Prim.Native.Nat.{ℕ, ◌+◌, ◌<◌}
use mathlib.Core.List.{List}
use mathlib.Core.Path.{◌≡◌, sym, ap, ◌∙◌}
use native.Mathlib.Numerals.{add-one}
use lib.ListN.{length, set, get_or}
use lib.Seq.{paste, paste-suc}

pub copied-one-more : (d : List ℕ) (at : ℕ) (s : List ℕ) (j : ℕ) (cur : List ℕ) → cur ≡ paste d at s j → at + j < length d → j < length s
    → set cur (at + j) (get_or s j 0) ≡ paste d at s (j + 1)
copied-one-more d at s j cur e p q = ap (λ (x : List ℕ). set x (at + j) (get_or s j 0)) e ∙ paste-suc d at s j 0 p q ∙ ap (paste d at s) (sym (add-one j))
