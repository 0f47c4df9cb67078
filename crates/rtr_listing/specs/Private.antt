-- What the functions inside this crate ask and leave.
use Rattle.std.specs.Prelude.{ℕ, ◌+◌, ◌≤◌, List, ◌≡◌, length}
use Rattle.rtr_base.specs.Over.{over}

-- from a place on there is room for these bytes
abbrev pub Fits : List ℕ → ℕ → List ℕ → Type 0
Fits out at bytes = at + length bytes ≤ length out

-- these bytes stand in an output from a place on, and the next place is behind them
pub record Put (out : List ℕ) (at : ℕ) (bytes : List ℕ) (next : ℕ) (left : List ℕ) : Type 0 where
  pub place : next ≡ at + length bytes
  pub content : left ≡ over out at bytes
