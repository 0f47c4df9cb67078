-- How far a text is well formed, said by the rows of Table 3-7 (Utf8) alone: without a count, an order of the rows, or a first row that fits.
-- `decides-by-rows` (proofs/Decides.antt) proves that this is `well_formed_up_to`, and `call-decides-by-rows` that it is what the call answers. Document 02, Three.
use Rattle.std.specs.Prelude.{ℕ, ◌+◌, ◌≤◌, ◌<◌, ◌≡◌, true, false, length, take, drop}
use mathlib.Core.List.{List, Memᴰ}
use Rattle.rtr_text.specs.Utf8.{Range, rows, begins, Characters}

-- a test of a text that stops at `n` has decided by the rows: what stands before `n` is characters, each by some row, and no row fits what is left
pub record DecidedByRows (text : List ℕ) (n : ℕ) : Type 0 where
  pub inside : n ≤ length text
  pub passed : Characters (take n text)
  pub stopped : (row : List Range) → Memᴰ row rows → begins row (drop n text) ≡ false

-- byte `i` of a text lies in a character: some row fits at `start`, and byte `i` is one of that row's bytes
pub record InCharacter (text : List ℕ) (i : ℕ) : Type 0 where
  pub row : List Range
  pub one_of : Memᴰ row rows
  pub start : ℕ
  pub fits : begins row (drop start text) ≡ true
  pub from : start ≤ i
  pub before : i < start + length row
