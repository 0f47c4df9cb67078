-- A list with some of its elements replaced: what a store of several bytes leaves.
use Rattle.std.specs.Prelude.{ℕ, ◌+◌, List, ◌++◌, length, take, drop}

-- l, with `bytes` in place of as many elements from `at` on
unfoldable pub over : List ℕ → ℕ → List ℕ → List ℕ
over l at bytes = take at l ++ bytes ++ drop (at + length bytes) l
