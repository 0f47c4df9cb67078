-- What the program reads into and what it hands over to be written. No contract can say what was read and what was written.
use Rattle.std.specs.Prelude.{ℕ, ◌+◌, ◌*◌, ◌≤◌, List, ◌≡◌, length, take}
use Rattle.rtr_receiver.specs.Promises.{record_limit}

-- n bytes stand at the front of this
abbrev pub IsPrefixLen : ℕ → List ℕ → Type 0
IsPrefixLen n xs = (n ≤ length xs) × (n ≡ length (take n xs))

-- the first n bytes are this text
pub record Shows (text : List ℕ) (n : ℕ) (out : List ℕ) : Type 0 where
  pub within : n ≤ length out
  pub text-is : take n out ≡ text

-- rooms of the limit's size, and an output for the longest text
pub record Sized (old_room new_room out : List ℕ) : Type 0 where
  pub old-size : length old_room ≡ 6 * record_limit
  pub new-size : length new_room ≡ 6 * record_limit
  pub out-size : 64 + 288 * record_limit ≤ length out
