-- Numbers on the wire: document 01, "Reading" (numbers are big-endian; the RFCs leave it unsaid).
use Rattle.std.specs.Prelude.{ℕ, zero, suc, ◌+◌, ◌*◌, List, get_or}

-- the number in the `size` bytes of s from `at`, big-endian
unfoldable pub number : List ℕ → ℕ → ℕ → ℕ
number s at zero = 0
number s at (suc size) = number s at size * 256 + get_or s (at + size) 0
