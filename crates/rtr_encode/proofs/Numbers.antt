-- The bytes of a number as the library gives them are the definition's. Assumes nothing.
use Prim.Native.Nat.{ℕ, ◌^◌, ◌<◌, ◌/◌, ◌%◌}
use mathlib.Core.List.{[], ◌∷◌, ◌++◌}
use mathlib.Core.Path.{◌≡◌}
use native.Mathlib.Omega.{arith}
use Rattle.std.specs.Int.{w16, w32, to_be_bytes}
use Rattle.rtr_encode.specs.Encode.{bytes_of}

-- the bytes of a number of 16 and of 32 bits, as the library gives them
pub bytes-of-16 : (n : ℕ) → to_be_bytes w16 n ≡ bytes_of 2 n
unfolding bytes_of
bytes-of-16 n = let e : n / 256 ^ 1 % 256 ≡ n / 256 % 256 = omega arith in cc

pub bytes-of-32 : (n : ℕ) → to_be_bytes w32 n ≡ bytes_of 4 n
unfolding bytes_of
bytes-of-32 n =
    let a : n / 256 ^ 3 % 256 ≡ n / 256 / 256 / 256 % 256 = omega arith in
    let b : n / 256 ^ 2 % 256 ≡ n / 256 / 256 % 256 = omega arith in
    let c : n / 256 ^ 1 % 256 ≡ n / 256 % 256 = omega arith in
    cc

-- the four bytes of a prefix's flags and lengths
pub bytes-of-8 : (a b c : ℕ) → a < 256 → b < 256 → c < 256 → a ∷ b ∷ c ∷ 0 ∷ [] ≡ bytes_of 1 a ++ bytes_of 1 b ++ bytes_of 1 c ++ (0 ∷ [])
unfolding bytes_of
bytes-of-8 a b c p q r =
    let x : a ≡ a % 256 = omega arith in
    let y : b ≡ b % 256 = omega arith in
    let z : c ≡ c % 256 = omega arith in
    cc
