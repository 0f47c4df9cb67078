-- What the digits of a listing stand for, for whoever reads one back.
use Rattle.std.specs.Prelude.{ℕ, ◌+◌, ◌-◌, ◌*◌, Bool, true, false, cond, not, ◌&&◌, ◌||◌, List, [], ◌∷◌, leb, ltb, eqb}

-- a byte is `0` to `9`
abbrev pub is_decimal : ℕ → Bool
is_decimal c = leb 48 c && leb c 57

-- so is each
unfoldable pub are_decimal : List ℕ → Bool
are_decimal [] = true
are_decimal (c ∷ s) = is_decimal c && are_decimal s

-- there is a digit, and none stands before the others that is `0`
abbrev pub has_no_lead : List ℕ → Bool
has_no_lead [] = false
has_no_lead (c ∷ []) = true
has_no_lead (c ∷ (x ∷ s)) = not (eqb c 48)

-- a byte is `0` to `9` or `a` to `f`, never upper-case
abbrev pub is_hex : ℕ → Bool
is_hex c = (leb 48 c && leb c 57) || (leb 97 c && leb c 102)

-- so is each
unfoldable pub are_hex : List ℕ → Bool
are_hex [] = true
are_hex (c ∷ s) = is_hex c && are_hex s

-- the number that decimal digits stand for, with what was read before them
unfoldable pub value_of : List ℕ → ℕ → ℕ
value_of [] read = read
value_of (c ∷ s) read = value_of s (read * 10 + (c - 48))

-- what the byte of a hex digit stands for: `0` to `9`, then `a` to `f`
abbrev pub hex_digit : ℕ → ℕ
hex_digit c = cond (ltb c 97) (c - 48) (c - 87)

-- the number that hex digits stand for, with what was read before them
unfoldable pub hex_of : List ℕ → ℕ → ℕ
hex_of [] read = read
hex_of (c ∷ s) read = hex_of s (read * 16 + hex_digit c)
