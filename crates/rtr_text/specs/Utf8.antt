-- Well-formed UTF-8: Table 3-7 of the Unicode Standard, section 3.9 (the same set of byte sequences as RFC 3629, section 4), and how
-- far a text is well formed by it. Document 01, "Modules", 3.
use Rattle.std.specs.Prelude.{ℕ, zero, suc, ◌+◌, ◌≡◌, Bool, true, false, cond, ◌&&◌, length, drop, leb, eqb}
use mathlib.Core.List.{List, [], ◌∷◌, ◌++◌, Memᴰ}

-- the bytes from `low` to `high`, both among them
pub record Range : Type 0 where
  pub low : ℕ
  pub high : ℕ

infix 80 ◌to◌
abbrev pub ◌to◌ : ℕ → ℕ → Range
a to b = record { low = a; high = b }

-- Table 3-7, "Well-Formed UTF-8 Byte Sequences": a row for each line of it, and in a row a range for each byte
abbrev pub rows : List (List Range)
rows =
    (0x00 to 0x7f ∷ []) ∷
    (0xc2 to 0xdf ∷ 0x80 to 0xbf ∷ []) ∷
    (0xe0 to 0xe0 ∷ 0xa0 to 0xbf ∷ 0x80 to 0xbf ∷ []) ∷
    (0xe1 to 0xec ∷ 0x80 to 0xbf ∷ 0x80 to 0xbf ∷ []) ∷
    (0xed to 0xed ∷ 0x80 to 0x9f ∷ 0x80 to 0xbf ∷ []) ∷
    (0xee to 0xef ∷ 0x80 to 0xbf ∷ 0x80 to 0xbf ∷ []) ∷
    (0xf0 to 0xf0 ∷ 0x90 to 0xbf ∷ 0x80 to 0xbf ∷ 0x80 to 0xbf ∷ []) ∷
    (0xf1 to 0xf3 ∷ 0x80 to 0xbf ∷ 0x80 to 0xbf ∷ 0x80 to 0xbf ∷ []) ∷
    (0xf4 to 0xf4 ∷ 0x80 to 0x8f ∷ 0x80 to 0xbf ∷ 0x80 to 0xbf ∷ []) ∷ []

-- whether a byte is in a range
unfoldable pub within : Range → ℕ → Bool
within r b = leb r.low b && leb b r.high

-- whether a text begins with bytes in a row's ranges, one for each
unfoldable pub begins : List Range → List ℕ → Bool
begins [] text = true
begins (r ∷ rs) [] = false
begins (r ∷ rs) (b ∷ text) = within r b && begins rs text

-- the length of the character that a text begins with by the first row that fits; 0 where none does
unfoldable pub character : List (List Range) → List ℕ → ℕ
character [] text = 0
character (row ∷ rest) text = cond (begins row text) (length row) (character rest text)

-- the length of the characters that a text begins with, `most` of them at the most
unfoldable pub characters : ℕ → List ℕ → ℕ
characters zero text = 0
characters (suc most) text =
    elim (character rows text) [ zero ↦ 0 | suc n ↦ suc n + characters most (drop (suc n) text) ]

-- how far a text is well formed: each character takes a byte, so a text has no more of them than bytes
unfoldable pub well_formed_up_to : List ℕ → ℕ
well_formed_up_to text = characters (length text) text

-- a text is well formed where that is all of it
unfoldable pub well_formed : List ℕ → Bool
well_formed text = eqb (well_formed_up_to text) (length text)

-- a text that is characters and nothing else, each by some row: what `well_formed` is to test, said with no count and no order of rows
pub data Characters : List ℕ → Type 0 where
  none : Characters []
  more : (row : List Range) (c rest : List ℕ) → Memᴰ row rows → length c ≡ length row → begins row c ≡ true → Characters rest → Characters (c ++ rest)
