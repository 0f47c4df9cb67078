-- The table's rows against each other. Their first ranges ascend and do not overlap, which is computed (`table-ascends`); so a text's first byte leaves one row at the most
-- (`rows-disjoint`), the order in which they are tried does not matter (`row-decides`), and there is a character exactly where some row fits (`none-fits`, `none_found`). Assumes nothing.
use Prim.Native.Nat.{ℕ, suc, ◌≤◌}
use mathlib.Core.Path.{◌≡◌, refl, sym, ap, ◌∙◌}
use mathlib.Core.Logic.{◌⊎◌, inl, inr}
use mathlib.Core.Bool.{Bool, true, false, ◌&&◌, false≢true, and-eq-true_iff, and-false}
use mathlib.Core.List.Memᴰ
use mathlib.Core.List.{List, [], ◌∷◌, Memᴰ}
use native.Mathlib.Nat.{suc-ne-zero}
use native.Mathlib.Omega.{arith}
use borrow.Author.Tests.{leb-true, lt-leb}
use lib.ListN.{length}
use lib.Dec.{leb}
use Rattle.rtr_text.specs.Utf8.{Range, rows, within, begins, character}
use Rattle.rtr_text.proofs.Begins.{row_fits, row-fails}

-- each row's first range ends before the next row's begins, and the first begins at k or later
ascending : ℕ → List (List Range) → Bool
ascending k [] = true
ascending k ([] ∷ rest) = false
ascending k ((r ∷ rs) ∷ rest) = leb k r.low && (leb r.low r.high && ascending (suc r.high) rest)

-- what that test tells of a row
ascends : (k : ℕ) (r : Range) (rs : List Range) (rest : List (List Range)) → ascending k ((r ∷ rs) ∷ rest) ≡ true → (k ≤ r.low) × (r.low ≤ r.high) × (ascending (suc r.high) rest ≡ true)
unfolding ascending
ascends k r rs rest o =
    let a = (and-eq-true_iff (leb k r.low) (leb r.low r.high && ascending (suc r.high) rest)).0 o in
    let b = (and-eq-true_iff (leb r.low r.high) (ascending (suc r.high) rest)).0 a.1 in
    (leb-true k r.low a.0, leb-true r.low r.high b.0, b.1)

table-ascends : ascending 0 rows ≡ true
unfolding ascending
table-ascends = refl

-- a row of an ascending table begins only texts whose first byte is at k or later
first_byte : (k : ℕ) (rs : List (List Range)) (row : List Range) (b : ℕ) (text : List ℕ) → ascending k rs ≡ true → Memᴰ row rs → begins row (b ∷ text) ≡ true → k ≤ b
unfolding ascending begins within
first_byte k [] row b text o m f = absurd (Memᴰ.not-nil m)
first_byte k ([] ∷ rest) row b text o m f = absurd (false≢true o)
first_byte k ((r ∷ rs) ∷ rest) row b text o m f =
    by (Memᴰ.cases_cons m) (first_byte (suc r.high) rest row b text (ascends k r rs rest o).2)
  where
    by : (row ≡ r ∷ rs) ⊎ Memᴰ row rest → (Memᴰ row rest → begins row (b ∷ text) ≡ true → suc r.high ≤ b) → k ≤ b
    by (inl e) below =
        let w = (and-eq-true_iff (within r b) (begins rs text)).0 (rw e at f) in
        omega (arith, (ascends k r rs rest o).0, leb-true r.low b ((and-eq-true_iff (leb r.low b) (leb b r.high)).0 w.0).0)
    by (inr n) below = omega (arith, below n f, ascends k r rs rest o)

-- so a row before it in the table does not begin the same text
apart : (r : Range) (rs : List Range) (rest : List (List Range)) (row : List Range) (text : List ℕ) → ascending (suc r.high) rest ≡ true → Memᴰ row rest → begins row text ≡ true → begins (r ∷ rs) text ≡ false
unfolding begins within
apart r rs rest row [] o m f = refl
apart r rs rest row (b ∷ text) o m f = rw (lt-leb b r.high (first_byte (suc r.high) rest row b text o m f), and-false)

-- of an ascending table the row that fits is the first that fits
only_row : (k : ℕ) (rs : List (List Range)) (row : List Range) (text : List ℕ) → ascending k rs ≡ true → Memᴰ row rs → begins row text ≡ true → length row ≡ character rs text
only_row k [] row text o m f = absurd (Memᴰ.not-nil m)
only_row k ([] ∷ rest) row text o m f = absurd (false≢true (unfold ascending in o))
only_row k ((r ∷ rs) ∷ rest) row text o m f = by (Memᴰ.cases_cons m) (only_row (suc r.high) rest row text (ascends k r rs rest o).2)
  where
    by : (row ≡ r ∷ rs) ⊎ Memᴰ row rest → (Memᴰ row rest → begins row text ≡ true → length row ≡ character rest text) → length row ≡ character ((r ∷ rs) ∷ rest) text
    by (inl e) below = row_fits (r ∷ rs) rest text (sym (rw e at f)) refl (ap length e)
    by (inr n) below = row-fails (r ∷ rs) rest text (sym (apart r rs rest row text (ascends k r rs rest o).2 n f)) refl (below n f)

-- whichever row fits, its length is the character's: the rows may be tried in any order
pub row-decides : (row : List Range) (text : List ℕ) → Memᴰ row rows → begins row text ≡ true → length row ≡ character rows text
row-decides row text m f = only_row 0 rows row text table-ascends m f

-- at most one row fits a text
disjoint : (k : ℕ) (rs : List (List Range)) (row other : List Range) (text : List ℕ) → ascending k rs ≡ true → Memᴰ row rs → Memᴰ other rs → begins row text ≡ true → begins other text ≡ true → row ≡ other
disjoint k [] row other text o m n f g = absurd (Memᴰ.not-nil m)
disjoint k ([] ∷ rest) row other text o m n f g = absurd (false≢true (unfold ascending in o))
disjoint k ((r ∷ rs) ∷ rest) row other text o m n f g = by (Memᴰ.cases_cons m) (Memᴰ.cases_cons n) (disjoint (suc r.high) rest row other text (ascends k r rs rest o).2)
  where
    -- the first row and a later one do not both fit
    not-both : (one later : List Range) → one ≡ r ∷ rs → Memᴰ later rest → begins one text ≡ true → begins later text ≡ true → ⊥
    not-both one later e i f g = false≢true (sym (apart r rs rest later text (ascends k r rs rest o).2 i g) ∙ rw e at f)

    by : (row ≡ r ∷ rs) ⊎ Memᴰ row rest → (other ≡ r ∷ rs) ⊎ Memᴰ other rest → (Memᴰ row rest → Memᴰ other rest → begins row text ≡ true → begins other text ≡ true → row ≡ other) → row ≡ other
    by (inl e) (inl d) below = e ∙ sym d
    by (inl e) (inr j) below = absurd (not-both row other e j f g)
    by (inr i) (inl d) below = absurd (not-both other row d i g f)
    by (inr i) (inr j) below = below i j f g

pub rows-disjoint : (row other : List Range) (text : List ℕ) → Memᴰ row rows → Memᴰ other rows → begins row text ≡ true → begins other text ≡ true → row ≡ other
rows-disjoint row other text m n f g = disjoint 0 rows row other text table-ascends m n f g

-- no row of an ascending table is empty
not-empty : (k : ℕ) (rs : List (List Range)) (row : List Range) → ascending k rs ≡ true → Memᴰ row rs → length row ≡ 0 → ⊥
not-empty k [] row o m e = Memᴰ.not-nil m
not-empty k ([] ∷ rest) row o m e = false≢true (unfold ascending in o)
not-empty k ((r ∷ rs) ∷ rest) row o m e = by (Memᴰ.cases_cons m) (not-empty (suc r.high) rest row (ascends k r rs rest o).2)
  where
    by : (row ≡ r ∷ rs) ⊎ Memᴰ row rest → (Memᴰ row rest → length row ≡ 0 → ⊥) → ⊥
    by (inl d) below = suc-ne-zero (length rs) (rw d at e)
    by (inr n) below = below n e

-- where there is no character no row fits
pub none-fits : (row : List Range) (text : List ℕ) → character rows text ≡ 0 → Memᴰ row rows → begins row text ≡ false
none-fits row text z m = by (begins row text) refl
  where
    by : (b : Bool) → begins row text ≡ b → begins row text ≡ false
    by true f = absurd (not-empty 0 rows row table-ascends m (row-decides row text m f ∙ z))
    by false f = f

-- and where no row fits there is none
pub none_found : (rs : List (List Range)) (text : List ℕ) → ((row : List Range) → Memᴰ row rs → begins row text ≡ false) → character rs text ≡ 0
unfolding character
none_found [] text h = refl
none_found (row ∷ rest) text h = sym (row-fails row rest text refl (h row (Memᴰ.head refl)) (sym (none_found rest text (λ r m. h r (Memᴰ.tail m)))))
