-- A row of the table against a text, on plain lists: a row that begins a text is no longer than it, a row with one range more
-- is tested by that range behind the others, and `character` answers by a row that fits. Assumes nothing.
use Prim.Native.Nat.{ℕ, zero, suc, ◌+◌, ◌≤◌, ◌<◌, zero-le, suc-le-suc}
use mathlib.Core.Path.{◌≡◌, refl, sym, ◌∙◌}
use mathlib.Core.Logic.{◌⊎◌, inl, inr}
use mathlib.Core.Bool.{Bool, true, false, cond, ◌&&◌, false≢true, and-eq-true_iff, and_assoc, and-true}
use mathlib.Core.List.{List, [], ◌∷◌, ◌++◌, Memᴰ}
use native.Mathlib.Nat.{suc-ne-zero, add-zero}
use native.Mathlib.Omega.{arith}
use lib.ListN.{length, take, drop, get_or, drop_of_length-le}
use lib.Seq.{drop-cons, drop-drop}
use lib.Dec.{leb}
use Rattle.rtr_text.specs.Utf8.{Range, within, begins, character}

-- a row is no longer than a text that it begins
pub begins-length : (row : List Range) (text : List ℕ) → begins row text ≡ true → length row ≤ length text
unfolding begins
begins-length [] text e = zero-le
begins-length (r ∷ rs) [] e = absurd (false≢true e)
begins-length (r ∷ rs) (b ∷ text) e = suc-le-suc (begins-length rs text ((and-eq-true_iff (within r b) (begins rs text)).0 e).1)

-- it fits the text's first bytes alone, and goes on fitting whatever follows them
pub begins-take : (row : List Range) (text : List ℕ) → begins row text ≡ true → begins row (take (length row) text) ≡ true
unfolding begins
begins-take [] text e = refl
begins-take (r ∷ rs) [] e = e
begins-take (r ∷ rs) (b ∷ text) e =
    let w = (and-eq-true_iff (within r b) (begins rs text)).0 e in
    (and-eq-true_iff (within r b) (begins rs (take (length rs) text))).1 (w.0, begins-take rs text w.1)

pub begins-append : (row : List Range) (text rest : List ℕ) → begins row text ≡ true → begins row (text ++ rest) ≡ true
unfolding begins
begins-append [] text rest e = refl
begins-append (r ∷ rs) [] rest e = absurd (false≢true e)
begins-append (r ∷ rs) (b ∷ text) rest e =
    let w = (and-eq-true_iff (within r b) (begins rs text)).0 e in
    (and-eq-true_iff (within r b) (begins rs (text ++ rest))).1 (w.0, begins-append rs text rest w.1)

-- one range more is tested behind the others
begins-snoc : (rs : List Range) (r : Range) (text : List ℕ) → begins (rs ++ (r ∷ [])) text ≡ (begins rs text && begins (r ∷ []) (drop (length rs) text))
unfolding begins
begins-snoc [] r text = refl
begins-snoc (q ∷ rs) r [] = refl
begins-snoc (q ∷ rs) r (b ∷ text) = rw (begins-snoc rs r text) (sym (and_assoc (within q b) (begins rs text) (begins (r ∷ []) (drop (length rs) text))))

-- byte 0 of a character is where it begins
pub byte-0 : {f : Bool} (rs : List Range) (text : List ℕ) (at : ℕ) → f ≡ begins rs (drop (at + 0) text) → f ≡ begins rs (drop at text)
byte-0 rs text at h = rw (add-zero at) at h

-- of a test by some ranges and one range more: that range's own test where the others fitted, and theirs where they failed
module _ {f : Bool} (rs : List Range) (r : Range) (text : List ℕ) (at : ℕ) (tested : f ≡ begins rs (drop at text)) where
  pub more-fits : {g : Bool} → f ≡ true → g ≡ begins (r ∷ []) (drop (at + length rs) text) → g ≡ begins (rs ++ (r ∷ [])) (drop at text)
  more-fits e h = h ∙ rw (begins-snoc, ← tested, e, drop-drop)

  pub more-fails : f ≡ false → f ≡ begins (rs ++ (r ∷ [])) (drop at text)
  more-fails e = e ∙ rw (begins-snoc, ← tested, e)

  -- either, as `&&` leaves it: by the way that was taken
  pub more-tested : {A B : Type 0} {g : Bool} → (A → (f ≡ true) × (g ≡ begins (r ∷ []) (drop (at + length rs) text))) → (B → (f ≡ false) × (g ≡ f)) → A ⊎ B → g ≡ begins (rs ++ (r ∷ [])) (drop at text)
  more-tested fitted failed (inl a) = more-fits (fitted a).0 (fitted a).1
  more-tested fitted failed (inr b) = (failed b).1 ∙ more-fails (failed b).0

-- a range at a place, by the byte there
pub range_at : (r : Range) (text : List ℕ) (at : ℕ) → at < length text → begins (r ∷ []) (drop at text) ≡ (leb r.low (get_or text at 0) && leb (get_or text at 0) r.high)
unfolding begins within
range_at r text at h = rw (drop-cons text at 0 h) (and-true _)

pub range-past : (r : Range) (text : List ℕ) (at : ℕ) → length text ≤ at → false ≡ begins (r ∷ []) (drop at text)
unfolding begins
range-past r text at h = rw (drop_of_length-le text h)

module _ {f : Bool} (row : List Range) (rest : List (List Range)) (text : List ℕ) (tested : f ≡ begins row text) where
  pub row_fits : {n : ℕ} → f ≡ true → n ≡ length row → n ≡ character (row ∷ rest) text
  unfolding character
  row_fits e h = rw (← tested, e) h

  pub row-fails : {n : ℕ} → f ≡ false → n ≡ character rest text → n ≡ character (row ∷ rest) text
  unfolding character
  row-fails e h = rw (← tested, e) h

-- the row by which `character` answers
pub record Found (rs : List (List Range)) (text : List ℕ) (n : ℕ) : Type 0 where
  pub row : List Range
  pub one_of : Memᴰ row rs
  pub long : length row ≡ n
  pub fits : begins row text ≡ true

pub found : (rs : List (List Range)) (text : List ℕ) (n : ℕ) → character rs text ≡ suc n → Found rs text (suc n)
unfolding character
found [] text n e = absurd (suc-ne-zero n (sym e))
found (row ∷ rest) text n e = by (begins row text) refl e (found rest text n)
  where
    by : (b : Bool) → begins row text ≡ b → cond b (length row) (character rest text) ≡ suc n → (character rest text ≡ suc n → Found rest text (suc n)) → Found (row ∷ rest) text (suc n)
    by true f e below = record { row = row; one_of = Memᴰ.head refl; long = e; fits = f }
    by false f e below = let w = below e in record { row = w.row; one_of = Memᴰ.tail w.one_of; long = w.long; fits = w.fits }

pub character-at-most : (rs : List (List Range)) (text : List ℕ) → character rs text ≤ length text
character-at-most rs text = by (character rs text) refl
  where
    by : (n : ℕ) → character rs text ≡ n → n ≤ length text
    by zero e = zero-le
    by (suc n) e = let w = found rs text n e in omega (arith, begins-length w.row text w.fits, w.long)
