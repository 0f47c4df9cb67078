-- `well_formed_up_to` a character at a time. It is defined by a count that only has to be large enough (`enough`), so it is a
-- character and then what is left (`up-to-step`), and 0 where there is none (`up-to-stop`). Assumes nothing.
use Prim.Native.Nat.{ℕ, zero, suc, ◌+◌, ◌≤◌, ◌<◌, zero-le}
use mathlib.Core.Path.{◌≡◌, refl, sym, ap, ◌∙◌}
use mathlib.Core.Bool.{true}
use mathlib.Core.List.{List, [], ◌∷◌}
use native.Mathlib.Nat.{suc-ne-zero, not-suc-le-zero, add-zero}
use native.Mathlib.Omega.{arith}
use lib.ListN.{length, drop, length-drop}
use lib.Seq.{drop-drop}
use Rattle.rtr_text.specs.Utf8.{◌to◌, rows, begins, character, characters, well_formed_up_to}
use Rattle.rtr_text.proofs.Begins.{row_fits, character-at-most}

pub characters-stop : (most : ℕ) (text : List ℕ) → character rows text ≡ 0 → characters (suc most) text ≡ 0
unfolding characters
characters-stop most text e = rw (characters, e)

pub characters-step : (most : ℕ) (text : List ℕ) (n : ℕ) → character rows text ≡ suc n → characters (suc most) text ≡ suc n + characters most (drop (suc n) text)
unfolding characters
characters-step most text n e = rw (characters, e)

-- nothing has no character
pub nothing : character rows [] ≡ 0
unfolding character begins
nothing = refl

pub characters-at-most : (most : ℕ) (text : List ℕ) → characters most text ≤ length text
unfolding characters
characters-at-most zero text = zero-le
characters-at-most (suc most) text = by (character rows text) refl (characters-at-most most)
  where
    by : (n : ℕ) → character rows text ≡ n → ((rest : List ℕ) → characters most rest ≤ length rest) → characters (suc most) text ≤ length text
    by zero e below = rw (characters-stop most text e) zero-le
    by (suc n) e below = omega (arith, characters-step most text n e, below (drop (suc n) text), length-drop (suc n) text, character-at-most rows text)

-- a larger count changes nothing once every byte has its turn
enough : (m n : ℕ) (text : List ℕ) → length text ≤ m → length text ≤ n → characters m text ≡ characters n text
enough zero zero text h k = refl
enough zero (suc n) [] h k = unfold characters in sym (characters-stop n [] nothing)
enough zero (suc n) (b ∷ text) h k = absurd (not-suc-le-zero h)
enough (suc m) zero [] h k = unfold characters in characters-stop m [] nothing
enough (suc m) zero (b ∷ text) h k = absurd (not-suc-le-zero k)
enough (suc m) (suc n) text h k = by (character rows text) refl (enough m n)
  where
    by : (j : ℕ) → character rows text ≡ j → ((rest : List ℕ) → length rest ≤ m → length rest ≤ n → characters m rest ≡ characters n rest) → characters (suc m) text ≡ characters (suc n) text
    by zero e below = characters-stop m text e ∙ sym (characters-stop n text e)
    by (suc j) e below = rw (characters-step m text j e, characters-step n text j e, below (drop (suc j) text) (simp length-drop (omega arith)) (simp length-drop (omega arith)))

pub up-to-stop : (text : List ℕ) (n : ℕ) → n ≡ character rows text → n ≡ 0 → well_formed_up_to text ≡ 0
unfolding well_formed_up_to characters
up-to-stop [] n e h = refl
up-to-stop (b ∷ text) n e h = characters-stop (length text) (b ∷ text) (sym e ∙ h)

pub up-to-step : (text : List ℕ) (n : ℕ) → n ≡ character rows text → (n ≡ 0 → ⊥) → well_formed_up_to text ≡ n + well_formed_up_to (drop n text)
unfolding well_formed_up_to
up-to-step text zero e h = absurd (h refl)
up-to-step [] (suc n) e h = absurd (suc-ne-zero n (e ∙ nothing))
up-to-step (b ∷ text) (suc n) e h =
    characters-step (length text) (b ∷ text) n (sym e) ∙ rw (enough (length text) (length (drop n text)) (drop n text) (simp length-drop (omega arith)) (omega arith))

-- the same inside a text
pub up-to-further : (text : List ℕ) (at n : ℕ) → well_formed_up_to text ≡ at + well_formed_up_to (drop at text) → n ≡ character rows (drop at text) → (n ≡ 0 → ⊥) → well_formed_up_to text ≡ at + n + well_formed_up_to (drop (at + n) text)
up-to-further text at n i e h =
    let s : well_formed_up_to (drop at text) ≡ n + well_formed_up_to (drop n (drop at text)) = up-to-step (drop at text) n e h in
    let d : well_formed_up_to (drop n (drop at text)) ≡ well_formed_up_to (drop (at + n) text) = ap well_formed_up_to (drop-drop n at text) in
    omega arith

-- over a run of characters by the table's first row
pub row-1-further : (text : List ℕ) (at k : ℕ) → well_formed_up_to text ≡ at + well_formed_up_to (drop at text) → ((i : ℕ) → at ≤ i → i < at + k → begins (0x00 to 0x7f ∷ []) (drop i text) ≡ true) → well_formed_up_to text ≡ at + k + well_formed_up_to (drop (at + k) text)
row-1-further text at zero i b = rw (add-zero at) i
row-1-further text at (suc k) i b =
    let before = row-1-further text at k i (λ j m l. b j m (omega arith)) in
    let one : 1 ≡ character rows (drop (at + k) text) = row_fits (0x00 to 0x7f ∷ []) _ (drop (at + k) text) (sym (b (at + k) (omega arith) (omega arith))) refl refl in
    let e : at + k + 1 ≡ at + suc k = omega arith in
    rw e at (up-to-further text (at + k) 1 before one (suc-ne-zero 0))
