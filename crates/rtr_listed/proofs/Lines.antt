-- Lines: where the first one ends, and what the text behind it is. Assumes nothing.
use Prim.Native.Nat.{ℕ, suc, ◌+◌, ◌≤◌, ◌<◌}
use mathlib.Core.Bool.{Bool, true, false, cond}
use mathlib.Core.List.{List, [], ◌∷◌}
use mathlib.Core.Path.{◌≡◌, refl, sym, ap, ◌∙◌}
use borrow.Author.Tests.{ltb-false}
use native.Mathlib.Omega.{arith}
use lib.Dec.{eqb, ltb}
use lib.ListN.{length, take, drop}
use Rattle.std.specs.List.{position, position_or_len}
use Rattle.std.specs.Prelude.{Some, None}
use Rattle.std.specs.Option.{unwrap_or}
use Rattle.std.proofs.lemmas.List.Recursion.{is_position_or_len}
use Rattle.rtr_listed.specs.Listed.{Line, in_front, lines_of}
use Rattle.rtr_listed.specs.Private.{line_length}

pub length-within : (s : List ℕ) → line_length s ≤ length s
unfolding line_length
length-within [] = omega arith
length-within (b ∷ s) = go (eqb b 10) (length-within s)
  where
    go : (c : Bool) → line_length s ≤ length s → cond c 0 (suc (line_length s)) ≤ suc (length s)
    go true h = omega arith
    go false h = omega arith

-- a line that a line feed ends
pub lines-ended : (s : List ℕ) → line_length s < length s → lines_of s ≡ record { bytes = take (line_length s) s; ended = true } ∷ lines_of (drop (suc (line_length s)) s)
unfolding line_length lines_of
lines-ended [] h = absurd (omega arith)
lines-ended (b ∷ s) h = go (eqb b 10) refl (lines-ended s) h
  where
    go : (c : Bool) → eqb b 10 ≡ c → (line_length s < length s → lines_of s ≡ record { bytes = take (line_length s) s; ended = true } ∷ lines_of (drop (suc (line_length s)) s))
        → cond c 0 (suc (line_length s)) < suc (length s)
        → cond c (record { bytes = []; ended = true } ∷ lines_of s) (in_front b (lines_of s)) ≡ record { bytes = take (cond c 0 (suc (line_length s))) (b ∷ s); ended = true } ∷ lines_of (drop (suc (cond c 0 (suc (line_length s)))) (b ∷ s))
    go true e rest k = refl
    go false e rest k = ap (in_front b) (rest (omega arith))

-- a line without an end, or none
abbrev pub Unended : List Line → Type 0
Unended [] = ◌≡◌ {A = ℕ} 0 0
Unended (l ∷ ls) = l.ended ≡ false

pub lines-unended : (s : List ℕ) → line_length s ≡ length s → Unended (lines_of s)
unfolding line_length lines_of
lines-unended [] h = refl
lines-unended (b ∷ s) h = go (eqb b 10) (lines-unended s) h
  where
    begins : (ls : List Line) → Unended ls → Unended (in_front b ls)
    begins [] u = refl
    begins (l ∷ ls) u = u

    go : (c : Bool) → (line_length s ≡ length s → Unended (lines_of s)) → cond c 0 (suc (line_length s)) ≡ suc (length s) → Unended (cond c (record { bytes = []; ended = true } ∷ lines_of s) (in_front b (lines_of s)))
    go true rest k = absurd (omega arith)
    go false rest k = begins (lines_of s) (rest (omega arith))

-- the place of the first line feed, or the length
feed-place : (s : List ℕ) → line_length s ≡ position_or_len (λ b. eqb b 10) s
unfolding line_length
feed-place s =
    is_position_or_len line_length (λ b. eqb b 10) refl
    (λ x xs. let e : suc (line_length xs) ≡ 1 + line_length xs = omega arith in ap (λ (n : ℕ). cond (eqb x 10) 0 n) e)
    s

pub length-position : (s : List ℕ) → unwrap_or (position (λ b. eqb b 10) s) (length s) ≡ line_length s
length-position s = go (ltb (position_or_len (λ b. eqb b 10) s) (length s)) refl ∙ sym (feed-place s)
  where
    go : (c : Bool) → ltb (position_or_len (λ b. eqb b 10) s) (length s) ≡ c
        → unwrap_or (cond c (Some (position_or_len (λ b. eqb b 10) s)) None) (length s) ≡ position_or_len (λ b. eqb b 10) s
    go true e = refl
    go false e = omega (arith, feed-place s, length-within s, ltb-false _ _ e)
