-- Texts without a line feed are found again as lines: with one behind them as a line that is ended, without as one that is not. Assumes nothing.
use Prim.Native.Nat.{ℕ, ◌≤◌}
use mathlib.Core.Bool.{Bool, true, false, cond, not, ◌&&◌}
use mathlib.Core.List.{List, [], ◌∷◌, ◌++◌}
use mathlib.Core.Path.{◌≡◌, refl, sym, ap, ◌∙◌}
use native.Mathlib.Omega.{arith}
use borrow.Author.Tests.{eqb-true, ne_eqb, leb-true, not-true}
use lib.Dec.{eqb, leb}
use Rattle.rtr_room.proofs.Laws.Tests.{first_of, second-of, both}
use Rattle.rtr_listing.specs.Digits.{is_decimal, are_decimal, is_hex, are_hex}
use Rattle.rtr_listing.proofs.Laws.{decimal-next, hex-next}
use Rattle.rtr_listed.specs.Listed.{Line, in_front, lines_of}
use Rattle.rtr_listed.proofs.Values.{hex-range}

-- no byte is a line feed
unfoldable pub no_feed : List ℕ → Bool
no_feed [] = true
no_feed (c ∷ s) = not (eqb c 10) && no_feed s

pub no-feed-append : (s t : List ℕ) → no_feed s ≡ true → no_feed t ≡ true → no_feed (s ++ t) ≡ true
unfolding no_feed
no-feed-append [] t p q = q
no-feed-append (c ∷ s) t p q = both (not (eqb c 10)) _ (first_of (not (eqb c 10)) _ p) (no-feed-append s t (second-of (not (eqb c 10)) _ p) q)

pub no-feed-here : (c : ℕ) (s : List ℕ) → (c ≡ 10 → ⊥) → no_feed s ≡ true → no_feed (c ∷ s) ≡ true
unfolding no_feed
no-feed-here c s h k = both (not (eqb c 10)) _ (ap not (ne_eqb c 10 h)) k

-- digits are none
pub decimal-no-feed : (s : List ℕ) → are_decimal s ≡ true → no_feed s ≡ true
unfolding no_feed
decimal-no-feed [] h = refl
decimal-no-feed (c ∷ s) h =
    let k : is_decimal c && are_decimal s ≡ true = sym (decimal-next c s) ∙ h in
    let low : 48 ≤ c = leb-true 48 c (first_of (leb 48 c) _ (first_of (is_decimal c) _ k)) in
    no-feed-here c s (λ e. omega (arith, e)) (decimal-no-feed s (second-of (is_decimal c) _ k))

pub hex-no-feed : (s : List ℕ) → are_hex s ≡ true → no_feed s ≡ true
unfolding no_feed
hex-no-feed [] h = refl
hex-no-feed (c ∷ s) h =
    let k : is_hex c && are_hex s ≡ true = sym (hex-next c s) ∙ h in
    let range = hex-range c (first_of (is_hex c) _ k) in
    no-feed-here c s (λ e. omega (arith, e, range.0)) (hex-no-feed s (second-of (is_hex c) _ k))

-- another byte goes before the first line
line-begins : (c : ℕ) (s : List ℕ) → not (eqb c 10) ≡ true → lines_of (c ∷ s) ≡ in_front c (lines_of s)
unfolding lines_of
line-begins c s h = ap (λ (x : Bool). cond x (record { bytes = []; ended = true } ∷ lines_of s) (in_front c (lines_of s))) (not-true (eqb c 10) h)

-- one of them and its line feed are a line
pub line_first : (b s : List ℕ) → no_feed b ≡ true → lines_of (b ++ 10 ∷ s) ≡ record { bytes = b; ended = true } ∷ lines_of s
unfolding lines_of no_feed
line_first [] s h = refl
line_first (c ∷ b) s h = line-begins c (b ++ 10 ∷ s) (first_of (not (eqb c 10)) _ h) ∙ ap (in_front c) (line_first b s (second-of (not (eqb c 10)) _ h))

-- and one alone is a line without an end, where it has a byte
pub line-open : (c : ℕ) (b : List ℕ) → no_feed (c ∷ b) ≡ true → lines_of (c ∷ b) ≡ record { bytes = c ∷ b; ended = false } ∷ []
unfolding lines_of no_feed
line-open c [] h = line-begins c [] (first_of (not (eqb c 10)) _ h)
line-open c (d ∷ b) h = line-begins c (d ∷ b) (first_of (not (eqb c 10)) _ h) ∙ ap (in_front c) (line-open d b (second-of (not (eqb c 10)) _ h))

-- lines put together again
unfoldable pub joined : List Line → List ℕ
joined [] = []
joined (l ∷ ls) = l.bytes ++ cond l.ended (10 ∷ []) [] ++ joined ls

joined-in_front : (b : ℕ) (ls : List Line) → joined (in_front b ls) ≡ b ∷ joined ls
unfolding joined
joined-in_front b [] = refl
joined-in_front b (l ∷ ls) = refl

pub joined-lines : (s : List ℕ) → joined (lines_of s) ≡ s
unfolding joined lines_of
joined-lines [] = refl
joined-lines (b ∷ s) = go (eqb b 10) refl (joined-lines s)
  where
    go : (c : Bool) → eqb b 10 ≡ c → joined (lines_of s) ≡ s → joined (cond c (record { bytes = []; ended = true } ∷ lines_of s) (in_front b (lines_of s))) ≡ b ∷ s
    go true e h = λ i. sym (eqb-true b 10 e) i ∷ h i
    go false e h = joined-in_front b (lines_of s) ∙ ap (λ (x : List ℕ). b ∷ x) h
