-- What tests say: the two sides of a conjunction that passes, and that a test does not do both. By the cases of each test. Assumes nothing.
use mathlib.Core.Bool.{Bool, true, false, ◌&&◌, true≢false, false≢true}
use mathlib.Core.Path.{◌≡◌, refl, sym, ◌∙◌}

pub first_of : (a b : Bool) → a && b ≡ true → a ≡ true
first_of true b e = refl
first_of false b e = e

pub second-of : (a b : Bool) → a && b ≡ true → b ≡ true
second-of true b e = e
second-of false b e = absurd (false≢true e)

pub both : (a b : Bool) → a ≡ true → b ≡ true → a && b ≡ true
both true b p q = q
both false b p q = p

pub not-both : (b : Bool) → b ≡ true → b ≡ false → ⊥
not-both b p q = true≢false (sym p ∙ q)

pub unless : (b : Bool) → (b ≡ true → ⊥) → b ≡ false
unless true h = absurd (h refl)
unless false h = refl
