-- `alike` decides whether two lists are one, and `==` of slices is it. Assumes nothing.
use Prim.Native.Nat.{ℕ}
use mathlib.Core.Bool.{Bool, true, false, cond, ◌&&◌}
use mathlib.Core.List.{List, [], ◌∷◌}
use mathlib.Core.Path.{◌≡◌, refl, ap, ◌∙◌}
use native.Mathlib.Omega.{arith}
use borrow.Author.Tests.{eqb-true, eq-eqb}
use lib.Dec.{eqb}
use lib.ListN.{length}
use Rattle.std.specs.Prelude.{nat_eq}
use Rattle.std.specs.Cmp.Lexicographic.{pointwise}
use Rattle.rtr_numbers.specs.Back.{alike}

pub alike_refl : (a : List ℕ) → alike a a ≡ true
unfolding alike
alike_refl [] = refl
alike_refl (x ∷ xs) = rw (eq-eqb x x refl) (alike_refl xs)

pub alike_same : (a b : List ℕ) → alike a b ≡ true → a ≡ b
unfolding alike
alike_same [] [] e = refl
alike_same [] (y ∷ ys) e = absurd (let z : ◌≡◌ {A = ℕ} 0 1 = cc in omega arith)
alike_same (x ∷ xs) [] e = absurd (let z : ◌≡◌ {A = ℕ} 0 1 = cc in omega arith)
alike_same (x ∷ xs) (y ∷ ys) e = go (eqb x y) refl e (alike_same xs ys)
  where
    go : (t : Bool) → eqb x y ≡ t → (t && alike xs ys) ≡ true → (alike xs ys ≡ true → xs ≡ ys) → x ∷ xs ≡ y ∷ ys
    go true p q rest =
        let head : x ≡ y = eqb-true x y p in
        let tail : xs ≡ ys = rest q in
        cc
    go false p q rest = absurd (let z : ◌≡◌ {A = ℕ} 0 1 = cc in omega arith)

-- and `==` of slices is it
pub alike-pointwise : (a b : List ℕ) → pointwise nat_eq a b ≡ alike a b
unfolding alike
alike-pointwise [] [] = refl
alike-pointwise [] (y ∷ ys) = refl
alike-pointwise (x ∷ xs) [] = refl
alike-pointwise (x ∷ xs) (y ∷ ys) = ap (λ (t : Bool). nat_eq x y && t) (alike-pointwise xs ys)

-- what was said is set where there are as many numbers as it has
pub put-said : (n said y x : List ℕ) (k : ℕ) (r : Bool) →
    (r ≡ eqb (length n) (length said)) × (x ≡ cond (eqb (length n) (length said)) said n) →
    said ≡ y →
    length y ≡ k →
    (r ≡ eqb (length n) k) × (x ≡ cond (eqb (length n) k) y n)
put-said n said y x k r e p q =
    let long : length said ≡ k = ap length p ∙ q in
    (e.0 ∙ ap (eqb (length n)) long, e.1 ∙ (λ i. cond (eqb (length n) (long i)) (p i) n))
