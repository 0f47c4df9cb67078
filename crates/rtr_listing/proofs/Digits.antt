-- Digits are written from the last to the first: `digits_more` is a turn of that loop. Assumes nothing.
use Prim.Native.Nat.{ℕ, zero, suc, ◌+◌, ◌≤◌, ◌<◌, ◌/◌, ◌%◌}
use mathlib.Core.Bool.{Bool, true, false, cond}
use mathlib.Core.List.{List, [], ◌∷◌}
use mathlib.Core.Path.{◌≡◌, refl, ap, ◌∙◌}
use native.Mathlib.Omega.{arith}
use lib.Dec.{ltb}
use lib.ListN.{length, set, length-append}
use Rattle.rtr_base.specs.Over.{over}
use Rattle.rtr_base.proofs.Overs.{set-over, over-before, over_nothing}
use Rattle.rtr_listing.specs.Listing.{glyph, digits, places}

pub digits-length : (b k n : ℕ) → length (digits b k n) ≡ k
unfolding digits
digits-length b zero n = refl
digits-length b (suc k) n = omega (arith, length-append (digits b k (n / b)) (glyph (n % b) ∷ []), digits-length b k (n / b))

pub digits_more : (cur : List ℕ) (at b j n : ℕ) → at + j < length cur → over (set cur (at + j) (glyph (n % b))) at (digits b j (n / b)) ≡ over cur at (digits b (suc j) n)
unfolding digits
digits_more cur at b j n h =
    ap (λ (x : List ℕ). over x at (digits b j (n / b))) (set-over cur (at + j) (glyph (n % b)) h)
    ∙ over-before cur at (at + j) (digits b j (n / b)) (glyph (n % b) ∷ []) (omega arith) (ap (λ (k : ℕ). at + k) (digits-length b j (n / b)))

-- no digits left
pub digits-done : (cur : List ℕ) (at b i n : ℕ) → i ≡ 0 → over cur at (digits b i n) ≡ cur
unfolding digits
digits-done cur at b i n e = ap (λ (k : ℕ). over cur at (digits b k n)) e ∙ over_nothing cur at

at_most : (c : Bool) (x y k : ℕ) → x ≤ k → y ≤ k → cond c x y ≤ k
at_most true x y k p q = p
at_most false x y k p q = q

below : (n m x y : ℕ) → x ≤ 10 → y ≤ 10 → cond (ltb n m) x y ≤ 10
below n m x y = at_most (ltb n m) x y 10

pub places-at-most : (n : ℕ) → places n ≤ 10
unfolding places
places-at-most n =
    below n 10 1 _ (omega arith)
    (below n 100 2 _ (omega arith)
    (below n 1000 3 _ (omega arith)
    (below n 10000 4 _ (omega arith)
    (below n 100000 5 _ (omega arith)
    (below n 1000000 6 _ (omega arith)
    (below n 10000000 7 _ (omega arith)
    (below n 100000000 8 _ (omega arith) (below n 1000000000 9 10 (omega arith) (omega arith)))))))))
