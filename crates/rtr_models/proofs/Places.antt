-- That a place fits, compared without a sum: where a ≤ n, l ≤ n - a and a + l ≤ n are one test. Assumes nothing.
use Prim.Native.Nat.{ℕ, ◌+◌, ◌-◌, ◌≤◌, ◌<◌}
use mathlib.Core.Bool.{Bool, true, false}
use mathlib.Core.Path.{◌≡◌, refl, sym, ap, ◌∙◌}
use native.Mathlib.Nat.{zero-add}
use native.Mathlib.Omega.{arith}
use borrow.Author.Tests.{leb-true, leb-false, le-leb, lt-leb}
use lib.Dec.{leb}

pub fits-is : (a l n : ℕ) → a ≤ n → leb l (n - a) ≡ leb (a + l) n
fits-is a l n h = go (leb l (n - a)) refl
  where
    go : (b : Bool) → leb l (n - a) ≡ b → leb l (n - a) ≡ leb (a + l) n
    go true e = e ∙ sym (le-leb (a + l) n (omega (arith, leb-true l (n - a) e)))
    go false e = e ∙ sym (lt-leb (a + l) n (omega (arith, leb-false l (n - a) e)))

pub starts-behind : (a l n : ℕ) → n < a → false ≡ leb (a + l) n
starts-behind a l n h = sym (lt-leb (a + l) n (omega arith))

-- an empty part of a slice starts where the slice does
pub unmoved : (p : ℕ × ℕ) → p ≡ (p.0, 0 + p.1)
unmoved p = ap (λ (k : ℕ). (p.0, k)) (sym (zero-add p.1))
