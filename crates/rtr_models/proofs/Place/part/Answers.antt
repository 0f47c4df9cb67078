-- `Place::part` hands over the bytes from start to start + len where the test holds, which are len bytes from start. Assumes nothing.
use mathlib.Core.Path.{◌∙◌, sym, ap, refl}
use Prim.Native.Nat.{ℕ, ◌+◌}
use native.Mathlib.Nat.{add-sub_cancel_left}
use native.Mathlib.Omega.{arith}
use borrow.Author.Tests.{leb-true}
use lib.ListN.{length, take, drop}
use Rattle.rtr_models.proofs.Places.{unmoved}
use Rattle.rtr_models.proofs.Place.part.Goals as goal

pub overflow_add-result : goal.overflow_add-result
overflow_add-result c =
    let a = c.args in
    omega (arith, leb-true (a.self.start + a.self.len) (length a.input.now) (sym c.is_inside.ensures ∙ c.if-is_inside.true))

pub returns-then-is_inside : goal.returns-then-is_inside
returns-then-is_inside c =
    let a = c.args in
    simp (← c.is_inside.ensures, c.if-is_inside.true)
    (ap (λ (k : ℕ). take k (drop a.self.start a.input.now)) (add-sub_cancel_left a.self.start a.self.len), refl)

pub returns : goal.returns
returns c = simp (← c.is_inside.ensures, c.if-is_inside.false) (refl, unmoved c.args.input.ref_ptr)
