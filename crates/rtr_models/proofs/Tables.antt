-- One argument for every table of numbers: where each value's number finds the value again, a number finds a value exactly when it is the
-- value's, and finds none exactly when it is no value's. Assumes nothing.
use Rattle.std.specs.Prelude.{Some, None}
use Prim.Native.Nat.{ℕ}
use mathlib.Core.Bool.{Bool, true, false}
use mathlib.Core.List.{List, [], ◌∷◌}
use mathlib.Core.Logic.{◌⊎◌, inl, inr, ⊎_elim, ◌↔◌}
use mathlib.Core.Path.{◌≡◌, refl, sym, ◌∙◌, ap}
use borrow.Author.Tests.{eqb-true}
use lib.Dec.{eqb}
use Rattle.std.proofs.lemmas.Option.{none-some, same_Some}
use Rattle.rtr_models.specs.Codes.{found}

module _ {A : Type 0} (number : A → ℕ) where
  -- what the search answers: a value with the number, or none
  found-or-not : (all : List A) (n : ℕ) → ((a : A) × (found number Some None all n ≡ Some a) × (n ≡ number a)) ⊎ (found number Some None all n ≡ None)
  found-or-not [] n = inr refl
  found-or-not (a ∷ rest) n = go (found-or-not rest n) (eqb n (number a)) refl
    where
      go : ((x : A) × (found number Some None rest n ≡ Some x) × (n ≡ number x)) ⊎ (found number Some None rest n ≡ None) → (b : Bool) → eqb n (number a) ≡ b → ((x : A) × (found number Some None (a ∷ rest) n ≡ Some x) × (n ≡ number x)) ⊎ (found number Some None (a ∷ rest) n ≡ None)
      go ih true e = inl (a, rw e, eqb-true n (number a) e)
      go ih false e = rw e ih

  module _ (all : List A) (comes_back : (a : A) → found number Some None all (number a) ≡ Some a) where
    pub finds-its-own : (n : ℕ) (a : A) → found number Some None all n ≡ Some a ↔ (n ≡ number a)
    finds-its-own n a = (
      λ e. ⊎_elim (λ w. w.2 ∙ ap number (same_Some w.0 a (sym w.1 ∙ e))) (λ w. absurd (none-some a (sym w ∙ e))) (found-or-not all n),
      λ e. ap (found number Some None all) e ∙ comes_back a,
    )

    pub finds-none : (n : ℕ) → found number Some None all n ≡ None ↔ ((a : A) → n ≡ number a → ⊥)
    finds-none n = (
      λ e a h. none-some a (sym e ∙ (finds-its-own n a).1 h),
      λ h. ⊎_elim (λ w. absurd (h w.0 w.2)) (λ w. w) (found-or-not all n),
    )
