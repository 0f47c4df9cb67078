-- A guess stands where its own numbers are those given, and nowhere else: said once, of any value that is known by its numbers. Assumes nothing.
use Rattle.std.specs.Prelude.{Option, Some, None}
use Rattle.std.specs.Bool.{then_some}
use Prim.Native.Nat.{ℕ}
use mathlib.Core.Bool.{Bool, true, false, cond}
use mathlib.Core.List.{List}
use mathlib.Core.Logic.{◌↔◌}
use mathlib.Core.Path.{◌≡◌, refl, sym, ap, ◌∙◌, subst}
use Rattle.rtr_numbers.specs.Back.{alike}
use Rattle.rtr_numbers.proofs.Lists.{alike_refl, alike_same}

module _ {A F : Type 0} (numbers : A → List ℕ) (known : A → F) (unknown : F) where
  -- what is answered of a guess
  abbrev pub found_as : A → List ℕ → F
  found_as x n = cond (alike (numbers x) n) (known x) unknown

  -- where a guess always fits, and what fits is guessed from its numbers, a value is known exactly by its numbers
  pub known-exactly : (Fits : A → Type 0) (guess : List ℕ → A) →
      ((n : List ℕ) → Fits (guess n)) →
      ((x : A) → Fits x → guess (numbers x) ≡ x) →
      ((x y : A) → known x ≡ known y → x ≡ y) →
      ((x : A) → unknown ≡ known x → ⊥) →
      (n : List ℕ) (x : A) →
      (found_as (guess n) n ≡ known x) ↔ (Fits x × (n ≡ numbers x))
  known-exactly Fits guess fits back same apart n x = (go (alike (numbers (guess n)) n) refl, whole)
    where
      go : (b : Bool) → alike (numbers (guess n)) n ≡ b → cond b (known (guess n)) unknown ≡ known x → Fits x × (n ≡ numbers x)
      go true p e = let is = same (guess n) x e in (subst Fits is (fits n), sym (alike_same (numbers (guess n)) n p) ∙ ap numbers is)
      go false p e = absurd (apart x e)

      whole : Fits x × (n ≡ numbers x) → found_as (guess n) n ≡ known x
      whole h =
          (λ i. found_as (guess (h.1 i)) (h.1 i))
          ∙ ap (λ (y : A). found_as y (numbers x)) (back x h.0)
          ∙ ap (λ (b : Bool). cond b (known x) unknown) (alike_refl (numbers x))

-- the code guesses, writes the guess's numbers, tests them, and answers by the test
module _ {A : Type 0} (numbers : A → List ℕ) where
  pub guess-by-test : (x guess : A) (said n : List ℕ) (t : Bool) (r : Option A) → x ≡ guess → said ≡ numbers x → t ≡ alike said n → r ≡ then_some t x → r ≡ found_as numbers Some None guess n
  guess-by-test x guess said n t r is p q e =
      e ∙ by-case t x ∙ ap (λ (y : Bool). cond y (Some x) None) (q ∙ ap (λ (l : List ℕ). alike l n) p) ∙ ap (λ (y : A). found_as numbers Some None y n) is
    where
      by-case : (b : Bool) (y : A) → then_some b y ≡ cond b (Some y) None
      by-case true y = refl
      by-case false y = refl
