-- Texts compared: two are the same exactly where they are equal, and a name found at the front of a line leaves its value. Assumes nothing.
use Prim.Native.Nat.{ℕ, suc, ◌<◌}
use mathlib.Core.Bool.{Bool, true, false, cond, ◌&&◌, false≢true}
use mathlib.Core.List.{List, [], ◌∷◌, ◌++◌}
use mathlib.Core.Path.{◌≡◌, refl, sym, ap, ◌∙◌}
use native.Mathlib.Omega.{arith}
use borrow.Author.Tests.{eqb-true, eq-eqb}
use lib.Dec.{eqb}
use lib.ListN.{length, get_or, take, drop, take-append-drop}
use lib.Seq.{take_at, drop_at, drop-cons, drop-length}
use Rattle.rtr_room.proofs.Laws.Tests.{first_of, second-of, both, unless}
use Rattle.rtr_listed.specs.Listed.{Fit, fitting, same_text, named}
use Rattle.rtr_listed.specs.Listed.Fit.{fits, misfits}

pub same-equal : (s t : List ℕ) → same_text s t ≡ true → s ≡ t
unfolding same_text
same-equal [] [] h = refl
same-equal [] (y ∷ t) h = absurd (false≢true h)
same-equal (x ∷ s) [] h = absurd (false≢true h)
same-equal (x ∷ s) (y ∷ t) h =
    let head : x ≡ y = eqb-true x y (first_of (eqb x y) _ h) in
    let tail : s ≡ t = same-equal s t (second-of (eqb x y) _ h) in
    λ i. head i ∷ tail i

pub same_refl : (s : List ℕ) → same_text s s ≡ true
unfolding same_text
same_refl [] = refl
same_refl (x ∷ s) = both (eqb x x) _ (eq-eqb x x refl) (same_refl s)

pub equal-same : (s t : List ℕ) → s ≡ t → same_text s t ≡ true
equal-same s t e = ap (λ (x : List ℕ). same_text x t) e ∙ same_refl t

pub other-same : (s t : List ℕ) → (s ≡ t → ⊥) → same_text s t ≡ false
other-same s t h = unless (same_text s t) (λ e. h (same-equal s t e))

-- texts of other lengths are others
pub length-other : (s t : List ℕ) → (length s ≡ length t → ⊥) → same_text s t ≡ false
length-other s t h = other-same s t (λ e. h (ap length e))

-- compared byte by byte from a place on
pub same_next : (s t : List ℕ) (i : ℕ) → i < length s → i < length t → same_text (drop i s) (drop i t) ≡ (eqb (get_or s i 0) (get_or t i 0) && same_text (drop (suc i) s) (drop (suc i) t))
unfolding same_text
same_next s t i h k = rw (drop-cons s i 0 h, drop-cons t i 0 k)

pub same-done : (s t : List ℕ) → length s ≡ length t → (i : ℕ) → i ≡ length s → same_text (drop i s) (drop i t) ≡ true
same-done s t e i f =
    let a : drop i s ≡ [] = ap (λ (k : ℕ). drop k s) f ∙ drop-length s in
    let b : drop i t ≡ [] = ap (λ (k : ℕ). drop k t) (f ∙ e) ∙ drop-length t in
    equal-same (drop i s) (drop i t) (a ∙ sym b)

-- a line of the name and a value
pub named_value : {A : Type 0} (name value : List ℕ) (reads : List ℕ → Fit A) → named name reads (name ++ value) ≡ reads value
named_value name value reads =
    let front : take (length name) (name ++ value) ≡ name = take_at name value (length name) refl in
    let rest : drop (length name) (name ++ value) ≡ value = drop_at name value (length name) refl in
    rw (front, rest, same_refl name)

-- and what has a value by a name is such a line
pub named-fits : {A : Type 0} (name s : List ℕ) (reads : List ℕ → Fit A) (a : A) → named name reads s ≡ fits a → (value : List ℕ) × (s ≡ name ++ value) × (reads value ≡ fits a)
named-fits {A} name s reads a e = go (same_text (take (length name) s) name) refl e
  where
    go : (b : Bool) → same_text (take (length name) s) name ≡ b → cond b (reads (drop (length name) s)) misfits ≡ fits a → (value : List ℕ) × (s ≡ name ++ value) × (reads value ≡ fits a)
    go true p q =
        let front : take (length name) s ≡ name = same-equal (take (length name) s) name p in
        (drop (length name) s, sym (take-append-drop (length name) s) ∙ ap (λ (x : List ℕ). x ++ drop (length name) s) front, q)
    go false p q = let z : ◌≡◌ {A = ℕ} 0 1 = cc in absurd (omega arith)

-- a whole line is a name with nothing behind it
pub whole-line : {A : Type 0} (name s : List ℕ) (a : A) → named name (λ rest. fitting (same_text rest []) a) s ≡ fitting (same_text s name) a
unfolding same_text
whole-line [] s a = refl
whole-line (x ∷ name) [] a = refl
whole-line {A} (x ∷ name) (y ∷ s) a = go (eqb y x) (whole-line name s a)
  where
    go : (b : Bool) → named name (λ rest. fitting (same_text rest []) a) s ≡ fitting (same_text s name) a →
        cond (b && same_text (take (length name) s) name) (fitting (same_text (drop (length name) s) []) a) misfits ≡ fitting (b && same_text s name) a
    go true rest = rest
    go false rest = refl
