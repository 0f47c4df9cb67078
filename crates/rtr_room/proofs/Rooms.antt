-- What a look-up's tests say of what it finds; what its answer says back to entering and leaving, as each answer can come from one case
-- alone; and that a shift and a store of six numbers are the definition's putting in and taking out. Assumes nothing.
use Prim.Native.Nat.{ℕ, ◌+◌, ◌-◌, ◌*◌, ◌≤◌, ◌<◌}
use mathlib.Core.Bool.{Bool, true, false, cond}
use mathlib.Core.List.{List, ◌++◌, append_assoc}
use mathlib.Core.Path.{◌≡◌, refl, sym, ap, ◌∙◌}
use native.Mathlib.Omega.{arith}
use lib.ListN.{length, take, drop, replicate, length-append, length-drop}
use lib.Seq.{length-take-le, take-append-le, take-take, take_at, drop_at, drop-append-add, drop-drop}
use lib.Dec.{leb, ltb}
use borrow.Author.Tests.{lt-ltb, le-ltb, lt-leb, le-leb, eq-eqb, ne_eqb, ltb-true, leb-true}
use Rattle.rtr_room.specs.Table.{same}
use Rattle.rtr_room.specs.Room.{numbers, record_at, limit_of, place, stands, put_in, take_out, look_up, entered, gone, keeps}
use Rattle.rtr_room.specs.Room.Found.{stands_at, missing_at, refused}
use Rattle.rtr_room.specs.Room.Said.{counted}
use Rattle.rtr_room.specs.declared.Record.{Record}
use Rattle.rtr_room.proofs.Laws.Tests.{first_of}
use Rattle.rtr_room.proofs.Lists.{up, down}
use Rattle.rtr_room.proofs.Places.{place-le, place_tests}

-- ---- a look-up's answer tells its tests

told-refused : (l t : Bool) (q : ℕ) → refused 22 ≡ cond l (cond t (stands_at q) (missing_at q)) (refused 22) → l ≡ false
told-refused false t q e = refl
told-refused true true q e = let z : ◌≡◌ {A = ℕ} 0 1 = cc in absurd (omega arith)
told-refused true false q e = let z : ◌≡◌ {A = ℕ} 0 1 = cc in absurd (omega arith)

told-stands : (l t : Bool) (p q : ℕ) → stands_at p ≡ cond l (cond t (stands_at q) (missing_at q)) (refused 22) → (l ≡ true) × (t ≡ true) × (p ≡ q)
told-stands false t p q e = let z : ◌≡◌ {A = ℕ} 0 1 = cc in absurd (omega arith)
told-stands true true p q e = (refl, refl, cc)
told-stands true false p q e = let z : ◌≡◌ {A = ℕ} 0 1 = cc in absurd (omega arith)

told-missing : (l t : Bool) (p q : ℕ) → missing_at p ≡ cond l (cond t (stands_at q) (missing_at q)) (refused 22) → (l ≡ true) × (t ≡ false) × (p ≡ q)
told-missing false t p q e = let z : ◌≡◌ {A = ℕ} 0 1 = cc in absurd (omega arith)
told-missing true true p q e = let z : ◌≡◌ {A = ℕ} 0 1 = cc in absurd (omega arith)
told-missing true false p q e = (refl, refl, cc)

-- ---- a shift and a store

up-put : (s : List ℕ) (p count : ℕ) (r : Record) → 6 * p + 6 ≤ length s
    → take (6 * p) (up s (6 * p) (6 * count)) ++ (numbers r ++ drop (6 * p + 6) (up s (6 * p) (6 * count))) ≡ put_in p r count s
unfolding put_in
up-put s p count r h =
    let front : List ℕ = take (6 * p + 6) s in
    let rest : List ℕ = take (6 * count - 6 * p) (drop (6 * p) s) ++ drop (6 * count + 6) s in
    let long : length front ≡ 6 * p + 6 = length-take-le (6 * p + 6) s h in
    let a : take (6 * p) (front ++ rest) ≡ take (6 * p) s =
    take-append-le (6 * p) front rest (omega arith) ∙ take-take (6 * p) (6 * p + 6) s (omega arith) in
    let b : drop (6 * p + 6) (front ++ rest) ≡ rest = drop_at front rest (6 * p + 6) long in
    ap (λ (x : List ℕ). x ++ (numbers r ++ drop (6 * p + 6) (front ++ rest))) a ∙ ap (λ (x : List ℕ). take (6 * p) s ++ (numbers r ++ x)) b

down-put : (s : List ℕ) (p count : ℕ) → 6 * p + 6 ≤ 6 * count → 6 * count ≤ length s
    → take (6 * count - 6) (down s (6 * p) (6 * count - 6)) ++ (replicate 6 0 ++ drop (6 * count - 6 + 6) (down s (6 * p) (6 * count - 6))) ≡ take_out p count s
unfolding take_out
down-put s p count h k =
    let q : ℕ = 6 * count - 6 in
    let front : List ℕ = take (6 * p) s in
    let middle : List ℕ = take (q - 6 * p) (drop (6 * p + 6) s) in
    let long : length (front ++ middle) ≡ q =
    simp (length-append, length-take-le (6 * p) s (omega arith), length-take-le (q - 6 * p) (drop (6 * p + 6) s) (simp length-drop (omega arith))) (omega arith) in
    let joined : down s (6 * p) q ≡ (front ++ middle) ++ drop q s = sym (append_assoc front middle (drop q s)) in
    let a : take q (down s (6 * p) q) ≡ front ++ middle = ap (take q) joined ∙ take_at (front ++ middle) (drop q s) q long in
    let full : q + 6 ≡ 6 * count = omega arith in
    let b : drop (q + 6) (down s (6 * p) q) ≡ drop (6 * count) s =
    ap (drop (q + 6)) joined
    ∙ ap (λ (n : ℕ). drop (n + 6) ((front ++ middle) ++ drop q s)) (sym long)
    ∙ drop-append-add (front ++ middle) (drop q s) 6
    ∙ drop-drop 6 q s
    ∙ ap (λ (n : ℕ). drop n s) full in
    ap (λ (x : List ℕ). x ++ (replicate 6 0 ++ drop (q + 6) (down s (6 * p) q))) a
    ∙ ap (λ (x : List ℕ). (front ++ middle) ++ (replicate 6 0 ++ x)) b
    ∙ append_assoc front middle (replicate 6 0 ++ drop (6 * count) s)

module _ (s : List ℕ) (count : ℕ) (r : Record) where
  -- ---- the look-up, from its tests

  pub too_many : limit_of s < count → refused 22 ≡ look_up s count r
  unfolding look_up
  too_many h = rw (lt-leb count (limit_of s) h)

  module _ (fits : count ≤ limit_of s) (p : ℕ) (e : p ≡ place s count r) where
    missing : stands s count r ≡ false → missing_at p ≡ look_up s count r
    unfolding look_up
    missing f = rw (le-leb count (limit_of s) fits, f, e)

    pub behind-all : p ≡ count → missing_at p ≡ look_up s count r
    unfolding stands
    behind-all h = missing (rw (le-ltb (place s count r) count (omega arith)))

    pub another : p < count → same (record_at s p) r ≡ false → missing_at p ≡ look_up s count r
    unfolding stands
    another h f = missing (rw (lt-ltb (place s count r) count (omega arith), rw e at f))

    pub there : p < count → same (record_at s p) r ≡ true → stands_at p ≡ look_up s count r
    unfolding look_up stands
    there h f = rw (le-leb count (limit_of s) fits, lt-ltb (place s count r) count (omega arith), rw e at f, e)

  -- ---- entering and leaving, from what the look-up says

  not-a-room : refused 22 ≡ look_up s count r → leb count (limit_of s) ≡ false
  unfolding look_up
  not-a-room e = told-refused (leb count (limit_of s)) (stands s count r) (place s count r) e

  pub enter-not-a-room : refused 22 ≡ look_up s count r → keeps 22 s ≡ entered s count r
  unfolding entered
  enter-not-a-room e = rw (not-a-room e)

  pub leave-not-a-room : refused 22 ≡ look_up s count r → keeps 22 s ≡ gone s count r
  unfolding gone
  leave-not-a-room e = rw (not-a-room e)

  module _ (p : ℕ) (e : stands_at p ≡ look_up s count r) where
    found-there : (leb count (limit_of s) ≡ true) × (stands s count r ≡ true) × (p ≡ place s count r)
    unfolding look_up
    found-there = told-stands (leb count (limit_of s)) (stands s count r) p (place s count r) e

    pub fits-there : count ≤ limit_of s
    fits-there = leb-true count (limit_of s) found-there.0

    pub below : p < count
    unfolding stands
    below =
        let q = ltb-true (place s count r) count (first_of (ltb (place s count r) count) (same (record_at s (place s count r)) r) found-there.1) in
        omega (arith, found-there.2)

    pub already-in : keeps 17 s ≡ entered s count r
    unfolding entered
    already-in = rw (found-there.0, found-there.1)

    pub left-from : (shifted out : List ℕ) → shifted ≡ down s (6 * p) (6 * count - 6)
        → out ≡ take (6 * count - 6) shifted ++ (replicate 6 0 ++ drop (6 * count - 6 + 6) shifted)
        → record { says = counted (count - 1); left = out } ≡ gone s count r
    unfolding gone
    left-from shifted out f g =
        let b = below in
        let k = fits-there in
        rw (found-there.0, found-there.1, ← found-there.2)
        (ap (λ (l : List ℕ). record { says = counted (count - 1); left = l })
        (g
        ∙ ap (λ (l : List ℕ). take (6 * count - 6) l ++ (replicate 6 0 ++ drop (6 * count - 6 + 6) l)) f
        ∙ down-put s p count (omega arith) (omega arith)))

  module _ (p : ℕ) (e : missing_at p ≡ look_up s count r) where
    not_there : (leb count (limit_of s) ≡ true) × (stands s count r ≡ false) × (p ≡ place s count r)
    unfolding look_up
    not_there = told-missing (leb count (limit_of s)) (stands s count r) p (place s count r) e

    pub fits-missing : count ≤ limit_of s
    fits-missing = leb-true count (limit_of s) not_there.0

    pub at_most : p ≤ count
    at_most = omega (arith, not_there.2, place-le s r count)

    pub not_in : keeps 16 s ≡ gone s count r
    unfolding gone
    not_in = rw (not_there.0, not_there.1)

    pub full : count ≡ limit_of s → keeps 18 s ≡ entered s count r
    unfolding entered
    full h = rw (not_there.0, not_there.1, eq-eqb count (limit_of s) h)

    pub put-at : (count ≡ limit_of s → ⊥) → (shifted out : List ℕ) → shifted ≡ up s (6 * p) (6 * count)
        → out ≡ take (6 * p) shifted ++ (numbers r ++ drop (6 * p + 6) shifted)
        → record { says = counted (count + 1); left = out } ≡ entered s count r
    unfolding entered
    put-at h shifted out f g =
        let a = at_most in
        let k = fits-missing in
        rw (not_there.0, not_there.1, ne_eqb count (limit_of s) h, ← not_there.2)
        (ap (λ (l : List ℕ). record { says = counted (count + 1); left = l })
        (g ∙ ap (λ (l : List ℕ). take (6 * p) l ++ (numbers r ++ drop (6 * p + 6) l)) f ∙ up-put s p count r (omega arith)))

-- what the goals of `look_up` are proved by
pub ruleset look_up_tests = (place_tests, too_many, behind-all, another, there)

-- what a look-up's answer says to entering and leaving: of its place and of the count, and what each refusal comes to
pub ruleset look_up_tells = (below, fits-there, at_most, fits-missing, enter-not-a-room, already-in, full, leave-not-a-room, not_in)
