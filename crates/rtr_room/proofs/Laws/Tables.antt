-- A table as a list: entering a record that is not in keeps the order and the rules, and adds that record alone; leaving keeps both and takes
-- that record alone; and two tables with the same members are one. Each goes by the list, the order's laws saying where a record can
-- stand: the first record is before all others, so no record stands twice. Assumes nothing.
use Prim.Native.Nat.{ℕ, suc, ◌<◌, ◌≤◌}
use mathlib.Core.Bool.{Bool, true, false, cond, not, ◌&&◌, ◌||◌, true≢false, false≢true, or-true}
use mathlib.Core.List.{List, [], ◌∷◌}
use mathlib.Core.Logic.{◌↔◌, ◌⊎◌, inl, inr}
use mathlib.Core.Path.{◌≡◌, refl, sym, ap, ◌∙◌, subst}
use native.Mathlib.Omega.{arith}
use borrow.Author.Tests.{leb-false, lt-leb}
use lib.Dec.{leb}
use lib.ListN.{length}
use Rattle.rtr_room.specs.Table.{before, same, is_in, insert, remove, in_rule, above, ordered, all_in_rule, is_table, enter, leave}
use Rattle.rtr_room.specs.Table.Change.{changed, refused}
use Rattle.rtr_room.specs.declared.Record.{Record}
use Rattle.rtr_room.proofs.Laws.Tests.{first_of, second-of, both, not-both, unless}
use Rattle.rtr_room.proofs.Laws.Order.{before-irreflexive, before-transitive, before-asymmetric, same-is-equal, before-not-same, after-not-same, Sides, sides}
use Rattle.rtr_room.proofs.Laws.Order.Sides.{before-it, the_same, behind-it}

pub empty-table : is_table [] ≡ true
unfolding all_in_rule ordered
empty-table = refl

-- the parts of an ordered list
pub ordered-above : (x : Record) (t : List Record) → ordered (x ∷ t) ≡ true → above x t ≡ true
unfolding ordered
ordered-above x t h = first_of _ _ h

pub ordered-tail : (x : Record) (t : List Record) → ordered (x ∷ t) ≡ true → ordered t ≡ true
unfolding ordered
ordered-tail x t h = second-of (above x t) _ h

pub ordered-cons : (x : Record) (t : List Record) → above x t ≡ true → ordered t ≡ true → ordered (x ∷ t) ≡ true
unfolding ordered
ordered-cons x t p q = both _ _ p q

-- what is before the first record is before what follows it
above-next : (y x : Record) (t : List Record) → before y x ≡ true → ordered (x ∷ t) ≡ true → above y t ≡ true
above-next y x [] p h = refl
above-next y x (z ∷ t) p h = before-transitive y x z p (ordered-above x (z ∷ t) h)

-- the first of an ordered list is before each other, and stands once
pub first-before : (x y : Record) (t : List Record) → ordered (x ∷ t) ≡ true → is_in y t ≡ true → before x y ≡ true
unfolding is_in
first-before x y [] h i = absurd (false≢true i)
first-before x y (z ∷ t) h i = go (same z y) refl (first-before z y t (ordered-tail x (z ∷ t) h))
  where
    go : (b : Bool) → same z y ≡ b → (is_in y t ≡ true → before z y ≡ true) → before x y ≡ true
    go true e rest = rw (← ((same-is-equal z y).0 e)) (ordered-above x (z ∷ t) h)
    go false e rest = before-transitive x z y (ordered-above x (z ∷ t) h) (rest (rw e at i))

pub first-once : (x : Record) (t : List Record) → ordered (x ∷ t) ≡ true → is_in x t ≡ false
first-once x t h = unless (is_in x t) (λ i. not-both _ (first-before x x t h i) (before-irreflexive x))

pub is_in-first : (x : Record) (t : List Record) → is_in x (x ∷ t) ≡ true
unfolding is_in
is_in-first x t = rw ((same-is-equal x x).1 refl)

pub is_in-later : (x y : Record) (t : List Record) → is_in y t ≡ true → is_in y (x ∷ t) ≡ true
unfolding is_in
is_in-later x y t i = rw (i, or-true (same x y))

-- a table by its first record
pub table-next : (r : Record) (t : List Record) → is_table (r ∷ t) ≡ true ↔ ((in_rule r ≡ true) × (above r t ≡ true) × (is_table t ≡ true))
unfolding all_in_rule ordered
table-next r t = (
  λ h.
      let rules = first_of (in_rule r && all_in_rule t) _ h in
      let order = second-of (in_rule r && all_in_rule t) _ h in
      (first_of (in_rule r) _ rules, first_of (above r t) _ order, both _ _ (second-of (in_rule r) _ rules) (second-of (above r t) _ order)),
  λ p. both _ _ (both _ _ p.0 (first_of _ _ p.2)) (both _ _ p.1 (second-of (all_in_rule t) _ p.2)),
)

-- entering
above-insert : (y r : Record) (t : List Record) → before y r ≡ true → above y t ≡ true → above y (insert r t) ≡ true
unfolding insert
above-insert y r [] p h = p
above-insert y r (z ∷ t) p h = go (before z r)
  where
    go : (b : Bool) → above y (cond b (z ∷ insert r t) (r ∷ z ∷ t)) ≡ true
    go true = h
    go false = p

pub enter-keeps-order : (r : Record) (t : List Record) → ordered t ≡ true → is_in r t ≡ false → ordered (insert r t) ≡ true
unfolding insert is_in
enter-keeps-order r [] h i = ordered-cons r [] refl h
enter-keeps-order r (x ∷ t) h i = go (sides x r) (λ j. enter-keeps-order r t (ordered-tail x t h) j)
  where
    go : Sides x r → (is_in r t ≡ false → ordered (insert r t) ≡ true) → ordered (cond (before x r) (x ∷ insert r t) (r ∷ x ∷ t)) ≡ true
    go (before-it e) rest =
        rw e (ordered-cons x (insert r t) (above-insert x r t e (ordered-above x t h)) (rest (rw (before-not-same x r e) at i)))
    go (the_same e) rest = absurd (true≢false (rw ((same-is-equal x r).1 e) at i))
    go (behind-it e) rest = rw (before-asymmetric r x e) (ordered-cons r (x ∷ t) e h)

pub enter-keeps-in-rule : (r : Record) (t : List Record) → all_in_rule t ≡ true → in_rule r ≡ true → all_in_rule (insert r t) ≡ true
unfolding insert all_in_rule
enter-keeps-in-rule r [] h i = both _ _ i refl
enter-keeps-in-rule r (x ∷ t) h i = go (before x r) (enter-keeps-in-rule r t (second-of (in_rule x) _ h) i)
  where
    go : (b : Bool) → all_in_rule (insert r t) ≡ true → all_in_rule (cond b (x ∷ insert r t) (r ∷ x ∷ t)) ≡ true
    go true rest = both _ _ (first_of (in_rule x) (all_in_rule t) h) rest
    go false rest = both _ _ i h

pub enter-keeps-rules : (r : Record) (t : List Record) → is_table t ≡ true → in_rule r ≡ true → is_in r t ≡ false → is_table (insert r t) ≡ true
enter-keeps-rules r t h i j =
    both _ _ (enter-keeps-in-rule r t (first_of _ _ h) i) (enter-keeps-order r t (second-of (all_in_rule t) _ h) j)

pub insert-length : (r : Record) (t : List Record) → length (insert r t) ≡ suc (length t)
unfolding insert
insert-length r [] = refl
insert-length r (x ∷ t) = go (before x r) (insert-length r t)
  where
    go : (b : Bool) → length (insert r t) ≡ suc (length t) → length (cond b (x ∷ insert r t) (r ∷ x ∷ t)) ≡ suc (suc (length t))
    go true rest = ap suc rest
    go false rest = refl

pub or_swap : (a b c : Bool) → a || (b || c) ≡ (b || (a || c))
or_swap true true c = refl
or_swap true false c = refl
or_swap false true c = refl
or_swap false false c = refl

pub insert-membership : (r x : Record) (t : List Record) → is_in x (insert r t) ≡ (same r x || is_in x t)
unfolding insert is_in
insert-membership r x [] = refl
insert-membership r x (y ∷ t) = go (before y r) (insert-membership r x t)
  where
    go : (b : Bool) → is_in x (insert r t) ≡ (same r x || is_in x t) → is_in x (cond b (y ∷ insert r t) (r ∷ y ∷ t)) ≡ (same r x || (same y x || is_in x t))
    go true rest = ap (λ (q : Bool). same y x || q) rest ∙ or_swap (same y x) (same r x) (is_in x t)
    go false rest = refl

-- leaving
above-remove : (y r : Record) (t : List Record) → ordered t ≡ true → above y t ≡ true → above y (remove r t) ≡ true
unfolding remove
above-remove y r [] h p = refl
above-remove y r (x ∷ t) h p = go (same x r)
  where
    go : (b : Bool) → above y (cond b t (x ∷ remove r t)) ≡ true
    go true = above-next y x t p h
    go false = p

pub leave-keeps-order : (r : Record) (t : List Record) → ordered t ≡ true → ordered (remove r t) ≡ true
unfolding remove
leave-keeps-order r [] h = h
leave-keeps-order r (x ∷ t) h = go (same x r) (leave-keeps-order r t (ordered-tail x t h))
  where
    go : (b : Bool) → ordered (remove r t) ≡ true → ordered (cond b t (x ∷ remove r t)) ≡ true
    go true rest = ordered-tail x t h
    go false rest = ordered-cons x (remove r t) (above-remove x r t (ordered-tail x t h) (ordered-above x t h)) rest

leave-keeps-in-rule : (r : Record) (t : List Record) → all_in_rule t ≡ true → all_in_rule (remove r t) ≡ true
unfolding remove all_in_rule
leave-keeps-in-rule r [] h = h
leave-keeps-in-rule r (x ∷ t) h = go (same x r) (leave-keeps-in-rule r t (second-of (in_rule x) _ h))
  where
    go : (b : Bool) → all_in_rule (remove r t) ≡ true → all_in_rule (cond b t (x ∷ remove r t)) ≡ true
    go true rest = second-of (in_rule x) _ h
    go false rest = both _ _ (first_of (in_rule x) (all_in_rule t) h) rest

pub leave-keeps-rules : (r : Record) (t : List Record) → is_table t ≡ true → is_table (remove r t) ≡ true
leave-keeps-rules r t h = both _ _ (leave-keeps-in-rule r t (first_of _ _ h)) (leave-keeps-order r t (second-of (all_in_rule t) _ h))

pub remove-length : (r : Record) (t : List Record) → is_in r t ≡ true → suc (length (remove r t)) ≡ length t
unfolding remove is_in
remove-length r [] i = absurd (false≢true i)
remove-length r (x ∷ t) i = go (same x r) refl (remove-length r t)
  where
    go : (b : Bool) → same x r ≡ b → (is_in r t ≡ true → suc (length (remove r t)) ≡ length t) → suc (length (cond b t (x ∷ remove r t))) ≡ suc (length t)
    go true e rest = refl
    go false e rest = ap suc (rest (rw e at i))

remove-membership : (r x : Record) (t : List Record) → ordered t ≡ true → is_in x (remove r t) ≡ (not (same r x) && is_in x t)
unfolding remove is_in
remove-membership r x [] h = go (same r x)
  where
    go : (b : Bool) → false ≡ (not b && false)
    go true = refl
    go false = refl
remove-membership r x (y ∷ t) h = go (same y r) refl (same r x) refl (remove-membership r x t (ordered-tail y t h))
  where
    here : (c : Bool) → same r x ≡ c → same y r ≡ true → is_in x t ≡ (not c && (same y x || is_in x t))
    here true f e = rw (← ((same-is-equal y r).0 e ∙ (same-is-equal r x).0 f)) (first-once y t h)
    here false f e = rw ((same-is-equal y r).0 e, f)

    there : (c d : Bool) → same r x ≡ c → same y x ≡ d → same y r ≡ false → is_in x (remove r t) ≡ (not c && is_in x t) → (d || is_in x (remove r t)) ≡ (not c && (d || is_in x t))
    there true true f g e rest = absurd (not-both _ ((same-is-equal y r).1 ((same-is-equal y x).0 g ∙ sym ((same-is-equal r x).0 f))) e)
    there true false f g e rest = rest
    there false true f g e rest = refl
    there false false f g e rest = rest

    go : (b : Bool) → same y r ≡ b → (c : Bool) → same r x ≡ c → is_in x (remove r t) ≡ (not (same r x) && is_in x t) → is_in x (cond b t (y ∷ remove r t)) ≡ (not (same r x) && (same y x || is_in x t))
    go true e c f rest = rw f (here c f e)
    go false e c f rest = rw f (there c (same y x) f refl e (rw f at rest))

-- the changes that entering and leaving make
pub entered-is : (limit : ℕ) (r : Record) (t t' : List Record) → enter limit r t ≡ changed t' → (is_in r t ≡ false) × (length t < limit) × (insert r t ≡ t')
unfolding enter
entered-is limit r t t' e = go (is_in r t) refl (leb limit (length t)) refl e
  where
    go : (a : Bool) → is_in r t ≡ a → (b : Bool) → leb limit (length t) ≡ b → cond a (refused 17) (cond b (refused 18) (changed (insert r t))) ≡ changed t' → (is_in r t ≡ false) × (length t < limit) × (insert r t ≡ t')
    go true p b q e = let z : ◌≡◌ {A = ℕ} 0 1 = cc in absurd (omega arith)
    go false p true q e = let z : ◌≡◌ {A = ℕ} 0 1 = cc in absurd (omega arith)
    go false p false q e = (p, leb-false limit (length t) q, cc)

left_is : (r : Record) (t t' : List Record) → leave r t ≡ changed t' → (is_in r t ≡ true) × (remove r t ≡ t')
unfolding leave
left_is r t t' e = go (is_in r t) refl e
  where
    go : (a : Bool) → is_in r t ≡ a → cond a (changed (remove r t)) (refused 16) ≡ changed t' → (is_in r t ≡ true) × (remove r t ≡ t')
    go true p e = (p, cc)
    go false p e = let z : ◌≡◌ {A = ℕ} 0 1 = cc in absurd (omega arith)

-- a record that is not in enters where there is room, and one that is in leaves
pub enter-applies : (limit : ℕ) (r : Record) (t : List Record) → is_in r t ≡ false → length t < limit → enter limit r t ≡ changed (insert r t)
unfolding enter
enter-applies limit r t i h = rw (i, lt-leb limit (length t) h)

pub leave-applies : (r : Record) (t : List Record) → is_in r t ≡ true → leave r t ≡ changed (remove r t)
unfolding leave
leave-applies r t i = rw i

pub enter-keeps : (limit : ℕ) (r : Record) (t t' : List Record) → is_table t ≡ true → in_rule r ≡ true → enter limit r t ≡ changed t' → (is_table t' ≡ true) × (length t' ≡ suc (length t)) × (length t' ≤ limit)
enter-keeps limit r t t' h i e =
    let f : _ = entered-is limit r t t' e in
    rw (← f.2) (enter-keeps-rules r t h i f.0, insert-length r t, omega (arith, insert-length r t, f.1))

pub leave-keeps : (r : Record) (t t' : List Record) → is_table t ≡ true → leave r t ≡ changed t' → (is_table t' ≡ true) × (suc (length t') ≡ length t)
leave-keeps r t t' h e =
    let f : _ = left_is r t t' e in
    rw (← f.1) (leave-keeps-rules r t h, remove-length r t f.0)

-- a refusal to enter is one of two
pub enter-refuses : (limit n : ℕ) (r : Record) (t : List Record) → enter limit r t ≡ refused n → (n ≡ 17) ⊎ (n ≡ 18)
unfolding enter
enter-refuses limit n r t e = go (is_in r t) (leb limit (length t)) e
  where
    go : (a b : Bool) → cond a (refused 17) (cond b (refused 18) (changed (insert r t))) ≡ refused n → (n ≡ 17) ⊎ (n ≡ 18)
    go true b e = inl (cc)
    go false true e = inr (cc)
    go false false e = let z : ◌≡◌ {A = ℕ} 0 1 = cc in absurd (omega arith)

pub leave-refuses : (n : ℕ) (r : Record) (t : List Record) → leave r t ≡ refused n → n ≡ 16
unfolding leave
leave-refuses n r t e = go (is_in r t) e
  where
    go : (a : Bool) → cond a (changed (remove r t)) (refused 16) ≡ refused n → n ≡ 16
    go true e = let z : ◌≡◌ {A = ℕ} 0 1 = cc in absurd (omega arith)
    go false e = cc

pub enter-membership : (limit : ℕ) (r : Record) (t t' : List Record) → enter limit r t ≡ changed t' → (x : Record) → is_in x t' ≡ (same r x || is_in x t)
enter-membership limit r t t' e x = rw (← (entered-is limit r t t' e).2) (insert-membership r x t)

pub leave-membership : (r : Record) (t t' : List Record) → ordered t ≡ true → leave r t ≡ changed t' → (x : Record) → is_in x t' ≡ (not (same r x) && is_in x t)
leave-membership r t t' h e x = rw (← (left_is r t t' e).1) (remove-membership r x t h)

-- a record of one table's front is not in a table whose first record it is before
not-below : (x y : Record) (u : List Record) → before x y ≡ true → ordered (y ∷ u) ≡ true → is_in x (y ∷ u) ≡ false
unfolding is_in
not-below x y u p h =
    rw (after-not-same y x p) (unless (is_in x u) (λ i. not-both _ (before-transitive x y x p (first-before y x u h i)) (before-irreflexive x)))

pub tables-equal : (t u : List Record) → ordered t ≡ true → ordered u ≡ true → ((x : Record) → is_in x t ≡ is_in x u) → t ≡ u
unfolding is_in
tables-equal [] [] h k e = refl
tables-equal [] (y ∷ u) h k e = absurd (true≢false (sym (is_in-first y u) ∙ sym (e y)))
tables-equal (x ∷ t) [] h k e = absurd (true≢false (sym (is_in-first x t) ∙ e x))
tables-equal (x ∷ t) (y ∷ u) h k e = go (sides x y) (tables-equal t u (ordered-tail x t h) (ordered-tail y u k))
  where
    behind : x ≡ y → (z : Record) → (b : Bool) → same x z ≡ b → is_in z t ≡ is_in z u
    behind p z true f =
        let q : x ≡ z = (same-is-equal x z).0 f in
        subst (λ (w : Record). is_in w t ≡ is_in w u) q (first-once x t h ∙ sym (rw p (first-once y u k)))
    behind p z false f = rw f at (rw (← p) at (e z))

    go : Sides x y → (((z : Record) → is_in z t ≡ is_in z u) → t ≡ u) → ◌≡◌ {A = List Record} (x ∷ t) (y ∷ u)
    go (before-it p) rest = absurd (true≢false (sym (is_in-first x t) ∙ e x ∙ not-below x y u p k))
    go (the_same p) rest = let q : t ≡ u = rest (λ z. behind p z (same x z) refl) in cc
    go (behind-it p) rest = absurd (true≢false (sym (is_in-first y u) ∙ sym (e y) ∙ not-below y x t p h))

-- each of these is one of those
abbrev pub Inside : List Record → List Record → Type 0
Inside t u = (x : Record) → is_in x t ≡ true → is_in x u ≡ true

-- they still are when another has left those
still-inside : (r : Record) (t u : List Record) → ordered u ≡ true → Inside t u → is_in r t ≡ false → Inside t (remove r u)
still-inside r t u k inside out x i = remove-membership r x u k ∙ go (same r x) refl
  where
    go : (b : Bool) → same r x ≡ b → (not b && is_in x u) ≡ true
    go true e = absurd (not-both _ i (subst (λ (y : Record). is_in y t ≡ false) ((same-is-equal r x).0 e) out))
    go false e = inside x i

pub inside-is-no-longer : (t u : List Record) → ordered t ≡ true → ordered u ≡ true → Inside t u → length t ≤ length u
inside-is-no-longer [] u h k inside = omega arith
inside-is-no-longer (x ∷ t) u h k inside =
    let more : Inside t u = λ y i. inside y (is_in-later x y t i) in
    let rest = inside-is-no-longer t (remove x u) (ordered-tail x t h) (leave-keeps-order x u k) (still-inside x t u k more (first-once x t h)) in
    omega (arith, remove-length x u (inside x (is_in-first x t)))

pub inside-is-shorter : (r : Record) (t u : List Record) → ordered t ≡ true → ordered u ≡ true → Inside t u
    → is_in r t ≡ false → is_in r u ≡ true → length t < length u
inside-is-shorter r t u h k inside out i =
    let rest = inside-is-no-longer t (remove r u) h (leave-keeps-order r u k) (still-inside r t u k inside out) in
    omega (arith, remove-length r u i)

-- the smallest tables
pub enter-first : (limit : ℕ) (r : Record) → 1 ≤ limit → enter limit r [] ≡ changed (r ∷ [])
unfolding enter is_in insert
enter-first limit r h = rw (lt-leb limit 0 h)

pub enter-again : (limit : ℕ) (r : Record) (t : List Record) → enter limit r (r ∷ t) ≡ refused 17
unfolding enter
enter-again limit r t = rw (is_in-first r t)

pub leave-first : (r : Record) (t : List Record) → leave r (r ∷ t) ≡ changed t
unfolding leave remove
leave-first r t = rw (is_in-first r t, (same-is-equal r r).1 refl)

pub leave-empty : (r : Record) → leave r [] ≡ refused 16
unfolding leave is_in
leave-empty r = refl
