-- `before` is a strict total order on records, and `same` is equality. Keys are compared number by number, so each law of the order goes by
-- the first number in which two keys differ; and a key has all of a record, since a first number is 65,536 times its family, 256 times its
-- prefix length and its max. No number needs a bound. Assumes nothing.
use Prim.Native.Nat.{ℕ, ◌<◌, ◌/◌, ◌%◌}
use mathlib.Core.Bool.{Bool, true, false, ◌&&◌, ◌||◌, false≢true, or-false}
use mathlib.Core.List.{List, [], ◌∷◌}
use mathlib.Core.Logic.{◌↔◌}
use mathlib.Core.Path.{◌≡◌, refl, sym, ap, ◌∙◌}
use native.Mathlib.Omega.{arith}
use borrow.Author.Tests.{ltb-true, ltb-false, eqb-true, lt-ltb, le-ltb, eq-eqb, ne_eqb}
use lib.Dec.{ltb, eqb}
use lib.ListN.{length}
use Rattle.rtr_room.specs.Table.{family_of, prefix_of, max_of, key, lower, before, same}
use Rattle.rtr_room.specs.declared.Record.{Record}
use Rattle.rtr_room.proofs.Laws.Tests.{first_of, second-of, not-both, unless}
use Rattle.rtr_room.proofs.Laws.Records.{record_is, kind-is}

-- keys that differ in their first number, and that do not
pub differs : (x y : ℕ) (xs ys : List ℕ) → (x ≡ y → ⊥) → ltb x y ≡ lower (x ∷ xs) (y ∷ ys)
unfolding lower
differs x y xs ys h = sym (or-false (ltb x y)) ∙ sym (ap (λ (b : Bool). ltb x y || (b && lower xs ys)) (ne_eqb x y h))

pub agrees : (x y : ℕ) (xs ys : List ℕ) → x ≡ y → lower xs ys ≡ lower (x ∷ xs) (y ∷ ys)
unfolding lower
agrees x y xs ys h = rw (le-ltb x y (omega arith), eq-eqb x y h)

lower-here : (x y : ℕ) (xs ys : List ℕ) → x < y → lower (x ∷ xs) (y ∷ ys) ≡ true
lower-here x y xs ys h = sym (differs x y xs ys (λ e. omega arith)) ∙ lt-ltb x y h

lower-above : (x y : ℕ) (xs ys : List ℕ) → y < x → lower (x ∷ xs) (y ∷ ys) ≡ false
lower-above x y xs ys h = sym (differs x y xs ys (λ e. omega arith)) ∙ le-ltb x y (omega arith)

-- numbers are below, equal or above
data Three (x y : ℕ) : Type 0 where
  below : x < y → Three x y
  equal : x ≡ y → Three x y
  above : y < x → Three x y

three : (x y : ℕ) → Three x y
three x y = go (ltb x y) refl (ltb y x) refl
  where
    go : (b : Bool) → ltb x y ≡ b → (c : Bool) → ltb y x ≡ c → Three x y
    go true p c q = below (ltb-true x y p)
    go false p true q = above (ltb-true y x q)
    go false p false q = equal (omega (arith, ltb-false x y p, ltb-false y x q))

lower-irreflexive : (k : List ℕ) → lower k k ≡ false
unfolding lower
lower-irreflexive [] = refl
lower-irreflexive (x ∷ k) = sym (agrees x x k k refl) ∙ lower-irreflexive k

lower-transitive : (a b c : List ℕ) → lower a b ≡ true → lower b c ≡ true → lower a c ≡ true
unfolding lower
lower-transitive [] b c p q = absurd (false≢true p)
lower-transitive (x ∷ xs) [] c p q = absurd (false≢true p)
lower-transitive (x ∷ xs) (y ∷ ys) [] p q = absurd (false≢true q)
lower-transitive (x ∷ xs) (y ∷ ys) (z ∷ zs) p q = go (three x y) (three y z) (lower-transitive xs ys zs)
  where
    go : Three x y → Three y z → (lower xs ys ≡ true → lower ys zs ≡ true → lower xs zs ≡ true) → lower (x ∷ xs) (z ∷ zs) ≡ true
    go (below h) (below k) rest = lower-here x z xs zs (omega arith)
    go (below h) (equal k) rest = lower-here x z xs zs (omega arith)
    go (below h) (above k) rest = absurd (not-both _ q (lower-above y z ys zs k))
    go (equal h) (below k) rest = lower-here x z xs zs (omega arith)
    go (equal h) (equal k) rest = sym (agrees x z xs zs (h ∙ k)) ∙ rest (agrees x y xs ys h ∙ p) (agrees y z ys zs k ∙ q)
    go (equal h) (above k) rest = absurd (not-both _ q (lower-above y z ys zs k))
    go (above h) k rest = absurd (not-both _ p (lower-above x y xs ys h))

lower-total : (a b : List ℕ) → length a ≡ length b → lower a b ≡ false → lower b a ≡ false → a ≡ b
unfolding lower
lower-total [] [] e p q = refl
lower-total [] (y ∷ ys) e p q = absurd (omega arith)
lower-total (x ∷ xs) [] e p q = absurd (omega arith)
lower-total (x ∷ xs) (y ∷ ys) e p q = go (three x y) (lower-total xs ys (omega arith))
  where
    go : Three x y → (lower xs ys ≡ false → lower ys xs ≡ false → xs ≡ ys) → ◌≡◌ {A = List ℕ} (x ∷ xs) (y ∷ ys)
    go (below h) rest = absurd (not-both _ (lower-here x y xs ys h) p)
    go (equal h) rest =
        let t : xs ≡ ys = rest (agrees x y xs ys h ∙ p) (agrees y x ys xs (sym h) ∙ q) in
        cc
    go (above h) rest = absurd (not-both _ (lower-here y x ys xs h) q)

-- two first numbers with the same parts are one, so a key has all of a record
kind-determined : (j k : ℕ) → j / 65536 ≡ k / 65536 → j / 256 % 256 ≡ k / 256 % 256 → j % 256 ≡ k % 256 → j ≡ k
kind-determined j k p q r = cc (kind-is j, kind-is k)

key-determines : (a b : Record) → key a ≡ key b → a ≡ b
key-determines a b e =
    let f : family_of a ≡ family_of b = cc in
    let l : prefix_of a ≡ prefix_of b = cc in
    let m : max_of a ≡ max_of b = cc in
    record_is a b (kind-determined a.kind b.kind f l m) (cc) (cc) (cc) (cc) (cc)

pub before-irreflexive : (a : Record) → before a a ≡ false
unfolding before
before-irreflexive a = lower-irreflexive (key a)

pub before-transitive : (a b c : Record) → before a b ≡ true → before b c ≡ true → before a c ≡ true
unfolding before
before-transitive a b c p q = lower-transitive (key a) (key b) (key c) p q

pub before-total : (a b : Record) → before a b ≡ false → before b a ≡ false → a ≡ b
unfolding before
before-total a b p q = key-determines a b (lower-total (key a) (key b) refl p q)

-- no two records are each before the other
pub before-asymmetric : (a b : Record) → before a b ≡ true → before b a ≡ false
before-asymmetric a b p = unless (before b a) (λ q. not-both _ (before-transitive a b a p q) (before-irreflexive a))

same_refl : (a : Record) → same a a ≡ true
unfolding same
same_refl a =
    simp (eq-eqb a.kind a.kind refl, eq-eqb a.w0 a.w0 refl, eq-eqb a.w1 a.w1 refl, eq-eqb a.w2 a.w2 refl, eq-eqb a.w3 a.w3 refl, eq-eqb a.asn a.asn refl)

same-equal : (a b : Record) → same a b ≡ true → a ≡ b
unfolding same
same-equal a b e =
    let e1 : _ ≡ true = second-of (eqb a.kind b.kind) _ e in
    let e2 : _ ≡ true = second-of (eqb a.w0 b.w0) _ e1 in
    let e3 : _ ≡ true = second-of (eqb a.w1 b.w1) _ e2 in
    let e4 : _ ≡ true = second-of (eqb a.w2 b.w2) _ e3 in
    record_is a b
    (eqb-true _ _ (first_of _ _ e))
    (eqb-true _ _ (first_of _ _ e1))
    (eqb-true _ _ (first_of _ _ e2))
    (eqb-true _ _ (first_of _ _ e3))
    (eqb-true _ _ (first_of _ _ e4))
    (eqb-true _ _ (second-of (eqb a.w3 b.w3) _ e4))

pub same-is-equal : (a b : Record) → same a b ≡ true ↔ a ≡ b
same-is-equal a b = (same-equal a b, λ e. rw e (same_refl b))

-- records, one of which is before the other, are not the same
pub before-not-same : (a b : Record) → before a b ≡ true → same a b ≡ false
before-not-same a b p = unless (same a b) (λ e. not-both _ p (rw (same-equal a b e) (before-irreflexive b)))

pub after-not-same : (a b : Record) → before b a ≡ true → same a b ≡ false
after-not-same a b p = unless (same a b) (λ e. not-both _ p (rw (same-equal a b e) (before-irreflexive b)))

-- of two records one is before the other, or they are one
pub data Sides (a b : Record) : Type 0 where
  before-it : before a b ≡ true → Sides a b
  the_same : a ≡ b → Sides a b
  behind-it : before b a ≡ true → Sides a b

pub sides : (a b : Record) → Sides a b
sides a b = go (before a b) refl (before b a) refl
  where
    go : (p : Bool) → before a b ≡ p → (q : Bool) → before b a ≡ q → Sides a b
    go true e q f = before-it e
    go false e true f = behind-it f
    go false e false f = the_same (before-total a b e f)
