-- Tests one after the other decide what the order and the rules of a record say: each lemma is one way out of `is_before` or `is_in_rule`.
-- Assumes nothing.
use Prim.Native.Nat.{ℕ, ◌/◌, ◌%◌, ◌<◌, ◌≤◌}
use mathlib.Core.Bool.{Bool, true, false, ◌&&◌, ◌||◌, and-false, and-true, or-false}
use mathlib.Core.List.{List, [], ◌∷◌}
use mathlib.Core.Path.{◌≡◌, refl, sym, ◌∙◌, ap}
use native.Mathlib.Omega.{arith}
use lib.Dec.{leb, ltb, eqb}
use borrow.Author.Tests.{lt-ltb, le-ltb, lt-leb, le-leb, eq-eqb, ne_eqb, ltb-true, ltb-false, eqb-true, eqb-false}
use Rattle.rtr_room.specs.Table.{packed, family_of, prefix_of, max_of, lower, in_rule}
use Rattle.rtr_room.specs.declared.Record.{Record}
use Rattle.rtr_room.proofs.Laws.Records.{kind-is}
use Rattle.rtr_room.proofs.Laws.Order.{differs, agrees}

-- ---- the order: the first number whole stands for length and max

same_test : (x y p q : ℕ) → (x < y → p < q) → (y ≤ x → q ≤ p) → ltb x y ≡ ltb p q
same_test x y p q f g = go (ltb x y) refl
  where
    go : (b : Bool) → ltb x y ≡ b → b ≡ ltb p q
    go true e = sym (lt-ltb p q (f (ltb-true x y e)))
    go false e = sym (le-ltb p q (g (ltb-false x y e)))

-- numbers of one family that differ are in the order of length and max
module _ (x y f p q m n : ℕ) (ex : x ≡ packed f p m) (ey : y ≡ packed f q n) (mb : m < 256) (nb : n < 256) (xs ys : List ℕ) (d : x ≡ y → ⊥) where
  by_parts : ltb x y ≡ lower (p ∷ m ∷ xs) (q ∷ n ∷ ys)
  by_parts = go (eqb p q) refl
    where
      go : (b : Bool) → eqb p q ≡ b → ltb x y ≡ lower (p ∷ m ∷ xs) (q ∷ n ∷ ys)
      go true e =
          let h = eqb-true p q e in
          same_test x y m n (λ l. omega arith) (λ l. omega arith) ∙ differs m n xs ys (λ k. d (omega arith)) ∙ agrees p q (m ∷ xs) (n ∷ ys) h
      go false e =
          let h = eqb-false p q e in
          same_test x y p q (λ l. omega arith) (λ l. omega arith) ∙ differs p q (m ∷ xs) (n ∷ ys) h

pub kind-differs : (x y : ℕ) (xs ys : List ℕ) → x / 65536 ≡ y / 65536 → (x ≡ y → ⊥)
    → ltb x y ≡ lower (x / 256 % 256 ∷ x % 256 ∷ xs) (y / 256 % 256 ∷ y % 256 ∷ ys)
kind-differs x y xs ys f d =
    by_parts x y (x / 65536) (x / 256 % 256) (y / 256 % 256) (x % 256) (y % 256) (kind-is x)
    (kind-is y ∙ ap (λ (k : ℕ). packed k (y / 256 % 256) (y % 256)) (sym f))
    (omega arith) (omega arith) xs ys d

pub kind-agrees : (x y : ℕ) (xs ys : List ℕ) → x ≡ y → lower xs ys ≡ lower (x / 256 % 256 ∷ x % 256 ∷ xs) (y / 256 % 256 ∷ y % 256 ∷ ys)
kind-agrees x y xs ys e =
    agrees (x % 256) (y % 256) xs ys (ap (λ (k : ℕ). k % 256) e)
    ∙ agrees (x / 256 % 256) (y / 256 % 256) (x % 256 ∷ xs) (y % 256 ∷ ys) (ap (λ (k : ℕ). k / 256 % 256) e)

pub only-last : (x y : ℕ) → ltb x y ≡ lower (x ∷ []) (y ∷ [])
unfolding lower
only-last x y = go (ltb x y) (eqb x y)
  where
    go : (a b : Bool) → a ≡ a || (b && false)
    go true b = refl
    go false true = refl
    go false false = refl

-- what the goals of `is_before` are proved by
pub ruleset order_tests = (differs, agrees, kind-differs, kind-agrees, only-last)

-- ---- the rules of a record

pub too_long : (r : Record) → max_of r < prefix_of r → false ≡ in_rule r
unfolding in_rule
too_long r h = rw (lt-leb (prefix_of r) (max_of r) h, and-false (eqb (family_of r) 4), and-false (eqb (family_of r) 6))

pub neither-family : (r : Record) → (family_of r ≡ 6 → ⊥) → (family_of r ≡ 4 → ⊥) → false ≡ in_rule r
unfolding in_rule
neither-family r h k = rw (ne_eqb (family_of r) 6 h, ne_eqb (family_of r) 4 k)

module _ (r : Record) (l : prefix_of r ≤ max_of r) where
  pub six : family_of r ≡ 6 → leb (max_of r) 128 ≡ in_rule r
  unfolding in_rule
  six h = rw (ne_eqb (family_of r) 4 (λ k. omega arith), eq-eqb (family_of r) 6 h, le-leb (prefix_of r) (max_of r) l)

  module _ (h : family_of r ≡ 4) where
    is-four : eqb (family_of r) 4 ≡ true
    is-four = eq-eqb (family_of r) 4 h

    not-six : eqb (family_of r) 6 ≡ false
    not-six = ne_eqb (family_of r) 6 (λ k. omega arith)

    pub spare-1 : (r.w1 ≡ 0 → ⊥) → false ≡ in_rule r
    unfolding in_rule
    spare-1 a = rw (is-four, not-six, le-leb (prefix_of r) (max_of r) l, ne_eqb r.w1 0 a, and-false (leb (max_of r) 32))

    pub spare-2 : r.w1 ≡ 0 → (r.w2 ≡ 0 → ⊥) → false ≡ in_rule r
    unfolding in_rule
    spare-2 a b = rw (is-four, not-six, le-leb (prefix_of r) (max_of r) l, eq-eqb r.w1 0 a, ne_eqb r.w2 0 b, and-false (leb (max_of r) 32))

    pub spare-3 : r.w1 ≡ 0 → r.w2 ≡ 0 → (r.w3 ≡ 0 → ⊥) → false ≡ in_rule r
    unfolding in_rule
    spare-3 a b d =
        rw (is-four, not-six, le-leb (prefix_of r) (max_of r) l, eq-eqb r.w1 0 a, eq-eqb r.w2 0 b, ne_eqb r.w3 0 d, and-false (leb (max_of r) 32))

    pub four : r.w1 ≡ 0 → r.w2 ≡ 0 → r.w3 ≡ 0 → leb (max_of r) 32 ≡ in_rule r
    unfolding in_rule
    four a b d =
        rw (is-four, not-six, le-leb (prefix_of r) (max_of r) l, eq-eqb r.w1 0 a, eq-eqb r.w2 0 b, eq-eqb r.w3 0 d, and-true (leb (max_of r) 32))
        (sym (or-false (leb (max_of r) 32)))

-- what the goals of `is_in_rule` are proved by
pub ruleset rule_tests = (too_long, neither-family, six, spare-1, spare-2, spare-3, four)
