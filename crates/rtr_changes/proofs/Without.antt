-- Those of a that are not in b: the members, the order and the rules. By induction over a: a record is kept or passed over. Assumes nothing.
use Prim.Native.Nat.{suc, ◌≤◌}
use mathlib.Core.Bool.{Bool, true, false, cond, not, ◌&&◌, ◌||◌, true≢false, and-false}
use mathlib.Core.List.{List, [], ◌∷◌}
use mathlib.Core.Path.{◌≡◌, refl, sym, ap, ◌∙◌}
use native.Mathlib.Omega.{arith}
use lib.ListN.{length}
use Rattle.rtr_room.specs.Table.{before, same, above, all_in_rule, is_table, is_in}
use Rattle.rtr_room.specs.declared.Record.{Record}
use Rattle.rtr_room.proofs.Laws.{same-is-equal, in-none, in-next, in-first, in-later, first-before, table-next}
use Rattle.rtr_room.proofs.Laws.Tables.{Inside}
use Rattle.rtr_room.proofs.Laws.Tests.{first_of, second-of}
use Rattle.rtr_changes.specs.Changes.{without}

-- ---- one record more

pub none-without : (b : List Record) → without [] b ≡ []
unfolding without
none-without b = refl

pub without-shared : (r : Record) (a b : List Record) → is_in r b ≡ true → without (r ∷ a) b ≡ without a b
unfolding without
without-shared r a b e = rw e

pub without-only : (r : Record) (a b : List Record) → is_in r b ≡ false → without (r ∷ a) b ≡ r ∷ without a b
unfolding without
without-only r a b e = rw e

-- ---- its members

-- equal records are in alike
in-alike : (r x : Record) (t : List Record) → same r x ≡ true → is_in x t ≡ is_in r t
in-alike r x t e = ap (λ (y : Record). is_in y t) (sym ((same-is-equal r x).0 e))

-- a record that is passed over is in b
passed : (first rest in_b kept : Bool) → (first ≡ true → in_b ≡ true) → kept ≡ (rest && not in_b) → kept ≡ ((first || rest) && not in_b)
passed true rest true kept p e = e ∙ and-false rest
passed true rest false kept p e = absurd (true≢false (sym (p refl)))
passed false rest in_b kept p e = e

-- one that is kept is not
taken : (first rest in_b kept : Bool) → (first ≡ true → in_b ≡ false) → kept ≡ (rest && not in_b) → (first || kept) ≡ ((first || rest) && not in_b)
taken true rest true kept p e = absurd (true≢false (p refl))
taken true rest false kept p e = refl
taken false rest in_b kept p e = e

pub in_without : (x : Record) (a b : List Record) → is_in x (without a b) ≡ (is_in x a && not (is_in x b))
unfolding without
in_without x [] b = rw (in-none x)
in_without x (r ∷ a) b = go (is_in r b) refl (in_without x a b)
  where
    go : (c : Bool) → is_in r b ≡ c → is_in x (without a b) ≡ (is_in x a && not (is_in x b))
        → is_in x (cond c (without a b) (r ∷ without a b)) ≡ (is_in x (r ∷ a) && not (is_in x b))
    go true e rest = rw (in-next x r a) (passed (same r x) (is_in x a) (is_in x b) _ (λ s. in-alike r x b s ∙ e) rest)
    go false e rest = rw (in-next x r a, in-next x r (without a b)) (taken (same r x) (is_in x a) (is_in x b) _ (λ s. in-alike r x b s ∙ e) rest)

-- what is in it is in a
pub without-inside : (x : Record) (a b : List Record) → is_in x (without a b) ≡ true → is_in x a ≡ true
without-inside x a b i = first_of _ _ (sym (in_without x a b) ∙ i)

-- ---- its order, rules and length

-- what is before each is before the first
before-each : (r : Record) (t : List Record) → ((x : Record) → is_in x t ≡ true → before r x ≡ true) → above r t ≡ true
before-each r [] h = refl
before-each r (x ∷ t) h = h x (in-first x t)

pub without-table : (a b : List Record) → is_table a ≡ true → is_table (without a b) ≡ true
unfolding without
without-table [] b h = h
without-table (r ∷ a) b h = go (is_in r b) (without-table a b ((table-next r a).0 h).2)
  where
    go : (c : Bool) → is_table (without a b) ≡ true → is_table (cond c (without a b) (r ∷ without a b)) ≡ true
    go true rest = rest
    go false rest =
        (table-next r (without a b)).1 (
          ((table-next r a).0 h).0,
          before-each r (without a b) (λ x i. first-before r x a (second-of (all_in_rule (r ∷ a)) _ h) (without-inside x a b i)),
          rest,
        )

pub without-at-most : (a b : List Record) → length (without a b) ≤ length a
unfolding without
without-at-most [] b = omega arith
without-at-most (r ∷ a) b = go (is_in r b) (without-at-most a b)
  where
    go : (c : Bool) → length (without a b) ≤ length a → length (cond c (without a b) (r ∷ without a b)) ≤ suc (length a)
    go true rest = omega arith
    go false rest = omega arith

-- ---- nothing on either side

-- without nothing all are left
pub without-none : (t : List Record) → without t [] ≡ t
unfolding without
without-none [] = refl
without-none (r ∷ t) = rw (in-none r) (ap (λ (u : List Record). r ∷ u) (without-none t))

-- none is left where each is in b
pub without_all : (a b : List Record) → Inside a b → without a b ≡ []
unfolding without
without_all [] b h = refl
without_all (r ∷ a) b h = rw (h r (in-first r a)) (without_all a b (λ x i. h x (in-later r x a i)))
