-- Tables by places, for those who look things up: a record is before another exactly where its key is lower at the first number in which they
-- differ; of two places of a table the lower has the record that is before; what stands in a table is in rule, and a
-- record is in where it stands somewhere. By the keys' numbers, and
-- by the table. Assumes nothing.
use Prim.Native.Nat.{ℕ, zero, suc, ◌<◌, ◌≤◌}
use mathlib.Core.Bool.{Bool, true, false, ◌&&◌, ◌||◌, false≢true}
use mathlib.Core.List.{List, [], ◌∷◌}
use mathlib.Core.Logic.{◌↔◌, ◌⊎◌, inl, inr}
use mathlib.Core.Path.{◌≡◌, refl}
use native.Mathlib.Omega.{arith}
use borrow.Author.Tests.{ltb-true, leb-true, eqb-true, lt-ltb, le-ltb, eq-eqb}
use lib.Dec.{leb, ltb, eqb}
use lib.ListN.{length, get_or}
use Rattle.rtr_room.specs.Table.{family_of, prefix_of, max_of, lengths_within, in_rule, key, lower, before, ordered, all_in_rule, is_table, same, is_in, rank}
use Rattle.rtr_room.specs.declared.Record.{Record}
use Rattle.rtr_room.proofs.Laws.Tests.{first_of, second-of}
use Rattle.rtr_room.proofs.Laws.Order.{same-is-equal}
use Rattle.rtr_room.proofs.Laws.Ranks.{before-rank, only-at-rank}

-- a key is lower than another: in its first number, or behind it where that is equal
abbrev pub Lower : List ℕ → List ℕ → Type 0
Lower [] ys = ⊥
Lower (x ∷ xs) [] = ⊥
Lower (x ∷ xs) (y ∷ ys) = (x < y) ⊎ ((x ≡ y) × Lower xs ys)

lower-out : (j k : List ℕ) → lower j k ≡ true → Lower j k
unfolding lower
lower-out [] k e = false≢true e
lower-out (x ∷ xs) [] e = false≢true e
lower-out (x ∷ xs) (y ∷ ys) e = go (ltb x y) refl e (lower-out xs ys)
  where
    go : (b : Bool) → ltb x y ≡ b → b || (eqb x y && lower xs ys) ≡ true → (lower xs ys ≡ true → Lower xs ys) → (x < y) ⊎ ((x ≡ y) × Lower xs ys)
    go true f e rest = inl (ltb-true x y f)
    go false f e rest = inr (eqb-true x y (first_of _ _ e), rest (second-of (eqb x y) _ e))

lower_in : (j k : List ℕ) → Lower j k → lower j k ≡ true
unfolding lower
lower_in [] k e = absurd e
lower_in (x ∷ xs) [] e = absurd e
lower_in (x ∷ xs) (y ∷ ys) (inl h) = rw (lt-ltb x y h)
lower_in (x ∷ xs) (y ∷ ys) (inr (e, r)) = rw (le-ltb x y (omega arith), eq-eqb x y e) (lower_in xs ys r)

pub before-exactly : (a b : Record) → before a b ≡ true ↔ Lower (key a) (key b)
unfolding before
before-exactly a b = (lower-out (key a) (key b), lower_in (key a) (key b))

-- the lower of two places has the record that is before
pub ordered_at : (d : Record) (t : List Record) (i j : ℕ) → ordered t ≡ true → i < j → j < length t → before (get_or t i d) (get_or t j d) ≡ true
ordered_at d t i j h l m =
    let r : j ≡ rank (get_or t j d) t = only-at-rank (get_or t j d) d t j h m ((same-is-equal (get_or t j d) (get_or t j d)).1 refl) in
    before-rank (get_or t j d) d t i h (omega arith)

-- what stands in a table is in rule
pub in-rule-at : (d : Record) (t : List Record) (i : ℕ) → is_table t ≡ true → i < length t → in_rule (get_or t i d) ≡ true
unfolding all_in_rule
in-rule-at d t i h l = go t i (first_of (all_in_rule t) _ h) l
  where
    go : (t : List Record) (i : ℕ) → all_in_rule t ≡ true → i < length t → in_rule (get_or t i d) ≡ true
    go [] i e l = absurd (omega arith)
    go (x ∷ t) zero e l = first_of (in_rule x) _ e
    go (x ∷ t) (suc i) e l = go t i (second-of (in_rule x) _ e) (omega arith)

-- a record is in exactly where it stands at some place
in-out : (d r : Record) (t : List Record) → is_in r t ≡ true → (i : ℕ) × (i < length t) × (get_or t i d ≡ r)
unfolding is_in
in-out d r [] e = absurd (false≢true e)
in-out d r (x ∷ t) e = go (same x r) refl e (in-out d r t)
  where
    go : (b : Bool) → same x r ≡ b → b || is_in r t ≡ true → (is_in r t ≡ true → (i : ℕ) × (i < length t) × (get_or t i d ≡ r))
        → (i : ℕ) × (i < suc (length t)) × (get_or (x ∷ t) i d ≡ r)
    go true f e rest = (0, omega arith, (same-is-equal x r).0 f)
    go false f e rest = let k = rest e in (suc k.0, omega (arith, k.1), k.2)

in-in : (d r : Record) (t : List Record) (i : ℕ) → i < length t → get_or t i d ≡ r → is_in r t ≡ true
unfolding is_in
in-in d r [] i l e = absurd (omega arith)
in-in d r (x ∷ t) zero l e = rw ((same-is-equal x r).1 e)
in-in d r (x ∷ t) (suc i) l e = go (same x r) (in-in d r t i (omega arith) e)
  where
    go : (b : Bool) → is_in r t ≡ true → b || is_in r t ≡ true
    go true f = refl
    go false f = f

pub in-exactly : (d r : Record) (t : List Record) → is_in r t ≡ true ↔ ((i : ℕ) × (i < length t) × (get_or t i d ≡ r))
in-exactly d r t = (in-out d r t, λ k. in-in d r t k.0 k.1 k.2)

-- a record in rule is no longer than its max, and that no longer than 128
either : (a b c d e : Bool) → (a && (b && c)) || (d && e) ≡ true → (b ≡ true) ⊎ (e ≡ true)
either a true c d e h = inl refl
either true false c true e h = inr h
either true false c false e h = absurd (false≢true h)
either false false c true e h = inr h
either false false c false e h = absurd (false≢true h)

pub in-rule-lengths : (r : Record) → in_rule r ≡ true → (prefix_of r ≤ max_of r) × (max_of r ≤ 128)
unfolding in_rule
in-rule-lengths r e = go (either (eqb (family_of r) 4) (lengths_within 32 r) _ (eqb (family_of r) 6) (lengths_within 128 r) e)
  where
    within : (limit : ℕ) → limit ≤ 128 → lengths_within limit r ≡ true → (prefix_of r ≤ max_of r) × (max_of r ≤ 128)
    within limit n f =
        let a = leb-true (prefix_of r) (max_of r) (first_of _ _ f) in
        let b = leb-true (max_of r) limit (second-of (leb (prefix_of r) (max_of r)) _ f) in
        (a, omega arith)

    go : (lengths_within 32 r ≡ true) ⊎ (lengths_within 128 r ≡ true) → (prefix_of r ≤ max_of r) × (max_of r ≤ 128)
    go (inl f) = within 32 (omega arith) f
    go (inr f) = within 128 (omega arith) f

-- a record in rule is of family 4 or 6
one-family : (a b c d : Bool) → (a && b) || (c && d) ≡ true → (a ≡ true) ⊎ (c ≡ true)
one-family true b c d h = inl refl
one-family false b true d h = inr refl
one-family false b false d h = absurd (false≢true h)

pub in-rule-family : (r : Record) → in_rule r ≡ true → (family_of r ≡ 4) ⊎ (family_of r ≡ 6)
unfolding in_rule
in-rule-family r e = go (one-family (eqb (family_of r) 4) _ (eqb (family_of r) 6) (lengths_within 128 r) e)
  where
    go : (eqb (family_of r) 4 ≡ true) ⊎ (eqb (family_of r) 6 ≡ true) → (family_of r ≡ 4) ⊎ (family_of r ≡ 6)
    go (inl f) = inl (eqb-true (family_of r) 4 f)
    go (inr f) = inr (eqb-true (family_of r) 6 f)
