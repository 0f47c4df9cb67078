-- A record's rank in a table: how many of its records are before it. In an ordered table those are the first ones, so the rank is where the
-- record stands or would stand: entering puts it there, leaving takes what is there out, and it is in exactly where it stands there.
-- By induction over the table; from the first record on that is not before r, none is. Assumes nothing.
use Prim.Native.Nat.{ℕ, zero, suc, ◌<◌, ◌≤◌}
use mathlib.Core.Bool.{Bool, true, false, cond, ◌&&◌, ◌||◌, false≢true}
use mathlib.Core.List.{List, [], ◌∷◌, ◌++◌}
use mathlib.Core.Path.{◌≡◌, refl, sym, ap, ◌∙◌}
use native.Mathlib.Omega.{arith}
use borrow.Author.Tests.{lt-ltb, le-ltb}
use lib.Dec.{ltb, leb-suc-suc}
use lib.ListN.{length, get_or, take, drop}
use Rattle.rtr_room.specs.Table.{before, same, is_in, rank, insert, remove, ordered}
use Rattle.rtr_room.specs.declared.Record.{Record}
use Rattle.rtr_room.proofs.Laws.Tests.{not-both, unless}
use Rattle.rtr_room.proofs.Laws.Order.{before-transitive, before-not-same, after-not-same, before-asymmetric, before-irreflexive, same-is-equal, Sides, sides}
use Rattle.rtr_room.proofs.Laws.Order.Sides.{before-it, the_same, behind-it}
use Rattle.rtr_room.proofs.Laws.Tables.{ordered-above, ordered-tail, first-before}

rank-behind : (r x : Record) (t : List Record) → before x r ≡ true → rank r (x ∷ t) ≡ suc (rank r t)
unfolding rank
rank-behind r x t e = rw e

rank-none : (r : Record) → rank r [] ≡ 0
unfolding rank
rank-none r = refl

rank-grows : (r x : Record) (t : List Record) → rank r t ≤ rank r (x ∷ t)
unfolding rank
rank-grows r x t = go (before x r)
  where
    go : (b : Bool) → rank r t ≤ cond b (suc (rank r t)) (rank r t)
    go true = omega arith
    go false = omega arith

-- behind a record that is not before r, none is
none-behind : (r x : Record) (t : List Record) → ordered (x ∷ t) ≡ true → before x r ≡ false → rank r (x ∷ t) ≡ 0
unfolding rank
none-behind r x [] h e = rw e
none-behind r x (y ∷ t) h e =
    let f : before y r ≡ false = unless (before y r) (λ p. not-both _ (before-transitive x y r (ordered-above x (y ∷ t) h) p) e) in
    rw e (none-behind r y t (ordered-tail x (y ∷ t) h) f)

pub rank-within : (r : Record) (t : List Record) → rank r t ≤ length t
unfolding rank
rank-within r [] = omega arith
rank-within r (x ∷ t) = go (before x r) (rank-within r t)
  where
    go : (b : Bool) → rank r t ≤ length t → cond b (suc (rank r t)) (rank r t) ≤ suc (length t)
    go true h = omega arith
    go false h = omega arith

-- the first so many are before r, and the others are not
pub before-rank : (r d : Record) (t : List Record) (i : ℕ) → ordered t ≡ true → i < rank r t → before (get_or t i d) r ≡ true
before-rank r d [] i h l = absurd (omega (arith, rank-within r []))
before-rank r d (x ∷ t) zero h l = go (before x r) refl
  where
    go : (b : Bool) → before x r ≡ b → before x r ≡ true
    go true e = e
    go false e = absurd (omega (arith, none-behind r x t h e))
before-rank r d (x ∷ t) (suc i) h l = go (before x r) refl (before-rank r d t i (ordered-tail x t h))
  where
    go : (b : Bool) → before x r ≡ b → (i < rank r t → before (get_or t i d) r ≡ true) → before (get_or t i d) r ≡ true
    go true e rest = rest (omega (arith, rank-behind r x t e))
    go false e rest = absurd (omega (arith, none-behind r x t h e))

pub from-rank : (r d : Record) (t : List Record) (i : ℕ) → ordered t ≡ true → rank r t ≤ i → i < length t → before (get_or t i d) r ≡ false
from-rank r d [] i h l m = absurd (omega arith)
from-rank r d (x ∷ t) zero h l m = unless (before x r) (λ e. omega (arith, rank-behind r x t e))
from-rank r d (x ∷ t) (suc i) h l m = go (before x r) refl (from-rank r d t i (ordered-tail x t h))
  where
    go : (b : Bool) → before x r ≡ b → (rank r t ≤ i → i < length t → before (get_or t i d) r ≡ false) → before (get_or t i d) r ≡ false
    go true e rest = rest (omega (arith, rank-behind r x t e)) (omega arith)
    go false e rest = rest (omega (arith, rank-grows r x t, none-behind r x t h e)) (omega arith)

-- entering puts a record at its rank
pub insert-at-rank : (r : Record) (t : List Record) → ordered t ≡ true → insert r t ≡ take (rank r t) t ++ r ∷ drop (rank r t) t
unfolding insert
insert-at-rank r [] h = rw (rank-none r)
insert-at-rank r (x ∷ t) h = go (before x r) refl (insert-at-rank r t (ordered-tail x t h))
  where
    go : (b : Bool) → before x r ≡ b → insert r t ≡ take (rank r t) t ++ r ∷ drop (rank r t) t → cond b (x ∷ insert r t) (r ∷ x ∷ t) ≡ take (rank r (x ∷ t)) (x ∷ t) ++ r ∷ drop (rank r (x ∷ t)) (x ∷ t)
    go true e rest = rw (rank-behind r x t e) (ap (λ (u : List Record). x ∷ u) rest)
    go false e rest = rw (none-behind r x t h e)

-- a record that is in stands at its rank, and leaving takes out what stands there
pub stands-at-rank : (r d : Record) (t : List Record) → ordered t ≡ true → ltb (rank r t) (length t) && same (get_or t (rank r t) d) r ≡ is_in r t
unfolding is_in
stands-at-rank r d [] h = rw (le-ltb (rank r []) 0 (omega arith))
stands-at-rank r d (x ∷ t) h = go (sides x r) (stands-at-rank r d t (ordered-tail x t h))
  where
    go : Sides x r → ltb (rank r t) (length t) && same (get_or t (rank r t) d) r ≡ is_in r t → ltb (rank r (x ∷ t)) (suc (length t)) && same (get_or (x ∷ t) (rank r (x ∷ t)) d) r ≡ (same x r || is_in r t)
    go (before-it e) rest = rw (rank-behind r x t e, before-not-same x r e) (rw (leb-suc-suc (suc (rank r t)) (length t)) rest)
    go (the_same e) rest = rw (none-behind r x t h (rw e (before-irreflexive r)), (same-is-equal x r).1 e, lt-ltb 0 (suc (length t)) (omega arith))
    go (behind-it e) rest =
        rw (none-behind r x t h (before-asymmetric r x e), after-not-same x r e, lt-ltb 0 (suc (length t)) (omega arith))
        (sym (unless (is_in r t) (λ i. not-both _ (before-transitive r x r e (first-before x r t h i)) (before-irreflexive r))))

-- what stands at a place is in, and a record that stands anywhere stands at its rank
there-is-in : (r d : Record) (t : List Record) (i : ℕ) → i < length t → same (get_or t i d) r ≡ true → is_in r t ≡ true
unfolding is_in
there-is-in r d [] i l e = absurd (omega arith)
there-is-in r d (x ∷ t) zero l e = rw e
there-is-in r d (x ∷ t) (suc i) l e = go (same x r) (there-is-in r d t i (omega arith) e)
  where
    go : (b : Bool) → is_in r t ≡ true → b || is_in r t ≡ true
    go true f = refl
    go false f = f

pub only-at-rank : (r d : Record) (t : List Record) (i : ℕ) → ordered t ≡ true → i < length t → same (get_or t i d) r ≡ true → i ≡ rank r t
only-at-rank r d [] i h l e = absurd (omega arith)
only-at-rank r d (x ∷ t) zero h l e = sym (none-behind r x t h (rw ((same-is-equal x r).0 e) (before-irreflexive r)))
only-at-rank r d (x ∷ t) (suc i) h l e =
    ap suc (only-at-rank r d t i (ordered-tail x t h) (omega arith) e)
    ∙ sym (rank-behind r x t (first-before x r t h (there-is-in r d t i (omega arith) e)))

pub remove-at-rank : (r : Record) (t : List Record) → ordered t ≡ true → is_in r t ≡ true → (rank r t < length t) × (remove r t ≡ take (rank r t) t ++ drop (suc (rank r t)) t)
unfolding remove is_in
remove-at-rank r [] h i = absurd (false≢true i)
remove-at-rank r (x ∷ t) h i = go (sides x r) (remove-at-rank r t (ordered-tail x t h))
  where
    go : Sides x r → (is_in r t ≡ true → (rank r t < length t) × (remove r t ≡ take (rank r t) t ++ drop (suc (rank r t)) t)) → (rank r (x ∷ t) < suc (length t)) × (cond (same x r) t (x ∷ remove r t) ≡ take (rank r (x ∷ t)) (x ∷ t) ++ drop (suc (rank r (x ∷ t))) (x ∷ t))
    go (before-it e) rest =
        let f : same x r ≡ false = before-not-same x r e in
        let k : _ = rest (rw f at i) in
        rw (rank-behind r x t e, f) (omega (arith, k.0), ap (λ (u : List Record). x ∷ u) k.1)
    go (the_same e) rest = rw (none-behind r x t h (rw e (before-irreflexive r)), (same-is-equal x r).1 e) (omega arith, refl)
    go (behind-it e) rest =
        absurd (not-both _ (before-transitive r x r e (first-before x r t h (rw (after-not-same x r e) at i))) (before-irreflexive r))
