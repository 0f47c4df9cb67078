-- A record behind all of a table: where it is in order there, it is not in, its rank is the table's length, and entering puts it there. So a table can be read from its records one by one.
-- By induction over the table. Assumes nothing.
use Prim.Native.Nat.{ℕ, suc, ◌<◌}
use mathlib.Core.Bool.{Bool, true, false, cond, ◌&&◌}
use mathlib.Core.List.{List, [], ◌∷◌, ◌++◌}
use mathlib.Core.Path.{◌≡◌, refl, ap, ◌∙◌}
use native.Mathlib.Omega.{arith}
use borrow.Author.Tests.{lt-leb}
use lib.ListN.{length}
use Rattle.rtr_room.specs.Table.{before, is_in, rank, insert, in_rule, above, ordered, all_in_rule, is_table, enter}
use Rattle.rtr_room.specs.Table.Change.{changed}
use Rattle.rtr_room.specs.declared.Record.{Record}
use Rattle.rtr_room.proofs.Laws.Tests.{first_of, second-of, both}
use Rattle.rtr_room.proofs.Laws.Order.{before-transitive, before-not-same}
use Rattle.rtr_room.proofs.Laws.Tables.{ordered-above, ordered-tail, ordered-cons, empty-table}
use Rattle.rtr_room.proofs.Laws.Ranks.{rank-within}

-- the front of an ordered list is ordered
above-front : (x : Record) (t u : List Record) → above x (t ++ u) ≡ true → above x t ≡ true
above-front x [] u h = refl
above-front x (y ∷ t) u h = h

pub ordered-front : (t u : List Record) → ordered (t ++ u) ≡ true → ordered t ≡ true
ordered-front [] u h = second-of (all_in_rule []) _ empty-table
ordered-front (x ∷ t) u h = ordered-cons x t (above-front x t u (ordered-above x (t ++ u) h)) (ordered-front t u (ordered-tail x (t ++ u) h))

-- each record of a list is in rule exactly where those of both its parts are
pub all-in-rule-append : (t u : List Record) → all_in_rule (t ++ u) ≡ (all_in_rule t && all_in_rule u)
unfolding all_in_rule
all-in-rule-append [] u = refl
all-in-rule-append (x ∷ t) u = go (in_rule x) (all-in-rule-append t u)
  where
    go : (b : Bool) → all_in_rule (t ++ u) ≡ (all_in_rule t && all_in_rule u) → (b && all_in_rule (t ++ u)) ≡ ((b && all_in_rule t) && all_in_rule u)
    go true rest = rest
    go false rest = refl

-- what stands before the last of an ordered list comes before it
pub each-before : (x r : Record) (t : List Record) → ordered (x ∷ (t ++ r ∷ [])) ≡ true → before x r ≡ true
each-before x r [] h = ordered-above x (r ∷ []) h
each-before x r (y ∷ t) h = before-transitive x y r (ordered-above x (y ∷ (t ++ r ∷ [])) h) (each-before y r t (ordered-tail x (y ∷ (t ++ r ∷ [])) h))

pub last-not-in : (r : Record) (t : List Record) → ordered (t ++ r ∷ []) ≡ true → is_in r t ≡ false
unfolding is_in
last-not-in r [] h = refl
last-not-in r (x ∷ t) h = rw (before-not-same x r (each-before x r t h)) (last-not-in r t (ordered-tail x (t ++ r ∷ []) h))

pub last-rank : (r : Record) (t : List Record) → ordered (t ++ r ∷ []) ≡ true → rank r t ≡ length t
unfolding rank
last-rank r [] h = refl
last-rank r (x ∷ t) h = rw (each-before x r t h) (ap suc (last-rank r t (ordered-tail x (t ++ r ∷ []) h)))

last-insert : (r : Record) (t : List Record) → ordered (t ++ r ∷ []) ≡ true → insert r t ≡ t ++ r ∷ []
unfolding insert
last-insert r [] h = refl
last-insert r (x ∷ t) h = rw (each-before x r t h) (ap (λ (u : List Record). x ∷ u) (last-insert r t (ordered-tail x (t ++ r ∷ []) h)))

-- and a record whose rank is the length is in order behind
above-last : (x r : Record) (t : List Record) → before x r ≡ true → above x t ≡ true → above x (t ++ r ∷ []) ≡ true
above-last x r [] p h = p
above-last x r (y ∷ t) p h = h

pub rank-last : (r : Record) (t : List Record) → ordered t ≡ true → rank r t ≡ length t → ordered (t ++ r ∷ []) ≡ true
unfolding rank
rank-last r [] h e = ordered-cons r [] refl h
rank-last r (x ∷ t) h e = go (before x r) refl e (rank-last r t (ordered-tail x t h))
  where
    go : (b : Bool) → before x r ≡ b → cond b (suc (rank r t)) (rank r t) ≡ suc (length t) → (rank r t ≡ length t → ordered (t ++ r ∷ []) ≡ true) → ordered (x ∷ (t ++ r ∷ [])) ≡ true
    go true p q rest = ordered-cons x (t ++ r ∷ []) (above-last x r t p (ordered-above x t h)) (rest (omega (arith, q)))
    go false p q rest = absurd (omega (arith, q, rank-within r t))

pub enter-last : (limit : ℕ) (r : Record) (t : List Record) → ordered (t ++ r ∷ []) ≡ true → length t < limit → enter limit r t ≡ changed (t ++ r ∷ [])
unfolding enter
enter-last limit r t h l = rw (last-not-in r t h, lt-leb limit (length t) l, last-insert r t h)

pub table-last : (r : Record) (t : List Record) → is_table t ≡ true → in_rule r ≡ true → ordered (t ++ r ∷ []) ≡ true → is_table (t ++ r ∷ []) ≡ true
unfolding all_in_rule
table-last r t h i o = both _ _ (all-in-rule-append t (r ∷ []) ∙ both _ _ (first_of (all_in_rule t) _ h) (both (in_rule r) _ i refl)) o
