-- A table joined to another: each of its records goes in. In what order they do does not matter, for any lists; and where the two are apart
-- and in order, so is the whole. A merge puts the last record of a run at its rank first: those of the room behind it stay behind it, and
-- each record before it in the run goes in before it. So a merge from the back is the join. Assumes nothing.
use Prim.Native.Nat.{ℕ, zero, suc, ◌+◌, ◌-◌, ◌*◌, ◌≤◌}
use mathlib.Core.Bool.{Bool, true, false, cond, ◌||◌, true≢false, or-false}
use mathlib.Core.List.{List, [], ◌∷◌, ◌++◌, append_assoc}
use mathlib.Core.Path.{◌≡◌, refl, sym, ap, ◌∙◌}
use native.Mathlib.Omega.{arith}
use borrow.Author.Tests.{le-leb}
use lib.ListN.{length, take, drop, replicate, length-replicate, replicate-append-replicate, take-append-drop}
use lib.Seq.{take-take, take-suc, take-length, drop-drop, drop_at, length-take-le}
use Rattle.rtr_room.specs.Table.{before, same, is_in, rank, insert, in_rule, ordered, all_in_rule, is_table, join, Apart}
use Rattle.rtr_room.specs.Room.{numbers, flat, room, record_at, place, merge_from, merged}
use Rattle.rtr_room.specs.Room.Said.{counted}
use Rattle.rtr_room.specs.declared.Record.{Record}
use Rattle.rtr_room.proofs.Laws.Tests.{first_of, second-of, both, not-both}
use Rattle.rtr_room.proofs.Laws.Order.{before-transitive, before-asymmetric, same-is-equal, Sides, sides}
use Rattle.rtr_room.proofs.Laws.Order.Sides.{before-it, the_same, behind-it}
use Rattle.rtr_room.proofs.Laws.Tables.{or_swap, insert-length, insert-membership, enter-keeps-order, enter-keeps-in-rule, ordered-tail, first-once, is_in-first, is_in-later}
use Rattle.rtr_room.proofs.Laws.Last.{ordered-front, each-before}
use Rattle.rtr_room.proofs.Laws.Ranks.{rank-within, insert-at-rank}
use Rattle.rtr_room.proofs.Laws.Rooms.{flat_append, flat-split, take-flat, room-limit, record-of-room}
use Rattle.rtr_room.proofs.Laws.Places.{place-is-rank}
use Rattle.rtr_room.proofs.Laws.Moves.{rest_of, behind-of}
use Rattle.rtr_room.proofs.Fronts.{place-agrees}

pub join-none : (t : List Record) → join t [] ≡ t
unfolding join
join-none t = refl

pub join-membership : (t u : List Record) (x : Record) → is_in x (join t u) ≡ (is_in x t || is_in x u)
unfolding join is_in
join-membership t [] x = sym (or-false (is_in x t))
join-membership t (r ∷ u) x =
    insert-membership r x (join t u) ∙ ap (λ (b : Bool). same r x || b) (join-membership t u x) ∙ or_swap (same r x) (is_in x t) (is_in x u)

pub join-length : (t u : List Record) → length (join t u) ≡ length t + length u
unfolding join
join-length t [] = omega arith
join-length t (r ∷ u) = omega (arith, insert-length r (join t u), join-length t u)

-- what is in neither is not in both together
neither : (a b : Bool) → (a ≡ true → ⊥) → b ≡ false → (a || b) ≡ false
neither true b h e = absurd (h refl)
neither false b h e = e

pub join-ordered : (t u : List Record) → ordered t ≡ true → ordered u ≡ true → Apart t u → ordered (join t u) ≡ true
unfolding join
join-ordered t [] h k a = h
join-ordered t (r ∷ u) h k a =
    enter-keeps-order r (join t u) (join-ordered t u h (ordered-tail r u k) (λ x i j. a x i (is_in-later r x u j)))
    (join-membership t u r ∙ neither (is_in r t) (is_in r u) (λ i. a r i (is_in-first r u)) (first-once r u k))

join-in-rule : (t u : List Record) → all_in_rule t ≡ true → all_in_rule u ≡ true → all_in_rule (join t u) ≡ true
unfolding join all_in_rule
join-in-rule t [] h k = h
join-in-rule t (r ∷ u) h k = enter-keeps-in-rule r (join t u) (join-in-rule t u h (second-of (in_rule r) _ k)) (first_of _ _ k)

pub join-table : (t u : List Record) → is_table t ≡ true → is_table u ≡ true → Apart t u → is_table (join t u) ≡ true
join-table t u h k a =
    both _ _ (join-in-rule t u (first_of _ _ h) (first_of _ _ k)) (join-ordered t u (second-of (all_in_rule t) _ h) (second-of (all_in_rule u) _ k) a)

-- nothing is apart from all; what enters the second stays out of the first
pub apart_none : (t : List Record) → Apart t []
unfolding is_in
apart_none t x i j = true≢false (sym j)

pub apart-insert : (r : Record) (t u : List Record) → Apart t u → is_in r t ≡ false → Apart t (insert r u)
apart-insert r t u a out x i j = go (same r x) refl (sym (insert-membership r x u) ∙ j)
  where
    go : (b : Bool) → same r x ≡ b → (b || is_in x u) ≡ true → ⊥
    go true e k = not-both _ i (rw (← ((same-is-equal r x).0 e)) out)
    go false e k = a x i k

-- a record goes in behind a first one that is before it, and else in front
insert-behind : (x y : Record) (t : List Record) → before y x ≡ true → insert x (y ∷ t) ≡ y ∷ insert x t
unfolding insert
insert-behind x y t p = rw p

insert-here : (x y : Record) (t : List Record) → before y x ≡ false → insert x (y ∷ t) ≡ x ∷ y ∷ t
unfolding insert
insert-here x y t p = rw p

insert-only : (x : Record) → insert x [] ≡ x ∷ []
unfolding insert
insert-only x = refl

-- so two records may go in in either order
insert-over : (x r : Record) (t : List Record) → before x r ≡ true → insert x (insert r t) ≡ insert r (insert x t)
insert-over x r [] p =
    rw (insert-only r, insert-only x, insert-here x r [] (before-asymmetric x r p), insert-behind r x [] p, insert-only r)
insert-over x r (y ∷ t) p = go (before y x) refl (before y r) refl (insert-over x r t p)
  where
    go : (b : Bool) → before y x ≡ b → (c : Bool) → before y r ≡ c → insert x (insert r t) ≡ insert r (insert x t)
        → insert x (insert r (y ∷ t)) ≡ insert r (insert x (y ∷ t))
    go true q true q' rest =
        rw (insert-behind r y t q', insert-behind x y t q, insert-behind x y (insert r t) q, insert-behind r y (insert x t) q', rest)
    go true q false q' rest = absurd (not-both _ (before-transitive y x r q p) q')
    go false q true q' rest =
        rw (insert-behind r y t q', insert-here x y t q, insert-here x y (insert r t) q, insert-behind r x (y ∷ t) p, insert-behind r y t q')
    go false q false q' rest =
        rw (insert-here r y t q', insert-here x y t q, insert-here x r (y ∷ t) (before-asymmetric x r p), insert-behind r x (y ∷ t) p, insert-here r y t q')

insert-swap : (x r : Record) (t : List Record) → insert x (insert r t) ≡ insert r (insert x t)
insert-swap x r t = go (sides x r)
  where
    go : Sides x r → insert x (insert r t) ≡ insert r (insert x t)
    go (before-it p) = insert-over x r t p
    go (the_same e) = rw e
    go (behind-it p) = sym (insert-over r x t p)

pub join-insert : (r : Record) (t u : List Record) → join t (insert r u) ≡ insert r (join t u)
unfolding join insert
join-insert r t [] = refl
join-insert r t (x ∷ u) = go (before x r) (join-insert r t u)
  where
    go : (b : Bool) → join t (insert r u) ≡ insert r (join t u) → join t (cond b (x ∷ insert r u) (r ∷ x ∷ u)) ≡ insert r (insert x (join t u))
    go true rest = ap (insert x) rest ∙ insert-swap x r (join t u)
    go false rest = refl

-- ---- a merge

join-append : (t u v : List Record) → join t (u ++ v) ≡ join (join t v) u
unfolding join
join-append t [] v = refl
join-append t (x ∷ u) v = ap (insert x) (join-append t u v)

-- a record that is before another goes in before it
insert-front : (x r : Record) (t u : List Record) → before x r ≡ true → insert x (t ++ r ∷ u) ≡ insert x t ++ r ∷ u
unfolding insert
insert-front x r [] u p = rw (before-asymmetric x r p)
insert-front x r (y ∷ t) u p = go (before y x) (insert-front x r t u p)
  where
    go : (b : Bool) → insert x (t ++ r ∷ u) ≡ insert x t ++ r ∷ u
        → cond b (y ∷ insert x (t ++ r ∷ u)) (x ∷ y ∷ (t ++ r ∷ u)) ≡ cond b (y ∷ insert x t) (x ∷ y ∷ t) ++ r ∷ u
    go true rest = ap (λ (v : List Record). y ∷ v) rest
    go false rest = refl

join_front : (r : Record) (t u v : List Record) → ordered (v ++ r ∷ []) ≡ true → join (t ++ r ∷ u) v ≡ join t v ++ r ∷ u
unfolding join
join_front r t u [] h = refl
join_front r t u (x ∷ v) h =
    ap (insert x) (join_front r t u v (ordered-tail x (v ++ r ∷ []) h)) ∙ insert-front x r (join t v) u (each-before x r v h)

-- so the last record of the second splits the first at its rank, and the others go in before it
join_last : (r : Record) (t u : List Record) → ordered t ≡ true → ordered (u ++ r ∷ []) ≡ true
    → join t (u ++ r ∷ []) ≡ join (take (rank r t) t) u ++ r ∷ drop (rank r t) t
unfolding join
join_last r t u h k =
    join-append t u (r ∷ [])
    ∙ ap (λ (v : List Record). join v u) (insert-at-rank r t h)
    ∙ join_front r (take (rank r t) t) (drop (rank r t) t) u k

-- the front of an ordered list
front_ordered : (i : ℕ) (t : List Record) → ordered t ≡ true → ordered (take i t) ≡ true
front_ordered i t h = ordered-front (take i t) (drop i t) (rw (take-append-drop i t) h)

front-of-room : (limit : ℕ) (t : List Record) (end : ℕ) → end ≤ length t → take (6 * end) (room limit t) ≡ flat (take end t)
unfolding room
front-of-room limit t end e = take-flat end t _ e

module _ (limit : ℕ) (t : List Record) (h : ordered t ≡ true) (end : ℕ) (e : end ≤ length t) where
  front_length : length (take end t) ≡ end
  front_length = length-take-le end t e

  place-in-front : (r : Record) → place (room limit t) end r ≡ rank r (take end t)
  place-in-front r =
      place-agrees (room limit t) (room end (take end t)) end
      (front-of-room limit t end e ∙ sym (front-of-room end (take end t) end (omega (arith, front_length)) ∙ ap flat (take-take end end t (omega arith)))) r
      ∙ ap (λ (n : ℕ). place (room end (take end t)) n r) (sym front_length)
      ∙ place-is-rank end (take end t) (front_ordered end t h) r

  -- the records from a place to the end
  part-of-room : (p : ℕ) → p ≤ end → take (6 * end - 6 * p) (drop (6 * p) (room limit t)) ≡ flat (drop p (take end t))
  unfolding room
  part-of-room p k =
      ap (λ (s : List ℕ). take (6 * end - 6 * p) (drop (6 * p) s)) (flat-split end t _)
      ∙ rest_of p (take end t) _ (6 * end - 6 * p) (omega (arith, front_length)) (omega (arith, front_length))

merge-joins : (limit k : ℕ) (t u : List Record) → ordered t ≡ true → ordered u ≡ true → (j end : ℕ) → j ≤ length u → end ≤ length t → (rest : List ℕ)
    → merge_from (room limit t) end (room k u) j rest ≡ flat (join (take end t) (take j u)) ++ rest
unfolding merge_from join flat
merge-joins limit k t u h o zero end l e rest = ap (λ (s : List ℕ). s ++ rest) (front-of-room limit t end e)
merge-joins limit k t u h o (suc i) end l e rest =
    let r : Record = record_at (room k u) i in
    let front : List Record = take end t in
    let p : ℕ = rank r front in
    let near : p ≤ end = omega (arith, rank-within r front, front_length limit t h end e) in
    let more : take (suc i) u ≡ take i u ++ r ∷ [] =
    take-suc u i r l ∙ ap (λ (x : Record). take i u ++ x ∷ []) (sym (record-of-room k u i r l)) in
    let split : join front (take (suc i) u) ≡ join (take p t) (take i u) ++ r ∷ drop p front =
    ap (join front) more
    ∙ join_last r front (take i u) (front_ordered end t h) (rw (← more) (front_ordered (suc i) u o))
    ∙ ap (λ (v : List Record). join v (take i u) ++ r ∷ drop p front) (take-take p end t near) in
    rw (place-in-front limit t h end e r, part-of-room limit t h end e p near, split)
    (merge-joins limit k t u h o i p (omega arith) (omega arith) (numbers r ++ (flat (drop p front) ++ rest))
    ∙ sym (ap (λ (s : List ℕ). s ++ rest) (flat_append (join (take p t) (take i u)) (r ∷ drop p front))
    ∙ append_assoc (flat (join (take p t) (take i u))) (numbers r ++ flat (drop p front)) rest))

-- zeros behind more records are fewer
zeros-behind : (m n k : ℕ) → k ≡ m + n → drop m (replicate k 0) ≡ replicate {A = ℕ} n 0
zeros-behind m n k e =
    ap (λ (x : ℕ). drop m (replicate x 0)) e
    ∙ ap (drop m) (sym (replicate-append-replicate m n 0))
    ∙ drop_at (replicate m 0) (replicate n 0) m (length-replicate {A = ℕ} m 0)

spare-behind : (limit : ℕ) (t : List Record) (n : ℕ) → length t + n ≤ limit
    → drop (6 * (length t + n)) (room limit t) ≡ replicate (6 * limit - 6 * (length t + n)) 0
unfolding room
spare-behind limit t n h =
    let both-parts : 6 * (length t + n) ≡ 6 * length t + 6 * n = omega arith in
    ap (λ (k : ℕ). drop k (room limit t)) both-parts
    ∙ sym (drop-drop (6 * n) (6 * length t) (room limit t))
    ∙ ap (drop (6 * n)) (behind-of t (replicate (6 * limit - 6 * length t) 0))
    ∙ zeros-behind (6 * n) (6 * limit - 6 * (length t + n)) (6 * limit - 6 * length t) (omega arith)

pub merge-is : (limit k : ℕ) (t u : List Record) → ordered t ≡ true → ordered u ≡ true → length t + length u ≤ limit → length u ≤ k
    → merged (room limit t) (length t) (room k u) (length u) ≡ record { says = counted (length t + length u); left = room limit (join t u) }
unfolding merged room
merge-is limit k t u h o l m =
    rw (room-limit limit t (omega arith), room-limit k u m, le-leb (length t) limit (omega arith), le-leb (length u) k m, le-leb (length u) (limit - length t) (omega arith))
    (ap (λ (s : List ℕ). record { says = counted (length t + length u); left = s })
    (merge-joins limit k t u h o (length u) (length t) (omega arith) (omega arith) _
    ∙ rw (take-length t, take-length u, spare-behind limit t (length u) l, ← (join-length t u))))
