-- Where bisection ends: where the records below p are before r and those from p on are not, halving keeps p within lo to hi, and ends with
-- lo at p. In the room of an ordered table p is the rank. Assumes nothing.
use Prim.Native.Nat.{ℕ, zero, suc, ◌+◌, ◌-◌, ◌<◌, ◌≤◌}
use mathlib.Core.Bool.{Bool, true, false, cond, ◌&&◌}
use mathlib.Core.List.{List}
use mathlib.Core.Path.{◌≡◌, refl, ◌∙◌}
use native.Mathlib.Omega.{arith}
use borrow.Author.Tests.{ltb-true, ltb-false}
use lib.Dec.{ltb}
use lib.ListN.{length, get_or}
use Rattle.rtr_room.specs.Table.{before, same, is_in, rank, ordered}
use Rattle.rtr_room.specs.Room.{room, record_at, bisect, place, stands}
use Rattle.rtr_room.specs.declared.Record.{Record}
use Rattle.rtr_room.proofs.Halving.{mid, met, halved}
use Rattle.rtr_room.proofs.Laws.Tests.{not-both}
use Rattle.rtr_room.proofs.Laws.Rooms.{record-of-room}
use Rattle.rtr_room.proofs.Laws.Ranks.{rank-within, before-rank, from-rank, only-at-rank, stands-at-rank}

module _ (s : List ℕ) (r : Record) (p : ℕ) where
  abbrev Below : Type 0
  Below = (i : ℕ) → i < p → before (record_at s i) r ≡ true

  abbrev From : ℕ → Type 0
  From hi = (i : ℕ) → p ≤ i → i < hi → before (record_at s i) r ≡ false

  -- and the record itself stands at p or nowhere
  abbrev Once : ℕ → Type 0
  Once hi = (i : ℕ) → i < hi → same (record_at s i) r ≡ true → i ≡ p

  -- a test at a place says on which side of p it is
  side_before : Below → (hi i : ℕ) → From hi → i < hi → before (record_at s i) r ≡ true → i < p
  side_before b hi i f l e = go (ltb i p) refl
    where
      go : (c : Bool) → ltb i p ≡ c → i < p
      go true q = ltb-true i p q
      go false q = absurd (not-both _ e (f i (ltb-false i p q) l))

  side-from : Below → (i : ℕ) → before (record_at s i) r ≡ false → p ≤ i
  side-from b i e = go (ltb i p) refl
    where
      go : (c : Bool) → ltb i p ≡ c → p ≤ i
      go true q = absurd (not-both _ (b i (ltb-true i p q)) e)
      go false q = ltb-false i p q

  bisect-finds : Below → (fuel lo hi : ℕ) → From hi → lo ≤ p → p ≤ hi → hi - lo ≤ fuel → bisect fuel s r lo hi ≡ p
  bisect-finds b zero lo hi f l h n = omega (arith, met s r zero lo hi (omega arith))
  bisect-finds b (suc fuel) lo hi f l h n = go (ltb lo hi) refl (before (record_at s (mid lo hi)) r) refl (bisect-finds b fuel)
    where
      go : (c : Bool) → ltb lo hi ≡ c → (d : Bool) → before (record_at s (mid lo hi)) r ≡ d → ((lo hi : ℕ) → From hi → lo ≤ p → p ≤ hi → hi - lo ≤ fuel → bisect fuel s r lo hi ≡ p) → bisect (suc fuel) s r lo hi ≡ p
      go false q d e rest =
          let k : hi ≤ lo = ltb-false lo hi q in
          omega (arith, met s r (suc fuel) lo hi k)
      go true q true e rest =
          let k : lo < hi = ltb-true lo hi q in
          let m : mid lo hi < p = side_before b hi (mid lo hi) f (omega arith) e in
          rw (halved s r fuel lo hi k, e) (rest (mid lo hi + 1) hi f (omega arith) h (omega arith))
      go true q false e rest =
          let k : lo < hi = ltb-true lo hi q in
          let m : p ≤ mid lo hi = side-from b (mid lo hi) e in
          rw (halved s r fuel lo hi k, e) (rest lo (mid lo hi) (λ i j k'. f i j (omega arith)) l m (omega arith))

  place-finds : Below → (count : ℕ) → From count → Once count → p ≤ count → place s count r ≡ p
  unfolding place
  place-finds b zero f o h = omega arith
  place-finds b (suc last) f o h = go (before (record_at s last) r) refl (same (record_at s last) r) refl
    where
      go : (c : Bool) → before (record_at s last) r ≡ c → (d : Bool) → same (record_at s last) r ≡ d → cond c (suc last) (cond d last (bisect last s r 0 last)) ≡ p
      go true e d g = omega (arith, side_before b (suc last) last f (omega arith) e)
      go false e true g = o last (omega arith) g
      go false e false g = bisect-finds b last 0 last (λ i j k. f i j (omega arith)) (omega arith) (side-from b last e) (omega arith)

module _ (limit : ℕ) (t : List Record) (h : ordered t ≡ true) (r : Record) where
  pub place-is-rank : place (room limit t) (length t) r ≡ rank r t
  place-is-rank =
      place-finds (room limit t) r (rank r t)
      (λ i l. rw (record-of-room limit t i r (omega (arith, rank-within r t))) (before-rank r r t i h l))
      (length t)
      (λ i l k. rw (record-of-room limit t i r k) (from-rank r r t i h l k))
      (λ i l e. only-at-rank r r t i h l (rw (record-of-room limit t i r l) at e))
      (rank-within r t)

  pub stands-is-in : stands (room limit t) (length t) r ≡ is_in r t
  unfolding stands
  stands-is-in = rw place-is-rank (go (ltb (rank r t) (length t)) refl ∙ stands-at-rank r r t h)
    where
      go : (b : Bool) → ltb (rank r t) (length t) ≡ b → b && same (record_at (room limit t) (rank r t)) r ≡ (b && same (get_or t (rank r t) r) r)
      go true e = rw (record-of-room limit t (rank r t) r (ltb-true _ _ e))
      go false e = refl
