-- The search for the next difference: on any numbers, turn by turn, as the loop of `next_only` goes; and on the rooms of two tables, where a
-- record stands in the other room exactly where it is in the other table, so that what is found is the next of `without`. Assumes nothing.
use Rattle.std.specs.Prelude.{Some}
use Prim.Native.Nat.{ℕ, zero, suc, ◌+◌, ◌-◌, ◌≤◌, ◌<◌}
use mathlib.Core.Bool.{Bool, true, false, cond, and-false}
use mathlib.Core.List.{List, [], ◌∷◌}
use mathlib.Core.Path.{◌≡◌, refl, sym, ap, ◌∙◌, subst}
use native.Mathlib.Numerals.{add-one}
use native.Mathlib.Omega.{arith}
use borrow.Author.Tests.{le-leb, lt-leb}
use lib.Dec.{leb}
use lib.ListN.{length, get_or, drop, drop_of_length-le}
use lib.Seq.{drop-cons}
use Rattle.rtr_room.specs.Table.{in_rule, all_in_rule, is_table, is_in}
use Rattle.rtr_room.specs.Room.{room, records, record_at, record_found, is_room, limit_of, stands}
use Rattle.rtr_room.specs.declared.Record.{Record}
use Rattle.rtr_room.proofs.Laws.{room-length, room-limit, record-of-room, records-of-room, found_inside, in-rule-at, stands-is-in, rules-exactly}
use Rattle.rtr_room.proofs.Laws.Tests.{second-of}
use Rattle.rtr_changes.specs.Changes.{without, OnlySays, first_only, next_only}
use Rattle.rtr_changes.specs.Changes.OnlySays.{only_at, none_only, refused}
use Rattle.rtr_changes.proofs.Without.{none-without, without-shared, without-only}

-- ---- any numbers

module _ (a b : List ℕ) (a_count b_count from : ℕ) where
  pub over_first : limit_of a < a_count → refused 22 ≡ next_only a a_count b b_count from
  unfolding next_only
  over_first h = rw (lt-leb a_count (limit_of a) h)

  pub over-second : limit_of b < b_count → refused 22 ≡ next_only a a_count b b_count from
  unfolding next_only
  over-second h = rw (lt-leb b_count (limit_of b) h, and-false (leb a_count (limit_of a)))

  pub starts : a_count ≤ limit_of a → b_count ≤ limit_of b → first_only (a_count - from) a b b_count from ≡ next_only a a_count b b_count from
  unfolding next_only
  starts h k = rw (le-leb a_count (limit_of a) h, le-leb b_count (limit_of b) k)

module _ (a b : List ℕ) (a_count b_count i : ℕ) where
  one-turn : i < a_count
      → first_only (a_count - i) a b b_count i ≡ cond (stands b b_count (record_at a i)) (first_only (a_count - (i + 1)) a b b_count (i + 1)) (only_at i)
  unfolding first_only
  one-turn h =
      let n : a_count - i ≡ suc (a_count - (i + 1)) = omega arith in
      rw (n, add-one i)

  pub goes_on : i < a_count → stands b b_count (record_at a i) ≡ true → first_only (a_count - i) a b b_count i ≡ first_only (a_count - (i + 1)) a b b_count (i + 1)
  goes_on h e = rw e at (one-turn h)

  pub finds : i < a_count → stands b b_count (record_at a i) ≡ false → only_at i ≡ first_only (a_count - i) a b b_count i
  finds h e = sym (rw e at (one-turn h))

  pub ends : a_count ≤ i → none_only ≡ first_only (a_count - i) a b b_count i
  unfolding first_only
  ends h = let n : a_count - i ≡ 0 = omega arith in ap (λ (k : ℕ). first_only k a b b_count i) (sym n)

-- ---- the rooms of two tables

-- numbers and a count that are a table's room, of some limit
pub record RoomOf (t : List Record) (numbers : List ℕ) (count : ℕ) : Type 0 where
  pub limit : ℕ
  pub table : is_table t ≡ true
  pub counts : count ≡ length t
  pub fits : length t ≤ limit
  pub is-room : numbers ≡ room limit t

-- what keeps the room rules is the room of its records
pub room-of-rules : (limit count : ℕ) (numbers : List ℕ) → is_room limit count numbers ≡ true → RoomOf (records count numbers) numbers count
room-of-rules limit count numbers e =
    let r = (rules-exactly limit count numbers).0 e in
    let read : records count numbers ≡ r.0 =
    ap (λ (n : ℕ). records n numbers) (sym r.2) ∙ ap (λ (s : List ℕ). records (length r.0) s) r.4 ∙ records-of-room limit r.0 in
    subst (λ (t : List Record). RoomOf t numbers count) (sym read)
    (record { limit = limit; table = r.1; counts = sym r.2; fits = omega (arith, r.2, r.3); is-room = r.4 })

-- so its count is within its numbers
count-within : (t : List Record) (numbers : List ℕ) (count : ℕ) → RoomOf t numbers count → count ≤ limit_of numbers
count-within t numbers count r =
    let limit_is : limit_of numbers ≡ r.limit = ap limit_of r.is-room ∙ room-limit r.limit t r.fits in
    omega (arith, r.counts, r.fits)

-- behind the last place there is nothing
pub behind-all : (s t : List Record) (a : List ℕ) (m : ℕ) → RoomOf s a m → (i : ℕ) → m ≤ i → without (drop i s) t ≡ []
behind-all s t a m first i h =
    let l : length s ≤ i = omega (arith, first.counts) in
    ap (λ (u : List Record). without u t) (drop_of_length-le s {i = i} l) ∙ none-without t

-- place p has the next record of s, from place i on, that is not in t: it can be read there, is in rule, and behind it come those from the next place on
pub record NextAt (s t : List Record) (a : List ℕ) (m i p : ℕ) : Type 0 where
  pub behind : i ≤ p
  pub inside : p < length s
  pub below : p < m
  pub there : record_found a p ≡ Some (record_at a p)
  pub in-rule : in_rule (record_at a p) ≡ true
  pub rest : without (drop i s) t ≡ record_at a p ∷ without (drop (suc p) s) t

-- what an answer means there
abbrev pub Means : List Record → List Record → List ℕ → ℕ → ℕ → OnlySays → Type 0
Means s t a m i (only_at p) = NextAt s t a m i p
Means s t a m i none_only = without (drop i s) t ≡ []
Means s t a m i (refused k) = ⊥

module _ (s t : List Record) (a b : List ℕ) (m n : ℕ) (first : RoomOf s a m) (second : RoomOf t b n) where
  is-there : (i : ℕ) → i < length s → record_found a i ≡ Some (record_at a i)
  is-there i l = found_inside a i (omega (arith, ap length first.is-room, room-length first.limit s first.fits, first.fits))

  record_is : (i : ℕ) → i < length s → record_at a i ≡ get_or s i (record_at a i)
  record_is i l = ap (λ (x : List ℕ). record_at x i) first.is-room ∙ record-of-room first.limit s i (record_at a i) l

  from_place : (i : ℕ) → i < length s → without (drop i s) t ≡ without (record_at a i ∷ drop (suc i) s) t
  from_place i l = ap (λ (u : List Record). without u t) (drop-cons s i (record_at a i) l ∙ ap (λ (r : Record). r ∷ drop (suc i) s) (sym (record_is i l)))

  skips : (i : ℕ) → i < length s → is_in (record_at a i) t ≡ true → without (drop i s) t ≡ without (drop (suc i) s) t
  skips i l e = from_place i l ∙ without-shared (record_at a i) (drop (suc i) s) t e

  stands-there : (r : Record) → stands b n r ≡ is_in r t
  stands-there r =
      ap (λ (x : List ℕ). stands x n r) second.is-room
      ∙ ap (λ (k : ℕ). stands (room second.limit t) k r) second.counts
      ∙ stands-is-in second.limit t (second-of (all_in_rule t) _ second.table) r

  -- a shared record is passed over
  passed_over : (i : ℕ) → i < length s → is_in (record_at a i) t ≡ true → (o : OnlySays) → Means s t a m (suc i) o → Means s t a m i o
  passed_over i l e (only_at p) x =
      record { behind = omega (arith, x.behind); inside = x.inside; below = x.below; there = x.there; in-rule = x.in-rule; rest = skips i l e ∙ x.rest }
  passed_over i l e none_only x = skips i l e ∙ x
  passed_over i l e (refused k) x = x

  along : (k i : ℕ) → k ≡ length s - i → Means s t a m i (first_only k a b n i)
  unfolding first_only
  along zero i e = behind-all s t a m first i (omega (arith, first.counts))
  along (suc k) i e = go (is_in (record_at a i) t) refl (along k (suc i) (omega arith))
    where
      l : i < length s
      l = omega arith

      go : (c : Bool) → is_in (record_at a i) t ≡ c → Means s t a m (suc i) (first_only k a b n (suc i))
          → Means s t a m i (cond (stands b n (record_at a i)) (first_only k a b n (suc i)) (only_at i))
      go true e rest = rw (stands-there (record_at a i), e) (passed_over i l e (first_only k a b n (suc i)) rest)
      go false e rest =
          rw (stands-there (record_at a i), e)
          (record {
            behind = omega arith;
            inside = l;
            below = omega (arith, l, first.counts);
            there = is-there i l;
            in-rule = ap in_rule (record_is i l) ∙ in-rule-at (record_at a i) s i first.table l;
            rest = from_place i l ∙ without-only (record_at a i) (drop (suc i) s) t e;
          })

  pub next-means : (i : ℕ) → Means s t a m i (next_only a m b n i)
  next-means i =
      subst (λ (o : OnlySays). Means s t a m i o)
      (starts a b m n i (count-within s a m first) (count-within t b n second))
      (along (m - i) i (omega (arith, first.counts)))
