-- What holds of the changes between two tables, over any limit, and of the search for them in two rooms. The argument is in the files beside this
-- one. Assumes nothing.
use Rattle.std.specs.Prelude.{Result, Ok, Err, Option, Some, None}
use Prim.Native.Nat.{ℕ, ◌+◌, ◌≤◌}
use mathlib.Core.Bool.{true, false, cond}
use mathlib.Core.List.{List, [], ◌∷◌, ◌++◌, map, append-nil}
use mathlib.Core.Logic.{◌↔◌}
use mathlib.Core.Path.{◌≡◌, refl, sym, ap, ◌∙◌, subst}
use native.Mathlib.Omega.{arith}
use lib.ListN.{length, drop, length-append, length-map}
use Rattle.rtr_room.specs.Table.{ordered, all_in_rule, is_table, is_in}
use Rattle.rtr_room.specs.Room.{room, records, is_room}
use Rattle.rtr_room.specs.declared.Record.{Record}
use Rattle.rtr_room.proofs.Laws.Tables.{Inside}
use Rattle.rtr_room.proofs.Laws.Tests.{second-of}
use Rattle.rtr_receiver.specs.History.{Changed, with_all}
use Rattle.rtr_receiver.proofs.Laws.{with-all-none}
use Rattle.rtr_changes.specs.Changes.{without, withdraw, announce, changes, Applies, withdrawn_by, announced_by, how_often, OnlySays, next_only, only_said}
use Rattle.rtr_changes.proofs.Without as kept
use Rattle.rtr_changes.proofs.Applying as applying
use Rattle.rtr_changes.proofs.Counting as counting
use Rattle.rtr_changes.proofs.Places as places
use Rattle.rtr_changes.proofs.Places.{RoomOf, NextAt, Means}
use Rattle.rtr_room.specs.declared.NotARoom.{NotARoom}

-- ---- Those of one table that are not in another

-- record by record: none of none, a shared one is passed over, another one stays
pub none-without : (b : List Record) → without [] b ≡ []
none-without = kept.none-without

pub without-shared : (r : Record) (a b : List Record) → is_in r b ≡ true → without (r ∷ a) b ≡ without a b
without-shared = kept.without-shared

pub without-only : (r : Record) (a b : List Record) → is_in r b ≡ false → without (r ∷ a) b ≡ r ∷ without a b
without-only = kept.without-only

-- a record is among them exactly if it is in the one and not in the other
pub without-exactly : (r : Record) (a b : List Record) → is_in r (without a b) ≡ true ↔ ((is_in r a ≡ true) × (is_in r b ≡ false))
without-exactly = counting.without-exactly

-- they are a table
pub without-table : (a b : List Record) → is_table a ≡ true → is_table (without a b) ≡ true
without-table = kept.without-table

-- of no more records
pub without-at-most : (a b : List Record) → length (without a b) ≤ length a
without-at-most = kept.without-at-most

-- without nothing all are left
pub without-none : (t : List Record) → without t [] ≡ t
without-none = kept.without-none

-- none is left of those that are all in the other
pub without_all : (a b : List Record) → Inside a b → without a b ≡ []
without_all = kept.without_all

-- ---- The changes

-- withdrawals in the old table's order, then announcements in the new table's
pub changes-are : (old new : List Record) → changes old new ≡ map withdraw (without old new) ++ map announce (without new old)
unfolding changes
changes-are old new = refl

-- each applies, one after another, and the new table is left: 16, 17 and 18 do not come, whatever the limit that the new table is within
pub changes-apply : (limit : ℕ) (old new : List Record) → is_table old ≡ true → is_table new ≡ true → length new ≤ limit
    → Applies limit old (changes old new) new
changes-apply = applying.changes-apply

-- what applies makes the table that the history's page says
pub applies-with-all : (limit : ℕ) (t u : List Record) (cs : List Changed) → Applies limit t cs u → with_all limit t cs ≡ u
applies-with-all limit t u cs a = applying.applies-with-all limit a

-- "Applying the output to the old table gives the new one"
pub with-all-changes : (limit : ℕ) (old new : List Record) → is_table old ≡ true → is_table new ≡ true → length new ≤ limit
    → with_all limit old (changes old new) ≡ new
with-all-changes limit old new h k l = applying.applies-with-all limit (applying.changes-apply limit old new h k l)

-- what is withdrawn, and what is announced
pub withdrawn-are : (old new : List Record) → withdrawn_by (changes old new) ≡ without old new
withdrawn-are = counting.withdrawn-are

pub announced-are : (old new : List Record) → announced_by (changes old new) ≡ without new old
announced-are = counting.announced-are

-- a record is withdrawn exactly if it is in the old table and not in the new one, and announced exactly if it is in the new one and not in the old one
pub changes-exactly : (r : Record) (old new : List Record) →
    (is_in r (withdrawn_by (changes old new)) ≡ true ↔ ((is_in r old ≡ true) × (is_in r new ≡ false)))
    × (is_in r (announced_by (changes old new)) ≡ true ↔ ((is_in r new ≡ true) × (is_in r old ≡ false)))
changes-exactly r old new = (
  rw (counting.withdrawn-are old new) (counting.without-exactly r old new),
  rw (counting.announced-are old new) (counting.without-exactly r new old),
)

-- both parts are in table order, so each record of them stands there once
pub changes-ordered : (old new : List Record) → is_table old ≡ true → is_table new ≡ true
    → (ordered (withdrawn_by (changes old new)) ≡ true) × (ordered (announced_by (changes old new)) ≡ true)
changes-ordered old new h k = (
  ap ordered (counting.withdrawn-are old new) ∙ second-of (all_in_rule (without old new)) _ (kept.without-table old new h),
  ap ordered (counting.announced-are old new) ∙ second-of (all_in_rule (without new old)) _ (kept.without-table new old k),
)

-- "A record in exactly one table appears once; a shared one never does", nor does one in neither
pub once-or-never : (r : Record) (old new : List Record) → is_table old ≡ true → is_table new ≡ true
    → how_often r (changes old new) ≡ cond (is_in r old) (cond (is_in r new) 0 1) (cond (is_in r new) 1 0)
once-or-never = counting.once-or-never

-- nothing changed from a table to itself
pub changes-of-same : (t : List Record) → changes t t ≡ []
changes-of-same t =
    let none : without t t ≡ [] = kept.without_all t t (λ x i. i) in
    changes-are t t ∙ ap (λ (u : List Record). map withdraw u ++ map announce u) none

-- and nothing changed only then
pub no-changes-exactly : (old new : List Record) → is_table old ≡ true → is_table new ≡ true → changes old new ≡ [] ↔ old ≡ new
no-changes-exactly old new h k = (
  λ e. sym (with-all-none (length new) old) ∙ ap (with_all (length new) old) (sym e) ∙ with-all-changes (length new) old new h k (omega arith),
  λ e. ap (changes old) (sym e) ∙ changes-of-same old,
)

-- from no records all are announced
pub changes-from-none : (t : List Record) → changes [] t ≡ map announce t
changes-from-none t =
    changes-are [] t
    ∙ ap (λ (u : List Record). map withdraw u ++ map announce (without t [])) (kept.none-without t)
    ∙ ap (map announce) (kept.without-none t)

-- to no records all are withdrawn
pub changes-to-none : (t : List Record) → changes t [] ≡ map withdraw t
changes-to-none t =
    changes-are t []
    ∙ ap (λ (u : List Record). map withdraw (without t []) ++ map announce u) (kept.none-without t)
    ∙ append-nil (map withdraw (without t []))
    ∙ ap (map withdraw) (kept.without-none t)

-- no more than both tables have
pub changes-at-most : (old new : List Record) → length (changes old new) ≤ length old + length new
changes-at-most old new =
    rw (changes-are old new) (simp (length-append, length-map) (omega (arith, kept.without-at-most old new, kept.without-at-most new old)))

-- ---- The search, for those who call it: on the rooms of tables s and t, of any limits. From place i on there are `without (drop i s) t` to be found

-- a table's room
pub room-of-table : (limit : ℕ) (t : List Record) → is_table t ≡ true → length t ≤ limit → RoomOf t (room limit t) (length t)
room-of-table limit t h l = record { limit = limit; table = h; counts = refl; fits = l; is-room = refl }

-- what keeps the room rules is the room of its records
pub room-of-rules : (limit count : ℕ) (numbers : List ℕ) → is_room limit count numbers ≡ true → RoomOf (records count numbers) numbers count
room-of-rules = places.room-of-rules

-- behind the last place there is nothing to be found
pub behind-all : {s : List Record} {a : List ℕ} {m : ℕ} (t : List Record) → RoomOf s a m → (i : ℕ) → m ≤ i → without (drop i s) t ≡ []
behind-all {s} {a} {m} t first i h = places.behind-all s t a m first i h

module _ {s t : List Record} {a b : List ℕ} {m n : ℕ} (first : RoomOf s a m) (second : RoomOf t b n)
    (i : ℕ) (answer : Result (Option ℕ) NotARoom) (says : only_said answer ≡ next_only a m b n i) where
  meant : (shape : Result (Option ℕ) NotARoom) → answer ≡ shape → Means s t a m i (only_said shape)
  meant shape e = subst (λ (o : OnlySays). Means s t a m i o) (sym says ∙ ap only_said e) (places.next-means s t a b m n first second i)

  -- a place: the next of those of s that are not in t stands there, and behind it come those from the next place on
  pub next-at : (p : ℕ) → answer ≡ Ok (Some p) → NextAt s t a m i p
  next-at p e = meant (Ok (Some p)) e

  -- nothing: none is left
  pub next-nothing : answer ≡ Ok None → without (drop i s) t ≡ []
  next-nothing e = meant (Ok None) e

  -- and 22 does not come
  pub next-never-22 : answer ≡ Err (record {}) → ⊥
  next-never-22 e = meant (Err (record {})) e
