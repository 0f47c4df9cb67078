-- What changed between two tables: document 02, request Four ("withdrawals then announcements, .. both in table order"). A change is `Changed` of
-- rtr_receiver's History page, and applies by its `applied`. That the changes make the new table of the old one is `changes-apply` of
-- proofs/Laws.antt.
use Rattle.std.specs.Prelude.{ℕ, zero, suc, ◌-◌, true, false, cond, ◌&&◌, List, [], ◌∷◌, ◌++◌, map, ◌≡◌, leb, Result, Ok, Err, Option, Some, None}
use Rattle.rtr_room.specs.Table.{Change, same, is_in}
use Rattle.rtr_room.specs.Room.{record_at, stands, limit_of}
use Rattle.rtr_room.specs.declared.Record.{Record}
use Rattle.rtr_receiver.specs.History.{Changed, applied}
use Rattle.rtr_room.specs.declared.NotARoom.{NotARoom}

-- ---- the changes

-- those of a that are not in b, in a's order
unfoldable pub without : List Record → List Record → List Record
without [] b = []
without (r ∷ a) b = cond (is_in r b) (without a b) (r ∷ without a b)

-- a record withdrawn
abbrev pub withdraw : Record → Changed
withdraw r = record { announced = false; what = r }

-- a record announced
abbrev pub announce : Record → Changed
announce r = record { announced = true; what = r }

-- from an old table to a new one: what the old one alone has is withdrawn, then what the new one alone has is announced
unfoldable pub changes : List Record → List Record → List Changed
changes old new = map withdraw (without old new) ++ map announce (without new old)

-- one table becomes another by some changes, each of which applies where it stands: 16, 17 and 18 do not come
pub data Applies (limit : ℕ) : List Record → List Changed → List Record → Type 0 where
  done : {t : List Record} → Applies limit t [] t
  step : {t t' u : List Record} {c : Changed} {cs : List Changed} → applied limit t c.announced c.what ≡ Change.changed t' → Applies limit t' cs u
      → Applies limit t (c ∷ cs) u

-- ---- what is in changes

-- the records that they withdraw, in order
unfoldable pub withdrawn_by : List Changed → List Record
withdrawn_by [] = []
withdrawn_by (c ∷ cs) = cond c.announced (withdrawn_by cs) (c.what ∷ withdrawn_by cs)

-- the records that they announce, in order
unfoldable pub announced_by : List Changed → List Record
announced_by [] = []
announced_by (c ∷ cs) = cond c.announced (c.what ∷ announced_by cs) (announced_by cs)

-- how often a record stands in them, withdrawn or announced
unfoldable pub how_often : Record → List Changed → ℕ
how_often r [] = 0
how_often r (c ∷ cs) = cond (same c.what r) (suc (how_often r cs)) (how_often r cs)

-- ---- the call: the next record of one room that the other has not, over any numbers and counts

-- what it says: a place, that there is none, or a refusal's number
pub data OnlySays : Type 0 where
  only_at : ℕ → OnlySays
  none_only : OnlySays
  refused : ℕ → OnlySays

-- of so many places of a, from one on, the first whose record does not stand among b's
unfoldable pub first_only : ℕ → List ℕ → List ℕ → ℕ → ℕ → OnlySays
first_only zero a b b_count from = none_only
first_only (suc n) a b b_count from = cond (stands b b_count (record_at a from)) (first_only n a b b_count (suc from)) (only_at from)

-- 22 where a count is over its limit; then the places from one on, below a's count
unfoldable pub next_only : List ℕ → ℕ → List ℕ → ℕ → ℕ → OnlySays
next_only a a_count b b_count from = cond (leb a_count (limit_of a) && leb b_count (limit_of b)) (first_only (a_count - from) a b b_count from) (refused 22)

-- what the code's answer says
abbrev pub only_said : Result (Option ℕ) NotARoom → OnlySays
only_said (Ok (Some p)) = only_at p
only_said (Ok None) = none_only
only_said (Err refusal) = refused 22

-- document 01's number of it, or 0 where it is no refusal
abbrev pub only_number : OnlySays → ℕ
only_number (only_at p) = 0
only_number none_only = 0
only_number (refused k) = k
