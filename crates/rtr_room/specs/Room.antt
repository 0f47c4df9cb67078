-- A room: a table as numbers, six for a record, with zeros behind (document 01, "Stream and receiver"), and what each call makes of ANY
-- numbers and count, by its "Refusal numbers". On the room of a table these are the table's own `enter`, `leave` and `join`: proofs/Laws.antt.
use Rattle.std.specs.Prelude.{ℕ, zero, suc, ◌+◌, ◌-◌, ◌*◌, ◌/◌, Bool, true, cond, ◌&&◌, List, [], ◌∷◌, ◌++◌, length, get_or, take, drop, replicate, leb, ltb, eqb, Option, Some, None, Result, Ok, Err, ⊤}
use Rattle.rtr_room.specs.Table.{before, same, is_table, Change}
use Rattle.rtr_room.specs.Table.Change.{changed}
use Rattle.rtr_room.specs.declared.Record.{Record}
use Rattle.rtr_room.specs.declared.NotARoom.{NotARoom}
use Rattle.rtr_room.specs.declared.Position.{Position}
use Rattle.rtr_room.specs.declared.EnterError.{EnterError}
use Rattle.rtr_room.specs.declared.LeaveError.{LeaveError}

-- ---- rooms: "A room is 6,144 numbers of 32 bits, six per record, at most 1,024 records. .. Spare numbers are 0", here over any limit

-- the six numbers of a record
abbrev pub numbers : Record → List ℕ
numbers r = r.kind ∷ r.w0 ∷ r.w1 ∷ r.w2 ∷ r.w3 ∷ r.asn ∷ []

-- the numbers of a table, record after record
unfoldable pub flat : List Record → List ℕ
flat [] = []
flat (r ∷ t) = numbers r ++ flat t

-- a table's room: its numbers, and zeros to six for each record that the limit allows
unfoldable pub room : ℕ → List Record → List ℕ
room limit t = flat t ++ replicate (6 * limit - 6 * length t) 0

-- the record that six numbers from a place on make
abbrev pub record_from : List ℕ → ℕ → Record
record_from s at =
    record { kind = get_or s at 0; w0 = get_or s (at + 1) 0; w1 = get_or s (at + 2) 0; w2 = get_or s (at + 3) 0; w3 = get_or s (at + 4) 0; asn = get_or s (at + 5) 0 }

-- record i of some numbers
unfoldable pub record_at : List ℕ → ℕ → Record
record_at s i = record_from s (6 * i)

-- record i where its six numbers are all there
unfoldable pub record_found : List ℕ → ℕ → Option Record
record_found s i = cond (leb (6 * i + 6) (length s)) (Some (record_at s i)) None

-- the first so many records of some numbers
unfoldable pub records : ℕ → List ℕ → List Record
records zero s = []
records (suc n) s = record_from s 0 ∷ records n (drop 6 s)

-- every number is 0
unfoldable pub all_zero : List ℕ → Bool
all_zero [] = true
all_zero (x ∷ s) = eqb x 0 && all_zero s

-- the room rules: six numbers for each record of the limit, no more records than the limit, a table, and spare numbers 0
unfoldable pub is_room : ℕ → ℕ → List ℕ → Bool
is_room limit count s = eqb (length s) (6 * limit) && (leb count limit && (is_table (records count s) && all_zero (drop (6 * count) s)))

-- how many records some numbers have room for: the limit of a call
abbrev pub limit_of : List ℕ → ℕ
limit_of s = length s / 6

-- ---- where a record stands ("Records ascend strictly": so it can be looked for by halving)

-- where a record stands or would stand among records lo to hi - 1: halve until one place is left (at most `fuel` times)
unfoldable pub bisect : ℕ → List ℕ → Record → ℕ → ℕ → ℕ
bisect zero s r lo hi = lo
bisect (suc fuel) s r lo hi =
    cond (ltb lo hi)
    (cond (before (record_at s (lo + (hi - lo) / 2)) r) (bisect fuel s r (lo + (hi - lo) / 2 + 1) hi) (bisect fuel s r lo (lo + (hi - lo) / 2)))
    lo

-- where a record stands or would stand among the first so many: the last is looked at first, and where that is neither before the record
-- nor the record itself, those before it are halved
unfoldable pub place : List ℕ → ℕ → Record → ℕ
place s zero r = 0
place s (suc last) r =
    cond (before (record_at s last) r) (suc last)
    (cond (same (record_at s last) r) last (bisect last s r 0 last))

-- the record stands at its place
unfoldable pub stands : List ℕ → ℕ → Record → Bool
stands s count r = ltb (place s count r) count && same (record_at s (place s count r)) r

-- the record's numbers stand at place p, and what was there stands one record further
unfoldable pub put_in : ℕ → Record → ℕ → List ℕ → List ℕ
put_in p r count s = take (6 * p) s ++ (numbers r ++ (take (6 * count - 6 * p) (drop (6 * p) s) ++ drop (6 * count + 6) s))

-- what stood behind place p stands one record nearer, and the last record's place is spare
unfoldable pub take_out : ℕ → ℕ → List ℕ → List ℕ
take_out p count s = take (6 * p) s ++ (take (6 * count - 6 - 6 * p) (drop (6 * p + 6) s) ++ (replicate 6 0 ++ drop (6 * count) s))

-- ---- the calls, with refusals 16, 17, 18 and 22 (here "a count is over its limit"), under which the numbers stay

-- what a look-up finds: where the record stands, where it would stand, or 22 where the count is over the limit
pub data Found : Type 0 where
  stands_at : ℕ → Found
  missing_at : ℕ → Found
  refused : ℕ → Found

-- a look-up: 22, then the place and whether the record stands there
unfoldable pub look_up : List ℕ → ℕ → Record → Found
look_up s count r =
    cond (leb count (limit_of s)) (cond (stands s count r) (stands_at (place s count r)) (missing_at (place s count r))) (refused 22)

-- what the code's look-up says
abbrev pub found : Result Position NotARoom → Found
found (Ok (Position.At at)) = stands_at at
found (Ok (Position.Missing at)) = missing_at at
found (Err refusal) = refused 22

-- what entering or leaving says: the count after it, or a refusal's number
pub data Said : Type 0 where
  counted : ℕ → Said
  refused_by : ℕ → Said

-- what it comes to: what it says, and the numbers that it leaves
pub record Outcome : Type 0 where
  pub says : Said
  pub left : List ℕ

-- a refusal by a number leaves the numbers as they were
abbrev pub keeps : ℕ → List ℕ → Outcome
keeps number s = record { says = refused_by number; left = s }

-- entering: 22, then 17, then 18, then one record more at its place
unfoldable pub entered : List ℕ → ℕ → Record → Outcome
entered s count r =
    cond (leb count (limit_of s))
    (cond (stands s count r) (keeps 17 s)
    (cond (eqb count (limit_of s)) (keeps 18 s) (record { says = counted (count + 1); left = put_in (place s count r) r count s })))
    (keeps 22 s)

-- leaving: 22, then 16, then one record less
unfoldable pub gone : List ℕ → ℕ → Record → Outcome
gone s count r =
    cond (leb count (limit_of s))
    (cond (stands s count r) (record { says = counted (count - 1); left = take_out (place s count r) count s }) (keeps 16 s))
    (keeps 22 s)

-- the first so many records of a run go into the first `end` records of a room, from the back: those of the room from the last one's place
-- on stand behind it, and the others go into what stands before that place
unfoldable pub merge_from : List ℕ → ℕ → List ℕ → ℕ → List ℕ → List ℕ
merge_from s end t zero rest = take (6 * end) s ++ rest
merge_from s end t (suc j) rest =
    let r = record_at t j in
    let p = place s end r in
    merge_from s p t j (numbers r ++ (take (6 * end - 6 * p) (drop (6 * p) s) ++ rest))

-- merging: 22 where the count or the run's count is over its limit, or the run does not fit behind the count; then all of the run's records more
unfoldable pub merged : List ℕ → ℕ → List ℕ → ℕ → Outcome
merged s count t n =
    cond (leb count (limit_of s) && (leb n (limit_of t) && leb n (limit_of s - count)))
    (record { says = counted (count + n); left = merge_from s count t n (drop (6 * (count + n)) s) })
    (keeps 22 s)

-- what a change of a table comes to in its room: the table after it, or the refusal and the table as it was
unfoldable pub outcome_of : ℕ → List Record → Change → Outcome
outcome_of limit t (changed t') = record { says = counted (length t'); left = room limit t' }
outcome_of limit t (Change.refused number) = keeps number (room limit t)

-- what the code's answer to entering says
abbrev pub enter_said : Result ℕ EnterError → Said
enter_said (Ok count) = counted count
enter_said (Err EnterError.AlreadyIn) = refused_by 17
enter_said (Err EnterError.Full) = refused_by 18
enter_said (Err EnterError.NotARoom) = refused_by 22

-- what the code's answer to leaving says
abbrev pub leave_said : Result ℕ LeaveError → Said
leave_said (Ok count) = counted count
leave_said (Err LeaveError.NotIn) = refused_by 16
leave_said (Err LeaveError.NotARoom) = refused_by 22

-- what the code's answer to merging says
abbrev pub merge_said : Result ℕ NotARoom → Said
merge_said (Ok count) = counted count
merge_said (Err refusal) = refused_by 22

-- a room is copied whole over one of its size, or not at all
unfoldable pub copied : List ℕ → List ℕ → List ℕ
copied from s = cond (eqb (length from) (length s)) from s

-- 0 where it is copied, else 22
abbrev pub copy_says : List ℕ → List ℕ → ℕ
copy_says from s = cond (eqb (length from) (length s)) 0 22

-- what the code's answer to copying says
abbrev pub copy_said : Result ⊤ NotARoom → ℕ
copy_said (Ok tt) = 0
copy_said (Err refusal) = 22
