-- What a table holds and how it lies in memory: the one page that says so. Today a table is its prefix records (document 01, "Stream and receiver"); request Eight of document 02 adds
-- router keys here, and the other pages speak of contents, entries, counts and rooms alone.
use Rattle.std.specs.Prelude.{◌≡◌, ℕ, ◌*◌, ◌<◌, Bool, true, List, [], length, ◌==◌, ◌≢◌}
use Rattle.rtr_room.specs.Table.{Change, enter, leave, is_table}
use Rattle.rtr_room.specs.Room.{room, records, is_room}
use Rattle.rtr_room.specs.declared.Record.{Record}
use Rattle.rtr_receiver.specs.declared.Counts.{Counts}

-- what a table holds, in table order (document 01, "Stream and receiver": records ascend strictly)
abbrev pub Contents : Type 0
Contents = List Record

-- what a load may start from, and what a stop leaves in the working room
abbrev pub nothing : Contents
nothing = []

-- what a cache announces or withdraws
abbrev pub Entry : Type 0
Entry = Record

-- the contents with one entry more, or 17 where it is in, then 18 where as many as the limit are in (document 01, "Refusal numbers")
abbrev pub enter_in : ℕ → Entry → Contents → Change
enter_in limit entry t = enter limit entry t

-- the contents without it, or 16 where it is not in (document 01, "Refusal numbers")
abbrev pub leave_in : Entry → Contents → Change
leave_in entry t = leave entry t

-- the lent numbers that hold contents
abbrev pub Rooms : Type 0
Rooms = List ℕ

-- how much of the rooms contents take
abbrev pub counts_of : Contents → Counts
counts_of t = record { records = length t }

-- the rooms of contents: "six per record", "spare numbers are 0"
abbrev pub rooms_of : ℕ → Contents → Rooms
rooms_of limit t = room limit t

-- what rooms hold, as far as the counts say
abbrev pub contents : Counts → Rooms → Contents
contents n rooms = records n.records rooms

-- rooms of the limit that keep the room rules as far as the counts say (document 01, "Refusal numbers", 22)
abbrev pub are_rooms : ℕ → Counts → Rooms → Bool
are_rooms limit n rooms = is_room limit n.records rooms

-- rooms have the size of the limit, six numbers for each record (1,024 make 6,144)
abbrev pub are_sized : ℕ → Rooms → Bool
are_sized limit rooms = length rooms == 6 * limit

-- nothing in use
abbrev pub is_none : Counts → Bool
is_none n = n.records == 0

-- "a count is over its limit"
abbrev pub OverLimit : ℕ → Counts → Type 0
OverLimit limit n = limit < n.records

-- something in use
abbrev pub Used : Counts → Type 0
Used n = 0 < n.records

-- "a room is not 6,144 numbers"
abbrev pub OffSize : ℕ → Rooms → Type 0
OffSize limit rooms = length rooms ≡ 6 * limit → ⊥

-- "a room breaks the room rules": it is the room of no table of so many records
abbrev pub BreaksRules : ℕ → Counts → Rooms → Type 0
BreaksRules limit n rooms = (t : Contents) → is_table t ≡ true → length t ≡ n.records → rooms ≢ rooms_of limit t
