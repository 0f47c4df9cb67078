-- What a room is, and what its calls do, over any limit: a table is a set of records in order, a room is its table, and the calls on the room
-- of a table are the table's own. The argument is in the files beside this one. Assumes nothing.
pub mod Tests
pub mod Records
pub mod Order
pub mod Tables
pub mod Ranks
pub mod Rooms
pub mod Places
pub mod Moves
pub mod Kept
pub mod Keys
pub mod Last
pub mod Joins
use Rattle.std.specs.Prelude.{Some, None}
use Prim.Native.Nat.{ℕ, suc, ◌+◌, ◌*◌, ◌<◌, ◌≤◌}
use mathlib.Core.Bool.{true, false, cond, not, ◌&&◌, ◌||◌}
use mathlib.Core.List.{List, [], ◌∷◌, ◌++◌}
use mathlib.Core.Logic.{◌↔◌, ◌⊎◌}
use mathlib.Core.Path.{◌≡◌, refl}
use borrow.Author.Tests.{le-leb}
use lib.Dec.{leb, eqb}
use lib.ListN.{length, get_or, replicate}
use Rattle.rtr_room.specs.Table.{Change, packed, ipv4_record, ipv6_record, family_of, prefix_of, max_of, before, same, in_rule, above, ordered, all_in_rule, is_table, is_in, rank, insert, remove, join, Apart, enter, leave, key}
use Rattle.rtr_room.specs.Table.Change.{changed}
use Rattle.rtr_room.specs.Room.{room, record_from, record_at, record_found, records, is_room, limit_of, place, stands, look_up, keeps, entered, gone, merged, outcome_of, copied, copy_says}
use Rattle.rtr_room.specs.Room.Found.{stands_at, missing_at}
use Rattle.rtr_room.specs.Room.Said.{counted, refused_by}
use Rattle.rtr_room.specs.declared.Record.{Record}
use Rattle.rtr_room.proofs.Laws.Records as made
use Rattle.rtr_room.proofs.Laws.Order as order
use Rattle.rtr_room.proofs.Laws.Tables as tables
use Rattle.rtr_room.proofs.Laws.Tables.{Inside}
use Rattle.rtr_room.proofs.Laws.Rooms as rooms
use Rattle.rtr_room.proofs.Laws.Places as places
use Rattle.rtr_room.proofs.Laws.Moves as moves
use Rattle.rtr_room.proofs.Laws.Kept as kept
use Rattle.rtr_room.proofs.Laws.Keys as keys
use Rattle.rtr_room.proofs.Laws.Last as last
use Rattle.rtr_room.proofs.Laws.Joins as joins
use Rattle.rtr_room.proofs.Laws.Keys.{Lower}

-- a first number is family x 65,536 + prefix length x 256 + max
pub kind-is : (r : Record) → r.kind ≡ packed (family_of r) (prefix_of r) (max_of r)
kind-is r = made.kind-is r.kind

-- a made IPv4 record has the parts that were given
pub ipv4-parts : (length max : ℕ) → length < 256 → max < 256 → (address asn : ℕ) → (family_of (ipv4_record length max address asn) ≡ 4) × (prefix_of (ipv4_record length max address asn) ≡ length) × (max_of (ipv4_record length max address asn) ≡ max)
ipv4-parts = made.ipv4-parts

-- and is in rule exactly where prefix length ≤ max ≤ 32
pub ipv4-in-rule : (length max : ℕ) → length < 256 → max < 256 → (address asn : ℕ) → in_rule (ipv4_record length max address asn) ≡ (leb length max && leb max 32)
ipv4-in-rule = made.ipv4-in-rule

-- a made IPv6 record has the parts that were given
pub ipv6-parts : (length max : ℕ) → length < 256 → max < 256 → (w0 w1 w2 w3 asn : ℕ) → (family_of (ipv6_record length max w0 w1 w2 w3 asn) ≡ 6) × (prefix_of (ipv6_record length max w0 w1 w2 w3 asn) ≡ length) × (max_of (ipv6_record length max w0 w1 w2 w3 asn) ≡ max)
ipv6-parts = made.ipv6-parts

-- and is in rule exactly where prefix length ≤ max ≤ 128
pub ipv6-in-rule : (length max : ℕ) → length < 256 → max < 256 → (w0 w1 w2 w3 asn : ℕ) → in_rule (ipv6_record length max w0 w1 w2 w3 asn) ≡ (leb length max && leb max 128)
ipv6-in-rule = made.ipv6-in-rule

-- a record in rule of family 4 is the IPv4 record of its parts
pub in-rule-four : (r : Record) → in_rule r ≡ true → family_of r ≡ 4 → r ≡ ipv4_record (prefix_of r) (max_of r) r.w0 r.asn
in-rule-four = made.in-rule-four

-- a record of family 6 is the IPv6 record of its parts
pub of-family-six : (r : Record) → family_of r ≡ 6 → r ≡ ipv6_record (prefix_of r) (max_of r) r.w0 r.w1 r.w2 r.w3 r.asn
of-family-six = made.of-family-six

-- no record is before itself
pub before-irreflexive : (a : Record) → before a a ≡ false
before-irreflexive = order.before-irreflexive

-- what is before a record is before all that the record is before
pub before-transitive : (a b c : Record) → before a b ≡ true → before b c ≡ true → before a c ≡ true
before-transitive = order.before-transitive

-- two records of which neither is before the other are one
pub before-total : (a b : Record) → before a b ≡ false → before b a ≡ false → a ≡ b
before-total = order.before-total

-- two records are the same exactly where they are equal
pub same-is-equal : (a b : Record) → same a b ≡ true ↔ a ≡ b
same-is-equal = order.same-is-equal

-- that is, where their six numbers are
pub same_numbers : (a b : Record)
    → same a b
    ≡ (eqb a.kind b.kind
    && (eqb a.w0 b.w0 && (eqb a.w1 b.w1 && (eqb a.w2 b.w2 && (eqb a.w3 b.w3 && eqb a.asn b.asn)))))
unfolding same
same_numbers a b = refl

-- a record is before another exactly where its key is lower at the first number in which they differ
pub before-exactly : (a b : Record) → before a b ≡ true ↔ Lower (key a) (key b)
before-exactly = keys.before-exactly

-- of two places of a table the lower has the record that is before
pub ordered_at : (d : Record) (t : List Record) (i j : ℕ) → ordered t ≡ true → i < j → j < length t → before (get_or t i d) (get_or t j d) ≡ true
ordered_at = keys.ordered_at

-- what stands in a table is in rule
pub in-rule-at : (d : Record) (t : List Record) (i : ℕ) → is_table t ≡ true → i < length t → in_rule (get_or t i d) ≡ true
in-rule-at = keys.in-rule-at

-- a record is in exactly where it stands at some place
pub in-exactly : (d r : Record) (t : List Record) → is_in r t ≡ true ↔ ((i : ℕ) × (i < length t) × (get_or t i d ≡ r))
in-exactly = keys.in-exactly

-- no record is in nothing; it is in a list where it is the first or in the rest
pub in-none : (r : Record) → is_in r [] ≡ false
unfolding is_in
in-none r = refl

pub in-next : (r x : Record) (t : List Record) → is_in r (x ∷ t) ≡ (same x r || is_in r t)
unfolding is_in
in-next r x t = refl

pub in-first : (r : Record) (t : List Record) → is_in r (r ∷ t) ≡ true
in-first = tables.is_in-first

pub in-later : (x r : Record) (t : List Record) → is_in r t ≡ true → is_in r (x ∷ t) ≡ true
in-later = tables.is_in-later

-- the first of an ordered list is before each other, and so is not among them
pub first-before : (x y : Record) (t : List Record) → ordered (x ∷ t) ≡ true → is_in y t ≡ true → before x y ≡ true
first-before = tables.first-before

pub first-once : (x : Record) (t : List Record) → ordered (x ∷ t) ≡ true → is_in x t ≡ false
first-once = tables.first-once

-- a record in rule is no longer than its max, and that no longer than 128
pub in-rule-lengths : (r : Record) → in_rule r ≡ true → (prefix_of r ≤ max_of r) × (max_of r ≤ 128)
in-rule-lengths = keys.in-rule-lengths

-- and of family 4 or 6
pub in-rule-family : (r : Record) → in_rule r ≡ true → (family_of r ≡ 4) ⊎ (family_of r ≡ 6)
in-rule-family = keys.in-rule-family

-- the front of an ordered list is ordered
pub ordered-front : (t u : List Record) → ordered (t ++ u) ≡ true → ordered t ≡ true
ordered-front = last.ordered-front

-- the records of a list are in rule exactly where those of both its parts are
pub all-in-rule-append : (t u : List Record) → all_in_rule (t ++ u) ≡ (all_in_rule t && all_in_rule u)
all-in-rule-append = last.all-in-rule-append

-- one record is in rule as a list of one
pub all-in-rule-one : (r : Record) (t : List Record) → all_in_rule (r ∷ t) ≡ (in_rule r && all_in_rule t)
unfolding all_in_rule
all-in-rule-one r t = refl

-- a record is in order behind a table exactly where all of the table comes before it; then it is not in
pub last-exactly : (r : Record) (t : List Record) → ordered t ≡ true → ordered (t ++ r ∷ []) ≡ true ↔ rank r t ≡ length t
last-exactly r t h = (last.last-rank r t, last.rank-last r t h)

pub last-not-in : (r : Record) (t : List Record) → ordered (t ++ r ∷ []) ≡ true → is_in r t ≡ false
last-not-in = last.last-not-in

-- such a record goes in behind
pub enter-last : (limit : ℕ) (r : Record) (t : List Record) → ordered (t ++ r ∷ []) ≡ true → length t < limit → enter limit r t ≡ changed (t ++ r ∷ [])
enter-last = last.enter-last

-- and makes a table of a table where it is in rule
pub table-last : (r : Record) (t : List Record) → is_table t ≡ true → in_rule r ≡ true → ordered (t ++ r ∷ []) ≡ true → is_table (t ++ r ∷ []) ≡ true
table-last = last.table-last

-- a record that is not in goes in in order
pub enter-keeps-order : (r : Record) (t : List Record) → ordered t ≡ true → is_in r t ≡ false → ordered (insert r t) ≡ true
enter-keeps-order = tables.enter-keeps-order

-- no records are a table
pub empty-table : is_table [] ≡ true
unfolding all_in_rule ordered
empty-table = refl

-- a table of one record more is a record in rule, before the first of a table
pub table-next : (r : Record) (t : List Record) → is_table (r ∷ t) ≡ true ↔ ((in_rule r ≡ true) × (above r t ≡ true) × (is_table t ≡ true))
table-next = tables.table-next

-- a record in rule that is not in makes a table of a table
pub enter-keeps-rules : (r : Record) (t : List Record) → is_table t ≡ true → in_rule r ≡ true → is_in r t ≡ false → is_table (insert r t) ≡ true
enter-keeps-rules = tables.enter-keeps-rules

-- a table without a record is a table
pub leave-keeps-rules : (r : Record) (t : List Record) → is_table t ≡ true → is_table (remove r t) ≡ true
leave-keeps-rules = tables.leave-keeps-rules

-- a record that is not in enters where there is room
pub enter-applies : (limit : ℕ) (r : Record) (t : List Record) → is_in r t ≡ false → length t < limit → enter limit r t ≡ changed (insert r t)
enter-applies = tables.enter-applies

-- a record that is in leaves
pub leave-applies : (r : Record) (t : List Record) → is_in r t ≡ true → leave r t ≡ changed (remove r t)
leave-applies = tables.leave-applies

-- a record that entered was not in, there was space, and the table is the old one with it
pub enter-changes : (limit : ℕ) (r : Record) (t t' : List Record) → enter limit r t ≡ changed t' → (is_in r t ≡ false) × (length t < limit) × (insert r t ≡ t')
enter-changes = tables.entered-is

-- entering makes a table of one record more, within the limit
pub enter-keeps : (limit : ℕ) (r : Record) (t t' : List Record) → is_table t ≡ true → in_rule r ≡ true → enter limit r t ≡ changed t' → (is_table t' ≡ true) × (length t' ≡ suc (length t)) × (length t' ≤ limit)
enter-keeps = tables.enter-keeps

-- leaving makes a table of one record less
pub leave-keeps : (r : Record) (t t' : List Record) → is_table t ≡ true → leave r t ≡ changed t' → (is_table t' ≡ true) × (suc (length t') ≡ length t)
leave-keeps = tables.leave-keeps

-- entering adds that record to the members, and no other
pub enter-membership : (limit : ℕ) (r : Record) (t t' : List Record) → enter limit r t ≡ changed t' → (x : Record) → is_in x t' ≡ (same r x || is_in x t)
enter-membership = tables.enter-membership

-- leaving takes that record from the members, and no other
pub leave-membership : (r : Record) (t t' : List Record) → ordered t ≡ true → leave r t ≡ changed t' → (x : Record) → is_in x t' ≡ (not (same r x) && is_in x t)
leave-membership = tables.leave-membership

-- two ordered tables with the same members are one: a table is its set
pub tables-equal : (t u : List Record) → ordered t ≡ true → ordered u ≡ true → ((x : Record) → is_in x t ≡ is_in x u) → t ≡ u
tables-equal = tables.tables-equal

-- a table whose members are all in another (`Inside`) is no longer
pub inside-is-no-longer : (t u : List Record) → ordered t ≡ true → ordered u ≡ true → Inside t u → length t ≤ length u
inside-is-no-longer = tables.inside-is-no-longer

-- and it is shorter where the other has a member more
pub inside-is-shorter : (r : Record) (t u : List Record) → ordered t ≡ true → ordered u ≡ true → Inside t u
    → is_in r t ≡ false → is_in r u ≡ true → length t < length u
inside-is-shorter = tables.inside-is-shorter

-- nothing joined to a table leaves it
pub join-none : (t : List Record) → join t [] ≡ t
join-none = joins.join-none

-- what is in a join is in the one or the other
pub join-membership : (t u : List Record) (x : Record) → is_in x (join t u) ≡ (is_in x t || is_in x u)
join-membership = joins.join-membership

-- a join has the records of both
pub join-length : (t u : List Record) → length (join t u) ≡ length t + length u
join-length = joins.join-length

-- two that are in order and apart join in order
pub join-ordered : (t u : List Record) → ordered t ≡ true → ordered u ≡ true → Apart t u → ordered (join t u) ≡ true
join-ordered = joins.join-ordered

-- and two tables that are apart to a table
pub join-table : (t u : List Record) → is_table t ≡ true → is_table u ≡ true → Apart t u → is_table (join t u) ≡ true
join-table = joins.join-table

-- a record may go into the second before the join, or into the whole after it
pub join-insert : (r : Record) (t u : List Record) → join t (insert r u) ≡ insert r (join t u)
join-insert = joins.join-insert

-- nothing is apart from any table; and a record that is not in the first may go into the second
pub apart_none : (t : List Record) → Apart t []
apart_none = joins.apart_none

pub apart-insert : (r : Record) (t u : List Record) → Apart t u → is_in r t ≡ false → Apart t (insert r u)
apart-insert = joins.apart-insert

-- a room has six numbers for each record that it has room for
pub room-length : (limit : ℕ) (t : List Record) → length t ≤ limit → length (room limit t) ≡ 6 * limit
room-length = rooms.room-length

-- so its numbers tell its limit
pub room-limit : (limit : ℕ) (t : List Record) → length t ≤ limit → limit_of (room limit t) ≡ limit
room-limit = rooms.room-limit

-- the records read from a table's room are the table
pub records-of-room : (limit : ℕ) (t : List Record) → records (length t) (room limit t) ≡ t
records-of-room = rooms.records-of-room

-- record i of a table's room is the table's
pub record-of-room : (limit : ℕ) (t : List Record) (i : ℕ) (d : Record) → i < length t → record_at (room limit t) i ≡ get_or t i d
record-of-room = rooms.record-of-room

-- record i of any numbers is made of the six from 6 * i on
pub record-from : (s : List ℕ) (i : ℕ) → record_at s i ≡ record_from s (6 * i)
unfolding record_at
record-from s i = refl

-- the first records of some numbers, and one more
pub records-none : (s : List ℕ) → records 0 s ≡ []
unfolding records
records-none s = refl

pub records-next : (i : ℕ) (s : List ℕ) → records (suc i) s ≡ records i s ++ record_at s i ∷ []
records-next = rooms.records-next

-- there are as many as were asked for
pub records-length : (n : ℕ) (s : List ℕ) → length (records n s) ≡ n
records-length = rooms.records-length

-- record i is found where its six numbers are all there, and nowhere else
pub found_inside : (s : List ℕ) (i : ℕ) → 6 * i + 6 ≤ length s → record_found s i ≡ Some (record_at s i)
found_inside = rooms.found_inside

pub found-outside : (s : List ℕ) (i : ℕ) → length s < 6 * i + 6 → record_found s i ≡ None
found-outside = rooms.found-outside

-- no two tables have one room
pub room-determines : (limit : ℕ) (t u : List Record) → is_table t ≡ true → is_table u ≡ true → room limit t ≡ room limit u → t ≡ u
room-determines = rooms.room-determines

-- numbers keep the room rules exactly where they are the room of a table of that count, within the limit
pub rules-exactly : (limit count : ℕ) (s : List ℕ) → is_room limit count s ≡ true ↔ ((t : List Record) × (is_table t ≡ true) × (length t ≡ count) × (count ≤ limit) × (s ≡ room limit t))
rules-exactly = rooms.rules-exactly

-- what keeps them has six numbers for each record of its limit, and no more records than the limit
pub rules-size : (limit count : ℕ) (s : List ℕ) → is_room limit count s ≡ true → (length s ≡ 6 * limit) × (count ≤ limit)
rules-size = rooms.rules-size

-- bisection finds how many records of an ordered table are before r
pub place-is-rank : (limit : ℕ) (t : List Record) → ordered t ≡ true → (r : Record) → place (room limit t) (length t) r ≡ rank r t
place-is-rank = places.place-is-rank

-- a record stands at its place exactly where it is in the table
pub stands-is-in : (limit : ℕ) (t : List Record) → ordered t ≡ true → (r : Record) → stands (room limit t) (length t) r ≡ is_in r t
stands-is-in = places.stands-is-in

-- a look-up in any numbers that have room for so many says where the record stands or would stand
pub look-up-says : (s : List ℕ) (count : ℕ) (r : Record) → count ≤ limit_of s
    → look_up s count r ≡ cond (stands s count r) (stands_at (place s count r)) (missing_at (place s count r))
unfolding look_up
look-up-says s count r h = rw (le-leb count (limit_of s) h)

-- a look-up in the room of a table finds the record's rank, and whether it is in
pub look-up-is : (limit : ℕ) (r : Record) (t : List Record) → ordered t ≡ true → length t ≤ limit → look_up (room limit t) (length t) r ≡ cond (is_in r t) (stands_at (rank r t)) (missing_at (rank r t))
look-up-is = moves.look-up-is

-- entering into the room of a table is entering into the table
pub enter-is : (limit : ℕ) (r : Record) (t : List Record) → ordered t ≡ true → length t ≤ limit → entered (room limit t) (length t) r ≡ outcome_of limit t (enter limit r t)
enter-is = moves.enter-is

-- leaving the room of a table is leaving the table
pub leave-is : (limit : ℕ) (r : Record) (t : List Record) → ordered t ≡ true → length t ≤ limit → gone (room limit t) (length t) r ≡ outcome_of limit t (leave r t)
leave-is = moves.leave-is

-- merging the room of a table into another's is joining the tables
pub merge-is : (limit k : ℕ) (t u : List Record) → ordered t ≡ true → ordered u ≡ true → length t + length u ≤ limit → length u ≤ k
    → merged (room limit t) (length t) (room k u) (length u) ≡ record { says = counted (length t + length u); left = room limit (join t u) }
merge-is = joins.merge-is

-- the smallest tables: a record enters the empty one and does not enter again; it leaves, and cannot leave again
pub enter-first : (limit : ℕ) (r : Record) → 1 ≤ limit → enter limit r [] ≡ changed (r ∷ [])
enter-first = tables.enter-first

pub enter-again : (limit : ℕ) (r : Record) (t : List Record) → enter limit r (r ∷ t) ≡ Change.refused 17
enter-again = tables.enter-again

pub leave-first : (r : Record) (t : List Record) → leave r (r ∷ t) ≡ changed t
leave-first = tables.leave-first

pub leave-empty : (r : Record) → leave r [] ≡ Change.refused 16
leave-empty = tables.leave-empty

-- a refusal to enter is 17 or 18
pub enter-refuses : (limit n : ℕ) (r : Record) (t : List Record) → enter limit r t ≡ Change.refused n → (n ≡ 17) ⊎ (n ≡ 18)
enter-refuses = tables.enter-refuses

-- a refusal to leave is 16
pub leave-refuses : (n : ℕ) (r : Record) (t : List Record) → leave r t ≡ Change.refused n → n ≡ 16
leave-refuses = tables.leave-refuses

-- a table after a change comes to its count and its room
pub changed-is : (limit : ℕ) (t t' : List Record) → outcome_of limit t (changed t') ≡ record { says = counted (length t'); left = room limit t' }
unfolding outcome_of
changed-is limit t t' = refl

-- and a refusal to its number, with the room as it was
pub refused-is : (limit n : ℕ) (t : List Record) → outcome_of limit t (Change.refused n) ≡ keeps n (room limit t)
unfolding outcome_of
refused-is limit n t = refl

-- zeros are the room of the empty table, and keep the rules
pub empty-is : (limit : ℕ) → (replicate (6 * limit) 0 ≡ room limit []) × (is_room limit 0 (replicate (6 * limit) 0) ≡ true)
empty-is = rooms.empty-is

-- a room copied over any numbers of its size is that room
pub copy-over : (limit : ℕ) (t : List Record) (s : List ℕ) → length t ≤ limit → length s ≡ 6 * limit → (copied (room limit t) s ≡ room limit t) × (copy_says (room limit t) s ≡ 0)
copy-over = rooms.copy-over

-- of two rooms of one limit, the first copied over the second is the first
pub copy_is : (limit : ℕ) (t u : List Record) → length t ≤ limit → length u ≤ limit → (copied (room limit t) (room limit u) ≡ room limit t) × (copy_says (room limit t) (room limit u) ≡ 0)
copy_is limit t u h k = rooms.copy-over limit t (room limit u) h (rooms.room-length limit u k)

-- numbers that keep the room rules keep them, with one record more, where a record in rule is entered
pub enter-keeps-room : (limit count n : ℕ) (s : List ℕ) (r : Record) → is_room limit count s ≡ true → in_rule r ≡ true → (entered s count r).says ≡ counted n → (n ≡ suc count) × (is_room limit n (entered s count r).left ≡ true)
enter-keeps-room = kept.enter-keeps-room

-- and with one record less where a record leaves
pub leave-keeps-room : (limit count n : ℕ) (s : List ℕ) (r : Record) → is_room limit count s ≡ true → (gone s count r).says ≡ counted n → (suc n ≡ count) × (is_room limit n (gone s count r).left ≡ true)
leave-keeps-room = kept.leave-keeps-room

-- a refusal to enter leaves any numbers as they were
pub enter-refused-keeps : (count n : ℕ) (s : List ℕ) (r : Record) → (entered s count r).says ≡ refused_by n → (entered s count r).left ≡ s
enter-refused-keeps = kept.enter-refused-keeps

-- and so does a refusal to leave
pub leave-refused-keeps : (count n : ℕ) (s : List ℕ) (r : Record) → (gone s count r).says ≡ refused_by n → (gone s count r).left ≡ s
leave-refused-keeps = kept.leave-refused-keeps
