-- The bytes of a table's listing: document 01, "The listing".
use Rattle.std.specs.Prelude.{ℕ, zero, suc, ◌+◌, ◌/◌, ◌%◌, cond, List, [], ◌∷◌, ◌++◌, ltb, eqb, Option, Some, None}
use Prim.Native.Char.{code}
use Prim.Native.String.{String, [] as none, ◌∷◌ as ◌then◌}
use Rattle.rtr_codec.specs.Answers.{number_of}
use Rattle.rtr_room.specs.Table.{family_of, prefix_of, max_of}
use Rattle.rtr_room.specs.declared.Record.{Record}
use Rattle.rtr_receiver.specs.Promises.{stop_said}
use Rattle.rtr_receiver.specs.declared.Phase.{Phase}
use Rattle.rtr_receiver.specs.declared.Session.{Session}
use Rattle.rtr_receiver.specs.declared.Table.{Table}
use Rattle.rtr_listing.specs.declared.Head.{Head}

-- ---- texts and numbers

-- the bytes of a text in ASCII
abbrev pub text : String → List ℕ
text none = []
text (c then s) = code c ∷ text s

-- the byte of a digit: `0` to `9`, then `a` to `f`
abbrev pub glyph : ℕ → ℕ
glyph d = cond (ltb d 10) (48 + d) (87 + d)

-- the last k digits of a number in base b, the most significant first
unfoldable pub digits : ℕ → ℕ → ℕ → List ℕ
digits b zero n = []
digits b (suc k) n = digits b k (n / b) ++ glyph (n % b) ∷ []

-- how many decimal digits a number of 32 bits has
unfoldable pub places : ℕ → ℕ
places n =
    cond (ltb n 10) 1
    (cond (ltb n 100) 2
    (cond (ltb n 1000) 3
    (cond (ltb n 10000) 4
    (cond (ltb n 100000) 5
    (cond (ltb n 1000000) 6
    (cond (ltb n 10000000) 7
    (cond (ltb n 100000000) 8
    (cond (ltb n 1000000000) 9 10))))))))

-- "Numbers are decimal without leading zeros"
abbrev pub decimal : ℕ → List ℕ
decimal n = digits 10 (places n) n

-- a line of a name's and a value's bytes: "Each line ends with a line feed"
unfoldable pub line_of : List ℕ → List ℕ → List ℕ
line_of name value = name ++ value ++ 10 ∷ []

-- the same with the name as a text
abbrev pub line : String → List ℕ → List ℕ
line name value = line_of (text name) value

-- ---- the head: the stop, then "the table as it stands"

-- the number of the stop, 0 without one
abbrev pub stopped_as : Phase → ℕ
stopped_as Phase.Idle = 0
stopped_as Phase.MustReset = 0
stopped_as Phase.AskedFull = 0
stopped_as Phase.AskedChange = 0
stopped_as (Phase.Loading kind session) = 0
stopped_as (Phase.Stopped stop) = number_of (stop_said stop)

-- "count has four digits"
abbrev pub count_digits : ℕ
count_digits = 4

-- one of the table's numbers in the head: its line's name, and the highest that it can be
pub record Field : Type 0 where
  pub name : List ℕ
  pub most : ℕ

-- the table's numbers in the order of their lines: a session has 16 bits, the others 32
abbrev pub table_fields : List Field
table_fields =
    record { name = text "session="; most = 65535 }
    ∷ record { name = text "serial="; most = 4294967295 }
    ∷ record { name = text "refresh="; most = 4294967295 }
    ∷ record { name = text "retry="; most = 4294967295 }
    ∷ record { name = text "expire="; most = 4294967295 }
    ∷ []

-- these numbers of a table
abbrev pub table_numbers : Table → List ℕ
table_numbers t = t.session ∷ t.serial ∷ t.refresh ∷ t.retry ∷ t.expire ∷ []

-- the lines before, and a line for each field that has its number
unfoldable pub field_lines : List ℕ → List Field → List ℕ → List ℕ
field_lines before (f ∷ fs) (n ∷ ns) = field_lines (before ++ line_of f.name (decimal n)) fs ns
field_lines before (f ∷ fs) [] = before
field_lines before [] ns = before

-- the table's numbers and its count of records; or that there is none
unfoldable pub table_lines : Option Table → ℕ → List ℕ
table_lines None count = line "count=" (text "none")
table_lines (Some t) count = field_lines [] table_fields (table_numbers t) ++ line "count=" (digits 10 count_digits count)

-- the lines before the records
unfoldable pub head_lines : Head → List ℕ
head_lines head = line "stopped=" (decimal head.stopped) ++ table_lines head.table head.count

-- what the listing of a session says before its records
abbrev pub head_of : Session → Head
head_of s = record { stopped = stopped_as s.phase; table = s.table; count = s.live.records }

-- ---- the records: "The five record lines repeat"

-- "Addresses have 8 or 32 lower-case hex digits": family 4 has the one number, any other all four
unfoldable pub address_of : Record → List ℕ
address_of r =
    cond (eqb (family_of r) 4) (digits 16 8 r.w0)
    (digits 16 8 r.w0 ++ digits 16 8 r.w1 ++ digits 16 8 r.w2 ++ digits 16 8 r.w3)

-- the five lines of a record
unfoldable pub record_lines : Record → List ℕ
record_lines r =
    line "family=" (decimal (family_of r))
    ++ line "address=" (address_of r)
    ++ line "length=" (decimal (prefix_of r))
    ++ line "max=" (decimal (max_of r))
    ++ line "asn=" (decimal r.asn)

-- the lines of some records, one after another
unfoldable pub all_lines : List Record → List ℕ
all_lines [] = []
all_lines (r ∷ t) = record_lines r ++ all_lines t

-- the whole listing
abbrev pub listing : Session → List Record → List ℕ
listing s table = head_lines (head_of s) ++ all_lines table
