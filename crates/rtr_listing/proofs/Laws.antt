-- What the listing is, for readers and for programs that print it in parts. Assumes nothing.
use Rattle.std.specs.Prelude.{Some, None}
use Prim.Native.Nat.{ℕ, ◌+◌, ◌*◌, ◌^◌, ◌≤◌, ◌<◌, ◌-◌}
use mathlib.Core.Bool.{true, false, ◌&&◌}
use mathlib.Core.List.{List, [], ◌∷◌, ◌++◌}
use mathlib.Core.Logic.{◌↔◌}
use mathlib.Core.Path.{◌≡◌, refl, sym}
use lib.ListN.{length, get_or, drop}
use Rattle.rtr_encode.specs.Encode.Writing.{written, refused}
use Rattle.rtr_models.specs.declared.RtrProtocolVersion.{RtrProtocolVersion}
use Rattle.rtr_room.specs.Table.{family_of, prefix_of, max_of}
use Rattle.rtr_room.specs.Room.{records}
use Rattle.rtr_room.specs.declared.Record.{Record}
use Rattle.rtr_receiver.specs.Promises.{is_receiver}
use Rattle.rtr_receiver.specs.Runs.{Call, Memory, Run}
use Rattle.rtr_receiver.specs.declared.Session.{Session}
use Rattle.rtr_receiver.specs.declared.Table.{Table}
use Rattle.rtr_receiver.proofs.Laws.{shape-kept}
use Rattle.rtr_listing.specs.declared.Head.{Head}
use Rattle.rtr_listing.specs.Listing.{Field, text, digits, decimal, count_digits, line_of, line, table_fields, table_numbers, field_lines, table_lines, head_lines, head_of, address_of, record_lines, all_lines, listing}
use Rattle.rtr_listing.specs.Digits.{is_decimal, are_decimal, has_no_lead, is_hex, are_hex, value_of, hex_digit, hex_of}
use Rattle.rtr_listing.specs.Promises.{puts, is_listed, listing_says}
use Rattle.rtr_listing.proofs.Digits as digits'
use Rattle.rtr_listing.proofs.Numbers as numbers
use Rattle.rtr_listing.proofs.ReadBack as back
use Rattle.rtr_listing.proofs.Lines as lines
use Rattle.rtr_listing.proofs.Calls as calls
use Rattle.rtr_listing.proofs.Shape as shape

-- ---- numbers

-- a number's digits, read as a decimal number, are that number
pub decimal-is-number : (n : ℕ) → n < 4294967296 → value_of (decimal n) 0 ≡ n
decimal-is-number = numbers.decimal-is-number

-- and do not begin with `0`, but for 0 itself
pub no-leading-zero : (n : ℕ) → 0 < n → n < 4294967296 → get_or (decimal n) 0 0 ≡ 48 → ⊥
no-leading-zero = numbers.no-leading-zero

-- a count's four digits, read as a decimal number, are that number
pub count-is-number : (n : ℕ) → n < 10000 → value_of (digits 10 count_digits n) 0 ≡ n
count-is-number = numbers.count-is-number

-- there are four of them
pub count-length : (n : ℕ) → length (digits 10 count_digits n) ≡ 4
count-length = digits'.digits-length 10 count_digits

-- a number's eight hex digits, read in base 16, are that number
pub hex-is-number : (n : ℕ) → n < 4294967296 → hex_of (digits 16 8 n) 0 ≡ n
hex-is-number = numbers.hex-is-number

-- so are an address's: one number in family 4, else all four, the first the most significant
pub four-is-number : (r : Record) → family_of r ≡ 4 → r.w0 < 4294967296 → hex_of (address_of r) 0 ≡ r.w0
four-is-number = numbers.four-is-number

pub other-is-number : (r : Record) → (family_of r ≡ 4 → ⊥) → r.w0 < 4294967296 → r.w1 < 4294967296 → r.w2 < 4294967296 → r.w3 < 4294967296
    → hex_of (address_of r) 0 ≡ ((r.w0 * 4294967296 + r.w1) * 4294967296 + r.w2) * 4294967296 + r.w3
other-is-number = numbers.other-is-number

-- each of its bytes is `0` to `9` or `a` to `f`
pub address-lower-case : (r : Record) → are_hex (address_of r) ≡ true
address-lower-case = numbers.address-lower-case

-- digits one by one, and the number that they stand for
pub decimal-none : are_decimal [] ≡ true
unfolding are_decimal
decimal-none = refl

pub decimal-next : (c : ℕ) (s : List ℕ) → are_decimal (c ∷ s) ≡ (is_decimal c && are_decimal s)
unfolding are_decimal
decimal-next c s = refl

pub hex-none : are_hex [] ≡ true
unfolding are_hex
hex-none = refl

pub hex-next : (c : ℕ) (s : List ℕ) → are_hex (c ∷ s) ≡ (is_hex c && are_hex s)
unfolding are_hex
hex-next c s = refl

pub value_none : (read : ℕ) → value_of [] read ≡ read
unfolding value_of
value_none read = refl

pub value-next : (c : ℕ) (s : List ℕ) (read : ℕ) → value_of (c ∷ s) read ≡ value_of s (read * 10 + (c - 48))
unfolding value_of
value-next c s read = refl

pub hex-value-none : (read : ℕ) → hex_of [] read ≡ read
unfolding hex_of
hex-value-none read = refl

pub hex-value-next : (c : ℕ) (s : List ℕ) (read : ℕ) → hex_of (c ∷ s) read ≡ hex_of s (read * 16 + hex_digit c)
unfolding hex_of
hex-value-next c s read = refl

-- a text that stands for a number is the very text that is written for it exactly where it is ten digits at the most, without a leading zero
pub decimal-exactly : (s : List ℕ) → value_of s 0 < 4294967296 → s ≡ decimal (value_of s 0) ↔ ((are_decimal s ≡ true) × (has_no_lead s ≡ true) × (length s ≤ 10))
decimal-exactly = back.decimal-exactly

-- with leading zeros that fill its width, exactly where it is digits
pub places-exactly : (s : List ℕ) → s ≡ digits 10 (length s) (value_of s 0) ↔ are_decimal s ≡ true
places-exactly = back.places-exactly

-- in hex likewise
pub hex-exactly : (s : List ℕ) → s ≡ digits 16 (length s) (hex_of s 0) ↔ are_hex s ≡ true
hex-exactly = back.hex-exactly

-- a number is written in one to ten digits
pub decimal-length : (n : ℕ) → (1 ≤ length (decimal n)) × (length (decimal n) ≤ 10)
decimal-length = back.decimal-length

-- and so many stand for less than that power of 16
pub hex-below : (s : List ℕ) → are_hex s ≡ true → hex_of s 0 < 16 ^ length s
hex-below = back.hex-below

-- what is written in base 10 are decimal digits
pub digits-are-decimal : (k n : ℕ) → are_decimal (digits 10 k n) ≡ true
digits-are-decimal = back.digits_decimal

-- so many digits are asked for, so many there are
pub digits-length : (b k n : ℕ) → length (digits b k n) ≡ k
digits-length = digits'.digits-length

-- an address has 8 digits in family 4, else 32
pub four-length : (r : Record) → family_of r ≡ 4 → length (address_of r) ≡ 8
four-length = lines.four-length

-- these are of one number in family 4, else of all four
pub four-address : (r : Record) → family_of r ≡ 4 → address_of r ≡ digits 16 8 r.w0
four-address = lines.four-address

pub other-address : (r : Record) → (family_of r ≡ 4 → ⊥) → address_of r ≡ digits 16 8 r.w0 ++ digits 16 8 r.w1 ++ digits 16 8 r.w2 ++ digits 16 8 r.w3
other-address = lines.other-address

pub other_length : (r : Record) → (family_of r ≡ 4 → ⊥) → length (address_of r) ≡ 32
other_length = lines.other_length

-- ---- lines

-- a line is its name, its value and a line feed
pub line-is : (name value : List ℕ) → line_of name value ≡ name ++ value ++ 10 ∷ []
unfolding line_of
line-is name value = refl

pub line-length : (name value : List ℕ) → length (line_of name value) ≡ length name + length value + 1
line-length = lines.line-length

-- a number's has at most eleven bytes beside its name
pub number-at-most : (name : List ℕ) (n : ℕ) → length (line_of name (decimal n)) ≤ length name + 11
number-at-most = lines.number-at-most

-- an address at most 32 digits
pub address-at-most : (r : Record) → length (address_of r) ≤ 32
address-at-most = lines.address-at-most

-- a head's first line, and the table's
pub head-lines-are : (h : Head) → head_lines h ≡ line "stopped=" (decimal h.stopped) ++ table_lines h.table h.count
unfolding head_lines
head-lines-are h = refl

-- without a table
pub no-table-line : (count : ℕ) → table_lines None count ≡ line "count=" (text "none")
unfolding table_lines
no-table-line count = refl

-- the table's numbers, and the count
pub table-lines-are : (t : Table) (count : ℕ) → table_lines (Some t) count ≡ field_lines [] table_fields (table_numbers t) ++ line "count=" (digits 10 count_digits count)
unfolding table_lines
table-lines-are t count = refl

-- a line for each field that has its number
pub field-lines-next : (before : List ℕ) (f : Field) (fs : List Field) (n : ℕ) (ns : List ℕ) → field_lines before (f ∷ fs) (n ∷ ns) ≡ field_lines (before ++ line_of f.name (decimal n)) fs ns
unfolding field_lines
field-lines-next before f fs n ns = refl

pub field-lines-none : (before : List ℕ) (fs : List Field) → field_lines before fs [] ≡ before
unfolding field_lines
field-lines-none before [] = refl
field-lines-none before (f ∷ fs) = refl

-- a record's five lines
pub record-lines-are : (r : Record) → record_lines r ≡ line "family=" (decimal (family_of r)) ++ line "address=" (address_of r) ++ line "length=" (decimal (prefix_of r)) ++ line "max=" (decimal (max_of r)) ++ line "asn=" (decimal r.asn)
unfolding record_lines
record-lines-are r = refl

-- the lines of no record, and of one and others
pub all_none : all_lines [] ≡ []
unfolding all_lines
all_none = refl

pub all_first : (r : Record) (t : List Record) → all_lines (r ∷ t) ≡ record_lines r ++ all_lines t
unfolding all_lines
all_first r t = refl

-- ---- the listing in parts: written head first and then record by record it is the same bytes as written whole

-- the head alone where there is no record
pub listing-of-none : (s : Session) → listing s [] ≡ head_lines (head_of s)
listing-of-none = lines.listing-of-none

-- one record more is its five lines behind
pub listing-next : (s : Session) (t : List Record) (r : Record) → listing s (t ++ r ∷ []) ≡ listing s t ++ record_lines r
listing-next = lines.listing-next

-- the lines of records in two parts
pub all_append : (t u : List Record) → all_lines (t ++ u) ≡ all_lines t ++ all_lines u
all_append = lines.all_append

-- no head and no record is longer than 128 bytes, so an output of that size is never refused by 9
pub head-at-most : (h : Head) → length (head_lines h) ≤ 128
head-at-most = lines.head-at-most

pub record-at-most : (r : Record) → length (record_lines r) ≤ 128
record-at-most = lines.record-at-most

-- ---- the calls

-- what fits is written at the front, and the rest of the output stays
pub written_is : (bytes out : List ℕ) → length bytes ≤ length out → puts bytes out ≡ record { says = written (length bytes); out = bytes ++ drop (length bytes) out }
written_is = calls.written_is

-- what does not fit is refused by 9, and all of the output stays
pub short-is : (bytes out : List ℕ) → length out < length bytes → puts bytes out ≡ record { says = refused 9 (length bytes ∷ []); out = out }
short-is = calls.short-is

-- what cannot be listed is refused by 22, and all of the output stays
pub refused-is : (limit : ℕ) (s : Session) (live out : List ℕ) → is_listed limit s live ≡ false → listing_says limit s live out ≡ record { says = refused 22 []; out = out }
refused-is limit s live out h = sym (calls.refused-by-22 limit s live out h)

-- what can be is put out whole
pub listed-is : (limit : ℕ) (s : Session) (live out : List ℕ) → is_listed limit s live ≡ true → listing_says limit s live out ≡ puts (listing s (records s.live.records live)) out
listed-is limit s live out h = sym (calls.listed-says limit s live out h)

-- every receiver can be listed
pub receiver-is-listed : (limit : ℕ) (s : Session) (live working hold : List ℕ) → is_receiver limit s live working hold ≡ true → is_listed limit s live ≡ true
receiver-is-listed = shape.receiver-is-listed

-- so 22 arises after no history of calls
pub history-is-listed : (limit H : ℕ) (v : RtrProtocolVersion) (history : List Call) (m : Memory) → Run limit v H history m → is_listed limit m.session m.live ≡ true
history-is-listed limit H v history m run =
    shape.receiver-is-listed limit m.session m.live m.working m.hold (shape-kept limit H v history m run)
