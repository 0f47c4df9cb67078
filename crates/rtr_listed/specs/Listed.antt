-- A listing read back, line by line: document 02, request Four, of document 01's "The listing". `lines_of` cuts a text into lines; a `Due` says what is due next, with what was read before
-- it; `on_line` says, place by place, what a line has to be there; `read_from` takes the lines in order and counts them. A number's line has to be the very text that a listing writes for that
-- number, so signs, blanks and leading zeros need no rule. What is read is a listing, and every listing of values that fit is read: proofs/Laws.antt, `reads-exactly`.
use Rattle.std.specs.Prelude.{ℕ, suc, Bool, true, false, cond, ◌&&◌, ◌||◌, List, [], ◌∷◌, ◌++◌, eqb, leb, ltb, length, get_or, take, drop, Option, Some, None}
use Rattle.rtr_room.specs.Table.{packed, ordered}
use Rattle.rtr_room.specs.declared.Record.{Record}
use Rattle.rtr_receiver.specs.Receiver.{is_stop}
use Rattle.rtr_receiver.specs.declared.Session.{Session}
use Rattle.rtr_listing.specs.Listing.{Field, text, digits, decimal, count_digits, stopped_as, table_fields, head_lines, address_of, all_lines}
use Rattle.rtr_listing.specs.Digits.{value_of, hex_of}
use Rattle.rtr_listing.specs.declared.Head.{Head}
use Rattle.rtr_listed.specs.declared.Words.{Words}
use Rattle.rtr_receiver.specs.declared.Table.{Table}

-- ---- lines

-- a line: its bytes, and whether a line feed ends it
pub record Line : Type 0 where
  pub bytes : List ℕ
  pub ended : Bool

-- one byte more before the first line
abbrev pub in_front : ℕ → List Line → List Line
in_front b [] = record { bytes = b ∷ []; ended = false } ∷ []
in_front b (l ∷ ls) = record { bytes = b ∷ l.bytes; ended = l.ended } ∷ ls

-- a line is the bytes up to a line feed, which ends it; bytes behind the last line feed are a line without an end
unfoldable pub lines_of : List ℕ → List Line
lines_of [] = []
lines_of (b ∷ s) = cond (eqb b 10) (record { bytes = []; ended = true } ∷ lines_of s) (in_front b (lines_of s))

-- how many line feeds a text has
unfoldable pub line_feeds : List ℕ → ℕ
line_feeds [] = 0
line_feeds (b ∷ s) = cond (eqb b 10) (suc (line_feeds s)) (line_feeds s)

-- ---- values

-- what was read, or that it does not fit
pub data Fit (A : Type 0) : Type 0 where
  fits : A → Fit A
  misfits : Fit A

-- it fits where a test says so
abbrev pub fitting : {A : Type 0} → Bool → A → Fit A
fitting ok a = cond ok (fits a) misfits

-- what fits leads on
abbrev pub leading : {A B : Type 0} → (A → B) → Fit A → Fit B
leading next (fits a) = fits (next a)
leading next misfits = misfits

-- two texts are the same
unfoldable pub same_text : List ℕ → List ℕ → Bool
same_text [] [] = true
same_text [] (y ∷ t) = false
same_text (x ∷ s) [] = false
same_text (x ∷ s) (y ∷ t) = eqb x y && same_text s t

-- the value behind a line's name, read as it has to be
abbrev pub named : {A : Type 0} → List ℕ → (List ℕ → Fit A) → List ℕ → Fit A
named name reads s = cond (same_text (take (length name) s) name) (reads (drop (length name) s)) misfits

-- a number that is allowed there, in the very digits that a listing writes for it
unfoldable pub number_in : (ℕ → Bool) → List ℕ → Fit ℕ
number_in allowed s = fitting (same_text s (decimal (value_of s 0)) && allowed (value_of s 0)) (value_of s 0)

-- a width of the count: so many digits, leading zeros filling it, and the highest count that may stand in it
pub record Width : Type 0 where
  pub places : ℕ
  pub most : ℕ

-- "count has four digits", and a listing has at most 1,024 records
abbrev pub count_widths : List Width
count_widths = record { places = count_digits; most = 1024 } ∷ []

-- a count may stand in so many digits
unfoldable pub in_width : List Width → ℕ → ℕ → Bool
in_width [] k n = false
in_width (w ∷ ws) k n = (eqb k w.places && leb n w.most) || in_width ws k n

-- a count of records within the limit, in all the digits of its width
unfoldable pub count_in : List Width → ℕ → List ℕ → Fit ℕ
count_in widths limit s =
    fitting (same_text s (digits 10 (length s) (value_of s 0)) && (in_width widths (length s) (value_of s 0) && leb (value_of s 0) limit)) (value_of s 0)

-- a record of its parts
abbrev pub record_of : ℕ → Words → ℕ → ℕ → ℕ → Record
record_of family words length max asn =
    record { kind = packed family length max; w0 = words.w0; w1 = words.w1; w2 = words.w2; w3 = words.w3; asn = asn }

-- the word whose eight digits begin there
abbrev pub word_at : List ℕ → ℕ → ℕ
word_at s at = hex_of (take 8 (drop at s)) 0

-- the words that an address's digits stand for
abbrev pub words_in : ℕ → List ℕ → Words
words_in family s =
    cond (eqb family 4) (record { w0 = word_at s 0; w1 = 0; w2 = 0; w3 = 0 })
    (record { w0 = word_at s 0; w1 = word_at s 8; w2 = word_at s 16; w3 = word_at s 24 })

-- an address of the family, in the very digits that a listing writes for it
unfoldable pub address_in : ℕ → List ℕ → Fit Words
address_in family s = fitting (same_text s (address_of (record_of family (words_in family s) 0 0 0))) (words_in family s)

-- ---- places

-- what is due, with what was read before it: the first line; `count=none` or the table's first number, behind the stop; the table's numbers, those read and the fields to come, and then the
-- count; the five lines of a record, behind the head, the records before it and its own lines; the end
pub data Due : Type 0 where
  stop_due : Due
  second_due : ℕ → Due
  numbers_due : ℕ → List ℕ → List Field → Due
  family_due : Head → List Record → Due
  address_due : Head → List Record → ℕ → Due
  length_due : Head → List Record → ℕ → Words → Due
  max_due : Head → List Record → ℕ → Words → ℕ → Due
  asn_due : Head → List Record → ℕ → Words → ℕ → ℕ → Due
  end_due : Head → List Record → Due

-- as many records as the head counts, and then the end
abbrev pub next_record : Head → List Record → Due
next_record head t = cond (ltb (length t) head.count) (family_due head t) (end_due head t)

-- "stopped 0 or a stop's number"
abbrev pub may_stop : ℕ → Bool
may_stop n = eqb n 0 || is_stop n

-- the table that its five numbers make
abbrev pub table_from : List ℕ → Option Table
table_from ns =
    Some (record { session = get_or ns 0 0; serial = get_or ns 1 0; refresh = get_or ns 2 0; retry = get_or ns 3 0; expire = get_or ns 4 0 })

-- "`count=none` meaning no records"
abbrev pub without_table : ℕ → Head
without_table stopped = record { stopped = stopped; table = None; count = 0 }

-- one of the table's numbers, or behind the last the count
abbrev pub on_numbers : List Width → ℕ → ℕ → List ℕ → List Field → List ℕ → Fit Due
on_numbers widths limit stopped ns [] s =
    leading (λ count. next_record (record { stopped = stopped; table = table_from ns; count = count }) []) (named (text "count=") (count_in widths limit) s)
on_numbers widths limit stopped ns (f ∷ fs) s = leading (λ n. numbers_due stopped (ns ++ n ∷ []) fs) (named f.name (number_in (λ n. leb n f.most)) s)

-- the longest prefix of a family
abbrev pub widest : ℕ → ℕ
widest family = cond (eqb family 4) 32 128

-- what a line leads to at a place: a length or max over 255 is refused at its own line, lengths out of rule at `max=`, order at `asn=`
abbrev pub on_line : List Width → ℕ → Due → List ℕ → Fit Due
on_line widths limit stop_due s = leading second_due (named (text "stopped=") (number_in may_stop) s)
on_line widths limit (second_due stopped) s =
    cond (same_text s (text "count=none")) (fits (end_due (without_table stopped) [])) (on_numbers widths limit stopped [] table_fields s)
on_line widths limit (numbers_due stopped ns fs) s = on_numbers widths limit stopped ns fs s
on_line widths limit (family_due head t) s = leading (address_due head t) (named (text "family=") (number_in (λ n. eqb n 4 || eqb n 6)) s)
on_line widths limit (address_due head t f) s = leading (length_due head t f) (named (text "address=") (address_in f) s)
on_line widths limit (length_due head t f w) s = leading (max_due head t f w) (named (text "length=") (number_in (λ n. leb n 255)) s)
on_line widths limit (max_due head t f w l) s =
    leading (asn_due head t f w l) (named (text "max=") (number_in (λ n. leb n 255 && (leb l n && leb n (widest f)))) s)
on_line widths limit (asn_due head t f w l m) s =
    leading (λ n. next_record head (t ++ record_of f w l m n ∷ []))
    (named (text "asn=") (number_in (λ n. leb n 4294967295 && ordered (t ++ record_of f w l m n ∷ []))) s)
on_line widths limit (end_due head t) s = misfits

-- ---- the reader

-- what a listing says: the stop's number, 0 without one; the table's numbers, if there is one; and its records
pub record Listed : Type 0 where
  pub stopped : ℕ
  pub table : Option Table
  pub records : List Record

-- what a text is read as, or the number of the first line that does not fit or is missing (refusal 24)
pub data Read : Type 0 where
  listed : Listed → Read
  misfit : ℕ → Read

-- no line is left: a listing is read where it is at its end, else a line is missing
abbrev pub at_end : Due → ℕ → Read
at_end (end_due head t) n = listed (record { stopped = head.stopped; table = head.table; records = t })
at_end stop_due n = misfit n
at_end (second_due stopped) n = misfit n
at_end (numbers_due stopped ns fs) n = misfit n
at_end (family_due head t) n = misfit n
at_end (address_due head t f) n = misfit n
at_end (length_due head t f w) n = misfit n
at_end (max_due head t f w l) n = misfit n
at_end (asn_due head t f w l m) n = misfit n

-- a line without an end fits nowhere
abbrev pub fit_line : List Width → ℕ → Due → Line → Fit Due
fit_line widths limit place l = cond l.ended (on_line widths limit place l.bytes) misfits

-- a line that fits leads on
abbrev pub or_misfit : ℕ → Fit Due → (Due → Read) → Read
or_misfit n (fits place) rest = rest place
or_misfit n misfits rest = misfit n

-- the lines from a place on, the first of them with number n
unfoldable pub read_from : List Width → ℕ → Due → ℕ → List Line → Read
read_from widths limit place n [] = at_end place n
read_from widths limit place n (l ∷ ls) = or_misfit n (fit_line widths limit place l) (λ next. read_from widths limit next (suc n) ls)

-- a whole text, by the widths that a count may have and a record limit; lines count from 1
abbrev pub read_by : List Width → ℕ → List ℕ → Read
read_by widths limit s = read_from widths limit stop_due 1 (lines_of s)

-- by the width that there is
abbrev pub read_listing : ℕ → List ℕ → Read
read_listing limit s = read_by count_widths limit s

-- the listing of what was read, in rtr_listing's words
unfoldable pub listing_text : Listed → List ℕ
listing_text v = head_lines (record { stopped = v.stopped; table = v.table; count = length v.records }) ++ all_lines v.records

-- what a session and its live table say
abbrev pub listed_by : Session → List Record → Listed
listed_by s t = record { stopped = stopped_as s.phase; table = s.table; records = t }
