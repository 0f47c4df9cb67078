-- What the functions inside this crate ask and leave. A cursor is a place in the text, the number of the line there, and whether all lines before it fitted; where one did not, it stays at that line.
use Rattle.std.specs.Prelude.{ℕ, suc, ◌+◌, ◌-◌, ◌≤◌, ◌<◌, Bool, true, false, cond, List, [], ◌∷◌, ◌++◌, ◌≡◌, eqb, length, take, drop, Option, Some, None}
use Rattle.rtr_room.specs.Room.{room}
use Rattle.rtr_room.specs.Table.{is_table, in_rule, ordered}
use Rattle.rtr_room.specs.declared.Record.{Record}
use Rattle.rtr_listing.specs.declared.Head.{Head}
use Rattle.rtr_listing.specs.Listing.{text, table_fields, table_numbers}
use Rattle.rtr_listed.specs.Listed.{Line, Fit, Due, Read, lines_of, fitting, same_text, count_widths, read_from, read_listing, next_record}
use Rattle.rtr_listed.specs.Listed.Fit.{fits, misfits}
use Rattle.rtr_listed.specs.Listed.Read.{misfit}
use Rattle.rtr_listed.specs.declared.Cursor.{Cursor}
use Rattle.rtr_listed.specs.declared.Words.{Words}
use Rattle.rtr_listed.specs.declared.NumberRead.{NumberRead}
use Rattle.rtr_listed.specs.declared.WordsRead.{WordsRead}
use Rattle.rtr_listed.specs.declared.TableRead.{TableRead}
use Rattle.rtr_listed.specs.declared.HeadRead.{HeadRead}
use Rattle.rtr_listed.specs.declared.RecordRead.{RecordRead}
use Rattle.rtr_listed.specs.declared.Span.{Span}

-- ---- lines and digits

-- how many bytes stand before the first line feed
unfoldable pub line_length : List ℕ → ℕ
line_length [] = 0
line_length (b ∷ s) = cond (eqb b 10) 0 (suc (line_length s))

-- a number as the code says it
abbrev pub number_said : Option ℕ → Fit ℕ
number_said (Some n) = fits n
number_said None = misfits

-- an address likewise
abbrev pub address_said : Option Words → Fit Words
address_said (Some w) = fits w
address_said None = misfits

-- ---- cursors

-- what the first line is read as
abbrev pub line_gives : {A : Type 0} → (List ℕ → Fit A) → List Line → Fit A
line_gives reads [] = misfits
line_gives reads (l ∷ ls) = cond l.ended (reads l.bytes) misfits

-- the lines behind it
abbrev pub behind : List Line → List Line
behind [] = []
behind (l ∷ ls) = ls

-- the lines at a cursor
abbrev pub lines_at : List ℕ → Cursor → List Line
lines_at s c = lines_of (drop c.at s)

-- what reading comes to from a place on
unfoldable pub read_on : ℕ → List ℕ → Due → Cursor → Read
read_on limit s place c = cond c.fits (read_from count_widths limit place c.line (lines_at s c)) (misfit c.line)

-- the line there does not fit
abbrev pub refused_at : Cursor → Cursor
refused_at c = record { at = c.at; line = c.line; fits = false }

-- the place behind a line that ends there
abbrev pub past_end : Cursor → ℕ → Cursor
past_end c end = record { at = suc end; line = suc c.line; fits = true }

-- a cursor in a text, no more than so many lines behind another
pub record Near (s : List ℕ) (lines : ℕ) (c next : Cursor) : Type 0 where
  pub at : next.at ≤ length s
  pub line : next.line ≤ c.line + lines

-- the line was read as a value and the next cursor is behind it, or it does not fit
pub data Took {A : Type 0} (reads : List ℕ → Fit A) (s : List ℕ) (c : Cursor) (a : A) (next : Cursor) : Type 0 where
  took : c.fits ≡ true → line_gives reads (lines_at s c) ≡ fits a → behind (lines_at s c) ≡ lines_at s next → next.fits ≡ true → next.line ≡ suc c.line → Took reads s c a next
  missed : (c.fits ≡ true → line_gives reads (lines_at s c) ≡ misfits) → next ≡ refused_at c → Took reads s c a next

-- a number's line: the value is at most the highest, and the next cursor near
abbrev pub NumberTook : (List ℕ → Fit ℕ) → List ℕ → Cursor → ℕ → NumberRead → Type 0
NumberTook reads s c most r = Took reads s c r.value r.next × ((r.value ≤ most) × Near s 1 c r.next)

-- the same of a line that ends there, by its value
abbrev pub number_took : Cursor → ℕ → Option ℕ → NumberRead
number_took c end (Some n) = record { value = n; next = past_end c end }
number_took c end None = record { value = 0; next = refused_at c }

-- an address's line
abbrev pub WordsTook : (List ℕ → Fit Words) → List ℕ → Cursor → WordsRead → Type 0
WordsTook reads s c r = Took reads s c r.words r.next × Near s 1 c r.next

-- the line of no table
abbrev pub NoneTook : List ℕ → Cursor → Cursor → Type 0
NoneTook s c next = Took {A = ℕ} (λ bytes. fitting (same_text bytes (text "count=none")) 0) s c 0 next × Near s 1 c next

-- the lines of a table's numbers: what is read from the first on is what is read from behind the last
abbrev pub TableTook : List ℕ → Cursor → TableRead → Type 0
TableTook s c r =
    ((limit stopped : ℕ) → read_on limit s (Due.numbers_due stopped [] table_fields) c ≡ read_on limit s (Due.numbers_due stopped (table_numbers r.table) []) r.next)
    × Near s 5 c r.next

-- the lines of a head: a whole text is read as from behind them
pub record HeadTook (limit : ℕ) (s : List ℕ) (r : HeadRead) : Type 0 where
  pub stands : read_listing limit s ≡ read_on limit s (next_record r.head []) r.next
  pub within : r.head.count ≤ limit
  pub inside : r.next.at ≤ length s
  pub line : r.next.line ≤ 8

-- the lines of a record behind others
pub record RecordTook (s : List ℕ) (c : Cursor) (t : List Record) (r : RecordRead) : Type 0 where
  pub stands : (limit : ℕ) (h : Head) → read_on limit s (Due.family_due h t) c ≡ read_on limit s (next_record h (t ++ r.entry ∷ [])) r.next
  pub ordered : r.next.fits ≡ true → ordered (t ++ r.entry ∷ []) ≡ true
  pub ruled : r.next.fits ≡ true → in_rule r.entry ≡ true
  pub near : Near s 5 c r.next

-- a number, where it passes another test too
abbrev pub narrowed : Cursor → NumberRead → Bool → NumberRead
narrowed c read ok = cond ok read (record { value = read.value; next = refused_at c })

-- the bytes from a place to an end
abbrev pub between : List ℕ → ℕ → ℕ → List ℕ
between s from end = take (end - from) (drop from s)

-- the line at a cursor is a name with a value behind it
pub record ValueAt (s : List ℕ) (c : Cursor) (name : List ℕ) (from end : ℕ) : Type 0 where
  pub fit : c.fits ≡ true
  pub line : lines_at s c ≡ record { bytes = name ++ between s from end; ended = true } ∷ lines_of (drop (suc end) s)
  pub order : from ≤ end
  pub inside : end < length s

-- where the value of a line stands, or that the line has not that name
abbrev pub ValueIs : List ℕ → Cursor → List ℕ → Option Span → Type 0
ValueIs s c name (Some span) = ValueAt s c name span.from span.end
ValueIs s c name None = c.fits ≡ true → (l : Line) (ls : List Line) → lines_at s c ≡ l ∷ ls → l.ended ≡ true → same_text (take (length name) l.bytes) name ≡ false

-- the records were read into the room, or a line does not fit
pub data AllRead (limit : ℕ) (s : List ℕ) (h : Head) (c : Cursor) (left : List ℕ) (next : Cursor) : Type 0 where
  all : (t : List Record) → is_table t ≡ true → length t ≡ h.count → left ≡ room limit t → read_on limit s (next_record h []) c ≡ read_on limit s (Due.end_due h t) next → AllRead limit s h c left next
  some : next.fits ≡ false → read_on limit s (next_record h []) c ≡ misfit next.line → AllRead limit s h c left next

-- so many records, behind any head that counts as many
abbrev pub RecordsTook : ℕ → List ℕ → Cursor → ℕ → List ℕ → Cursor → Type 0
RecordsTook limit s c count left next = (next.at ≤ length s) × ((h : Head) → h.count ≡ count → AllRead limit s h c left next)
