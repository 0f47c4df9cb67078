-- Lines, and how long they are: no head and no record is longer than 128 bytes, and the lines of more records are no shorter. Assumes nothing.
use Rattle.std.specs.Prelude.{Option, Some, None}
use Prim.Native.Nat.{ℕ, zero, suc, ◌+◌, ◌-◌, ◌*◌, ◌≤◌, ◌<◌}
use mathlib.Core.Bool.{Bool, true, false}
use mathlib.Core.List.{List, [], ◌∷◌, ◌++◌, append_assoc, append-nil}
use mathlib.Core.Path.{◌≡◌, refl, sym, ap, ◌∙◌}
use native.Mathlib.Nat.{add-zero}
use native.Mathlib.Omega.{arith}
use borrow.Author.Tests.{eq-eqb, ne_eqb, eqb-true, eqb-false}
use lib.Dec.{eqb}
use lib.ListN.{length, length-append}
use Rattle.rtr_room.specs.Table.{family_of, prefix_of, max_of}
use Rattle.rtr_room.specs.Room.{record_at, record_found, records}
use Rattle.rtr_room.specs.declared.Record.{Record}
use Rattle.rtr_room.proofs.Laws.{records-none, records-next, found_inside}
use Rattle.rtr_receiver.specs.declared.Table.{Table}
use Rattle.rtr_receiver.specs.declared.Session.{Session}
use Rattle.rtr_listing.specs.declared.Head.{Head}
use Rattle.rtr_listing.specs.Listing.{text, digits, places, decimal, line_of, line, count_digits, field_lines, table_lines, head_lines, head_of, address_of, record_lines, all_lines, listing}
use Rattle.rtr_listing.proofs.Digits.{digits-length, places-at-most}

pub line-length : (name value : List ℕ) → length (line_of name value) ≡ length name + length value + 1
unfolding line_of
line-length name value = simp length-append (omega arith)

-- equal numbers have lines of one length
pub same_number : (name : List ℕ) (m n : ℕ) → m ≡ n → length (line_of name (decimal m)) ≡ length (line_of name (decimal n))
same_number name m n e = ap (λ (k : ℕ). length (line_of name (decimal k))) e

-- a line with a number has at most eleven bytes beside its name
pub number-at-most : (name : List ℕ) (n : ℕ) → length (line_of name (decimal n)) ≤ length name + 11
number-at-most name n = omega (arith, line-length name (decimal n), digits-length 10 (places n) n, places-at-most n)

-- a table's six lines one by one
pub table-length : (t : Table) (count : ℕ)
    → length (table_lines (Some t) count)
    ≡ length (line "session=" (decimal t.session))
    + length (line "serial=" (decimal t.serial))
    + length (line "refresh=" (decimal t.refresh))
    + length (line "retry=" (decimal t.retry))
    + length (line "expire=" (decimal t.expire))
    + length (line "count=" (digits 10 count_digits count))
unfolding field_lines table_lines
table-length t count = simp length-append (omega arith)

table-at-most : (t : Option Table) (count : ℕ) → length (table_lines t count) ≤ 102
unfolding field_lines table_lines
table-at-most None count = omega (arith, line-length (text "count=") (text "none"))
table-at-most (Some t) count =
    omega (
      arith,
      table-length t count,
      number-at-most (text "session=") t.session,
      number-at-most (text "serial=") t.serial,
      number-at-most (text "refresh=") t.refresh,
      number-at-most (text "retry=") t.retry,
      number-at-most (text "expire=") t.expire,
      line-length (text "count=") (digits 10 count_digits count),
      digits-length 10 count_digits count,
    )

-- without a table
pub no-table-lines : (t : Option Table) (count : ℕ) → t ≡ None → table_lines t count ≡ text "count=none\n"
unfolding field_lines table_lines line_of
no-table-lines t count e = ap (λ (x : Option Table). table_lines x count) e

-- a head's lines: the stop, then the table
pub head-length : (h : Head) → length (head_lines h) ≡ length (line "stopped=" (decimal h.stopped)) + length (table_lines h.table h.count)
unfolding head_lines
head-length h = length-append (line "stopped=" (decimal h.stopped)) (table_lines h.table h.count)

pub head-at-most : (h : Head) → length (head_lines h) ≤ 128
head-at-most h = omega (arith, head-length h, number-at-most (text "stopped=") h.stopped, table-at-most h.table h.count)

-- an address: one number in family 4, else four
pub four-address : (r : Record) → family_of r ≡ 4 → address_of r ≡ digits 16 8 r.w0
unfolding address_of
four-address r e = simp (eq-eqb (family_of r) 4 e)

pub four-length : (r : Record) → family_of r ≡ 4 → length (address_of r) ≡ 8
four-length r e = ap length (four-address r e) ∙ digits-length 16 8 r.w0

pub other-address : (r : Record) → (family_of r ≡ 4 → ⊥)
    → address_of r ≡ digits 16 8 r.w0 ++ digits 16 8 r.w1 ++ digits 16 8 r.w2 ++ digits 16 8 r.w3
unfolding address_of
other-address r h = simp (ne_eqb (family_of r) 4 h)

pub other_length : (r : Record) → (family_of r ≡ 4 → ⊥) → length (address_of r) ≡ 32
other_length r h =
    ap length (other-address r h)
    ∙ simp length-append
    (omega (arith, digits-length 16 8 r.w0, digits-length 16 8 r.w1, digits-length 16 8 r.w2, digits-length 16 8 r.w3))

address-by : (c : Bool) (r : Record) → eqb (family_of r) 4 ≡ c → length (address_of r) ≤ 32
address-by true r e = omega (arith, four-length r (eqb-true (family_of r) 4 e))
address-by false r e = omega (arith, other_length r (eqb-false (family_of r) 4 e))

pub address-at-most : (r : Record) → length (address_of r) ≤ 32
address-at-most r = address-by (eqb (family_of r) 4) r refl

-- a record's five lines one by one
pub record-length : (r : Record)
    → length (record_lines r)
    ≡ length (line "family=" (decimal (family_of r)))
    + length (line "address=" (address_of r))
    + length (line "length=" (decimal (prefix_of r)))
    + length (line "max=" (decimal (max_of r)))
    + length (line "asn=" (decimal r.asn))
unfolding record_lines
record-length r = simp length-append

pub record-at-most : (r : Record) → length (record_lines r) ≤ 128
record-at-most r =
    omega (
      arith,
      record-length r,
      number-at-most (text "family=") (family_of r),
      line-length (text "address=") (address_of r),
      address-at-most r,
      number-at-most (text "length=") (prefix_of r),
      number-at-most (text "max=") (max_of r),
      number-at-most (text "asn=") r.asn,
    )

pub all_append : (t u : List Record) → all_lines (t ++ u) ≡ all_lines t ++ all_lines u
unfolding all_lines
all_append [] u = refl
all_append (r ∷ t) u = ap (λ (b : List ℕ). record_lines r ++ b) (all_append t u) ∙ sym (append_assoc (record_lines r) (all_lines t) (all_lines u))

all_one : (r : Record) → all_lines (r ∷ []) ≡ record_lines r
unfolding all_lines
all_one r = append-nil (record_lines r)

-- no record has no line
pub all_none : (s : List ℕ) → all_lines (records 0 s) ≡ []
unfolding all_lines
all_none s = ap all_lines (records-none s)

-- one record more
pub all-next : (i : ℕ) (s : List ℕ) → all_lines (records (suc i) s) ≡ all_lines (records i s) ++ record_lines (record_at s i)
all-next i s =
    ap all_lines (records-next i s)
    ∙ all_append (records i s) (record_at s i ∷ [])
    ∙ ap (λ (b : List ℕ). all_lines (records i s) ++ b) (all_one (record_at s i))

pub all-next-length : (i : ℕ) (s : List ℕ) → length (all_lines (records (suc i) s)) ≡ length (all_lines (records i s)) + length (record_lines (record_at s i))
all-next-length i s = ap length (all-next i s) ∙ length-append (all_lines (records i s)) (record_lines (record_at s i))

longer : (s : List ℕ) (i d : ℕ) → length (all_lines (records i s)) ≤ length (all_lines (records (i + d) s))
longer s i zero = rw add-zero (omega arith)
longer s i (suc d) =
    let e : i + suc d ≡ suc (i + d) = omega arith in
    rw (e, all-next-length (i + d) s) (omega (arith, longer s i d))

-- the next record has room where all have
pub next-within : (s : List ℕ) (i count : ℕ) → i < count → length (all_lines (records i s)) + length (record_lines (record_at s i)) ≤ length (all_lines (records count s))
next-within s i count h =
    let e : suc i + (count - suc i) ≡ count = omega arith in
    let more : length (all_lines (records (suc i) s)) ≤ length (all_lines (records count s)) = rw e at (longer s (suc i) (count - suc i)) in
    omega (arith, more, all-next-length i s)

-- what is found inside a room is its record, and it is never outside
pub the-record : (s : List ℕ) (i : ℕ) (r : Record) (found : Option Record) → 6 * i + 6 ≤ length s → found ≡ record_found s i → found ≡ Some r → r ≡ record_at s i
the-record s i r found h p q = let e : record_found s i ≡ Some (record_at s i) = found_inside s i h in cc

pub never-outside : (s : List ℕ) (i : ℕ) (found : Option Record) → 6 * i + 6 ≤ length s → found ≡ record_found s i → found ≡ None → ⊥
never-outside s i found h p q =
    let e : record_found s i ≡ Some (record_at s i) = found_inside s i h in
    let z : ◌≡◌ {A = ℕ} 0 1 = cc in
    omega arith

pub listing-of-none : (s : Session) → listing s [] ≡ head_lines (head_of s)
unfolding all_lines
listing-of-none s = append-nil (head_lines (head_of s))

pub listing-next : (s : Session) (t : List Record) (r : Record) → listing s (t ++ r ∷ []) ≡ listing s t ++ record_lines r
listing-next s t r =
    ap (λ (b : List ℕ). head_lines (head_of s) ++ b) (all_append t (r ∷ []) ∙ ap (λ (b : List ℕ). all_lines t ++ b) (all_one r))
    ∙ sym (append_assoc (head_lines (head_of s)) (all_lines t) (record_lines r))
