-- Payloads by place: document 01, "Reading" and refusal 11. Whoever asks for a payload gets those bytes where they lie, in the slice that was lent; a place
-- that is not in it gets 11 and no bytes.
use Rattle.std.specs.Prelude.{ℕ, ◌+◌, Bool, cond, ◌&&◌, List, [], ◌≡◌, length, take, drop, leb, eqb, Result, Ok, Err, ⊤}
use Rattle.std.specs.Borrow.{Bor}
use Rattle.rtr_models.specs.declared.Place.{Place}
use Rattle.rtr_models.specs.declared.PlaceOutside.{PlaceOutside}

-- a place is inside a slice where its end does not lie behind the slice's
abbrev pub inside : Place → List ℕ → Bool
inside p s = leb (p.start + p.len) (length s)

-- a key identifier is 20 bytes long besides
abbrev pub key_inside : Place → List ℕ → Bool
key_inside p s = eqb p.len 20 && inside p s

-- the bytes of the part that a place names, or none where it is refused
abbrev pub part_if : Bool → Place → List ℕ → List ℕ
part_if fits p s = cond fits (take p.len (drop p.start s)) []

-- where that part lies: it is the caller's slice itself, `start` bytes on (a pointer is a block of memory and a place in it)
abbrev pub part_at : Bool → Place → ℕ × ℕ → ℕ × ℕ
part_at fits p slice = (slice.0, cond fits p.start 0 + slice.1)

-- a part that is handed over: these bytes, and they lie there
abbrev pub PartOf : Bool → Place → Bor (List ℕ) → Bor (List ℕ) → Type 0
PartOf fits p slice part = (part.now ≡ part_if fits p slice.now) × (part.ref_ptr ≡ part_at fits p slice.ref_ptr)

-- document 01's number of an answer: 0 is no refusal
abbrev pub part_number : Result ⊤ PlaceOutside → ℕ
part_number (Ok tt) = 0
part_number (Err refusal) = 11

-- the number that a place gets
abbrev pub number_if : Bool → ℕ
number_if fits = cond fits 0 11
