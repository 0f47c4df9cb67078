-- What reading a listing says and leaves, with document 01's and 02's numbers: 22 where the room has not the size of the limit, and then it stays; 24 with the number of the first line that does
-- not fit or is missing, and then the room is all zeros; else what the listing says, and the room of its table.
use Rattle.std.specs.Prelude.{ℕ, ◌*◌, cond, List, [], ◌∷◌, eqb, length, replicate, Result, Ok, Err}
use Rattle.rtr_room.specs.Room.{room}
use Rattle.rtr_listing.specs.declared.Head.{Head}
use Rattle.rtr_listed.specs.Listed.{Listed, Read, read_listing}
use Rattle.rtr_listed.specs.Listed.Read.{listed, misfit}
use Rattle.rtr_listed.specs.declared.ListedError.{ListedError}

-- what a reading says: the head, or a refusal's number and values
pub data ListedSays : Type 0 where
  says : Head → ListedSays
  refused : ℕ → List ℕ → ListedSays

-- and the room that it leaves
pub record ListedLeft : Type 0 where
  pub answer : ListedSays
  pub room : List ℕ

-- the number and values of a refusal
abbrev pub listed_refusal : ListedError → ListedSays
listed_refusal ListedError.NotARoom = refused 22 []
listed_refusal (ListedError.Line line) = refused 24 (line ∷ [])

-- the line that it tells of; 22 tells of none
abbrev pub line_in : ListedError → ℕ
line_in ListedError.NotARoom = 0
line_in (ListedError.Line line) = line

-- its number alone
abbrev pub refusal_number : ListedSays → ℕ
refusal_number (says head) = 0
refusal_number (refused number values) = number

-- what an answer says
abbrev pub listed_said : Result Head ListedError → ListedSays
listed_said (Ok head) = says head
listed_said (Err error) = listed_refusal error

-- the head of what was read
abbrev pub listed_head : Listed → Head
listed_head v = record { stopped = v.stopped; table = v.table; count = length v.records }

-- what a text comes to
abbrev pub read_leaves : ℕ → Read → ListedLeft
read_leaves limit (listed v) = record { answer = says (listed_head v); room = room limit v.records }
read_leaves limit (misfit line) = record { answer = refused 24 (line ∷ []); room = replicate (6 * limit) 0 }

-- reading a text into a lent room
unfoldable pub listed_says : ℕ → List ℕ → List ℕ → ListedLeft
listed_says limit s lent = cond (eqb (length lent) (6 * limit)) (read_leaves limit (read_listing limit s)) (record { answer = refused 22 []; room = lent })
