-- What the functions inside this crate ask.
use Rattle.std.specs.Prelude.{ℕ, ◌+◌, Bool, true, List, map, ◌≡◌, Result, Ok, Err}
use Rattle.rtr_room.specs.Room.{is_room}
use Rattle.rtr_room.specs.declared.Record.{Record}
use Rattle.rtr_receiver.specs.Promises.{record_limit}
use Rattle.rtr_changes.specs.Changes.{without}
use Rattle.rtr_receiver.specs.History.{Changed}
use Rattle.rtr_listing.specs.Promises.{leaves, puts}
use Rattle.rtr_listed.specs.Listed.{read_listing}
use Rattle.rtr_listed.specs.Promises.{read_leaves}
use Rattle.rtr_diffs.specs.Diffs.{changes_lines, after_old}
use Rattle.rtr_listing.specs.declared.ListError.{ListError}

-- a change of one side
abbrev pub sided : Bool → Record → Changed
sided announced r = record { announced = announced; what = r }

-- the lines of the records of one room that the other has not
unfoldable pub side_lines : Bool → List Record → List Record → List ℕ
side_lines announced s t = changes_lines (map (sided announced) (without s t))

-- numbers that keep the room rules
abbrev pub IsRoom : List ℕ → ℕ → Type 0
IsRoom numbers count = is_room record_limit count numbers ≡ true

-- the place behind what was written
abbrev pub behind_of : ℕ → Result ℕ ListError → ℕ
behind_of at (Ok n) = at + n
behind_of at (Err error) = at

-- what the new file comes to, behind an old table: the text, and its room
pub record NewRead (limit : ℕ) (old : List Record) (new out left lent : List ℕ) (r : Result ℕ ListError) : Type 0 where
  pub writes : leaves r left ≡ puts (after_old old (read_listing limit new)) out
  pub room-is : lent ≡ (read_leaves limit (read_listing limit new)).room
