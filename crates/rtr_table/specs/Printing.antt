-- What the program hands over to be written, in one call: the head's lines and then each record's, each as rtr_listing has them. No contract can say
-- what was written.
use Rattle.std.specs.Prelude.{ℕ, zero, suc, ◌*◌, ◌≤◌, List, [], ◌++◌, ◌≡◌, length, take, Option, Some, None, Ok}
use Rattle.rtr_room.specs.Room.{record_found, records}
use Rattle.rtr_receiver.specs.Contents.{Rooms}
use Rattle.rtr_receiver.specs.Promises.{record_limit}
use Rattle.rtr_listing.specs.Listing.{record_lines, listing}
use Rattle.rtr_table.specs.Feeding.{Ends}
use Rattle.rtr_table.specs.declared.Ended.{Ended}
use Rattle.rtr_room.specs.declared.Record.{Record}

-- the first n bytes are this text
pub record Shows (text : List ℕ) (n : ℕ) (lines : List ℕ) : Type 0 where
  pub within : n ≤ length lines
  pub text-is : take n lines ≡ text

-- the lines of a record that was found; of a place outside the room there are none
abbrev pub lines_of : Option Record → List ℕ
lines_of (Some r) = record_lines r
lines_of None = []

-- the lines at the first so many places, as `table_text` goes through them
unfoldable pub lines_up_to : List ℕ → ℕ → List ℕ
lines_up_to live zero = []
lines_up_to live (suc n) = lines_up_to live n ++ lines_of (record_found live n)

-- memory of the size for a receiver, and room for the longest listing: 128 bytes for the head and for each record
pub record Sized (live working : Rooms) (hold lines : List ℕ) : Type 0 where
  pub live-size : length live ≡ 6 * record_limit
  pub working-size : length working ≡ 6 * record_limit
  pub hold-size : 8 ≤ length hold
  pub lines-size : 128 * suc record_limit ≤ length lines

-- the whole program: the input was heard to its end, and the first n bytes are the listing of the session and the live room there
pub record Listed (query : List ℕ) (live working : Rooms) (hold : List ℕ) (n : ℕ) (lines : List ℕ) : Type 0 where
  pub end : Ended
  pub ends : Ends (Ok end) query live working hold
  pub shows : Shows (listing end.session (records end.session.live.records live)) n lines
