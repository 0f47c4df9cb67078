-- What the functions inside this crate ask and leave.
use Rattle.std.specs.Prelude.{ℕ, ◌+◌, ◌≤◌, Bool, true, List, map, ◌≡◌, Result, Ok, Err}
use Rattle.rtr_models.specs.declared.RtrProtocolVersion.{RtrProtocolVersion}
use Rattle.rtr_room.specs.Room.{is_room, limit_of}
use Rattle.rtr_room.specs.declared.Record.{Record}
use Rattle.rtr_receiver.specs.History.{Changed}
use Rattle.rtr_changes.specs.Changes.{without}
use Rattle.rtr_cache.specs.Cache.{sent_prefix, encodings}
use Rattle.rtr_encode.specs.declared.EncodeError.{EncodeError}

-- a change of one side
abbrev pub sided : Bool → Record → Changed
sided announced r = record { announced = announced; what = r }

-- the bytes of the records of one table that the other has not
unfoldable pub side_bytes : RtrProtocolVersion → Bool → List Record → List Record → List ℕ
side_bytes v announced s t = encodings (map (sent_prefix v) (map (sided announced) (without s t)))

-- numbers that keep the room rules for their own size
abbrev pub IsRoom : List ℕ → ℕ → Type 0
IsRoom numbers count = is_room (limit_of numbers) count numbers ≡ true

-- no more records than the largest limit that a receiver is ever to have (document 02, request Six), so that sums fit
abbrev pub Few : ℕ → Type 0
Few count = count ≤ 16384

-- the place behind what was written
abbrev pub behind_of : ℕ → Result ℕ EncodeError → ℕ
behind_of at (Ok n) = at + n
behind_of at (Err error) = at
