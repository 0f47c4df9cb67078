-- What rtr_room's two calls tell of numbers that are there: `get` finds the record, and `look_up` says whether a record stands among so many.
-- Each answer is read by one function, so that no case is left over. Assumes nothing.
use Rattle.std.specs.Prelude.{Option, Some, None, Result}
use Prim.Native.Nat.{ℕ, ◌+◌, ◌*◌, ◌≤◌}
use mathlib.Core.Bool.{Bool, true, false, cond}
use mathlib.Core.List.{List}
use mathlib.Core.Path.{◌≡◌, refl, sym, ap, ◌∙◌}
use lib.ListN.{length}
use Rattle.rtr_room.specs.Table.{ipv4_record}
use Rattle.rtr_room.specs.Room.{Found, record_at, record_found, place, stands, limit_of, look_up, found}
use Rattle.rtr_room.specs.Room.Found.{stands_at, missing_at, refused}
use Rattle.rtr_room.specs.declared.Record.{Record}
use Rattle.rtr_room.proofs.Laws.{found_inside, look-up-says}
use Rattle.rtr_room.specs.declared.NotARoom.{NotARoom}
use Rattle.rtr_room.specs.declared.Position.{Position}

-- the record that the code makes of an answer
abbrev pub record_in : Option Record → Record
record_in (Some r) = r
record_in None = ipv4_record 0 0 0 0

pub record-told : (s : List ℕ) (i : ℕ) (answer shape : Option Record) → 6 * i + 6 ≤ length s
    → answer ≡ record_found s i → answer ≡ shape → record_in shape ≡ record_at s i
record-told s i answer shape h said e = sym (ap record_in e) ∙ ap record_in (said ∙ found_inside s i h)

-- the test that the code makes of one
abbrev pub is_there : Found → Bool
is_there (stands_at at) = true
is_there (missing_at at) = false
is_there (refused number) = false

pub there-told : (s : List ℕ) (count : ℕ) (r : Record) (answer shape : Result Position NotARoom) → count ≤ limit_of s
    → found answer ≡ look_up s count r → answer ≡ shape → is_there (found shape) ≡ stands s count r
there-told s count r answer shape h said e =
    sym (ap (λ (a : Result Position NotARoom). is_there (found a)) e) ∙ ap is_there (said ∙ look-up-says s count r h) ∙ go (stands s count r)
  where
    go : (b : Bool) → is_there (cond b (stands_at (place s count r)) (missing_at (place s count r))) ≡ b
    go true = refl
    go false = refl
