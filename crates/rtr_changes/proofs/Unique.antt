-- What each public function promises leaves one result; none writes lent memory. `Post` is the contract as Rattle reads it off the source.
-- Assumes nothing.
use Rattle.std.specs.Prelude.{Result, Ok, Err, Option, Some, None, ℕ}
use mathlib.Core.Path.{◌≡◌, refl}
use Rattle.rtr_base.proofs.Unique.{only_one, only-this}
use Rattle.rtr_changes.specs.Changes.{OnlySays, only_said}
use Rattle.rtr_changes.specs.Changes.OnlySays.{only_at, none_only, refused}
use Rattle.rtr_changes.proofs.next_only.Reads as next-only
use Rattle.rtr_changes.proofs.only_number.Reads as number
use Rattle.rtr_room.specs.declared.NotARoom.{NotARoom}

-- the answer that says so
only_of : OnlySays → Result (Option ℕ) NotARoom
only_of (only_at p) = Ok (Some p)
only_of none_only = Ok None
only_of (refused k) = Err (record {})

only-back : (r : Result (Option ℕ) NotARoom) → only_of (only_said r) ≡ r
unfolding only_of
only-back (Ok (Some p)) = refl
only-back (Ok None) = refl
only-back (Err refusal) = refl

pub next-only-unique : (κs : _) (a : _) (r r' : _) (s s' : _) → next-only.Post κs a r s → next-only.Post κs a r' s' → r ≡ r'
next-only-unique κs a r r' s s' p q = only_one only_said only_of only-back r r' _ p q

pub only-number-unique : (κs : _) (a : _) (r r' : _) (s s' : _) → number.Post κs a r s → number.Post κs a r' s' → r ≡ r'
only-number-unique κs a r r' s s' p q = only-this r r' _ p q
