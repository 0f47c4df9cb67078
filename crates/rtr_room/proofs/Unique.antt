-- What each public function promises leaves one result and one content of the lent room. `Post` is the contract as Rattle reads it off the
-- source, and `s` the parameters as the function returns. Assumes nothing.
use Rattle.std.specs.Prelude.{Result, Ok, Err, ⊤}
use Prim.Native.Nat.{ℕ}
use mathlib.Core.Bool.{cond}
use mathlib.Core.List.{List}
use mathlib.Core.Path.{◌≡◌, refl, ap}
use lib.Dec.{eqb}
use Rattle.rtr_base.proofs.Unique.{only_one, only-this}
use Rattle.rtr_room.specs.Room.{Found, Said, Outcome, found, enter_said, leave_said, merge_said, copy_said}
use Rattle.rtr_room.specs.Room.Found.{stands_at, missing_at, refused}
use Rattle.rtr_room.specs.Room.Said.{counted, refused_by}
use Rattle.rtr_room.proofs.Record.ipv4.Reads as ipv4
use Rattle.rtr_room.proofs.Record.ipv6.Reads as ipv6
use Rattle.rtr_room.proofs.Record.family.Reads as family
use Rattle.rtr_room.proofs.Record.prefix_length.Reads as prefix-length
use Rattle.rtr_room.proofs.Record.max_length.Reads as max-length
use Rattle.rtr_room.proofs.get.Reads as get
use Rattle.rtr_room.proofs.rules.Reads as rules
use Rattle.rtr_room.proofs.look_up.Reads as look_up
use Rattle.rtr_room.proofs.enter.Reads as enter
use Rattle.rtr_room.proofs.leave.Reads as leave
use Rattle.rtr_room.proofs.merge.Reads as merge
use Rattle.rtr_room.proofs.empty.Reads as empty
use Rattle.rtr_room.proofs.copy.Reads as copy
use Rattle.rtr_room.specs.declared.NotARoom.{NotARoom}
use Rattle.rtr_room.specs.declared.Position.{Position}
use Rattle.rtr_room.specs.declared.EnterError.{EnterError}
use Rattle.rtr_room.specs.declared.LeaveError.{LeaveError}

-- the answers that say so
look_up_of : Found → Result Position NotARoom
look_up_of (stands_at at) = Ok (Position.At at)
look_up_of (missing_at at) = Ok (Position.Missing at)
look_up_of (refused k) = Err (record {})

enter_of : Said → Result ℕ EnterError
enter_of (counted n) = Ok n
enter_of (refused_by k) = cond (eqb k 17) (Err EnterError.AlreadyIn) (cond (eqb k 18) (Err EnterError.Full) (Err EnterError.NotARoom))

leave_of : Said → Result ℕ LeaveError
leave_of (counted n) = Ok n
leave_of (refused_by k) = cond (eqb k 16) (Err LeaveError.NotIn) (Err LeaveError.NotARoom)

merge_of : Said → Result ℕ NotARoom
merge_of (counted n) = Ok n
merge_of (refused_by k) = Err (record {})

copy_of : ℕ → Result ⊤ NotARoom
copy_of k = cond (eqb k 0) (Ok tt) (Err (record {}))

look-up-back : (a : Result Position NotARoom) → look_up_of (found a) ≡ a
unfolding look_up_of
look-up-back (Ok (Position.At at)) = refl
look-up-back (Ok (Position.Missing at)) = refl
look-up-back (Err refusal) = refl

enter-back : (a : Result ℕ EnterError) → enter_of (enter_said a) ≡ a
unfolding enter_of
enter-back (Ok n) = refl
enter-back (Err EnterError.AlreadyIn) = refl
enter-back (Err EnterError.Full) = refl
enter-back (Err EnterError.NotARoom) = refl

leave-back : (a : Result ℕ LeaveError) → leave_of (leave_said a) ≡ a
unfolding leave_of
leave-back (Ok n) = refl
leave-back (Err LeaveError.NotIn) = refl
leave-back (Err LeaveError.NotARoom) = refl

merge-back : (a : Result ℕ NotARoom) → merge_of (merge_said a) ≡ a
unfolding merge_of
merge-back (Ok n) = refl
merge-back (Err refusal) = refl

copy-back : (a : Result ⊤ NotARoom) → copy_of (copy_said a) ≡ a
unfolding copy_of
copy-back (Ok tt) = refl
copy-back (Err refusal) = refl

one-outcome : {A : Type 0} (said : A → Said) (undone : Said → A) → ((a : A) → undone (said a) ≡ a) → (r r' : A) (l l' : List ℕ) (given : Outcome)
    → record { says = said r; left = l } ≡ given → record { says = said r'; left = l' } ≡ given → (r ≡ r') × (l ≡ l')
one-outcome said undone back r r' l l' given p q = (
  only_one said undone back r r' given.says (ap (λ (o : Outcome). o.says) p) (ap (λ (o : Outcome). o.says) q),
  only-this l l' given.left (ap (λ (o : Outcome). o.left) p) (ap (λ (o : Outcome). o.left) q),
)

pub ipv4-unique : (κs : _) (a : _) (r r' : _) (s s' : _) → ipv4.Post κs a r s → ipv4.Post κs a r' s' → r ≡ r'
ipv4-unique κs a r r' s s' p q = only-this r r' _ p q

pub ipv6-unique : (κs : _) (a : _) (r r' : _) (s s' : _) → ipv6.Post κs a r s → ipv6.Post κs a r' s' → r ≡ r'
ipv6-unique κs a r r' s s' p q = only-this r r' _ p q

pub family-unique : (κs : _) (a : _) (r r' : _) (s s' : _) → family.Post κs a r s → family.Post κs a r' s' → r ≡ r'
family-unique κs a r r' s s' p q = only-this r r' _ p q

pub prefix-length-unique : (κs : _) (a : _) (r r' : _) (s s' : _) → prefix-length.Post κs a r s → prefix-length.Post κs a r' s' → r ≡ r'
prefix-length-unique κs a r r' s s' p q = only-this r r' _ p q

pub max-length-unique : (κs : _) (a : _) (r r' : _) (s s' : _) → max-length.Post κs a r s → max-length.Post κs a r' s' → r ≡ r'
max-length-unique κs a r r' s s' p q = only-this r r' _ p q

pub get-unique : (κs : _) (a : _) (r r' : _) (s s' : _) → get.Post κs a r s → get.Post κs a r' s' → r ≡ r'
get-unique κs a r r' s s' p q = only-this r r' _ p q

pub rules-unique : (κs : _) (a : _) (r r' : _) (s s' : _) → rules.Post κs a r s → rules.Post κs a r' s' → r ≡ r'
rules-unique κs a r r' s s' p q = only-this r r' _ p q

pub look-up-unique : (κs : _) (a : _) (r r' : _) (s s' : _) → look_up.Post κs a r s → look_up.Post κs a r' s' → r ≡ r'
look-up-unique κs a r r' s s' p q = only_one found look_up_of look-up-back r r' _ p q

pub enter-unique : (κs : _) (a : _) (r r' : _) (s s' : _) → enter.Post κs a r s → enter.Post κs a r' s' → (r ≡ r') × (s.0.now ≡ s'.0.now)
enter-unique κs a r r' s s' p q = one-outcome enter_said enter_of enter-back r r' s.0.now s'.0.now _ p q

pub leave-unique : (κs : _) (a : _) (r r' : _) (s s' : _) → leave.Post κs a r s → leave.Post κs a r' s' → (r ≡ r') × (s.0.now ≡ s'.0.now)
leave-unique κs a r r' s s' p q = one-outcome leave_said leave_of leave-back r r' s.0.now s'.0.now _ p q

pub merge-unique : (κs : _) (a : _) (r r' : _) (s s' : _) → merge.Post κs a r s → merge.Post κs a r' s' → (r ≡ r') × (s.0.now ≡ s'.0.now)
merge-unique κs a r r' s s' p q = one-outcome merge_said merge_of merge-back r r' s.0.now s'.0.now _ p q

pub empty-unique : (κs : _) (a : _) (r r' : _) (s s' : _) → empty.Post κs a r s → empty.Post κs a r' s' → s.0.now ≡ s'.0.now
empty-unique κs a r r' s s' p q = only-this s.0.now s'.0.now _ p q

pub copy-unique : (κs : _) (a : _) (r r' : _) (s s' : _) → copy.Post κs a r s → copy.Post κs a r' s' → (r ≡ r') × (s.1.0.now ≡ s'.1.0.now)
copy-unique κs a r r' s s' p q = (
  only_one copy_said copy_of copy-back r r' _ p.0 q.0,
  only-this s.1.0.now s'.1.0.now _ p.1 q.1,
)
