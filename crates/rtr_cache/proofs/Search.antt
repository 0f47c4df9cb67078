-- What the search for the next record of one room that the other has not says, on rooms by their rules. Assumes nothing.
use Rattle.std.specs.Prelude.{Result, Ok, Err, Option, Some, None}
use Prim.Native.Nat.{ℕ, ◌+◌, ◌*◌, ◌≤◌}
use mathlib.Core.List.{List, []}
use mathlib.Core.Path.{◌≡◌, sym, ◌∙◌}
use native.Mathlib.Omega.{arith}
use lib.ListN.{length, drop}
use Rattle.rtr_room.specs.Room.{records, record_at, record_found, limit_of}
use Rattle.rtr_room.specs.declared.Record.{Record}
use Rattle.rtr_room.proofs.Laws.{rules-size, found_inside}
use Rattle.rtr_changes.specs.Changes.{without, next_only, only_said}
use Rattle.rtr_changes.proofs.Laws.{room-of-rules, next-at, next-nothing, next-never-22}
use Rattle.rtr_changes.proofs.Places.{RoomOf, NextAt}
use Rattle.rtr_cache.specs.Private.{IsRoom}
use Rattle.rtr_room.specs.declared.NotARoom.{NotARoom}

-- what a room has at a place is one record
same-record : (r r' : Record) → Some r ≡ Some r' → r' ≡ r
same-record r r' e = cc

not-none : (r : Record) → Some r ≡ None → ⊥
not-none r e = let z : ◌≡◌ {A = ℕ} 0 1 = cc in omega arith

-- the search was asked on two rooms
module _ (a b : List ℕ) (m n i : ℕ) (answer : Result (Option ℕ) NotARoom) (rooms : IsRoom a m × IsRoom b n) (says : only_said answer ≡ next_only a m b n i) where
  one : RoomOf (records m a) a m
  one = room-of-rules (limit_of a) m a rooms.0

  other : RoomOf (records n b) b n
  other = room-of-rules (limit_of b) n b rooms.1

  pub found-next : (p : ℕ) → answer ≡ Ok (Some p) → NextAt (records m a) (records n b) a m i p
  found-next p e = next-at one other i answer says p e

  -- which has all its numbers, so that it is found
  has-record : (p : ℕ) → answer ≡ Ok (Some p) → 6 * p + 6 ≤ length a
  has-record p e =
      let size = rules-size (limit_of a) m a rooms.0 in
      omega (arith, (found-next p e).below, size.0, size.1)

  pub the-record : (p : ℕ) (r : Record) → answer ≡ Ok (Some p) → record_found a p ≡ Some r → r ≡ record_at a p
  the-record p r e f = same-record _ r (sym (found_inside a p (has-record p e)) ∙ f)

  pub never-lost : (p : ℕ) → answer ≡ Ok (Some p) → record_found a p ≡ None → ⊥
  never-lost p e f = not-none _ (sym (found_inside a p (has-record p e)) ∙ f)

  pub none_left : answer ≡ Ok None → without (drop i (records m a)) (records n b) ≡ []
  none_left e = next-nothing one other i answer says e

  pub never-refused : answer ≡ Err (record {}) → ⊥
  never-refused e = next-never-22 one other i answer says e
