-- What a call of `read_listing` tells its caller, by the answer. Assumes nothing.
use Rattle.std.specs.Prelude.{Result, Ok, Err}
use Prim.Native.Nat.{ℕ, ◌*◌}
use mathlib.Core.List.{List, [], ◌∷◌}
use mathlib.Core.Path.{◌≡◌, refl, sym, ap, ◌∙◌}
use native.Mathlib.Omega.{arith}
use lib.ListN.{length}
use Rattle.rtr_listing.specs.declared.Head.{Head}
use Rattle.rtr_room.specs.Room.{room}
use Rattle.rtr_listed.specs.Listed.{Listed, Read, read_listing}
use Rattle.rtr_listed.specs.Listed.Read.{listed, misfit}
use Rattle.rtr_listed.specs.Promises.{ListedLeft, says, refused, listed_head, line_in, listed_said, read_leaves, listed_says}
use Rattle.rtr_listed.specs.declared.ListedError.{ListedError}
use Rattle.rtr_listed.proofs.Whole.{of_size}

-- a listing was read: what the answer holds and what lies in the room are of one value
pub record WasListed (limit : ℕ) (s left : List ℕ) (head : Head) : Type 0 where
  pub value : Listed
  pub read : read_listing limit s ≡ listed value
  pub head-is : head ≡ listed_head value
  pub room-is : left ≡ room limit value.records

module _ (limit : ℕ) (s lent left : List ℕ) (answer : Result Head ListedError) (size : length lent ≡ 6 * limit)
    (promise : record { answer = listed_said answer; room = left } ≡ listed_says limit s lent) where
  left_as : record { answer = listed_said answer; room = left } ≡ read_leaves limit (read_listing limit s)
  left_as = promise ∙ sym (of_size limit s lent size)

  -- the room is left as reading leaves it
  pub room-left : left ≡ (read_leaves limit (read_listing limit s)).room
  room-left = ap (λ (x : ListedLeft). x.room) left_as

  pub was-listed : (head : Head) → answer ≡ Ok head → WasListed limit s left head
  was-listed head e = go (read_listing limit s) refl (sym (ap (λ (a : Result Head ListedError). record { answer = listed_said a; room = left }) e) ∙ left_as)
    where
      go : (r : Read) → read_listing limit s ≡ r → record { answer = says head; room = left } ≡ read_leaves limit r → WasListed limit s left head
      go (listed v) p q =
          let same : says head ≡ says (listed_head v) = ap (λ (x : ListedLeft). x.answer) q in
          record { value = v; read = p; head-is = cc; room-is = ap (λ (x : ListedLeft). x.room) q }
      go (misfit n) p q =
          let other : says head ≡ refused 24 (n ∷ []) = ap (λ (x : ListedLeft). x.answer) q in
          let z : ◌≡◌ {A = ℕ} 0 1 = cc in absurd (omega arith)

  pub was-refused : (error : ListedError) → answer ≡ Err error → read_listing limit s ≡ misfit (line_in error)
  was-refused ListedError.NotARoom e = go (read_listing limit s) (sym (ap (λ (a : Result Head ListedError). record { answer = listed_said a; room = left }) e) ∙ left_as)
    where
      go : (r : Read) → record { answer = refused 22 []; room = left } ≡ read_leaves limit r → r ≡ misfit 0
      go (listed v) q =
          let other : refused 22 [] ≡ says (listed_head v) = ap (λ (x : ListedLeft). x.answer) q in
          let z : ◌≡◌ {A = ℕ} 0 1 = cc in absurd (omega arith)
      go (misfit n) q =
          let other : refused 22 [] ≡ refused 24 (n ∷ []) = ap (λ (x : ListedLeft). x.answer) q in
          let z : ◌≡◌ {A = ℕ} 22 24 = cc in absurd (omega arith)
  was-refused (ListedError.Line line) e = go (read_listing limit s) (sym (ap (λ (a : Result Head ListedError). record { answer = listed_said a; room = left }) e) ∙ left_as)
    where
      go : (r : Read) → record { answer = refused 24 (line ∷ []); room = left } ≡ read_leaves limit r → r ≡ misfit line
      go (listed v) q =
          let other : refused 24 (line ∷ []) ≡ says (listed_head v) = ap (λ (x : ListedLeft). x.answer) q in
          let z : ◌≡◌ {A = ℕ} 0 1 = cc in absurd (omega arith)
      go (misfit n) q =
          let same : refused 24 (line ∷ []) ≡ refused 24 (n ∷ []) = ap (λ (x : ListedLeft). x.answer) q in
          let n-is : n ≡ line = cc in
          ap misfit n-is
