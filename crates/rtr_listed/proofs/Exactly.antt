-- When the call says what, and the room that it leaves: 22 exactly where the room has not the size of the limit, a head exactly where the text is the
-- listing of values that fit and have that head, 24 exactly where the reader by lines names that line. Assumes nothing.
use Rattle.std.specs.Prelude.{Result, Ok, Err}
use Prim.Native.Nat.{ℕ, ◌*◌}
use mathlib.Core.Bool.{Bool, true, false}
use mathlib.Core.List.{List, [], ◌∷◌}
use mathlib.Core.Logic.{◌↔◌}
use mathlib.Core.Path.{◌≡◌, refl, sym, ap, ◌∙◌, subst}
use native.Mathlib.Omega.{arith}
use borrow.Author.Tests.{eqb-true, eqb-false}
use lib.Dec.{eqb}
use lib.ListN.{length, replicate}
use Rattle.rtr_room.specs.Room.{room, records}
use Rattle.rtr_room.proofs.Laws.{records-of-room}
use Rattle.rtr_receiver.specs.Promises.{record_limit}
use Rattle.rtr_listing.specs.declared.Head.{Head}
use Rattle.rtr_listed.specs.Listed.{Listed, Read, read_listing, listing_text}
use Rattle.rtr_listed.specs.Listed.Read.{listed, misfit}
use Rattle.rtr_listed.specs.Fits.{ListingFits}
use Rattle.rtr_listed.specs.Promises.{ListedSays, ListedLeft, listed_said, listed_head, read_leaves, listed_says}
use Rattle.rtr_listed.specs.Promises.ListedSays.{says, refused}
use Rattle.rtr_listed.specs.declared.ListedError.{ListedError}
use Rattle.rtr_listed.proofs.Whole.{of_size, off-size}
use Rattle.rtr_listed.proofs.Laws.{reads-exactly}
use Rattle.rtr_listed.proofs.Unique.{answer_of, said-back}
use Rattle.rtr_listed.proofs.read_listing.Reads as reads

-- ---- what a text and a lent room come to

-- the three ways
data Comes (limit : ℕ) (s lent : List ℕ) (said : ListedSays) (left : List ℕ) : Type 0 where
  off : (length lent ≡ 6 * limit → ⊥) → said ≡ refused 22 [] → left ≡ lent → Comes limit s lent said left
  read : length lent ≡ 6 * limit → (v : Listed) → read_listing limit s ≡ listed v → said ≡ says (listed_head v) → left ≡ room limit v.records
      → Comes limit s lent said left
  misread : length lent ≡ 6 * limit → (n : ℕ) → read_listing limit s ≡ misfit n → said ≡ refused 24 (n ∷ []) → left ≡ replicate (6 * limit) 0
      → Comes limit s lent said left

-- the text is the listing of a value that fits, in a room of the limit's size
abbrev Holds : ℕ → List ℕ → List ℕ → Listed → Type 0
Holds limit s lent v = (length lent ≡ 6 * limit) × (s ≡ listing_text v) × ListingFits limit v

-- the same head and the same room are the same values
same-values : (limit : ℕ) (v w : Listed) → listed_head v ≡ listed_head w → room limit v.records ≡ room limit w.records → v ≡ w
same-values limit v w head rooms =
    let count : length v.records ≡ length w.records = ap (λ (h : Head). h.count) head in
    let all : v.records ≡ w.records = sym (records-of-room limit v.records) ∙ (λ i. records (count i) (rooms i)) ∙ records-of-room limit w.records in
    λ i. record { stopped = (head i).stopped; table = (head i).table; records = all i }

module _ (limit : ℕ) (s lent : List ℕ) (said : ListedSays) (left : List ℕ) (p : record { answer = said; room = left } ≡ listed_says limit s lent) where
  comes : Comes limit s lent said left
  comes = go (eqb (length lent) (6 * limit)) refl
    where
      is : (x : ListedLeft) → record { answer = said; room = left } ≡ x → (said ≡ x.answer) × (left ≡ x.room)
      is x e = (ap (λ (y : ListedLeft). y.answer) e, ap (λ (y : ListedLeft). y.room) e)

      by : length lent ≡ 6 * limit → (x : Read) → read_listing limit s ≡ x → record { answer = said; room = left } ≡ read_leaves limit x
          → Comes limit s lent said left
      by size (listed v) e q = let k = is (read_leaves limit (listed v)) q in read size v e k.0 k.1
      by size (misfit n) e q = let k = is (read_leaves limit (misfit n)) q in misread size n e k.0 k.1

      go : (b : Bool) → eqb (length lent) (6 * limit) ≡ b → Comes limit s lent said left
      go true e = let size = eqb-true (length lent) (6 * limit) e in by size (read_listing limit s) refl (p ∙ sym (of_size limit s lent size))
      go false e =
          let size = eqb-false (length lent) (6 * limit) e in
          let k = is (record { answer = refused 22 []; room = lent }) (p ∙ sym (off-size limit s lent size)) in
          off size k.0 k.1

  -- 22: exactly by the room's size, and it stays
  off-exactly : said ≡ refused 22 [] ↔ (length lent ≡ 6 * limit → ⊥)
  off-exactly = (λ e. go comes e, λ h. back comes h)
    where
      go : Comes limit s lent said left → said ≡ refused 22 [] → length lent ≡ 6 * limit → ⊥
      go (off size a r) e = size
      go (read size v k a r) e = let z : ◌≡◌ {A = ℕ} 0 1 = cc in absurd (omega arith)
      go (misread size n k a r) e = let z : ◌≡◌ {A = ℕ} 22 24 = cc in absurd (omega arith)

      back : Comes limit s lent said left → (length lent ≡ 6 * limit → ⊥) → said ≡ refused 22 []
      back (off size a r) h = a
      back (read size v k a r) h = absurd (h size)
      back (misread size n k a r) h = absurd (h size)

  off-keeps : said ≡ refused 22 [] → left ≡ lent
  off-keeps e = go comes (off-exactly.0 e)
    where
      go : Comes limit s lent said left → (length lent ≡ 6 * limit → ⊥) → left ≡ lent
      go (off size a r) h = r
      go (read size v k a r) h = absurd (h size)
      go (misread size n k a r) h = absurd (h size)

  -- 24: exactly by the line that the reader names, and the room is all zeros
  misread-exactly : (n : ℕ) → said ≡ refused 24 (n ∷ []) ↔ ((length lent ≡ 6 * limit) × (read_listing limit s ≡ misfit n))
  misread-exactly n = (λ e. go comes e, λ h. back comes h.0 h.1)
    where
      go : Comes limit s lent said left → said ≡ refused 24 (n ∷ []) → (length lent ≡ 6 * limit) × (read_listing limit s ≡ misfit n)
      go (off size a r) e = let z : ◌≡◌ {A = ℕ} 22 24 = cc in absurd (omega arith)
      go (read size v k a r) e = let z : ◌≡◌ {A = ℕ} 0 1 = cc in absurd (omega arith)
      go (misread size m k a r) e = let same : m ≡ n = cc in (size, k ∙ ap misfit same)

      back : Comes limit s lent said left → length lent ≡ 6 * limit → read_listing limit s ≡ misfit n → said ≡ refused 24 (n ∷ [])
      back (off size a r) h k = absurd (size h)
      back (read size v e a r) h k = let z : ◌≡◌ {A = ℕ} 0 1 = cc in absurd (omega arith)
      back (misread size m e a r) h k = let same : m ≡ n = cc in a ∙ ap (λ (x : ℕ). refused 24 (x ∷ [])) same

  misread-zeros : (n : ℕ) → said ≡ refused 24 (n ∷ []) → left ≡ replicate (6 * limit) 0
  misread-zeros n e = go comes
    where
      go : Comes limit s lent said left → left ≡ replicate (6 * limit) 0
      go (off size a r) = let z : ◌≡◌ {A = ℕ} 22 24 = cc in absurd (omega arith)
      go (read size v k a r) = let z : ◌≡◌ {A = ℕ} 0 1 = cc in absurd (omega arith)
      go (misread size m k a r) = r

  -- a head: the text is the listing of values that fit and have it, and the room is theirs
  listed-is : (h : Head) → said ≡ says h → (v : Listed) × (listed_head v ≡ h) × (left ≡ room limit v.records) × Holds limit s lent v
  listed-is h e = go comes
    where
      go : Comes limit s lent said left → (v : Listed) × (listed_head v ≡ h) × (left ≡ room limit v.records) × Holds limit s lent v
      go (off size a r) = let z : ◌≡◌ {A = ℕ} 0 1 = cc in absurd (omega arith)
      go (read size v k a r) =
          let same : listed_head v ≡ h = cc in
          let exact = (reads-exactly limit s v).0 k in
          (v, same, r, (size, exact.0, exact.1))
      go (misread size n k a r) = let z : ◌≡◌ {A = ℕ} 0 1 = cc in absurd (omega arith)

  -- exactly then
  listed-exactly : (v : Listed) → ((said ≡ says (listed_head v)) × (left ≡ room limit v.records)) ↔ Holds limit s lent v
  listed-exactly v = (λ e. there e, λ h. back comes h.0 ((reads-exactly limit s v).1 (h.1, h.2)))
    where
      there : (said ≡ says (listed_head v)) × (left ≡ room limit v.records) → Holds limit s lent v
      there e =
          let is = listed-is (listed_head v) e.0 in
          let same : is.0 ≡ v = same-values limit is.0 v is.1 (sym is.2 ∙ e.1) in
          subst (Holds limit s lent) same is.3

      back : Comes limit s lent said left → length lent ≡ 6 * limit → read_listing limit s ≡ listed v
          → (said ≡ says (listed_head v)) × (left ≡ room limit v.records)
      back (off size a r) h k = absurd (size h)
      back (read size w e a r) h k =
          let same : w ≡ v = cc in
          (a ∙ ap (λ (x : Listed). says (listed_head x)) same, r ∙ ap (λ (x : Listed). room limit x.records) same)
      back (misread size n e a r) h k = let z : ◌≡◌ {A = ℕ} 0 1 = cc in absurd (omega arith)

-- ---- of the call, by its promise

-- an answer is what it says
said-is : (r : Result Head ListedError) (x : ListedSays) → listed_said r ≡ x → r ≡ answer_of x
said-is r x e = sym (said-back r) ∙ ap answer_of e

module _ (κs : _) (a : _) (r : _) (st : _) (p : reads.Post κs a r st) where
  -- the text and the room that were lent, and the room that is left
  abbrev listing : List ℕ
  listing = a.0.now

  abbrev lent : List ℕ
  lent = a.1.0.now

  abbrev left : List ℕ
  left = st.1.0.now

  pub read-listing-22-exactly : r ≡ Err ListedError.NotARoom ↔ (length lent ≡ 6 * record_limit → ⊥)
  read-listing-22-exactly =
      let k = off-exactly record_limit listing lent (listed_said r) left p in
      (λ e. k.0 (ap listed_said e), λ h. said-is r (refused 22 []) (k.1 h))

  pub read-listing-22-keeps : r ≡ Err ListedError.NotARoom → left ≡ lent
  read-listing-22-keeps e = off-keeps record_limit listing lent (listed_said r) left p (ap listed_said e)

  pub read-listing-24-exactly : (n : ℕ)
      → r ≡ Err (ListedError.Line n) ↔ ((length lent ≡ 6 * record_limit) × (read_listing record_limit listing ≡ misfit n))
  read-listing-24-exactly n =
      let k = misread-exactly record_limit listing lent (listed_said r) left p n in
      (λ e. k.0 (ap listed_said e), λ h. said-is r (refused 24 (n ∷ [])) (k.1 h))

  pub read-listing-24-zeros : (n : ℕ) → r ≡ Err (ListedError.Line n) → left ≡ replicate (6 * record_limit) 0
  read-listing-24-zeros n e = misread-zeros record_limit listing lent (listed_said r) left p n (ap listed_said e)

  -- the answer is a head exactly if the text is the listing of some fitting values with that head; then the room is theirs
  pub read-listing-exactly : (v : Listed) → ((r ≡ Ok (listed_head v)) × (left ≡ room record_limit v.records))
      ↔ ((length lent ≡ 6 * record_limit) × (listing ≡ listing_text v) × ListingFits record_limit v)
  read-listing-exactly v =
      let k = listed-exactly record_limit listing lent (listed_said r) left p v in
      (λ e. k.0 (ap listed_said e.0, e.1), λ h. let x = k.1 h in (said-is r (says (listed_head v)) x.0, x.1))

  pub read-listing-head : (h : Head) → r ≡ Ok h
      → (v : Listed) × (listed_head v ≡ h) × (left ≡ room record_limit v.records)
      × ((length lent ≡ 6 * record_limit) × (listing ≡ listing_text v) × ListingFits record_limit v)
  read-listing-head h e = listed-is record_limit listing lent (listed_said r) left p h (ap listed_said e)
