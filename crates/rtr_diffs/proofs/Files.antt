-- What reading each file tells of the text and of the rooms. Assumes nothing.
use Rattle.std.specs.Prelude.{Result, Err}
use Prim.Native.Nat.{ℕ, ◌*◌, ◌≤◌}
use mathlib.Core.Bool.{Bool, true, false, cond, ◌&&◌}
use mathlib.Core.List.{List, []}
use mathlib.Core.Path.{◌≡◌, sym, ap, ◌∙◌}
use native.Mathlib.Omega.{arith}
use borrow.Author.Tests.{eq-eqb, ne_eqb}
use lib.Dec.{eqb}
use lib.ListN.{length, replicate}
use Rattle.rtr_encode.specs.Encode.Writing.{refused}
use Rattle.rtr_room.specs.Table.{is_table}
use Rattle.rtr_room.specs.Room.{room, records, is_room}
use Rattle.rtr_room.specs.declared.Record.{Record}
use Rattle.rtr_room.proofs.Laws.{rules-exactly, records-of-room}
use Rattle.rtr_listing.specs.Listing.{text}
use Rattle.rtr_listing.specs.Promises.{leaves, puts}
use Rattle.rtr_listing.specs.declared.Head.{Head}
use Rattle.rtr_listing.specs.declared.ListError.{ListError}
use Rattle.rtr_listed.specs.Listed.{Listed, Read, read_listing}
use Rattle.rtr_listed.specs.Listed.Read.{listed, misfit}
use Rattle.rtr_listed.specs.Promises.{read_leaves}
use Rattle.rtr_listed.proofs.Calls.{WasListed}
use Rattle.rtr_listed.proofs.Laws.{reads-exactly}
use Rattle.rtr_changes.specs.Changes.{changes}
use Rattle.rtr_diffs.specs.Diffs.{changes_lines, refusal_lines, after_old, diff_read, new_room_by, diff_text, diff_says, diff_left}
use Rattle.rtr_diffs.specs.Private.{NewRead}

-- what was read is a table within the limit
listed-fits : (limit : ℕ) (s : List ℕ) (v : Listed) → read_listing limit s ≡ listed v → (is_table v.records ≡ true) × (length v.records ≤ limit)
listed-fits limit s v e = let f = ((reads-exactly limit s v).0 e).1 in (f.table, f.within)

module _ (limit : ℕ) (s left : List ℕ) (head : Head) (was : WasListed limit s left head) where
  count-is : head.count ≡ length was.value.records
  count-is = ap (λ (h : Head). h.count) was.head-is

  pub room-ruled : is_room limit head.count left ≡ true
  room-ruled =
      let fits = listed-fits limit s was.value was.read in
      (rules-exactly limit head.count left).1 (was.value.records, fits.0, sym count-is, omega (arith, count-is, fits.1), was.room-is)

  pub count-within : head.count ≤ limit
  count-within = omega (arith, count-is, (listed-fits limit s was.value was.read).1)

  pub records-are : records head.count left ≡ was.value.records
  records-are = (λ i. records (count-is i) (was.room-is i)) ∙ records-of-room limit was.value.records

  pub new-listed : (old : List Record) (out left' : List ℕ) (r : Result ℕ ListError) → leaves r left' ≡ puts (changes_lines (changes old (records head.count left))) out → NewRead limit old s out left' left r
  new-listed old out left' r e =
      record {
        writes = e ∙ ap (λ (t : List Record). puts (changes_lines (changes old t)) out) records-are ∙ ap (λ (x : Read). puts (after_old old x) out) (sym was.read);
        room-is = was.room-is ∙ ap (λ (x : Read). (read_leaves limit x).room) (sym was.read);
      }

pub new-refused : (limit : ℕ) (old : List Record) (s out left left' : List ℕ) (n : ℕ) (r : Result ℕ ListError) → read_listing limit s ≡ misfit n → left ≡ (read_leaves limit (read_listing limit s)).room → leaves r left' ≡ puts (refusal_lines (text "new") n) out → NewRead limit old s out left' left r
new-refused limit old s out left left' n r e room-left w = record { writes = w ∙ ap (λ (x : Read). puts (after_old old x) out) (sym e); room-is = room-left }

module _ (limit : ℕ) (old new old_room new_room out : List ℕ) where
  -- both rooms have the size
  module _ (old_size : length old_room ≡ 6 * limit) (new_size : length new_room ≡ 6 * limit) where
    pub sized : diff_says limit old new old_room new_room out
        ≡ record { out = puts (diff_read (read_listing limit old) (read_listing limit new)) out; old_room = (read_leaves limit (read_listing limit old)).room; new_room = new_room_by limit (read_listing limit old) (read_listing limit new) }
    unfolding diff_says diff_text
    sized = simp (eq-eqb (length old_room) (6 * limit) old_size, eq-eqb (length new_room) (6 * limit) new_size)

    pub old-listed : (v : Listed) (old_left new_left out' : List ℕ) (r : Result ℕ ListError) → read_listing limit old ≡ listed v → old_left ≡ room limit v.records → NewRead limit v.records new out out' new_left r
        → diff_left r old_left new_left out' ≡ diff_says limit old new old_room new_room out
    old-listed v old_left new_left out' r e o n =
        (λ i. record { out = n.writes i; old_room = o i; new_room = n.room-is i })
        ∙ (λ i. record { out = puts (diff_read (sym e i) (read_listing limit new)) out; old_room = (read_leaves limit (sym e i)).room; new_room = new_room_by limit (sym e i) (read_listing limit new) })
        ∙ sym sized

    pub old-refused : (n : ℕ) (old_left new_left out' : List ℕ) (r : Result ℕ ListError) → read_listing limit old ≡ misfit n → old_left ≡ (read_leaves limit (read_listing limit old)).room → new_left ≡ replicate (length new_room) 0
        → leaves r out' ≡ puts (refusal_lines (text "old") n) out → diff_left r old_left new_left out' ≡ diff_says limit old new old_room new_room out
    old-refused n old_left new_left out' r e o z w =
        (λ i. record { out = w i; old_room = (o ∙ ap (λ (x : Read). (read_leaves limit x).room) e) i; new_room = (z ∙ ap (λ (k : ℕ). replicate k 0) new_size) i })
        ∙ (λ i. record { out = puts (diff_read (sym e i) (read_listing limit new)) out; old_room = (read_leaves limit (sym e i)).room; new_room = new_room_by limit (sym e i) (read_listing limit new) })
        ∙ sym sized

  off : (a b : Bool) → a && b ≡ false → cond (a && b) (record { out = puts (diff_text limit old new) out; old_room = (read_leaves limit (read_listing limit old)).room; new_room = new_room_by limit (read_listing limit old) (read_listing limit new) })
      (record { out = record { says = refused 22 []; out = out }; old_room = old_room; new_room = new_room }) ≡ diff_left (Err ListError.NotAReceiver) old_room new_room out
  off a b e = ap (λ (x : Bool). cond x (record { out = puts (diff_text limit old new) out; old_room = (read_leaves limit (read_listing limit old)).room; new_room = new_room_by limit (read_listing limit old) (read_listing limit new) })
      (record { out = record { says = refused 22 []; out = out }; old_room = old_room; new_room = new_room })) e

  pub old-off-size : (length old_room ≡ 6 * limit → ⊥) → diff_left (Err ListError.NotAReceiver) old_room new_room out ≡ diff_says limit old new old_room new_room out
  unfolding diff_says
  old-off-size h = sym (off (eqb (length old_room) (6 * limit)) (eqb (length new_room) (6 * limit)) (simp (ne_eqb (length old_room) (6 * limit) h)))

  pub new-off-size : length old_room ≡ 6 * limit → (length new_room ≡ 6 * limit → ⊥) → diff_left (Err ListError.NotAReceiver) old_room new_room out ≡ diff_says limit old new old_room new_room out
  unfolding diff_says
  new-off-size e h = sym (off (eqb (length old_room) (6 * limit)) (eqb (length new_room) (6 * limit)) (simp (eq-eqb (length old_room) (6 * limit) e, ne_eqb (length new_room) (6 * limit) h)))
