-- What comparing two listings comes to, for readers and callers, over any limit. Assumes nothing.
use Prim.Native.Nat.{ℕ, ◌+◌, ◌*◌, ◌≤◌, ◌<◌}
use mathlib.Core.Bool.{Bool, true, false, cond}
use mathlib.Core.List.{List, [], ◌++◌}
use mathlib.Core.Logic.{◌↔◌}
use mathlib.Core.Path.{◌≡◌, refl, sym, ap, ◌∙◌}
use native.Mathlib.Omega.{arith}
use borrow.Author.Tests.{eqb-true, eqb-false}
use lib.Dec.{eqb}
use lib.ListN.{length, take, drop}
use Rattle.rtr_encode.specs.Encode.Writing.{written, refused}
use Rattle.rtr_receiver.specs.History.{Changed}
use Rattle.rtr_room.specs.Table.{is_in}
use Rattle.rtr_room.specs.declared.Record.{Record}
use Rattle.rtr_listing.specs.Listing.{text}
use Rattle.rtr_listing.specs.Promises.{puts}
use Rattle.rtr_listing.proofs.Laws.{written_is}
use Rattle.rtr_listed.specs.Listed.{Listed, Read, read_listing}
use Rattle.rtr_listed.specs.Listed.Read.{listed, misfit}
use Rattle.rtr_listed.specs.Promises.{read_leaves}
use Rattle.rtr_listed.proofs.Laws.{reads-exactly, front-is-enough, empty-is-refused}
use Rattle.rtr_changes.specs.Changes.{changes, Applies, how_often}
use Rattle.rtr_changes.proofs.Laws.{changes-at-most, changes-apply, once-or-never, no-changes-exactly}
use Rattle.rtr_diffs.specs.Diffs.{DiffLeft, changes_lines, refusal_lines, diff_read, new_room_by, diff_text, diff_says}
use Rattle.rtr_diffs.proofs.Texts.{changes-at-most-long, refusal-short, lines_none, no_lines}
use Rattle.rtr_diffs.proofs.Files.{sized, old-off-size, new-off-size}

-- ---- the text

-- "old file first": where the old file is refused, whatever the new one is
pub old-first : (limit : ℕ) (old new : List ℕ) (n : ℕ) → read_listing limit old ≡ misfit n → diff_text limit old new ≡ refusal_lines (text "old") n
unfolding diff_text
old-first limit old new n e = ap (λ (x : Read). diff_read x (read_listing limit new)) e

-- then the new one
pub new-second : (limit : ℕ) (old new : List ℕ) (v : Listed) (n : ℕ) → read_listing limit old ≡ listed v → read_listing limit new ≡ misfit n → diff_text limit old new ≡ refusal_lines (text "new") n
unfolding diff_text
new-second limit old new v n e f = λ i. diff_read (e i) (f i)

-- else the changes
pub both_read : (limit : ℕ) (old new : List ℕ) (v w : Listed) → read_listing limit old ≡ listed v → read_listing limit new ≡ listed w → diff_text limit old new ≡ changes_lines (changes v.records w.records)
unfolding diff_text
both_read limit old new v w e f = λ i. diff_read (e i) (f i)

-- "Applying the output to the old table gives the new one": the text is the lines of changes that apply to the old table one after another, none of them refused, and give the new one; a record of exactly
-- one of the tables stands in them once, any other never
pub output-applies : (limit : ℕ) (old new : List ℕ) (v w : Listed) → read_listing limit old ≡ listed v → read_listing limit new ≡ listed w
    → (cs : List Changed)
    × (diff_text limit old new ≡ changes_lines cs)
    × Applies limit v.records cs w.records
    × ((r : Record) → how_often r cs ≡ cond (is_in r v.records) (cond (is_in r w.records) 0 1) (cond (is_in r w.records) 1 0))
output-applies limit old new v w e f =
    let a = ((reads-exactly limit old v).0 e).1 in
    let b = ((reads-exactly limit new w).0 f).1 in (
      changes v.records w.records,
      both_read limit old new v w e f,
      changes-apply limit v.records w.records a.table b.table b.within,
      λ r. once-or-never r v.records w.records a.table b.table,
    )

-- "Session, serial and intervals are not compared", nor the stop: listings of the same records give the same text
pub not-compared : (limit : ℕ) (old old' new new' : List ℕ) (v v' w w' : Listed) → read_listing limit old ≡ listed v → read_listing limit old' ≡ listed v' → read_listing limit new ≡ listed w → read_listing limit new' ≡ listed w'
    → v.records ≡ v'.records → w.records ≡ w'.records → diff_text limit old new ≡ diff_text limit old' new'
not-compared limit old old' new new' v v' w w' a a' b b' same same' =
    both_read limit old new v w a b ∙ (λ i. changes_lines (changes (same i) (same' i))) ∙ sym (both_read limit old' new' v' w' a' b')

-- nothing is printed exactly where both have the same records
pub nothing-printed-exactly : (limit : ℕ) (old new : List ℕ) (v w : Listed) → read_listing limit old ≡ listed v → read_listing limit new ≡ listed w → diff_text limit old new ≡ [] ↔ v.records ≡ w.records
nothing-printed-exactly limit old new v w e f =
    let a = ((reads-exactly limit old v).0 e).1.table in
    let b = ((reads-exactly limit new w).0 f).1.table in
    let is = both_read limit old new v w e f in (
      λ none. (no-changes-exactly v.records w.records a b).0 (no_lines (changes v.records w.records) (sym is ∙ none)),
      λ same. is ∙ ap changes_lines ((no-changes-exactly v.records w.records a b).1 same) ∙ lines_none,
    )

-- a file of no bytes is refused at its line 1: a file that cannot be opened counts as one
pub old-missing : (limit : ℕ) (new : List ℕ) → diff_text limit [] new ≡ refusal_lines (text "old") 1
old-missing limit new = old-first limit [] new 1 (empty-is-refused limit)

pub new-missing : (limit : ℕ) (old : List ℕ) (v : Listed) → read_listing limit old ≡ listed v → diff_text limit old [] ≡ refusal_lines (text "new") 1
new-missing limit old v e = new-second limit old [] v 1 e (empty-is-refused limit)

-- what stands behind the first 131,201 bytes of either text changes nothing
pub front-decides-text : (limit m n : ℕ) (old new : List ℕ) → 131200 < m → 131200 < n → diff_text limit (take m old) (take n new) ≡ diff_text limit old new
unfolding diff_text
front-decides-text limit m n old new p q = λ i. diff_read (front-is-enough limit m old p i) (front-is-enough limit n new q i)

-- no text is longer
pub diff-at-most : (limit : ℕ) (old new : List ℕ) → length (diff_text limit old new) ≤ 64 + 288 * limit
unfolding diff_text
diff-at-most limit old new = go (read_listing limit old) refl (read_listing limit new) refl
  where
    go : (a : Read) → read_listing limit old ≡ a → (b : Read) → read_listing limit new ≡ b → length (diff_read a b) ≤ 64 + 288 * limit
    go (misfit n) e b f = omega (arith, refusal-short (text "old") n refl)
    go (listed v) e (misfit n) f = omega (arith, refusal-short (text "new") n refl)
    go (listed v) e (listed w) f =
        let a = ((reads-exactly limit old v).0 e).1.within in
        let b = ((reads-exactly limit new w).0 f).1.within in
        omega (arith, changes-at-most-long (changes v.records w.records), changes-at-most v.records w.records, a, b)

-- ---- the call

-- with rooms of the size: the text, or 9, and each room as reading its file leaves it
pub diff-of-size : (limit : ℕ) (old new old_room new_room out : List ℕ) → length old_room ≡ 6 * limit → length new_room ≡ 6 * limit
    → diff_says limit old new old_room new_room out ≡ record { out = puts (diff_text limit old new) out; old_room = (read_leaves limit (read_listing limit old)).room; new_room = new_room_by limit (read_listing limit old) (read_listing limit new) }
unfolding diff_text
diff-of-size = sized

-- else 22, and nothing changes
pub diff-off-size : (limit : ℕ) (old new old_room new_room out : List ℕ) → ((length old_room ≡ 6 * limit) × (length new_room ≡ 6 * limit) → ⊥)
    → diff_says limit old new old_room new_room out ≡ record { out = record { says = refused 22 []; out = out }; old_room = old_room; new_room = new_room }
diff-off-size limit old new old_room new_room out h = go (eqb (length old_room) (6 * limit)) refl (eqb (length new_room) (6 * limit)) refl
  where
    go : (a : Bool) → eqb (length old_room) (6 * limit) ≡ a → (b : Bool) → eqb (length new_room) (6 * limit) ≡ b
        → diff_says limit old new old_room new_room out ≡ record { out = record { says = refused 22 []; out = out }; old_room = old_room; new_room = new_room }
    go true p true q = absurd (h (eqb-true (length old_room) (6 * limit) p, eqb-true (length new_room) (6 * limit) q))
    go false p b q = sym (old-off-size limit old new old_room new_room out (eqb-false (length old_room) (6 * limit) p))
    go true p false q = sym (new-off-size limit old new old_room new_room out (eqb-true (length old_room) (6 * limit) p) (eqb-false (length new_room) (6 * limit) q))

-- with rooms of the size and an output for the longest text it is written
pub diff-written : (limit : ℕ) (old new old_room new_room out : List ℕ) → length old_room ≡ 6 * limit → length new_room ≡ 6 * limit → 64 + 288 * limit ≤ length out
    → (diff_says limit old new old_room new_room out).out ≡ record { says = written (length (diff_text limit old new)); out = diff_text limit old new ++ drop (length (diff_text limit old new)) out }
unfolding diff_text
diff-written limit old new old_room new_room out p q h =
    ap (λ (d : DiffLeft). d.out) (sized limit old new old_room new_room out p q) ∙ written_is (diff_text limit old new) out (omega (arith, diff-at-most limit old new))
