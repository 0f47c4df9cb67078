-- `diff`: what reading the old file tells, and then the new one, decides the text and the rooms. Assumes nothing.
use Prim.Native.Nat.{ℕ}
use mathlib.Core.List.{List}
use mathlib.Core.Path.{ap, ◌∙◌, subst}
use Rattle.rtr_room.specs.declared.Record.{Record}
use Rattle.rtr_receiver.specs.Promises.{record_limit}
use Rattle.rtr_listing.specs.Listing.{text}
use Rattle.rtr_listing.specs.Promises.{puts}
use Rattle.rtr_listed.proofs.Calls.{WasListed, room-left, was-listed, was-refused}
use Rattle.rtr_diffs.specs.Diffs.{refusal_lines}
use Rattle.rtr_diffs.specs.Private.{NewRead}
use Rattle.rtr_diffs.proofs.Files.{room-ruled, count-within, records-are, old-listed, old-refused, old-off-size, new-off-size}
use Rattle.rtr_diffs.proofs.diff.Goals as goal

pub returns-then-old_room : goal.returns-then-old_room
returns-then-old_room c = let a = c.args in old-off-size record_limit a.old.now a.new.now a.old_room.now a.new_room.now a.out.now c.if-old_room.true

pub returns-then-new_room : goal.returns-then-new_room
returns-then-new_room c = let a = c.args in new-off-size record_limit a.old.now a.new.now a.old_room.now a.new_room.now a.out.now c.if-old_room.false c.if-new_room.true

pub diff_new-requires : goal.diff_new-requires
diff_new-requires c =
    let was : WasListed record_limit c.args.old.now c.read_listing.new.room c.in-Ok.head = let a = c.args in was-listed record_limit a.old.now a.old_room.now _ _ c.if-old_room.false c.read_listing.ensures _ c.in-Ok.is in
    let w = was in
    (room-ruled record_limit _ _ _ w, (count-within record_limit _ _ _ w, c.if-new_room.false))

pub returns-in-Ok : goal.returns-in-Ok
returns-in-Ok c =
    let was : WasListed record_limit c.args.old.now c.read_listing.new.room c.in-Ok.head = let a = c.args in was-listed record_limit a.old.now a.old_room.now _ _ c.if-old_room.false c.read_listing.ensures _ c.in-Ok.is in
    let a = c.args in
    let w = was in
    let n = subst (λ (t : List Record). NewRead record_limit t a.new.now a.out.now c.diff_new.new.out c.diff_new.new.new_room c.diff_new.result) (records-are record_limit _ _ _ w) c.diff_new.ensures in
    old-listed record_limit a.old.now a.new.now a.old_room.now a.new_room.now a.out.now c.if-old_room.false c.if-new_room.false w.value _ _ _ _ w.read w.room-is n

pub returns-in-Err : goal.returns-in-Err
returns-in-Err c =
    let a = c.args in
    let read = c.read_listing in
    let size = c.if-old_room.false in
    let line = was-refused record_limit a.old.now a.old_room.now _ _ size read.ensures c.in-Err.error c.in-Err.is in
    let told = c.write_refusal.ensures ∙ ap (λ (n : ℕ). puts (refusal_lines (text "old") n) a.out.now) c.line_of.ensures in
    old-refused record_limit a.old.now a.new.now a.old_room.now a.new_room.now a.out.now size c.if-new_room.false _ _ _ _ c.write_refusal.result line
    (room-left record_limit a.old.now a.old_room.now _ read.result size read.ensures) c.empty.ensures told
