-- `diff_new`: what reading the new file tells decides the text. Assumes nothing.
use Prim.Native.Nat.{ℕ}
use mathlib.Core.Path.{ap, ◌∙◌}
use Rattle.rtr_room.specs.Room.{records}
use Rattle.rtr_receiver.specs.Promises.{record_limit}
use Rattle.rtr_listing.specs.Listing.{text}
use Rattle.rtr_listing.specs.Promises.{puts}
use Rattle.rtr_listed.proofs.Calls.{WasListed, room-left, was-listed, was-refused}
use Rattle.rtr_diffs.specs.Diffs.{refusal_lines}
use Rattle.rtr_diffs.proofs.Files.{room-ruled, count-within, new-listed, new-refused}
use Rattle.rtr_diffs.proofs.diff_new.Goals as goal

pub write_changes-requires : goal.write_changes-requires
write_changes-requires c =
    let was : WasListed record_limit c.args.new.now c.read_listing.new.room c.in-Ok.head = was-listed record_limit c.args.new.now c.args.new_room.now _ _ c.requires.1.1 c.read_listing.ensures _ c.in-Ok.is in
    let w = was in
    ((c.requires.0, room-ruled record_limit _ _ _ w), (c.requires.1.0, count-within record_limit _ _ _ w))

pub returns-in-Ok : goal.returns-in-Ok
returns-in-Ok c =
    let was : WasListed record_limit c.args.new.now c.read_listing.new.room c.in-Ok.head = was-listed record_limit c.args.new.now c.args.new_room.now _ _ c.requires.1.1 c.read_listing.ensures _ c.in-Ok.is in
    let a = c.args in
    new-listed record_limit _ _ _ was (records a.old_count a.old_room.now) a.out.now _ _ c.write_changes.ensures

pub returns-in-Err : goal.returns-in-Err
returns-in-Err c =
    let a = c.args in
    let read = c.read_listing in
    let line = was-refused record_limit a.new.now a.new_room.now _ _ c.requires.1.1 read.ensures c.in-Err.error c.in-Err.is in
    let told = c.write_refusal.ensures ∙ ap (λ (n : ℕ). puts (refusal_lines (text "new") n) a.out.now) c.line_of.ensures in
    new-refused record_limit (records a.old_count a.old_room.now) a.new.now a.out.now _ _ _ _ line (room-left record_limit a.new.now a.new_room.now _ read.result c.requires.1.1 read.ensures) told
