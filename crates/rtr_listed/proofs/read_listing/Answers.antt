-- `read_listing`: the lines before the records, the records, and that nothing is left; else the room is emptied again. Assumes nothing.
use Prim.Native.Nat.{ℕ, ◌*◌}
use mathlib.Core.Path.{◌≡◌, refl, sym, ap, ◌∙◌}
use lib.ListN.{length, replicate}
use Rattle.rtr_receiver.specs.Promises.{record_limit}
use Rattle.rtr_listed.proofs.Whole.{all_listed, not_listed, off-size, of_size, emptied}
use Rattle.rtr_listed.proofs.read_listing.Goals as goal

pub returns-then-room : goal.returns-then-room
returns-then-room c = let a = c.args in off-size record_limit a.listing.now a.room.now c.if-room.true

pub read_records-end-requires : goal.read_records-end-requires
read_records-end-requires c =
    let a = c.args in
    let head = c.read_head-read.ensures in
    let emptied = c.empty in
    let kept : length emptied.new.room ≡ length a.room.now = emptied.auto.room in
    ((head.inside, head.line), (head.within, (kept ∙ c.if-room.false, emptied.ensures ∙ ap (λ (n : ℕ). replicate n 0) (sym kept))))

pub returns-then-is_done : goal.returns-then-is_done
returns-then-is_done c =
    let a = c.args in
    let s = a.listing.now in
    let head = c.read_head-read in
    let all = c.read_records-end in
    let done = sym c.is_done.ensures ∙ c.if-is_done.true in
    sym (all_listed record_limit s head.result.head head.result.next _ all.result head.ensures.stands (all.ensures.1 head.result.head refl) done)
    ∙ of_size record_limit s a.room.now c.if-room.false

pub returns : goal.returns
returns c =
    let a = c.args in
    let s = a.listing.now in
    let head = c.read_head-read in
    let all = c.read_records-end in
    let over = sym c.is_done.ensures ∙ c.if-is_done.false in
    let size : length a.room.now ≡ 6 * record_limit = c.if-room.false in
    let kept : length all.new.room ≡ 6 * record_limit = all.auto.room ∙ c.empty.auto.room ∙ size in
    emptied record_limit all.result.line s a.room.now all.new.room _ size kept c.empty-2.ensures
    (not_listed record_limit s head.result.head head.result.next _ all.result head.ensures.stands (all.ensures.1 head.result.head refl) all.ensures.0 over)
