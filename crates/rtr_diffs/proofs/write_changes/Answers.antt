-- `write_changes`: 9 where the output is shorter than both sides, else they stand one behind the other. Assumes nothing.
use Prim.Native.Nat.{ℕ}
use mathlib.Core.List.{List}
use mathlib.Core.Path.{sym, subst}
use native.Mathlib.Omega.{arith}
use Rattle.rtr_room.specs.Room.{records}
use Rattle.rtr_listing.specs.Private.{Put}
use Rattle.rtr_listing.proofs.Puts.{put_then}
use Rattle.rtr_listing.proofs.Calls.{too_short, wrote}
use Rattle.rtr_diffs.proofs.Texts.{both-sides, both-lengths}
use Rattle.rtr_diffs.proofs.write_changes.Goals as goal

pub returns-then-out-needed : goal.returns-then-out-needed
returns-then-out-needed c =
    let a = c.args in
    rw c.short.ensures
    (too_short _ a.out.now _ (both-lengths (records a.old_count a.old.now) (records a.new_count a.new.now) _ _ c.side_length-withdrawn.ensures.0 c.side_length-announced.ensures.0) c.if-out-needed.true)

pub returns : goal.returns
returns c =
    let a = c.args in
    let old = records a.old_count a.old.now in
    let new = records a.new_count a.new.now in
    wrote _ a.out.now _ _ _ (both-lengths old new _ _ c.side_length-withdrawn.ensures.0 c.side_length-announced.ensures.0) c.if-out-needed.false
    (subst (λ (b : List ℕ). Put a.out.now 0 b c.put_side.result c.put_side.new.out) (sym (both-sides old new))
    (put_then (omega arith) c.put_side-next.ensures c.put_side.ensures))
