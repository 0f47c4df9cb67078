-- `merge`: a turn of the loop, and its end. The ways out before it are each a refusal (`merge_refusals`). Assumes nothing.
use mathlib.Core.Path.{◌∙◌}
use native.Mathlib.Omega.{arith}
use Rattle.rtr_room.proofs.Merges.{merge-ends, merge-turn, all-merged}
use Rattle.rtr_room.proofs.merge.Goals as goal

pub loop-j-preserved : goal.loop-j-preserved
loop-j-preserved c =
    let a = c.args in
    let at-loop = c.loop-j in
    let turn =
    merge-turn a.room.now at-loop.room a.run.now at-loop.end at-loop.invariant.0 _ _ at-loop.j _ _ (omega arith) (omega arith)
    c.record_at-r.ensures c.place_in-at.ensures.0 c.place_in-at.ensures.1 c.shift_records.ensures c.put.ensures in (
      turn.0,
      turn.1 ∙ at-loop.invariant.1,
      omega arith,
    )

pub returns : goal.returns
returns c =
    let a = c.args in
    let at-loop = c.loop-j in
    all-merged a.room.now a.count a.run.now a.n c.if-count-room.false c.if-n-run.false c.if-n-room.false at-loop.room
    (merge-ends a.room.now at-loop.room a.run.now at-loop.end at-loop.invariant.0 at-loop.j (omega arith) ∙ at-loop.invariant.1)
