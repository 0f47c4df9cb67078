-- `by_order`: what the walk and the run find together is the strongest of the table. Assumes nothing.
use native.Mathlib.Omega.{arith}
use Rattle.rtr_room.specs.Room.{records}
use Rattle.rtr_origin.proofs.Answers.{as-named, valid-by-walk, walk-alone, walk-and-run}
use Rattle.rtr_origin.proofs.by_order.Goals as goal

pub returns-then-first-eq2 : goal.returns-then-first-eq2
returns-then-first-eq2 c =
    let a = c.args in
    let t = c.as_record-a in
    valid-by-walk a.q t.result t.ensures.0 t.ensures.1 a.live.now a.count a.least a.loose c.requires.0 c.requires.1 _ c.walk-first.ensures c.if-first-eq2.true

pub returns-then-loose-prefix_length : goal.returns-then-loose-prefix_length
returns-then-loose-prefix_length c =
    let a = c.args in
    let t = c.as_record-a in
    as-named a.q t.result t.ensures.0 t.ensures.1 (records a.count a.live.now) _ _ c.name.ensures
    (walk-alone a.q t.result t.ensures.0 t.ensures.1 a.live.now a.count a.least a.loose c.requires.0 c.requires.1 _ c.walk-first.ensures (omega (arith, c.prefix_length.ensures, c.if-loose-prefix_length.true)))

pub returns : goal.returns
returns c =
    let a = c.args in
    let t = c.as_record-a in
    let h = c.higher.ensures in
    as-named a.q t.result t.ensures.0 t.ensures.1 (records a.count a.live.now) _ _ c.name-2.ensures
    (walk-and-run a.q t.result t.ensures.0 t.ensures.1 a.live.now a.count a.least a.loose c.requires.0 c.requires.1 _ c.walk-first.ensures _ _ c.run-second.ensures h.0 h.1 h.2)
