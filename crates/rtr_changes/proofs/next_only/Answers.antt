use mathlib.Core.Bool.{true, false}
use mathlib.Core.Path.{◌≡◌}
use Rattle.rtr_room.specs.Room.{record_at, stands}
use Rattle.rtr_changes.proofs.Places.{over_first, over-second, starts, goes_on, finds, ends}
use Rattle.rtr_changes.proofs.next_only.Goals as goal

pub returns-then-a_count-a : goal.returns-then-a_count-a
returns-then-a_count-a c = over_first _ _ _ _ _ c.if-a_count-a.true

pub returns-then-b_count-b : goal.returns-then-b_count-b
returns-then-b_count-b c = over-second _ _ _ _ _ c.if-b_count-b.true

pub loop-i-init : goal.loop-i-init
loop-i-init c = starts _ _ _ _ _ c.if-a_count-a.false c.if-b_count-b.false

pub returns-then-not-is_there : goal.returns-then-not-is_there
returns-then-not-is_there c =
    let a = c.args in
    let missing : stands a.b.now a.b_count (record_at a.a.now c.loop-i.i) ≡ false = cc in
    cc (finds a.a.now a.b.now a.a_count a.b_count c.loop-i.i c.loop-i-test.true missing)

pub loop-i-preserved : goal.loop-i-preserved
loop-i-preserved c =
    let a = c.args in
    let there : stands a.b.now a.b_count (record_at a.a.now c.loop-i.i) ≡ true = cc in
    cc (goes_on a.a.now a.b.now a.a_count a.b_count c.loop-i.i c.loop-i-test.true there)

pub returns : goal.returns
returns c = let a = c.args in cc (ends a.a.now a.b.now a.a_count a.b_count c.loop-i.i c.loop-i-test.false)
