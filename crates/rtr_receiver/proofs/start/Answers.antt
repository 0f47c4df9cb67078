-- `start` measures the rooms and the hold, and zeroes both rooms. Assumes nothing.
use Rattle.rtr_receiver.proofs.Calls.{start-live, start-working, start-hold, start_is}
use Rattle.std.proofs.Common.{refl}
use Rattle.rtr_receiver.specs.Promises.{record_limit}
use Rattle.rtr_receiver.proofs.start.Goals as goal

pub returns-then-live : goal.returns-then-live
returns-then-live c =
    let a = c.args in
    start-live record_limit refl a.version a.live.now a.working.now a.hold.now c.if-live.true

pub returns-then-working : goal.returns-then-working
returns-then-working c =
    let a = c.args in
    start-working record_limit refl a.version a.live.now a.working.now a.hold.now c.if-live.false c.if-working.true

pub returns-then-hold-lt8 : goal.returns-then-hold-lt8
returns-then-hold-lt8 c =
    let a = c.args in
    start-hold record_limit refl a.version a.live.now a.working.now a.hold.now c.if-live.false c.if-working.false c.if-hold-lt8.true

pub returns : goal.returns
returns c =
    let a = c.args in
    start_is record_limit refl a.version a.live.now a.working.now a.hold.now _ _ c.if-live.false c.if-working.false c.if-hold-lt8.false c.empty.ensures c.empty-2.ensures
