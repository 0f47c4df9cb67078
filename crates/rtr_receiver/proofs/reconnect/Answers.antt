-- `reconnect` tests the shape and empties the working room. Assumes nothing.
use Rattle.rtr_receiver.proofs.Calls.{reconnect-shapeless, reconnect-is}
use Rattle.rtr_receiver.proofs.Memory.{fails, holds}
use Rattle.rtr_receiver.proofs.reconnect.Goals as goal

pub returns-then-not-is_receiver : goal.returns-then-not-is_receiver
returns-then-not-is_receiver c =
    let a = c.args in
    reconnect-shapeless a.s.life.limit a.s a.live.now a.working.now a.hold.now (fails c.is_receiver.ensures c.if-not-is_receiver.true-raw)

pub returns : goal.returns
returns c =
    let a = c.args in
    reconnect-is a.s.life.limit a.s a.live.now a.working.now a.hold.now _ (holds c.is_receiver.ensures c.if-not-is_receiver.false-raw) c.empty.ensures
