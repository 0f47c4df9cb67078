-- `full_ask` tests the shape, then goes by the phase. Assumes nothing.
use Rattle.rtr_receiver.specs.Receiver.{Receiver, full_query}
use Rattle.rtr_receiver.specs.Promises.{receiver_of, full_ask_says}
use Rattle.rtr_receiver.specs.declared.Phase.{Phase}
use Rattle.rtr_receiver.proofs.Calls.{full-else, full-either, ask-shapeless, ask-in-wrong-phase, ask-written}
use Rattle.rtr_receiver.proofs.Memory.{fails, holds}
use Rattle.rtr_receiver.proofs.full_ask.Goals as goal

pub returns-then-not-is_receiver : goal.returns-then-not-is_receiver
unfolding full_ask_says
returns-then-not-is_receiver c =
    let a = c.args in
    ask-shapeless a.s.life.limit a.s a.live.now a.working.now a.hold.now (λ (r : Receiver). full_query r.stage r) a.out.now c.ask_refused.result c.ask_refused.ensures (fails c.is_receiver.ensures c.if-not-is_receiver.true-raw)

pub returns-in-Idle : goal.returns-in-Idle
unfolding full_ask_says
returns-in-Idle c =
    let a = c.args in
    ask-written a.s.life.limit a.s a.live.now a.working.now a.hold.now (λ (r : Receiver). full_query r.stage r) a.out.now c.asked.result c.encode_reset_query-answer.result Phase.AskedFull _ _ c.asked.ensures (holds c.is_receiver.ensures c.if-not-is_receiver.false-raw)
    (full-either a.s.phase (receiver_of a.s a.live.now a.working.now a.hold.now) c.in-Idle.is) c.encode_reset_query-answer.ensures

pub returns-in_default : goal.returns-in_default
unfolding full_ask_says
returns-in_default c =
    let a = c.args in
    ask-in-wrong-phase a.s.life.limit a.s a.live.now a.working.now a.hold.now (λ (r : Receiver). full_query r.stage r) a.out.now c.ask_refused-in_default.result c.ask_refused-in_default.ensures (holds c.is_receiver.ensures c.if-not-is_receiver.false-raw)
    (full-else a.s.phase (receiver_of a.s a.live.now a.working.now a.hold.now) c.in_default.not-Idle c.in_default.not-MustReset)
