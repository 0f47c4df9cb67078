-- `change_ask` tests the shape, then the phase, then looks for a table. Assumes nothing.
use Rattle.std.specs.Prelude.{Option}
use Rattle.std.proofs.Common.{ap, ◌∙◌}
use Rattle.rtr_receiver.specs.Receiver.{Receiver, serial_query, change_query}
use Rattle.rtr_receiver.specs.Promises.{stage_of, receiver_of, change_ask_says}
use Rattle.rtr_receiver.specs.declared.Phase.{Phase}
use Rattle.rtr_receiver.proofs.Calls.{change-else, ask-shapeless, ask-in-wrong-phase, ask-without-table, ask-written}
use Rattle.rtr_receiver.proofs.Memory.{fails, holds}
use Rattle.rtr_receiver.proofs.change_ask.Goals as goal
use Rattle.rtr_receiver.specs.declared.Table.{Table}

pub returns-then-not-is_receiver : goal.returns-then-not-is_receiver
unfolding change_ask_says
returns-then-not-is_receiver c =
    let a = c.args in
    ask-shapeless a.s.life.limit a.s a.live.now a.working.now a.hold.now (λ (r : Receiver). change_query r.stage r) a.out.now c.ask_refused.result c.ask_refused.ensures (fails c.is_receiver.ensures c.if-not-is_receiver.true-raw)

pub returns-in-None : goal.returns-in-None
unfolding change_ask_says
returns-in-None c =
    let a = c.args in
    ask-without-table a.s.life.limit a.s a.live.now a.working.now a.hold.now (λ (r : Receiver). change_query r.stage r) a.out.now c.ask_refused-in-None.result c.ask_refused-in-None.ensures (holds c.is_receiver.ensures c.if-not-is_receiver.false-raw)
    (ap (λ (p : Phase). change_query (stage_of p) (receiver_of a.s a.live.now a.working.now a.hold.now)) c.in-Idle.is ∙ ap (λ (t : Option Table). serial_query t (receiver_of a.s a.live.now a.working.now a.hold.now)) c.in-None.is)

pub returns-in-Some : goal.returns-in-Some
unfolding change_ask_says
returns-in-Some c =
    let a = c.args in
    ask-written a.s.life.limit a.s a.live.now a.working.now a.hold.now (λ (r : Receiver). change_query r.stage r) a.out.now c.asked.result c.encode_serial_query-answer.result Phase.AskedChange _ _ c.asked.ensures (holds c.is_receiver.ensures c.if-not-is_receiver.false-raw)
    (ap (λ (p : Phase). change_query (stage_of p) (receiver_of a.s a.live.now a.working.now a.hold.now)) c.in-Idle.is ∙ ap (λ (t : Option Table). serial_query t (receiver_of a.s a.live.now a.working.now a.hold.now)) c.in-Some.is)
    c.encode_serial_query-answer.ensures

pub returns-in_default : goal.returns-in_default
unfolding change_ask_says
returns-in_default c =
    let a = c.args in
    ask-in-wrong-phase a.s.life.limit a.s a.live.now a.working.now a.hold.now (λ (r : Receiver). change_query r.stage r) a.out.now c.ask_refused-in_default.result c.ask_refused-in_default.ensures (holds c.is_receiver.ensures c.if-not-is_receiver.false-raw)
    (change-else a.s.phase (receiver_of a.s a.live.now a.working.now a.hold.now) c.in_default.not-Idle)
