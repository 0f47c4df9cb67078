-- `notify` tests the shape, then looks for a table and a note, then at the session, and compares. Assumes nothing.
use Rattle.std.proofs.Common.{◌∙◌}
use Rattle.rtr_receiver.specs.Receiver.{Notified}
use Rattle.rtr_receiver.proofs.Calls.{notify-shapeless, notify-is, without-table, without-note, of-other-session, of-same-session}
use Rattle.rtr_receiver.proofs.Memory.{fails, holds}
use Rattle.rtr_receiver.proofs.notify.Goals as goal

pub returns-then-not-is_receiver : goal.returns-then-not-is_receiver
returns-then-not-is_receiver c =
    let a = c.args in
    notify-shapeless a.s.life.limit a.s a.live.now a.working.now a.hold.now (fails c.is_receiver.ensures c.if-not-is_receiver.true-raw)

pub returns-then-session-t : goal.returns-then-session-t
returns-then-session-t c =
    let a = c.args in
    notify-is a.s.life.limit a.s a.live.now a.working.now a.hold.now Notified.other_session (holds c.is_receiver.ensures c.if-not-is_receiver.false-raw)
    (of-other-session a.s.table a.s.note _ _ _ c.in-Some.is c.in-Some-note.is c.if-session-t.true)

pub returns-in-None : goal.returns-in-None
returns-in-None c =
    let a = c.args in
    notify-is a.s.life.limit a.s a.live.now a.working.now a.hold.now Notified.none (holds c.is_receiver.ensures c.if-not-is_receiver.false-raw) (without-table a.s.table a.s.note c.in-None.is)

pub returns-in-None-note : goal.returns-in-None-note
returns-in-None-note c =
    let a = c.args in
    notify-is a.s.life.limit a.s a.live.now a.working.now a.hold.now Notified.none (holds c.is_receiver.ensures c.if-not-is_receiver.false-raw) (without-note a.s.table a.s.note _ c.in-Some.is c.in-None-note.is)

pub returns-else-session-t : goal.returns-else-session-t
returns-else-session-t c =
    let a = c.args in
    c.compare.ensures
    ∙ notify-is a.s.life.limit a.s a.live.now a.working.now a.hold.now _ (holds c.is_receiver.ensures c.if-not-is_receiver.false-raw)
    (of-same-session a.s.table a.s.note _ _ _ c.in-Some.is c.in-Some-note.is c.if-session-t.false)
