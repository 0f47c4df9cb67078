-- `next_step`: a run of announcements where one may be, else one PDU. Assumes nothing.
use Rattle.std.proofs.Common.{sym, subst}
use Rattle.rtr_receiver.specs.Contents.{Rooms}
use Rattle.rtr_receiver.specs.Private.{feed_here, StepAsks, Stepped}
use Rattle.rtr_receiver.proofs.Memory.{holds}
use Rattle.rtr_receiver.proofs.Gathering.{own_room, run-steps, as_before}
use Rattle.rtr_receiver.proofs.next_step.Goals as goal

pub take_run-run-requires : goal.take_run-run-requires
take_run-run-requires c =
    let a = c.args in
    (own_room a.s.life.limit a.s a.live.now a.working.now a.hold.now a.piece.now a.at a.updates c.requires, c.requires.2)

pub returns-then-run-at : goal.returns-then-run-at
returns-then-run-at c =
    let a = c.args in
    let run = c.take_run-run in
    run-steps a.s.life.limit a.s a.live.now a.working.now a.hold.now a.piece.now a.at a.updates c.requires (holds c.may_gather.ensures c.if-not-may_gather.false-raw) run.result.count run.result.next _ run.ensures
    c.with_working.result c.with_working.ensures c.if-run-at.true

pub one_step-requires-2 : goal.one_step-requires-2
one_step-requires-2 c =
    let a = c.args in
    subst (λ (w : Rooms). StepAsks a.s.life.limit a.s a.live.now w a.hold.now a.piece.now a.at a.updates)
    (as_before a.s.life.limit a.s a.live.now a.working.now a.hold.now a.piece.now a.at a.updates c.requires (holds c.may_gather.ensures c.if-not-may_gather.false-raw)
    c.take_run-run.result.count c.take_run-run.result.next _ c.take_run-run.ensures c.if-run-at.false)
    c.requires

pub returns : goal.returns
returns c =
    let a = c.args in
    let step = c.one_step-2 in
    subst (λ (w : Rooms). Stepped a.s.life.limit (feed_here a.s.life.limit a.s a.live.now w a.hold.now a.piece.now a.at a.updates) a.piece.now a.at step.result step.new.live step.new.working step.new.hold)
    (sym
    (as_before a.s.life.limit a.s a.live.now a.working.now a.hold.now a.piece.now a.at a.updates c.requires (holds c.may_gather.ensures c.if-not-may_gather.false-raw)
    c.take_run-run.result.count c.take_run-run.result.next _ c.take_run-run.ensures c.if-run-at.false))
    step.ensures
