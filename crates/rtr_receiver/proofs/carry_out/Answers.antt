-- `carry_out`: what is left of the session and the rooms stands for what the decision makes of the receiver. Assumes nothing.
use Rattle.rtr_receiver.specs.declared.Phase.{Phase}
use Rattle.rtr_receiver.proofs.Deeds.{as-decided, passed-stands, notify-stands, phase-stands, stops, begun-stands, takes-stands}
use Rattle.rtr_receiver.proofs.carry_out.Goals as goal

pub returns-then-announced : goal.returns-then-announced
returns-then-announced c =
    let a = c.args in
    let pre = c.requires in
    let live = a.live.now in
    let working = a.working.now in
    as-decided a.s.life.limit a.s live working pre a.doing _ c.in-Takes.is c.on_announcement.result live c.on_announcement.new.working (takes-stands a.s.life.limit a.s live working pre _ _ _ c.if-announced.true c.on_announcement.result live c.on_announcement.new.working c.on_announcement.ensures)

pub returns-in-Passes : goal.returns-in-Passes
returns-in-Passes c =
    let a = c.args in
    let pre = c.requires in
    let live = a.live.now in
    let working = a.working.now in
    as-decided a.s.life.limit a.s live working pre a.doing _ c.in-Passes.is a.s live working (passed-stands a.s.life.limit a.s live working pre)

pub returns-in-Notes : goal.returns-in-Notes
returns-in-Notes c =
    let a = c.args in
    let pre = c.requires in
    let live = a.live.now in
    let working = a.working.now in
    as-decided a.s.life.limit a.s live working pre a.doing _ c.in-Notes.is c.on_serial_notify.result live working (notify-stands a.s.life.limit a.s live working pre _ _ c.on_serial_notify.result c.on_serial_notify.ensures)

pub returns-in-Resets : goal.returns-in-Resets
returns-in-Resets c =
    let a = c.args in
    let pre = c.requires in
    let live = a.live.now in
    let working = a.working.now in
    as-decided a.s.life.limit a.s live working pre a.doing _ c.in-Resets.is c.in_phase.result live working (phase-stands a.s.life.limit a.s live working pre Phase.MustReset c.in_phase.result c.in_phase.ensures)

pub returns-in-Stops : goal.returns-in-Stops
returns-in-Stops c =
    let a = c.args in
    let pre = c.requires in
    let live = a.live.now in
    let working = a.working.now in
    as-decided a.s.life.limit a.s live working pre a.doing _ c.in-Stops.is c.stop_with.result live c.stop_with.new.working (stops a.s.life.limit a.s live working pre _ c.stop_with.result c.stop_with.new.working c.stop_with.ensures)

pub returns-in-Begins : goal.returns-in-Begins
returns-in-Begins c =
    let a = c.args in
    let pre = c.requires in
    let live = a.live.now in
    let working = a.working.now in
    as-decided a.s.life.limit a.s live working pre a.doing _ c.in-Begins.is c.loading.result live c.fill-in_working.new.working (begun-stands a.s.life.limit a.s live working pre _ _ c.fill-in_working.result c.fill-in_working.new.working c.fill-in_working.ensures c.loading.result c.loading.ensures)

pub returns-else-announced : goal.returns-else-announced
returns-else-announced c =
    let a = c.args in
    let pre = c.requires in
    let live = a.live.now in
    let working = a.working.now in
    as-decided a.s.life.limit a.s live working pre a.doing _ c.in-Takes.is c.on_withdrawal.result live c.on_withdrawal.new.working (takes-stands a.s.life.limit a.s live working pre _ _ _ c.if-announced.false c.on_withdrawal.result live c.on_withdrawal.new.working c.on_withdrawal.ensures)

pub returns-in-Finishes : goal.returns-in-Finishes
returns-in-Finishes c =
    let a = c.args in
    let pre = c.requires in
    let live = a.live.now in
    let working = a.working.now in
    as-decided a.s.life.limit a.s live working pre a.doing _ c.in-Finishes.is c.finish.result c.finish.new.live c.finish.new.working c.finish.ensures
