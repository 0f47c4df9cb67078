-- `on_withdrawal`: what leaving the working room comes to. Assumes nothing.
use Rattle.std.proofs.Common.{refl}
use Rattle.rtr_base.proofs.Told.{err_told}
use Rattle.rtr_receiver.specs.declared.Stop.{Stop}
use Rattle.rtr_receiver.proofs.Deeds.{changed-stands, refused-stands, leave-came, leaves-a-room}
use Rattle.rtr_receiver.proofs.on_withdrawal.Goals as goal

pub returns-in-Ok : goal.returns-in-Ok
returns-in-Ok c =
    let a = c.args in
    let pre = c.requires in
    changed-stands a.s.life.limit a.s a.live.now a.working.now pre _ c.in-Ok.count c.leave.new.room
    (leave-came a.s.life.limit a.s a.live.now a.working.now pre a.r c.leave.result c.leave.new.room c.leave.ensures _ c.in-Ok.is)
    c.with_working.result c.with_working.ensures

pub returns-in-Err-NotIn : goal.returns-in-Err-NotIn
returns-in-Err-NotIn c =
    let a = c.args in
    let pre = c.requires in
    refused-stands a.s.life.limit a.s a.live.now a.working.now pre _ 16 c.leave.new.room
    (leave-came a.s.life.limit a.s a.live.now a.working.now pre a.r c.leave.result c.leave.new.room c.leave.ensures _ (err_told c.leave.result _ _ c.in-Err-NotIn.is c.in-Err-NotIn.field-0-is))
    Stop.NotIn refl c.stop_with.result c.stop_with.new.working c.stop_with.ensures

pub returns-in-Err-NotARoom : goal.returns-in-Err-NotARoom
returns-in-Err-NotARoom c =
    let a = c.args in
    let pre = c.requires in
    absurd (leaves-a-room a.s.life.limit a.s a.live.now a.working.now pre a.r c.leave.result c.leave.new.room c.leave.ensures (err_told c.leave.result _ _ c.in-Err-NotARoom.is c.in-Err-NotARoom.field-0-is))
