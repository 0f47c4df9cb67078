-- `on_announcement`: what entering the working room comes to. Assumes nothing.
use Rattle.std.proofs.Common.{refl}
use Rattle.rtr_base.proofs.Told.{err_told}
use Rattle.rtr_room.specs.declared.EnterError.{EnterError}
use Rattle.rtr_receiver.specs.declared.Stop.{Stop}
use Rattle.rtr_receiver.proofs.Deeds.{changed-stands, refused-stands, enter-came, enters-a-room}
use Rattle.rtr_receiver.proofs.on_announcement.Goals as goal

pub returns-in-Ok : goal.returns-in-Ok
returns-in-Ok c =
    let a = c.args in
    let pre = c.requires in
    changed-stands a.s.life.limit a.s a.live.now a.working.now pre _ c.in-Ok.count c.enter.new.room
    (enter-came a.s.life.limit a.s a.live.now a.working.now pre a.r c.enter.result c.enter.new.room c.enter.ensures _ c.in-Ok.is)
    c.with_working.result c.with_working.ensures

pub returns-in-Err-AlreadyIn : goal.returns-in-Err-AlreadyIn
returns-in-Err-AlreadyIn c =
    let a = c.args in
    let pre = c.requires in
    refused-stands a.s.life.limit a.s a.live.now a.working.now pre _ 17 c.enter.new.room
    (enter-came a.s.life.limit a.s a.live.now a.working.now pre a.r c.enter.result c.enter.new.room c.enter.ensures _ (err_told c.enter.result _ EnterError.AlreadyIn c.in-Err-AlreadyIn.is c.in-Err-AlreadyIn.field-0-is))
    Stop.AlreadyIn refl c.stop_with.result c.stop_with.new.working c.stop_with.ensures

pub returns-in-Err-Full : goal.returns-in-Err-Full
returns-in-Err-Full c =
    let a = c.args in
    let pre = c.requires in
    refused-stands a.s.life.limit a.s a.live.now a.working.now pre _ 18 c.enter.new.room
    (enter-came a.s.life.limit a.s a.live.now a.working.now pre a.r c.enter.result c.enter.new.room c.enter.ensures _ (err_told c.enter.result c.in-Err-Full.field-0 EnterError.Full c.in-Err-Full.is c.in-Err-Full.field-0-is))
    Stop.RoomFull refl c.stop_with-in-Err-Full.result c.stop_with-in-Err-Full.new.working c.stop_with-in-Err-Full.ensures

pub returns-in-Err-NotARoom : goal.returns-in-Err-NotARoom
returns-in-Err-NotARoom c =
    let a = c.args in
    let pre = c.requires in
    absurd (enters-a-room a.s.life.limit a.s a.live.now a.working.now pre a.r c.enter.result c.enter.new.room c.enter.ensures (err_told c.enter.result _ _ c.in-Err-NotARoom.is c.in-Err-NotARoom.field-0-is))
