-- `enter`: a shift with a store makes room and fills it. The look-up's answer decides the rest (`look_up_tells`). Assumes nothing.
use mathlib.Core.Path.{sym, ap, ◌∙◌}
use Rattle.rtr_base.proofs.Told.{ok_told}
use Rattle.rtr_room.specs.Room.{found}
use Rattle.rtr_room.proofs.Rooms.{put-at}
use Rattle.rtr_room.proofs.enter.Goals as goal

pub returns-else-count-room : goal.returns-else-count-room
returns-else-count-room c =
    let a = c.args in
    let missing = sym (ap found (ok_told c.look_up.result _ _ c.in_ok-look_up.was c.in-Missing.is)) ∙ c.look_up.ensures in
    put-at a.room.now a.count a.r c.in-Missing.at missing c.if-count-room.false _ _ c.shift_up.ensures c.put.ensures
