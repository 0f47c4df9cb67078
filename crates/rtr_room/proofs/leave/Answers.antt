-- `leave`: a shift with a store closes the gap and clears the last place. The look-up's answer decides the rest (`look_up_tells`). Assumes nothing.
use mathlib.Core.Path.{sym, ap, ◌∙◌}
use Rattle.rtr_base.proofs.Told.{ok_told}
use Rattle.rtr_room.specs.Room.{found}
use Rattle.rtr_room.proofs.Rooms.{left-from}
use Rattle.rtr_room.proofs.leave.Goals as goal

pub returns-in-At : goal.returns-in-At
returns-in-At c =
    let a = c.args in
    let stands = sym (ap found (ok_told c.look_up.result _ _ c.in_ok-look_up.was c.in-At.is)) ∙ c.look_up.ensures in
    left-from a.room.now a.count a.r c.in-At.at stands _ _ c.shift_down.ensures c.put.ensures
