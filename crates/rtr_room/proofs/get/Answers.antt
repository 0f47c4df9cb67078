-- `get`: a room has six numbers for each record, so record i is there exactly where i is below the length over six. Assumes nothing.
use Rattle.std.specs.Prelude.{Some}
use mathlib.Core.Path.{sym, ap, ◌∙◌}
use native.Mathlib.Omega.{arith}
use Rattle.rtr_room.proofs.Laws.Rooms.{found_inside, found-outside}
use Rattle.rtr_room.proofs.get.Goals as goal

pub returns-then-i-room : goal.returns-then-i-room
returns-then-i-room c =
    let a = c.args in
    sym (found-outside a.room.now a.i (omega arith))

pub returns : goal.returns
returns c =
    let a = c.args in
    ap Some c.record_at.ensures ∙ sym (found_inside a.room.now a.i (omega arith))
