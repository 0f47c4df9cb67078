-- `is_above`: what the look_up says of a room tells whether the record comes behind. Assumes nothing.
use mathlib.Core.Path.{sym, ap, ◌∙◌}
use Rattle.rtr_room.specs.Room.{limit_of, found}
use Rattle.rtr_base.proofs.Told.{ok_told}
use Rattle.rtr_listed.proofs.Order.{above-missing, above_at, never-refused}
use Rattle.rtr_listed.proofs.is_above.Goals as goal

pub returns-in-Ok-Missing : goal.returns-in-Ok-Missing
returns-in-Ok-Missing c =
    let a = c.args in
    above-missing (limit_of a.room.now) a.count a.room.now a.r c.requires _ (sym (ap found (ok_told c.look_up.result _ _ c.in-Ok-Missing.is c.in-Ok-Missing.field-0-is)) ∙ c.look_up.ensures)

pub returns-in-Ok-At : goal.returns-in-Ok-At
returns-in-Ok-At c =
    let a = c.args in
    above_at (limit_of a.room.now) a.count a.room.now a.r c.requires _ (sym (ap found (ok_told c.look_up.result _ _ c.in-Ok-At.is c.in-Ok-At.field-0-is)) ∙ c.look_up.ensures)

pub returns-in-Err : goal.returns-in-Err
returns-in-Err c =
    let a = c.args in
    absurd (never-refused (limit_of a.room.now) a.count a.room.now a.r c.requires 22 (sym (ap found c.in-Err.is) ∙ c.look_up.ensures))
