-- `is_there`: the count is within the numbers, so the look_up says whether the record stands there. Assumes nothing.
use Rattle.rtr_base.proofs.Told.{ok_told}
use Rattle.rtr_changes.proofs.Asking.{there-told}
use Rattle.rtr_changes.proofs.is_there.Goals as goal

pub returns-in-Ok-At : goal.returns-in-Ok-At
returns-in-Ok-At c = there-told c.args.room.now c.args.count c.args.r _ _ c.requires c.look_up.ensures (ok_told c.look_up.result _ _ c.in-Ok-At.is c.in-Ok-At.field-0-is)

pub returns-in-Ok-Missing : goal.returns-in-Ok-Missing
returns-in-Ok-Missing c = there-told c.args.room.now c.args.count c.args.r _ _ c.requires c.look_up.ensures (ok_told c.look_up.result _ _ c.in-Ok-Missing.is c.in-Ok-Missing.field-0-is)

pub returns-in-Err : goal.returns-in-Err
returns-in-Err c = there-told c.args.room.now c.args.count c.args.r _ _ c.requires c.look_up.ensures c.in-Err.is
