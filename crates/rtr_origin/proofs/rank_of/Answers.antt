-- `rank_of`: on the room of a table a look_up finds the rank, whether the record is in or not. Assumes nothing.
use Rattle.rtr_base.proofs.Told.{ok_told}
use Rattle.rtr_origin.proofs.Tabled.{ranked-at, ranked-missing, ranked-never}
use Rattle.rtr_origin.proofs.rank_of.Goals as goal

pub returns-in-Ok-At : goal.returns-in-Ok-At
returns-in-Ok-At c =
    let a = c.args in
    ranked-at a.live.now a.count c.requires a.r _ _ (ok_told c.look_up.result _ _ c.in-Ok-At.is c.in-Ok-At.field-0-is) c.look_up.ensures

pub returns-in-Ok-Missing : goal.returns-in-Ok-Missing
returns-in-Ok-Missing c =
    let a = c.args in
    ranked-missing a.live.now a.count c.requires a.r _ _ (ok_told c.look_up.result _ _ c.in-Ok-Missing.is c.in-Ok-Missing.field-0-is) c.look_up.ensures

pub returns-in-Err : goal.returns-in-Err
returns-in-Err c =
    let a = c.args in
    absurd (ranked-never a.live.now a.count c.requires a.r _ c.in-Err.is c.look_up.ensures)
