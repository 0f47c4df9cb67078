-- `hingemoss_walk` walks, and goes by the answer. Assumes nothing.
use Rattle.rtr_c.proofs.Steps.{walk-walked, walk_refused}
use Rattle.rtr_c.proofs.hingemoss_walk.Goals as goal

pub returns-in-Ok : goal.returns-in-Ok
returns-in-Ok c = walk-walked c.args.bytes.now c.walk.result c.walk.ensures _ _ _ _ c.in-Ok.is c.end_number.ensures c.end_value.ensures

pub returns-in-Err : goal.returns-in-Err
returns-in-Err c = walk_refused c.args.bytes.now c.walk.result c.walk.ensures _ _ c.in-Err.is c.number.ensures
