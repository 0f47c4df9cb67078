-- `in_load` goes by the phase. Assumes nothing.
use Rattle.std.proofs.Common.{Bool, cond, sym, ap}
use Rattle.rtr_receiver.specs.declared.Doing.{Doing}
use Rattle.rtr_receiver.specs.declared.Stop.{Stop}
use Rattle.rtr_receiver.proofs.Turns.{not-loading}
use Rattle.rtr_receiver.proofs.in_load.Goals as goal

pub returns-in_default : goal.returns-in_default
returns-in_default c =
    let a = c.args in
    ap (λ (b : Bool). cond b a.doing (Doing.Stops Stop.OutOfTurn)) (sym (not-loading a.phase c.in_default.not-Loading))
