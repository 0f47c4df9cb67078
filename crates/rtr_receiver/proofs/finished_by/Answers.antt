-- `finished_by` counts the end of a load. Assumes nothing.
use Rattle.std.proofs.Common.{sym, ap}
use Rattle.rtr_receiver.specs.Private.{carried_out}
use Rattle.rtr_receiver.specs.declared.Doing.{Doing}
use Rattle.rtr_receiver.proofs.Pdus.{none-finished}
use Rattle.rtr_receiver.proofs.finished_by.Goals as goal

pub returns-in-Finishes : goal.returns-in-Finishes
returns-in-Finishes c = λ limit r. ap (λ (d : Doing). (carried_out limit d r).updates) (sym c.in-Finishes.is)

pub returns-in_default : goal.returns-in_default
returns-in_default c = none-finished c.args.doing c.in_default.not-Finishes
