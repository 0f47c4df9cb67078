-- `at_cache_reset`: MustReset where a change was asked for, else a stop. Assumes nothing.
use Rattle.std.proofs.Common.{sym, ap}
use Rattle.rtr_receiver.specs.Private.{reset_in}
use Rattle.rtr_receiver.specs.Receiver.{no_update}
use Rattle.rtr_receiver.specs.Promises.{stage_of}
use Rattle.rtr_receiver.specs.declared.Phase.{Phase}
use Rattle.rtr_receiver.proofs.Deeds.{reset-out}
use Rattle.rtr_receiver.proofs.at_cache_reset.Goals as goal

pub returns-in-AskedChange : goal.returns-in-AskedChange
returns-in-AskedChange c = λ limit r. ap (λ (p : Phase). no_update (reset_in (stage_of p) r)) (sym c.in-AskedChange.is)

pub returns-in_default : goal.returns-in_default
returns-in_default c = λ limit r. ap no_update (sym (reset-out r c.args.phase c.in_default.not-AskedChange))
