-- `change_under_way` goes by the phase. Assumes nothing.
use Rattle.rtr_receiver.proofs.Calls.{no_change}
use Rattle.std.proofs.Common.{sym}
use Rattle.rtr_receiver.proofs.change_under_way.Goals as goal

pub returns-in_default : goal.returns-in_default
returns-in_default c = sym (no_change c.args.phase c.in_default.not-AskedChange c.in_default.not-Loading)
