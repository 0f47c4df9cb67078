-- `at_end_of_data`: the load's end, or a stop. Assumes nothing.
use Rattle.std.proofs.Common.{sym}
use Rattle.rtr_receiver.proofs.Deeds.{end_is, end-other, end-out}
use Rattle.rtr_receiver.proofs.at_end_of_data.Goals as goal

pub returns-then-p-session : goal.returns-then-p-session
returns-then-p-session c = λ limit r. sym (end_is c.args.p r c.args.phase _ _ c.in-Loading.is c.if-p-session.true)

pub returns-else-p-session : goal.returns-else-p-session
returns-else-p-session c = λ limit r. sym (end-other c.args.p r c.args.phase _ _ c.in-Loading.is c.if-p-session.false)

pub returns-in_default : goal.returns-in_default
returns-in_default c = λ limit r. sym (end-out c.args.p r c.args.phase c.in_default.not-Loading)
