-- `asked` goes by the answer of the encoder. Assumes nothing.
use Rattle.rtr_receiver.proofs.Calls.{asked-written, asked-refused}
use Rattle.rtr_receiver.proofs.asked.Goals as goal

pub returns-in-Ok : goal.returns-in-Ok
returns-in-Ok c =
    let a = c.args in
    asked-written a.s c.in_phase.result a.answer a.phase _ c.in-Ok.is c.in_phase.ensures

pub returns-in-Err : goal.returns-in-Err
returns-in-Err c =
    let a = c.args in
    asked-refused a.s a.answer a.phase _ c.in-Err.is
