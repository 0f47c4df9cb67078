-- `after_pdu`: the feed goes on unless the PDU stopped it. Assumes nothing.
use Rattle.std.proofs.Common.{sym, ap}
use Rattle.rtr_receiver.specs.Private.{goes_on_in}
use Rattle.rtr_receiver.proofs.Pdus.{goes_on, step_is}
use Rattle.rtr_receiver.proofs.after_pdu.Goals as goal

pub returns-in-Stopped : goal.returns-in-Stopped
returns-in-Stopped c =
    let a = c.args in
    step_is a.d a.next a.updates _ (ap goes_on_in (sym c.in-Stopped.is))

pub returns-in_default : goal.returns-in_default
returns-in_default c =
    let a = c.args in
    step_is a.d a.next a.updates _ (sym (goes_on a.d.session.phase c.in_default.not-Stopped))
