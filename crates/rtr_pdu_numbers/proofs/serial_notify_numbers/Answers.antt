-- The numbers of a Serial Notify. Assumes nothing.
use Rattle.rtr_pdu_numbers.specs.Numbers.{pdu_numbers}
use Rattle.rtr_pdu_numbers.proofs.serial_notify_numbers.Goals as goal

pub returns : goal.returns
unfolding pdu_numbers
returns c = cc
