-- The numbers of an Error Report. Assumes nothing.
use Rattle.rtr_pdu_numbers.specs.Numbers.{pdu_numbers}
use Rattle.rtr_pdu_numbers.proofs.error_report_numbers.Goals as goal

pub returns : goal.returns
unfolding pdu_numbers
returns c = cc
