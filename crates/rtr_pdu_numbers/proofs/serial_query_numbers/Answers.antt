-- The numbers of a Serial Query. Assumes nothing.
use Rattle.rtr_pdu_numbers.specs.Numbers.{pdu_numbers}
use Rattle.rtr_pdu_numbers.proofs.serial_query_numbers.Goals as goal

pub returns : goal.returns
unfolding pdu_numbers
returns c = cc
