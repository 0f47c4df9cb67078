-- The numbers of an End of Data. Assumes nothing.
use Rattle.rtr_pdu_numbers.specs.Numbers.{pdu_numbers}
use Rattle.rtr_pdu_numbers.proofs.end_of_data_numbers.Goals as goal

pub returns : goal.returns
unfolding pdu_numbers
returns c = cc
