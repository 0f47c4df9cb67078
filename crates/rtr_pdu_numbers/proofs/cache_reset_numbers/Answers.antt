-- The numbers of a Cache Reset. Assumes nothing.
use Rattle.rtr_pdu_numbers.specs.Numbers.{pdu_numbers}
use Rattle.rtr_pdu_numbers.proofs.cache_reset_numbers.Goals as goal

pub returns : goal.returns
unfolding pdu_numbers
returns c = cc
