-- The numbers of a Cache Response. Assumes nothing.
use Rattle.rtr_pdu_numbers.specs.Numbers.{pdu_numbers}
use Rattle.rtr_pdu_numbers.proofs.cache_response_numbers.Goals as goal

pub returns : goal.returns
unfolding pdu_numbers
returns c = cc
