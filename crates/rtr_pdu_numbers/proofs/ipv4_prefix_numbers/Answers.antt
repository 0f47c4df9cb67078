-- The numbers of an IPv4 Prefix. Assumes nothing.
use Rattle.rtr_pdu_numbers.specs.Numbers.{pdu_numbers}
use Rattle.rtr_pdu_numbers.proofs.ipv4_prefix_numbers.Goals as goal

pub returns : goal.returns
unfolding pdu_numbers
returns c = cc
