-- `loose_interval` goes by the version. Assumes nothing.
use Rattle.rtr_pdu_numbers.proofs.loose_interval.Goals as goal

pub returns-in-V1 : goal.returns-in-V1
returns-in-V1 c = rw c.in-V1.is (cc)
