-- `stream_numbers` goes by the refusal. Assumes nothing.
use Rattle.rtr_numbers.proofs.stream_numbers.Goals as goal

pub returns-in-Read : goal.returns-in-Read
returns-in-Read c = rw c.in-Read.is (cc)

pub returns-in-OverHold : goal.returns-in-OverHold
returns-in-OverHold c = rw c.in-OverHold.is (cc)
