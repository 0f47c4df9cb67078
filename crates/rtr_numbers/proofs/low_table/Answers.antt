-- `low_table` takes each number by its remainder. Assumes nothing.
use Rattle.rtr_numbers.proofs.low_table.Goals as goal

pub returns : goal.returns
returns c = cc
