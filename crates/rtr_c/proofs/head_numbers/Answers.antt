-- `head_numbers` writes the stop, the table's numbers and the count. Assumes nothing.
use Rattle.rtr_c.proofs.head_numbers.Goals as goal

pub returns : goal.returns
returns c = cc
