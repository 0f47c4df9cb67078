-- `parse_end_of_data_v1` gives what `read_end_of_data` says: the length is tested first, and the fields are the numbers at their places. Assumes nothing.
use borrow.Author.Tests.{eq-eqb, ne_eqb}
use Rattle.rtr_codec.specs.Read.{read_end_of_data}
use Rattle.rtr_codec.proofs.parse_end_of_data_v1.Goals as goal

pub returns-then-actual-ne-RTR_END_OF_DATA_V1_LEN : goal.returns-then-actual-ne-RTR_END_OF_DATA_V1_LEN
unfolding read_end_of_data
returns-then-actual-ne-RTR_END_OF_DATA_V1_LEN c = simp (← c.requires.0, ne_eqb _ _ c.if-actual-ne-RTR_END_OF_DATA_V1_LEN.true, c.invalid_length.ensures)

pub returns : goal.returns
unfolding read_end_of_data
returns c = simp (← c.requires.0, eq-eqb _ _ c.if-actual-ne-RTR_END_OF_DATA_V1_LEN.false, c.be16-session_id.ensures, c.be32-serial_number.ensures, c.be32-refresh.ensures, c.be32-retry.ensures, c.be32-expire.ensures)
