-- `parse_serial_query` gives what `read_serial_query` says: the length is tested first, and the fields are the numbers at their places. Assumes nothing.
use borrow.Author.Tests.{eq-eqb, ne_eqb}
use Rattle.rtr_codec.specs.Read.{read_serial_query}
use Rattle.rtr_codec.proofs.parse_serial_query.Goals as goal

pub returns-then-actual-ne-RTR_SERIAL_QUERY_LEN : goal.returns-then-actual-ne-RTR_SERIAL_QUERY_LEN
unfolding read_serial_query
returns-then-actual-ne-RTR_SERIAL_QUERY_LEN c = simp (← c.requires.0, ne_eqb _ _ c.if-actual-ne-RTR_SERIAL_QUERY_LEN.true, c.invalid_length.ensures)

pub returns : goal.returns
unfolding read_serial_query
returns c = simp (← c.requires.0, eq-eqb _ _ c.if-actual-ne-RTR_SERIAL_QUERY_LEN.false, c.be16-session_id.ensures, c.be32-serial_number.ensures)
