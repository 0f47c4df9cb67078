-- `parse_serial_notify` gives what `read_serial_notify` says: the length is tested first, and the fields are the numbers at their places. Assumes nothing.
use borrow.Author.Tests.{eq-eqb, ne_eqb}
use Rattle.rtr_codec.specs.Read.{read_serial_notify}
use Rattle.rtr_codec.proofs.parse_serial_notify.Goals as goal

pub returns-then-actual-ne-RTR_SERIAL_NOTIFY_LEN : goal.returns-then-actual-ne-RTR_SERIAL_NOTIFY_LEN
unfolding read_serial_notify
returns-then-actual-ne-RTR_SERIAL_NOTIFY_LEN c = simp (← c.requires.0, ne_eqb _ _ c.if-actual-ne-RTR_SERIAL_NOTIFY_LEN.true, c.invalid_length.ensures)

pub returns : goal.returns
unfolding read_serial_notify
returns c = simp (← c.requires.0, eq-eqb _ _ c.if-actual-ne-RTR_SERIAL_NOTIFY_LEN.false, c.be16-session_id.ensures, c.be32-serial_number.ensures)
