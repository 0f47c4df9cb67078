-- `parse_error_pdu` gives what `read_encapsulated` says: the copy must end within the PDU. Assumes nothing.
use borrow.Author.Tests.{le-leb, lt-leb}
use Rattle.rtr_codec.specs.Read.{read_encapsulated}
use Rattle.rtr_codec.proofs.parse_error_pdu.Goals as goal

pub returns-then-end-actual : goal.returns-then-end-actual
unfolding read_encapsulated
returns-then-end-actual c = simp (← c.requires.0, ← c.be32-encap_pdu_len.ensures, lt-leb _ _ c.if-end-actual.true, c.invalid_length.ensures, c.capped_length.ensures)

pub returns : goal.returns
unfolding read_encapsulated
returns c = simp (← c.requires.0, ← c.be32-encap_pdu_len.ensures, le-leb _ _ c.if-end-actual.false) c.parse_error_text.ensures
