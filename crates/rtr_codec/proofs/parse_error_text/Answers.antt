-- `parse_error_text` gives what `read_text` says: the text must end within the PDU, and be well formed. Assumes nothing.
use Prim.Native.Nat.{◌+◌}
use borrow.Author.Tests.{le-leb, lt-leb}
use Rattle.rtr_codec.specs.Read.{read_text}
use Rattle.rtr_codec.proofs.Text.{judged}
use Rattle.rtr_codec.proofs.parse_error_text.Goals as goal

pub returns-then-end-actual : goal.returns-then-end-actual
unfolding read_text
returns-then-end-actual c = simp (← c.requires.0, ← c.be32-error_text_len.ensures, lt-leb _ _ c.if-end-actual.true, c.invalid_length.ensures, c.capped_length.ensures)

pub returns-then-is_well_formed : goal.returns-then-is_well_formed
unfolding read_text
returns-then-is_well_formed c =
    let a = c.args in
    simp (← c.requires.0, ← c.be32-error_text_len.ensures, le-leb _ _ c.if-end-actual.false, judged a.input.now (16 + a.encap_pdu_len) c.be32-error_text_len.result _ _ c.is_well_formed.ensures c.if-is_well_formed.true)

pub returns : goal.returns
unfolding read_text
returns c =
    let a = c.args in
    simp (← c.requires.0, ← c.be32-error_text_len.ensures, le-leb _ _ c.if-end-actual.false, judged a.input.now (16 + a.encap_pdu_len) c.be32-error_text_len.result _ _ c.is_well_formed.ensures c.if-is_well_formed.false)
