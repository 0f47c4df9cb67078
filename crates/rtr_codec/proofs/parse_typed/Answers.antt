-- `parse_typed` gives what `read_typed` says: the type by its table. Assumes nothing.
use Rattle.rtr_codec.specs.Read.{read_typed}
use Rattle.rtr_codec.proofs.Early.{refused_early}
use Rattle.rtr_codec.proofs.parse_typed.Goals as goal

pub returns-in_err-pdu_type : goal.returns-in_err-pdu_type
unfolding read_typed
returns-in_err-pdu_type c =
    let p = refused_early _ _ _ _ _ c.ok_or.ensures.value c.in_err-pdu_type.was c.from_residual.ensures.1 in
    simp (← c.be8-pdu_type_byte.ensures, ← c.from_u8.ensures, p.0, p.1)

pub returns : goal.returns
unfolding read_typed
returns c = simp (← c.be8-pdu_type_byte.ensures, ← c.from_u8.ensures, c.ok_or.ensures.ok_part, c.in_ok-pdu_type.was) c.parse_as.ensures
