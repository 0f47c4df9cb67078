-- `read_hold` reads the hold's first bytes; a PDU lies there, a refusal is the read's. Assumes nothing.
use mathlib.Core.Path.{refl, sym, subst}
use Rattle.rtr_stream.specs.Private.{ReadHere}
use Rattle.rtr_stream.specs.declared.Turn.{Turn}
use native.Mathlib.Omega.{arith}
use lib.Seq.{length-take-le}
use Rattle.rtr_stream.specs.declared.StreamError.{StreamError}
use Rattle.rtr_stream.proofs.Turns.{refused-alike, found-in-hold, heard-read, heard-refused}
use Rattle.rtr_stream.proofs.read_hold.Goals as goal

pub slice_bounds-parse_rtr_pdu-end : goal.slice_bounds-parse_rtr_pdu-end
slice_bounds-parse_rtr_pdu-end c = sym (length-take-le _ _ (omega arith))

pub returns-in-Ok : goal.returns-in-Ok
returns-in-Ok c =
    let a = c.args in
    subst (λ (t : Turn). ReadHere a.hold.now a.whole a.next t) (sym c.over.ensures) (
      (λ piece at before go h.
          found-in-hold a.hold.now piece a.whole before at a.next go _ _ (omega arith) h
          (heard-read _ _ _ _ c.parse_rtr_pdu.ensures c.in-Ok.is)),
      refl,
    )

pub returns-in-Err : goal.returns-in-Err
returns-in-Err c =
    let a = c.args in
    subst (λ (t : Turn). ReadHere a.hold.now a.whole a.next t) (sym c.over-in-Err.ensures) (
      (λ piece at before go h.
          refused-alike a.hold.now piece _ before at a.next go (StreamError.Read c.in-Err.error) _
          (heard-refused _ _ _ c.parse_rtr_pdu.ensures c.in-Err.is)),
      refl,
    )
