-- `with_header` judges the hold's first 8 bytes: a length that is refused, a PDU of 8 bytes, or a header that waits for more. Assumes nothing.
use mathlib.Core.Path.{refl, sym, subst}
use Rattle.rtr_stream.specs.Private.{HeaderHere}
use Rattle.rtr_stream.specs.declared.Turn.{Turn}
use lib.ListN.{length, get_or, take}
use lib.Seq.{length-take-le}
use Rattle.rtr_codec.specs.Reading.{in_use}
use Rattle.rtr_stream.proofs.Judge.{waiting-waits}
use Rattle.rtr_stream.proofs.Turns.{refused-alike, fits-of, refusal-of, header_refused, header-whole, header-waits, judged}
use Rattle.rtr_stream.proofs.with_header.Goals as goal

pub slice_bounds-bytes_needed-end : goal.slice_bounds-bytes_needed-end
slice_bounds-bytes_needed-end c = sym (length-take-le 8 c.args.hold.now c.requires)

pub returns-then-length-eq8 : goal.returns-then-length-eq8
returns-then-length-eq8 c =
    let hold = c.args.hold.now in
    let n = c.bytes_needed-length.result in
    let t = c.read_hold.result in (
      judged hold 8 t.then t.held t.next _ _ c.read_hold.ensures.0
          (header-whole hold n c.requires c.bytes_needed-length.ensures
          (fits-of (length hold) n (get_or hold 1 0) c.test_length.result c.test_length.ensures c.in_default.is)
          c.if-length-eq8.true),
      c.read_hold.ensures.1,
    )

pub returns-in-Err : goal.returns-in-Err
returns-in-Err c =
    let hold = c.args.hold.now in
    let n = c.bytes_needed-length.result in
    let error = c.in-Err.error in
    subst (λ (t : Turn). HeaderHere hold c.args.next t) (sym c.over.ensures) (
      (λ piece at before go h.
          refused-alike hold piece (take 8 hold) before at _ go error _
          (header_refused hold n c.requires c.bytes_needed-length.ensures (get_or hold 1 0) _ refl
          (refusal-of (length hold) n (get_or hold 1 0) c.test_length.result error c.test_length.ensures c.in-Err.is))),
      refl,
    )

pub returns : goal.returns
returns c =
    let hold = c.args.hold.now in
    let n = c.bytes_needed-length.result in
    let i = fits-of (length hold) n (get_or hold 1 0) c.test_length.result c.test_length.ensures c.in_default.is in
    ((waiting-waits in_use (header-waits hold n c.requires c.bytes_needed-length.ensures i c.if-length-eq8.false), refl), refl)
