-- `encode_error_report` tests both places and then the text, and hands the parts on. Assumes nothing.
use Rattle.std.proofs.lemmas.Result.{err_from_is_err_and}
use mathlib.Core.Path.{◌∙◌, ap, sym}
use Rattle.rtr_text.specs.Utf8.{well_formed}
use Rattle.rtr_models.specs.Parts.{inside}
use Rattle.rtr_models.specs.declared.RtrPdu.TheVariants.{ErrorReport}
use Rattle.rtr_codec.specs.Reading.{in_use}
use Rattle.rtr_encode.proofs.Payloads.{part-is-true, refused-is-false}
use Rattle.rtr_encode.proofs.Checks.{place-outside, text-refused, part_at, report-encodes}
use Rattle.rtr_encode.proofs.encode_error_report.Goals as goal

pub returns-in_err-erroneous_pdu_answer : goal.returns-in_err-erroneous_pdu_answer
returns-in_err-erroneous_pdu_answer c =
    let a = c.args in
    let e = err_from_is_err_and c.from_residual.result c.from_residual.ensures.1 in
    rw (e.1, e.2) (place-outside in_use (ErrorReport a.pdu) a.input.now a.out.now (simp (refused-is-false (inside a.pdu.erroneous_pdu a.input.now) _ c.erroneous_pdu_answer.ensures c.in_err-erroneous_pdu_answer.was)))

pub returns-in_err-error_text_answer : goal.returns-in_err-error_text_answer
returns-in_err-error_text_answer c =
    let a = c.args in
    let e = err_from_is_err_and c.from_residual-in_err-error_text_answer.result c.from_residual-in_err-error_text_answer.ensures.1 in
    rw (e.1, e.2)
    (place-outside in_use (ErrorReport a.pdu) a.input.now a.out.now
    (simp ((part-is-true (inside a.pdu.erroneous_pdu a.input.now) _ c.erroneous_pdu_answer.ensures c.in_ok-erroneous_pdu_answer.was), (refused-is-false (inside a.pdu.error_text a.input.now) _ c.error_text_answer.ensures c.in_err-error_text_answer.was))))

pub returns-then-not-is_well_formed : goal.returns-then-not-is_well_formed
returns-then-not-is_well_formed c =
    let a = c.args in
    let i = part-is-true (inside a.pdu.erroneous_pdu a.input.now) _ c.erroneous_pdu_answer.ensures c.in_ok-erroneous_pdu_answer.was in
    let j = part-is-true (inside a.pdu.error_text a.input.now) _ c.error_text_answer.ensures c.in_ok-error_text_answer.was in
    let text = part_at _ a.pdu.error_text a.input.now _ c.error_text_part-text.ensures.0 j in
    text-refused in_use (ErrorReport a.pdu) a.input.now a.out.now (simp (i, j))
    (ap well_formed (sym text) ∙ sym c.is_well_formed.ensures ∙ c.if-not-is_well_formed.true)

pub returns : goal.returns
returns c =
    let a = c.args in
    let i = part-is-true (inside a.pdu.erroneous_pdu a.input.now) _ c.erroneous_pdu_answer.ensures c.in_ok-erroneous_pdu_answer.was in
    let j = part-is-true (inside a.pdu.error_text a.input.now) _ c.error_text_answer.ensures c.in_ok-error_text_answer.was in
    c.encode_report_parts.ensures
    ∙ report-encodes a.pdu a.input.now a.out.now _ _ _ i j (sym c.is_well_formed.ensures ∙ c.if-not-is_well_formed.false)
    c.to_u16.ensures (part_at _ a.pdu.erroneous_pdu a.input.now _ c.erroneous_pdu_part.ensures.0 i) (part_at _ a.pdu.error_text a.input.now _ c.error_text_part-text.ensures.0 j)
