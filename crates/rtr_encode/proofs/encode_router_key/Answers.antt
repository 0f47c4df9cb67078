-- `encode_router_key` tests both places, and hands the parts on. Assumes nothing.
use Rattle.std.proofs.lemmas.Result.{err_from_is_err_and}
use mathlib.Core.Path.{◌∙◌}
use Rattle.rtr_models.specs.Parts.{inside, key_inside}
use Rattle.rtr_models.specs.declared.RtrPdu.TheVariants.{RouterKey}
use Rattle.rtr_codec.specs.Reading.{in_use}
use Rattle.rtr_encode.proofs.Payloads.{part-is-true, refused-is-false}
use Rattle.rtr_encode.proofs.Checks.{place-outside, part_at, key-encodes, key-inside-20}
use Rattle.rtr_encode.proofs.encode_router_key.Goals as goal

pub returns-in_err-subject_key_identifier_answer : goal.returns-in_err-subject_key_identifier_answer
returns-in_err-subject_key_identifier_answer c =
    let a = c.args in
    let e = err_from_is_err_and c.from_residual.result c.from_residual.ensures.1 in
    rw (e.1, e.2) (place-outside in_use (RouterKey a.pdu) a.input.now a.out.now (simp (refused-is-false (key_inside a.pdu.subject_key_identifier a.input.now) _ c.subject_key_identifier_answer.ensures c.in_err-subject_key_identifier_answer.was)))

pub returns-in_err-subject_public_key_info_answer : goal.returns-in_err-subject_public_key_info_answer
returns-in_err-subject_public_key_info_answer c =
    let a = c.args in
    let e = err_from_is_err_and c.from_residual-in_err-subject_public_key_info_answer.result c.from_residual-in_err-subject_public_key_info_answer.ensures.1 in
    rw (e.1, e.2)
    (place-outside in_use (RouterKey a.pdu) a.input.now a.out.now
    (simp ((part-is-true (key_inside a.pdu.subject_key_identifier a.input.now) _ c.subject_key_identifier_answer.ensures c.in_ok-subject_key_identifier_answer.was), (refused-is-false (inside a.pdu.subject_public_key_info a.input.now) _ c.subject_public_key_info_answer.ensures c.in_err-subject_public_key_info_answer.was))))

pub encode_key_parts-requires : goal.encode_key_parts-requires
encode_key_parts-requires c =
    let a = c.args in
    key-inside-20 a.pdu.subject_key_identifier a.input.now _ c.subject_key_identifier_part.ensures.0 (part-is-true (key_inside a.pdu.subject_key_identifier a.input.now) _ c.subject_key_identifier_answer.ensures c.in_ok-subject_key_identifier_answer.was)

pub returns : goal.returns
returns c =
    let a = c.args in
    let k = part-is-true (key_inside a.pdu.subject_key_identifier a.input.now) _ c.subject_key_identifier_answer.ensures c.in_ok-subject_key_identifier_answer.was in
    let i = part-is-true (inside a.pdu.subject_public_key_info a.input.now) _ c.subject_public_key_info_answer.ensures c.in_ok-subject_public_key_info_answer.was in
    c.encode_key_parts.ensures
    ∙ key-encodes a.pdu a.input.now a.out.now _ _ k i (part_at _ a.pdu.subject_key_identifier a.input.now _ c.subject_key_identifier_part.ensures.0 k) (part_at _ a.pdu.subject_public_key_info a.input.now _ c.subject_public_key_info_part.ensures.0 i)
