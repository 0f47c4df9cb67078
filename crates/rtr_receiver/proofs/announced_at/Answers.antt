-- `announced_at`: a PDU of 32 bytes at the most, of the version, that carries an announced record. Assumes nothing.
use Rattle.std.specs.Prelude.{Some}
use Rattle.std.proofs.Common.{◌-◌, Bool, eqb, length, drop, sym, ap, ◌∙◌, arith, length-drop, take_all}
use Rattle.rtr_models.specs.Codes.{version_number}
use Rattle.rtr_models.specs.declared.RtrProtocolVersion.{RtrProtocolVersion}
use Rattle.rtr_codec.specs.Reading.{in_use}
use Rattle.rtr_codec.specs.Read.{read}
use Rattle.rtr_codec.specs.Answers.{verdict}
use Rattle.rtr_receiver.proofs.Memory.{holds}
use Rattle.rtr_receiver.proofs.Gathering.{entry-announced}
use Rattle.rtr_receiver.proofs.announced_at.Goals as goal

pub returns-then-is_announced : goal.returns-then-is_announced
returns-then-is_announced c =
    let a = c.args in
    entry-announced a.version a.piece.now a.at c.in-Ok.pdu c.in-Ok.consumed c.in-Some.record c.requires
    (ap (read in_use) (sym (take_all (length a.piece.now - a.at) (drop a.at a.piece.now) (omega (arith, length-drop a.at a.piece.now)))) ∙ sym c.parse_rtr_pdu-answer.ensures ∙ ap verdict c.in-Ok.is)
    c.if-consumed-gt32.false
    (ap (λ (v : RtrProtocolVersion). eqb (version_number v) (version_number a.version)) (sym c.version-spoken.ensures) ∙ holds c.is_version.ensures c.if-not-is_version.false-raw)
    (sym c.carried_by-carried.ensures ∙ c.in-Some.is ∙ ap (λ (b : Bool). Some (b, c.in-Some.record)) c.if-is_announced.true)
