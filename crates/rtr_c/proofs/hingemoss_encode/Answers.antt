-- `hingemoss_encode` finds the PDU and encodes it. Assumes nothing.
use mathlib.Core.Path.{refl, ◌∙◌}
use Rattle.rtr_encode.specs.Answers.{writing}
use Rattle.rtr_c.proofs.Steps.{numbered, counted, encode-known, encode-unknown}
use Rattle.rtr_c.proofs.hingemoss_encode.Goals as goal

pub returns : goal.returns
returns c = encode-known c.args.pdu.now c.args.payload.now c.args.out.now _ c.pdu_of.result _ _ c.encode-answer.result _ _ c.pdu_of.ensures c.in-Some.is c.encode-answer.ensures (c.number.ensures ∙ numbered writing (λ n. refl) c.encode-answer.result) (c.amount.ensures ∙ counted writing (λ n. refl) c.encode-answer.result)

pub returns-in_default : goal.returns-in_default
returns-in_default c = encode-unknown c.args.pdu.now c.args.payload.now c.args.out.now c.pdu_of.result c.pdu_of.ensures c.in_default.is
