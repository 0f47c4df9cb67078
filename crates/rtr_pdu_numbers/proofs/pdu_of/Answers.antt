-- `pdu_of` guesses, writes the guess again and compares. Assumes nothing.
use mathlib.Core.Path.{ap, ◌∙◌}
use Rattle.rtr_models.specs.declared.RtrPdu.{RtrPdu}
use Rattle.rtr_pdu_numbers.specs.Back.{pdu_if}
use Rattle.rtr_pdu_numbers.proofs.Founds.{pdu-by-test}
use Rattle.rtr_pdu_numbers.proofs.pdu_of.Goals as goal

pub returns : goal.returns
returns c =
    pdu-by-test c.loose_pdu-pdu.result _ c.pdu_numbers-said.result c.args.numbers.now c.is_alike.result c.then_some.result c.at-consumed.ensures c.pdu_numbers-said.ensures c.is_alike.ensures c.then_some.ensures
    ∙ ap (λ (p : RtrPdu). pdu_if p c.args.numbers.now) c.loose_pdu-pdu.ensures
