-- `loose_report` takes number after number. Assumes nothing.
use mathlib.Core.Path.{ap, ◌∙◌}
use Rattle.rtr_numbers.specs.Back.{loose_code}
use Rattle.rtr_models.specs.declared.RtrPdu.TheVariants.{ErrorReport}
use Rattle.rtr_pdu_numbers.proofs.loose_report.Goals as goal

pub returns : goal.returns
returns c =
    let error-code = c.loose_code.ensures ∙ ap loose_code c.at.ensures in
    let erroneous-pdu = c.loose_place.ensures in
    let error-text = c.loose_place-2.ensures in
    λ i. ErrorReport (record { version = c.args.version; error_code = error-code i; erroneous_pdu = erroneous-pdu i; error_text = error-text i })
