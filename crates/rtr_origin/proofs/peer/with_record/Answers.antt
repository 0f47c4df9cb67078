-- `with_record`: a record of the family lowers what is higher than its length. Assumes nothing.
use mathlib.Core.Path.{ap, sym, ◌∙◌}
use Rattle.rtr_origin.specs.Survey.{lower_of}
use Rattle.rtr_origin.proofs.Surveys.{of-another-family, of-a-plain-one, of-a-loose-one}
use Rattle.rtr_origin.proofs.peer.with_record.Goals as goal

pub returns-then-family : goal.returns-then-family
returns-then-family c = of-another-family _ _ _ (λ e. c.if-family.true (c.family.ensures ∙ e))

pub returns-then-is_plain : goal.returns-then-is_plain
returns-then-is_plain c = of-a-plain-one _ _ _ (sym c.family.ensures ∙ c.if-family.false) _ (sym c.is_plain.ensures ∙ c.if-is_plain.true) (c.lower.ensures ∙ ap (lower_of _) c.prefix_length-length.ensures)

pub returns : goal.returns
returns c = of-a-loose-one _ _ _ (sym c.family.ensures ∙ c.if-family.false) _ (sym c.is_plain.ensures ∙ c.if-is_plain.false) (c.lower-2.ensures ∙ ap (lower_of _) c.prefix_length-length.ensures)
