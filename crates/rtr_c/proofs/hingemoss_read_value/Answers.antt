-- `hingemoss_read_value` reads, and gives the refusal's value. Assumes nothing.
use mathlib.Core.Path.{sym, ap, ◌∙◌}
use Rattle.rtr_codec.specs.Answers.{verdict}
use Rattle.rtr_numbers.specs.Numbers.{value_of}
use Rattle.rtr_c.proofs.hingemoss_read_value.Goals as goal

pub returns-in-Ok : goal.returns-in-Ok
returns-in-Ok c = ap (value_of c.args.i) (sym (ap verdict c.in-Ok.is) ∙ c.parse_rtr_pdu.ensures)

pub returns-in-Err : goal.returns-in-Err
returns-in-Err c = c.error_value.ensures ∙ ap (value_of c.args.i) (sym (ap verdict c.in-Err.is) ∙ c.parse_rtr_pdu.ensures)
