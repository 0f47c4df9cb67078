use mathlib.Core.Path.{sym, ap, ◌∙◌}
use Rattle.rtr_listed.specs.Private.{number_took}
use Rattle.rtr_listed.specs.declared.Cursor.{Cursor}
use Rattle.rtr_listed.proofs.took.Goals as goal

pub returns-in-Some : goal.returns-in-Some
returns-in-Some c =
    let a = c.args in
    ap (λ (x : Cursor). record { value = c.in-Some.value; next = x }) c.past.ensures
    ∙ sym (ap (number_took a.c a.end) c.in-Some.is)

pub returns-in-None : goal.returns-in-None
returns-in-None c =
    let a = c.args in
    ap (λ (x : Cursor). record { value = 0; next = x }) c.refused.ensures ∙ sym (ap (number_took a.c a.end) c.in-None.is)
