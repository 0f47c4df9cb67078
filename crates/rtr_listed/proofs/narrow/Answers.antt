use mathlib.Core.Path.{sym, ap, ◌∙◌}
use Rattle.rtr_listed.specs.Private.{narrowed}
use Rattle.rtr_listed.specs.declared.Cursor.{Cursor}
use Rattle.rtr_listed.proofs.narrow.Goals as goal

pub returns : goal.returns
returns c =
    let a = c.args in
    ap (λ (x : Cursor). record { value = a.read.value; next = x }) c.refused.ensures ∙ sym (ap (narrowed a.c a.read) c.if-ok.false)
