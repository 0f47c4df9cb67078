-- The lines are those of the record that is found, or none. Assumes nothing.
use mathlib.Core.Path.{sym, ◌∙◌}
use Rattle.rtr_table.proofs.Prints.{shows-found, shows_nothing}
use Rattle.rtr_table.proofs.text_at.Goals as goal

pub returns-in-Some : goal.returns-in-Some
returns-in-Some c =
    let call = c.record_text in
    let get = c.get-found in
    shows-found _ _ call.result _ (sym c.in-Some.is ∙ get.ensures) call.ensures

pub returns-in-None : goal.returns-in-None
returns-in-None c = shows-found _ _ 0 _ (sym c.in-None.is ∙ c.get-found.ensures) (shows_nothing _)
