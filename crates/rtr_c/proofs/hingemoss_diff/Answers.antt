-- `hingemoss_diff`: the call's answer is that of `diff`. Assumes nothing.
use mathlib.Core.Path.{refl, ◌∙◌}
use Rattle.rtr_listing.specs.Promises.{list_said}
use Rattle.rtr_c.proofs.Steps.{numbered, counted}
use Rattle.rtr_c.proofs.DiffAnswers.{diff-said}
use Rattle.rtr_c.proofs.hingemoss_diff.Goals as goal

pub returns : goal.returns
returns c =
    let a = c.args in
    let said = c.diff-answer in
    diff-said a.old_text.now a.new_text.now a.old_room.now a.new_room.now a.out.now _ _ _ said.result _ _ said.ensures (c.number.ensures ∙ numbered list_said (λ n. refl) said.result) (c.amount.ensures ∙ counted list_said (λ n. refl) said.result)
