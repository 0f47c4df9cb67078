-- `place_of`: what was looked at once is low enough for the route, so the engine gives its state. Assumes nothing.
use mathlib.Core.Path.{ap, ◌∙◌}
use Rattle.rtr_origin.specs.Survey.{bounds_for}
use Rattle.rtr_origin.specs.declared.peer.Families.{Families}
use Rattle.rtr_origin.proofs.Surveys.{survey-is-low}
use Rattle.rtr_origin.proofs.peer.place_of.Goals as goal

pub by_order-requires : goal.by_order-requires
by_order-requires c =
    let q = c.in-Some.q in
    (c.requires.0, survey-is-low c.args.live.now c.args.count c.requires.0 q _ (c.bounds_for-b.ensures ∙ ap (λ (v : Families). bounds_for v q.prefix) c.requires.1))
