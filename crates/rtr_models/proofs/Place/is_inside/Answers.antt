-- `Place::is_inside` tests start + len ≤ n without the sum. Assumes nothing.
use Rattle.rtr_models.proofs.Places.{fits-is, starts-behind}
use Rattle.rtr_models.proofs.Place.is_inside.Goals as goal

pub returns-then-start-input : goal.returns-then-start-input
returns-then-start-input c = fits-is _ _ _ c.if-start-input.true

pub returns : goal.returns
returns c = starts-behind _ _ _ c.if-start-input.false
