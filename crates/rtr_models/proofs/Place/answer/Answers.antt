-- `Place::answer` goes by the test. Assumes nothing.
use Rattle.rtr_models.proofs.Place.answer.Goals as goal

pub returns-then-is_inside : goal.returns-then-is_inside
returns-then-is_inside c = simp (← c.is_inside.ensures, c.if-is_inside.true)

pub returns : goal.returns
returns c = simp (← c.is_inside.ensures, c.if-is_inside.false)
