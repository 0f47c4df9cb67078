-- `Place::key_answer` tests the length of 20 first. Assumes nothing.
use borrow.Author.Tests.{eq-eqb, ne_eqb}
use Rattle.rtr_models.proofs.Place.key_answer.Goals as goal

pub returns-then-len-eq20 : goal.returns-then-len-eq20
returns-then-len-eq20 c = simp (eq-eqb _ _ c.if-len-eq20.true) c.answer.ensures

pub returns : goal.returns
returns c = simp (ne_eqb _ _ c.if-len-eq20.false)
