-- `Place::key_part` tests the length of 20 first. Assumes nothing.
use mathlib.Core.Path.{refl}
use Rattle.rtr_models.proofs.Places.{unmoved}
use borrow.Author.Tests.{eq-eqb, ne_eqb}
use Rattle.rtr_models.proofs.Place.key_part.Goals as goal

pub returns-then-len-eq20 : goal.returns-then-len-eq20
returns-then-len-eq20 c = simp (eq-eqb _ _ c.if-len-eq20.true) c.part.ensures

pub returns : goal.returns
returns c = simp (ne_eqb _ _ c.if-len-eq20.false) (refl, unmoved c.args.input.ref_ptr)
