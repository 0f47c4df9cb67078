use native.Mathlib.Numerals.{add-one}
use Rattle.rtr_listed.proofs.past.Goals as goal

pub returns : goal.returns
returns c = rw (add-one, add-one)
