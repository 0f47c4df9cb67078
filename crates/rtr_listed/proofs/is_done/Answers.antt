-- `is_done`: each test decides one part. Assumes nothing.
use mathlib.Core.Bool.{Bool, ◌&&◌}
use mathlib.Core.Path.{sym, ap}
use borrow.Author.Tests.{not-true, not-false}
use lib.Dec.{eqb}
use Rattle.rtr_listed.proofs.is_done.Goals as goal

pub returns-then-not-c : goal.returns-then-not-c
returns-then-not-c c = let a = c.args in sym (ap (λ (b : Bool). b && eqb a.c.at a.end) (not-true a.c.fits c.if-not-c.true))

pub returns : goal.returns
returns c = let a = c.args in sym (ap (λ (b : Bool). b && eqb a.c.at a.end) (not-false a.c.fits c.if-not-c.false))
