-- `is_family`: each test decides one. Assumes nothing.
use mathlib.Core.Path.{sym}
use borrow.Author.Tests.{eq-eqb, ne_eqb}
use Rattle.rtr_listed.proofs.is_family.Goals as goal

pub returns-then-n-eq4 : goal.returns-then-n-eq4
returns-then-n-eq4 c = sym (simp (eq-eqb c.args.n 4 c.if-n-eq4.true))

pub returns : goal.returns
returns c = sym (simp (ne_eqb c.args.n 4 c.if-n-eq4.false))
