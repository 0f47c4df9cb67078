-- `are_lengths`: each test decides one part. Assumes nothing.
use mathlib.Core.Path.{sym}
use native.Mathlib.Omega.{arith}
use borrow.Author.Tests.{lt-leb, le-leb, eq-eqb, ne_eqb}
use Rattle.rtr_listed.proofs.are_lengths.Goals as goal

pub returns-then-shortest-longest : goal.returns-then-shortest-longest
returns-then-shortest-longest c = let a = c.args in sym (simp (lt-leb a.shortest a.longest (omega arith)))

pub returns-then-family-eq4 : goal.returns-then-family-eq4
returns-then-family-eq4 c = let a = c.args in sym (simp (le-leb a.shortest a.longest (omega arith), eq-eqb a.family 4 c.if-family-eq4.true))

pub returns : goal.returns
returns c = let a = c.args in sym (simp (le-leb a.shortest a.longest (omega arith), ne_eqb a.family 4 c.if-family-eq4.false))
