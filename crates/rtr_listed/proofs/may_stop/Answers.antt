-- `may_stop`: each test decides one of the ranges. Assumes nothing.
use mathlib.Core.Path.{sym}
use native.Mathlib.Omega.{arith}
use borrow.Author.Tests.{lt-leb, le-leb, eq-eqb, ne_eqb}
use Rattle.rtr_listed.proofs.may_stop.Goals as goal

pub returns-then-n-eq0 : goal.returns-then-n-eq0
returns-then-n-eq0 c = let n = c.args.n in sym (simp (eq-eqb n 0 c.if-n-eq0.true))

pub returns-then-n-lt2 : goal.returns-then-n-lt2
returns-then-n-lt2 c = let n = c.args.n in sym (simp (ne_eqb n 0 c.if-n-eq0.false, lt-leb 2 n (omega arith), lt-leb 12 n (omega arith)))

pub returns-then-n-le8 : goal.returns-then-n-le8
returns-then-n-le8 c = let n = c.args.n in sym (simp (ne_eqb n 0 c.if-n-eq0.false, le-leb 2 n (omega arith), le-leb n 8 (omega arith)))

pub returns-then-n-lt12 : goal.returns-then-n-lt12
returns-then-n-lt12 c = let n = c.args.n in sym (simp (ne_eqb n 0 c.if-n-eq0.false, le-leb 2 n (omega arith), lt-leb n 8 (omega arith), lt-leb 12 n (omega arith)))

pub returns : goal.returns
returns c = let n = c.args.n in sym (simp (ne_eqb n 0 c.if-n-eq0.false, le-leb 2 n (omega arith), lt-leb n 8 (omega arith), le-leb 12 n (omega arith)))
