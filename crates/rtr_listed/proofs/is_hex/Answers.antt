-- `is_hex`: each test decides one of the ranges. Assumes nothing.
use mathlib.Core.Path.{sym}
use native.Mathlib.Omega.{arith}
use borrow.Author.Tests.{lt-leb, le-leb}
use Rattle.rtr_listed.proofs.is_hex.Goals as goal

pub returns-then-c-lt48 : goal.returns-then-c-lt48
returns-then-c-lt48 c = let n = c.args.c in sym (simp (lt-leb 48 n (omega arith), lt-leb 97 n (omega arith)))

pub returns-then-c-le57 : goal.returns-then-c-le57
returns-then-c-le57 c = let n = c.args.c in sym (simp (le-leb 48 n (omega arith), le-leb n 57 (omega arith)))

pub returns-then-c-lt97 : goal.returns-then-c-lt97
returns-then-c-lt97 c = let n = c.args.c in sym (simp (le-leb 48 n (omega arith), lt-leb n 57 (omega arith), lt-leb 97 n (omega arith)))

pub returns : goal.returns
returns c = let n = c.args.c in sym (simp (le-leb 48 n (omega arith), lt-leb n 57 (omega arith), le-leb 97 n (omega arith)))
