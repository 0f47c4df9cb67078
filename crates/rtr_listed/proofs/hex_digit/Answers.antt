-- `hex_digit`: a letter is above every number. Assumes nothing.
use mathlib.Core.Path.{sym}
use native.Mathlib.Omega.{arith}
use borrow.Author.Tests.{lt-ltb, le-ltb}
use Rattle.rtr_listed.proofs.Values.{hex-range}
use Rattle.rtr_listed.proofs.hex_digit.Goals as goal

pub overflow_sub-result : goal.overflow_sub-result
overflow_sub-result c = let r = hex-range c.args.c c.requires in omega (arith, r.0)

pub returns-then-c-lt97 : goal.returns-then-c-lt97
returns-then-c-lt97 c =
    let n = c.args.c in
    (sym (simp (lt-ltb n 97 (omega arith))), let r = hex-range n c.requires in omega (arith, r.0, r.2 (omega arith)))

pub returns : goal.returns
returns c =
    let n = c.args.c in
    (sym (simp (le-ltb n 97 (omega arith))), omega (arith, (hex-range n c.requires).1))
