-- `judge_covering`: the tests of a match, one after the other. Assumes nothing.
use native.Mathlib.Omega.{arith}
use Rattle.rtr_origin.proofs.Judging.{over-max, other-origin, as-zero, matched}
use Rattle.rtr_origin.proofs.judge_covering.Goals as goal

pub returns-then-prefix_length-max_length : goal.returns-then-prefix_length-max_length
returns-then-prefix_length-max_length c = over-max c.args.a c.args.x c.requires (omega (arith, c.prefix_length.ensures, c.max_length.ensures, c.if-prefix_length-max_length.true))

pub returns-then-x-a : goal.returns-then-x-a
returns-then-x-a c = other-origin c.args.a c.args.x c.requires (omega (arith, c.prefix_length.ensures, c.max_length.ensures, c.if-prefix_length-max_length.false)) c.if-x-a.true

pub returns-then-x-eq0 : goal.returns-then-x-eq0
returns-then-x-eq0 c = as-zero c.args.a c.args.x c.requires (omega (arith, c.prefix_length.ensures, c.max_length.ensures, c.if-prefix_length-max_length.false)) c.if-x-a.false c.if-x-eq0.true

pub returns : goal.returns
returns c = matched c.args.a c.args.x c.requires (omega (arith, c.prefix_length.ensures, c.max_length.ensures, c.if-prefix_length-max_length.false)) c.if-x-a.false c.if-x-eq0.false
