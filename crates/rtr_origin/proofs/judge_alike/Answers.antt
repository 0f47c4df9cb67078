-- `judge_alike`: fewer bits in common than the record is long, or a longer record, and it does not cover; any other does. Assumes nothing.
use mathlib.Core.Path.{sym, ◌∙◌}
use native.Mathlib.Omega.{arith}
use borrow.Author.Tests.{le-leb}
use Rattle.rtr_room.specs.Table.{prefix_of}
use Rattle.rtr_origin.proofs.Judging.{few-in-common, longer, as-common, uncovered}
use Rattle.rtr_origin.proofs.judge_alike.Goals as goal

pub returns-then-own-bits : goal.returns-then-own-bits
returns-then-own-bits c = few-in-common _ _ _ _ c.requires.1 c.prefix_length-own.ensures c.if-own-bits.true

pub returns-then-own-prefix_length : goal.returns-then-own-prefix_length
returns-then-own-prefix_length c = uncovered c.args.a c.args.x (sym (longer c.args.a c.args.x c.requires.0 (omega (arith, c.prefix_length-own.ensures, c.prefix_length.ensures, c.if-own-prefix_length.true))))

pub judge_covering-requires : goal.judge_covering-requires
judge_covering-requires c =
    sym (as-common c.args.a c.args.x c.requires.0 (omega (arith, c.prefix_length-own.ensures, c.prefix_length.ensures, c.if-own-prefix_length.false)) c.args.bits c.requires.1)
    ∙ le-leb (prefix_of c.args.x) c.args.bits (omega (arith, c.prefix_length-own.ensures, c.if-own-bits.false))

pub returns : goal.returns
returns c = c.judge_covering.ensures
