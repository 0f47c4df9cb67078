-- What is lent is led on by each turn, and where the loop is left the input was heard. Assumes nothing.
use native.Mathlib.Omega.{arith}
use borrow.Author.Tests.{not-true, not-false}
use Rattle.rtr_table.proofs.Feeds.{going-none, going_on, going-ends, going-used}
use Rattle.rtr_table.proofs.feed_all.Goals as goal

pub loop-turn-init : goal.loop-turn-init
loop-turn-init g c = going-none _

pub returns-then-not-heard : goal.returns-then-not-heard
returns-then-not-heard g c = going-ends _ c.loop-turn.invariant c.hear_piece-heard.ensures (not-true _ c.if-not-heard.true)

pub loop-turn-preserved : goal.loop-turn-preserved
loop-turn-preserved g c = going_on _ c.loop-turn.invariant c.hear_piece-heard.ensures (not-false _ c.if-not-heard.false)

pub returns : goal.returns
returns g c = going-used _ _ c.loop-turn.invariant (omega (arith, c.loop-turn-test.false))
