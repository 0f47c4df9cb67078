-- `hear_piece` feeds nothing where nothing was read, and else all that was read. Assumes nothing.
use mathlib.Core.Path.{refl, sym}
use native.Mathlib.Omega.{arith}
use lib.Seq.{length-take-le}
use Rattle.rtr_table.specs.Feeding.{Turn}
use Rattle.rtr_table.proofs.hear_piece.Goals as goal

pub returns-then-n-eq0 : goal.returns-then-n-eq0
returns-then-n-eq0 c = Turn.over c.if-n-eq0.true refl refl

pub slice_bounds-feed-end : goal.slice_bounds-feed-end
slice_bounds-feed-end c = sym (length-take-le _ _ c.requires)

pub returns : goal.returns
returns c =
    let call = c.feed-fed in
    let some = c.if-n-eq0.false in
    Turn.heard call.result.done (omega (arith, some)) c.requires call.ensures c.goes_on.ensures
