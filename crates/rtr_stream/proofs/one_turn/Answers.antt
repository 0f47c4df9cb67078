-- `one_turn`: the piece is at its end, or something is held. Assumes nothing.
use native.Mathlib.Omega.{arith}
use Rattle.rtr_stream.proofs.Judge.{stream-is}
use Rattle.rtr_stream.proofs.Turns.{nothing_left}
use Rattle.rtr_stream.proofs.one_turn.Goals as goal

pub returns-then-at-piece : goal.returns-then-at-piece
returns-then-at-piece c =
    let a = c.args in
    nothing_left a.hold.now a.piece.now a.held a.at (stream-is a.hold.now a.held c.requires.0).within (omega arith)
