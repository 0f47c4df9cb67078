-- `search_piece`: the piece is at its end, or the turn over it ends the search, since nothing is held. Assumes nothing.
use mathlib.Core.Path.{subst}
use native.Mathlib.Omega.{arith}
use Rattle.rtr_stream.specs.Private.{TurnedTo}
use Rattle.rtr_stream.proofs.Turns.{nothing_left}
use Rattle.rtr_stream.proofs.search_piece.Goals as goal

pub returns-then-at-piece : goal.returns-then-at-piece
returns-then-at-piece c =
    let a = c.args in
    nothing_left a.hold.now a.piece.now 0 a.at (omega arith) (omega arith)

pub returns-in-Some : goal.returns-in-Some
returns-in-Some c =
    let a = c.args in
    let t = c.from_piece-t in
    subst (TurnedTo a.hold.now 0 a.piece.now a.at t.result.held t.result.next t.new.hold) c.in-Some.is t.ensures

pub returns-in-None : goal.returns-in-None
returns-in-None c =
    let a = c.args in
    let t = c.from_piece-t in
    let turned = subst (TurnedTo a.hold.now 0 a.piece.now a.at t.result.held t.result.next t.new.hold) c.in-None.is t.ensures in
    let none : ⊥ = omega (arith, turned.1) in
    absurd none
