-- `keep_rest` puts the rest of the piece behind what is held. Assumes nothing.
use mathlib.Core.Path.{refl}
use Rattle.rtr_stream.proofs.Turns.{kept}
use Rattle.rtr_stream.proofs.keep_rest.Goals as goal

pub returns : goal.returns
returns c =
    let a = c.args in
    (refl, kept _ a.hold.now a.piece.now a.held a.at c.put_part.ensures)
