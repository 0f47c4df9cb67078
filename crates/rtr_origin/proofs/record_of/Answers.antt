-- `record_of`: each of the six places is inside, since six numbers from the first on are, and what is read there is the record's number.
-- Assumes nothing.
use mathlib.Core.Path.{sym}
use Rattle.rtr_room.proofs.Laws.{record-from}
use Rattle.rtr_origin.proofs.record_of.Goals as goal

pub returns : goal.returns
returns c = (let a = c.args in sym (record-from a.live.now a.i))
