-- `record_of`: the six numbers are all there, so the record is found. Assumes nothing.
use mathlib.Core.Path.{◌∙◌}
use Rattle.rtr_changes.proofs.Asking.{record-told}
use Rattle.rtr_changes.proofs.record_of.Goals as goal

pub returns-in-Some : goal.returns-in-Some
returns-in-Some c = record-told c.args.room.now c.args.i _ _ c.requires c.get.ensures c.in-Some.is

pub returns-in-None : goal.returns-in-None
returns-in-None c = c.ipv4.ensures ∙ record-told c.args.room.now c.args.i _ _ c.requires c.get.ensures c.in-None.is
