-- `is_plain`: the record has all bits in common with itself cut at its length. Assumes nothing.
use Rattle.rtr_origin.proofs.Surveys.{plain_by}
use Rattle.rtr_origin.proofs.peer.is_plain.Goals as goal

pub returns : goal.returns
returns c = plain_by _ _ _ _ c.prefix_length.ensures c.probe.ensures c.common.ensures
