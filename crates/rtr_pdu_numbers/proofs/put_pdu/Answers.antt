-- `put_pdu` sets the PDU's numbers, of which there are 12. Assumes nothing.
use Rattle.rtr_numbers.proofs.Lists.{put-said}
use Rattle.rtr_pdu_numbers.proofs.Laws.{pdu-length}
use Rattle.rtr_pdu_numbers.proofs.put_pdu.Goals as goal

pub returns : goal.returns
returns c = put-said c.args.numbers.now _ _ _ 12 _ c.put_numbers.ensures c.pdu_numbers-said.ensures (pdu-length c.args.pdu c.args.consumed)
