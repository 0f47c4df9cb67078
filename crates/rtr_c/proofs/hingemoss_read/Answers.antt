-- `hingemoss_read` tests the length, reads, and writes the PDU's numbers. Assumes nothing.
use borrow.Author.Tests.{ne_eqb}
use Rattle.rtr_c.specs.Calls.{read_c}
use Rattle.rtr_c.proofs.Steps.{read-accepted, read-refused}
use Rattle.rtr_c.proofs.hingemoss_read.Goals as goal

pub returns-then-pdu-ne-PDU_NUMBERS : goal.returns-then-pdu-ne-PDU_NUMBERS
unfolding read_c
returns-then-pdu-ne-PDU_NUMBERS c = simp (ne_eqb _ _ c.if-pdu-ne-PDU_NUMBERS.true)

pub returns-in-Ok : goal.returns-in-Ok
returns-in-Ok c = read-accepted c.args.bytes.now c.args.pdu.now c.parse_rtr_pdu.result c.if-pdu-ne-PDU_NUMBERS.false c.parse_rtr_pdu.ensures _ _ _ c.in-Ok.is c.put_pdu.ensures.1

pub returns-in-Err : goal.returns-in-Err
returns-in-Err c = read-refused c.args.bytes.now c.args.pdu.now c.parse_rtr_pdu.result c.if-pdu-ne-PDU_NUMBERS.false c.parse_rtr_pdu.ensures _ _ c.in-Err.is c.number.ensures
