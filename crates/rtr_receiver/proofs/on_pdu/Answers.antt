-- `on_pdu`: what is decided is what the definition does, and it is carried out. Assumes nothing.
use Rattle.std.proofs.Common.{[]}
use Rattle.rtr_receiver.specs.Private.{carried_out}
use Rattle.rtr_receiver.specs.Promises.{receiver_of}
use Rattle.rtr_receiver.proofs.Deeds.{did}
use Rattle.rtr_receiver.proofs.on_pdu.Goals as goal

pub decide_pdu-doing-requires : goal.decide_pdu-doing-requires
decide_pdu-doing-requires c = c.requires.3

pub returns : goal.returns
returns c =
    let a = c.args in
    let live = a.live.now in
    let working = a.working.now in
    did a.s.life.limit c.carry_out.new.live c.carry_out.new.working c.carry_out.result c.finished_by-updates.result (carried_out a.s.life.limit c.decide_pdu-doing.result (receiver_of a.s live working []))
    c.carry_out.ensures (c.finished_by-updates.ensures a.s.life.limit (receiver_of a.s live working [])) _ (c.decide_pdu-doing.ensures a.s.life.limit live working)
