-- `decide_kind`: a record in one place, any other PDU by what it is. Assumes nothing.
use Rattle.std.proofs.Common.{sym, ◌∙◌}
use Rattle.rtr_receiver.proofs.Pdus.{takes-record}
use Rattle.rtr_receiver.proofs.decide_kind.Goals as goal

pub decide_other-requires : goal.decide_other-requires
decide_other-requires c = (c.requires, sym c.carried_by-carried.ensures ∙ c.in-None.is)

pub returns-in-Some : goal.returns-in-Some
returns-in-Some c =
    let a = c.args in
    takes-record a.phase a.table a.pdu c.in_load.result _ _ (sym c.carried_by-carried.ensures ∙ c.in-Some.is) c.in_load.ensures
