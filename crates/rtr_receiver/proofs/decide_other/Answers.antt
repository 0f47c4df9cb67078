-- `decide_other`: each kind of PDU as its own function decides it. Assumes nothing.
use Rattle.std.proofs.Common.{sym, ◌∙◌}
use Rattle.rtr_receiver.specs.Private.{placed}
use Rattle.rtr_receiver.proofs.Pdus.{kind-notify, kind-response, kind-end, kind-reset, kind-out, passes-key}
use Rattle.rtr_receiver.proofs.decide_other.Goals as goal

pub returns-in-SerialNotify : goal.returns-in-SerialNotify
returns-in-SerialNotify c =
    let a = c.args in
    λ limit r. sym (kind-notify limit (placed a.phase a.table r) a.pdu c.requires.0 _ c.in-SerialNotify.is)

pub returns-in-CacheResponse : goal.returns-in-CacheResponse
returns-in-CacheResponse c =
    let a = c.args in
    λ limit r. c.at_response.ensures limit r ∙ sym (kind-response limit (placed a.phase a.table r) a.pdu _ c.in-CacheResponse.is)

pub returns-in-EndOfData : goal.returns-in-EndOfData
returns-in-EndOfData c =
    let a = c.args in
    λ limit r. c.at_end_of_data.ensures limit (placed a.phase a.table r) ∙ sym (kind-end limit (placed a.phase a.table r) a.pdu _ c.in-EndOfData.is)

pub returns-in-CacheReset : goal.returns-in-CacheReset
returns-in-CacheReset c =
    let a = c.args in
    λ limit r. c.at_cache_reset.ensures limit (placed a.phase a.table r) ∙ sym (kind-reset limit (placed a.phase a.table r) a.pdu _ c.in-CacheReset.is)

pub returns-in-RouterKey : goal.returns-in-RouterKey
returns-in-RouterKey c =
    let a = c.args in
    passes-key a.phase a.table a.pdu c.in_load.result _ c.in-RouterKey.is c.in_load.ensures

pub returns-in_default : goal.returns-in_default
returns-in_default c =
    let a = c.args in
    λ limit r. sym (kind-out limit (placed a.phase a.table r) a.pdu c.in_default.not-SerialNotify c.in_default.not-CacheResponse c.in_default.not-EndOfData c.in_default.not-CacheReset c.in_default.not-RouterKey c.requires.1)
