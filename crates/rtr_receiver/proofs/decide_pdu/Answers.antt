-- `decide_pdu`: an Error Report stops, then another version, then the kind decides. Assumes nothing.
use Rattle.std.proofs.Common.{true, false, [], sym, ◌∙◌}
use borrow.Author.Tests.{not-true, not-false}
use Rattle.rtr_receiver.specs.Promises.{receiver_of}
use Rattle.rtr_receiver.proofs.Pdus.{pdu-report, of-version}
use Rattle.rtr_receiver.proofs.decide_pdu.Goals as goal

pub returns-then-not-is_version : goal.returns-then-not-is_version
returns-then-not-is_version c =
    let a = c.args in
    λ limit live working. sym (of-version limit (receiver_of a.s live working []) a.pdu c.in_default.not-ErrorReport c.version.result c.version.ensures c.is_version.result c.is_version.ensures false (not-true _ c.if-not-is_version.true-raw))

pub returns-in-ErrorReport : goal.returns-in-ErrorReport
returns-in-ErrorReport c =
    let a = c.args in
    λ limit live working. sym (pdu-report limit (receiver_of a.s live working []) a.pdu _ c.in-ErrorReport.is)

pub returns-else-not-is_version : goal.returns-else-not-is_version
returns-else-not-is_version c =
    let a = c.args in
    λ limit live working. c.decide_kind.ensures limit (receiver_of a.s live working []) ∙ sym (of-version limit (receiver_of a.s live working []) a.pdu c.in_default.not-ErrorReport c.version.result c.version.ensures c.is_version.result c.is_version.ensures true (not-false _ c.if-not-is_version.false-raw))
