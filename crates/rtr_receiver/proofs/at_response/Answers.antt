-- `at_response`: a load where one was asked for and, of a change, of the table's session; else a stop. Assumes nothing.
use Rattle.std.specs.Prelude.{Option}
use Rattle.std.proofs.Common.{sym, ap}
use Rattle.rtr_receiver.specs.Private.{response_in, placed}
use Rattle.rtr_receiver.specs.Receiver.{no_update, on_change_response}
use Rattle.rtr_receiver.specs.Promises.{stage_of}
use Rattle.rtr_receiver.specs.declared.Phase.{Phase}
use Rattle.rtr_receiver.proofs.Deeds.{response-out, response-change, same-session, other-session}
use Rattle.rtr_receiver.proofs.at_response.Goals as goal
use Rattle.rtr_receiver.specs.declared.Table.{Table}

pub returns-then-session_id-t : goal.returns-then-session_id-t
returns-then-session_id-t c =
    let a = c.args in
    λ limit r. response-change a.phase a.session_id (placed a.phase a.table r) _ c.in-AskedChange.is (other-session _ _ _ c.in-Some.is c.if-session_id-t.true _)

pub returns-in-AskedFull : goal.returns-in-AskedFull
returns-in-AskedFull c =
    let a = c.args in
    λ limit r. ap (λ (p : Phase). no_update (response_in (stage_of p) a.session_id (placed a.phase a.table r))) (sym c.in-AskedFull.is)

pub returns-in-None : goal.returns-in-None
returns-in-None c =
    let a = c.args in
    λ limit r. response-change a.phase a.session_id (placed a.phase a.table r) _ c.in-AskedChange.is (ap (λ (t : Option Table). on_change_response t a.session_id (placed a.phase a.table r)) c.in-None.is)

pub returns-else-session_id-t : goal.returns-else-session_id-t
returns-else-session_id-t c =
    let a = c.args in
    λ limit r. response-change a.phase a.session_id (placed a.phase a.table r) _ c.in-AskedChange.is (same-session _ _ _ c.in-Some.is c.if-session_id-t.false _)

pub returns-in_default : goal.returns-in_default
returns-in_default c =
    let a = c.args in
    λ limit r. ap no_update (sym (response-out a.session_id (placed a.phase a.table r) a.phase c.in_default.not-AskedFull c.in_default.not-AskedChange))
