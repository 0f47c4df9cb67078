-- `is_cleared` goes by the phase. Assumes nothing.
use Rattle.std.proofs.Common.{sym}
use Rattle.rtr_receiver.proofs.Calls.{cleared-else, stopped-empty, stopped-full}
use Rattle.rtr_receiver.proofs.is_cleared.Goals as goal

pub returns-then-working-eq0 : goal.returns-then-working-eq0
returns-then-working-eq0 c =
    let s = c.args.s in
    sym (stopped-empty s.phase s.working.records s.held _ c.in-Stopped.is c.if-working-eq0.true)

pub returns-else-working-eq0 : goal.returns-else-working-eq0
returns-else-working-eq0 c =
    let s = c.args.s in
    sym (stopped-full s.phase s.working.records s.held _ c.in-Stopped.is c.if-working-eq0.false)

pub returns-in_default : goal.returns-in_default
returns-in_default c =
    let s = c.args.s in
    sym (cleared-else s.phase s.working.records s.held c.in_default.not-Loading c.in_default.not-Stopped)
