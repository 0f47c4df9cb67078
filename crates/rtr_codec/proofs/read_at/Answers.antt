-- `read_at` reads what is behind the place, and moves past a PDU; a sum of the place and a consumed length ends within the run. Assumes nothing.
use Prim.Native.Nat.{◌+◌}
use mathlib.Core.Path.{ap, ◌∙◌}
use native.Mathlib.Omega.{arith}
use Rattle.rtr_codec.specs.Reading.{in_use}
use Rattle.rtr_codec.specs.Answers.{verdict}
use Rattle.rtr_codec.proofs.Runs.{ends-within-run, moves-on, stays, past_the_end}
use Rattle.rtr_codec.proofs.read_at.Goals as goal

pub returns-then-at-input : goal.returns-then-at-input
returns-then-at-input c =
    let a = c.args in
    past_the_end in_use a.input.now a.at _ c.if-at-input.true c.parse_rtr_pdu-answer.ensures

pub returns-in-Ok : goal.returns-in-Ok
returns-in-Ok c =
    let a = c.args in
    ap (λ v. record { answer = v; next = a.at + c.in-Ok.consumed }) (ap verdict c.in-Ok.is) ∙ moves-on in_use a.input.now a.at _ c.parse_rtr_pdu-answer-2.ensures _ _ (ap verdict c.in-Ok.is)

pub returns-in-Err : goal.returns-in-Err
returns-in-Err c =
    let a = c.args in
    ap (λ v. record { answer = v; next = a.at }) (ap verdict c.in-Err.is) ∙ stays in_use a.input.now a.at _ c.parse_rtr_pdu-answer-2.ensures c.in-Err.field-0 (ap verdict c.in-Err.is)

pub overflow_add-next : goal.overflow_add-next
overflow_add-next c =
    let a = c.args in
    omega (arith, ends-within-run in_use a.input.now a.at _ c.parse_rtr_pdu-answer-2.ensures _ _ (ap verdict c.in-Ok.is) c.if-at-input.false)
