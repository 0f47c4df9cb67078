-- `is_receiver` makes the five tests, the cheapest first. Assumes nothing.
use Rattle.std.proofs.Common.{sym, ◌∙◌}
use Rattle.rtr_receiver.proofs.Memory.{fails, holds, own-limit, own-limit-fails, not-shape-limit, not-shape-live, not-shape-hold, not-shape-order, shape-by-working}
use Rattle.rtr_receiver.proofs.is_receiver.Goals as goal

pub returns-then-not-is_limit : goal.returns-then-not-is_limit
returns-then-not-is_limit c =
    let a = c.args in
    sym (not-shape-limit a.s.life.limit a.s a.live.now a.working.now a.hold.now (own-limit-fails a.s (fails c.is_limit.ensures c.if-not-is_limit.true-raw)))

pub returns-then-not-in_order : goal.returns-then-not-in_order
returns-then-not-in_order c =
    let a = c.args in
    sym (not-shape-order a.s.life.limit a.s a.live.now a.working.now a.hold.now (fails c.in_order.ensures c.if-not-in_order.true-raw))

pub returns-then-not-is_stream : goal.returns-then-not-is_stream
returns-then-not-is_stream c =
    let a = c.args in
    sym (not-shape-hold a.s.life.limit a.s a.live.now a.working.now a.hold.now (fails c.is_stream.ensures c.if-not-is_stream.true-raw))

pub returns-then-not-rules : goal.returns-then-not-rules
returns-then-not-rules c =
    let a = c.args in
    sym (not-shape-live a.s.life.limit a.s a.live.now a.working.now a.hold.now (fails c.rules.ensures c.if-not-rules.true-raw))

pub returns : goal.returns
returns c =
    let a = c.args in
    c.rules-2.ensures
    ∙ sym
    (shape-by-working a.s.life.limit a.s a.live.now a.working.now a.hold.now
    (holds c.rules.ensures c.if-not-rules.false-raw)
    (holds c.is_stream.ensures c.if-not-is_stream.false-raw)
    (holds c.in_order.ensures c.if-not-in_order.false-raw)
    (own-limit a.s (holds c.is_limit.ensures c.if-not-is_limit.false-raw)))
