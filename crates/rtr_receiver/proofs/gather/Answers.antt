use Rattle.std.proofs.Common.{ℕ, ◌/◌, ◌≤◌, ap, arith}
use Rattle.rtr_room.specs.Room.{limit_of, records}
use Rattle.rtr_room.proofs.Laws.{records-length}
use Rattle.rtr_receiver.proofs.Memory.{room-size}
use Rattle.rtr_receiver.proofs.Gathering.{gathered_none, gathered-on}
use Rattle.rtr_receiver.proofs.gather.Goals as goal

pub overflow_sub-working : goal.overflow_sub-working
overflow_sub-working c = omega (arith, (room-size (limit_of c.args.working.now) c.args.count c.args.working.now c.requires.0).1)

pub loop-n-init : goal.loop-n-init
loop-n-init c =
    let a = c.args in
    let few : a.count ≤ limit_of a.working.now = (room-size (limit_of a.working.now) a.count a.working.now c.requires.0).1 in (
      c.least-most.ensures.0,
      omega (arith, c.least-most.ensures.1, few),
      gathered_none (limit_of a.working.now) (limit_of a.tail.now) a.version a.piece.now a.at (records a.count a.working.now) a.tail.now
          (omega (arith, records-length a.count a.working.now, few)) c.requires.1 c.requires.2,
    )

pub loop-n-preserved : goal.loop-n-preserved
loop-n-preserved c =
    let a = c.args in
    let inv = c.loop-n.invariant in (
      inv.0,
      inv.1,
      gathered-on (limit_of a.working.now) (limit_of a.tail.now) a.version a.piece.now a.at a.working.now a.count c.loop-n.tail _ c.loop-n.n c.loop-n.next _ inv.2
          c.gather_one-after.ensures c.if-after-next.false (omega (arith, inv.1, c.loop-n-test.true)) (ap (λ (m : ℕ). m / 6) c.loop-n.auto.tail),
    )
