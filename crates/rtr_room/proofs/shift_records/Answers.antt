use Rattle.std.proofs.Common.{ℕ, ◌-◌, ◌+◌, ◌*◌, ◌∙◌, ap, arith}
use Rattle.rtr_room.proofs.Merges.{moved, moved_none, moved-read, moved_more}
use Rattle.rtr_room.proofs.shift_records.Goals as goal

pub loop-i-init : goal.loop-i-init
loop-i-init c = (moved_none c.args.room.now c.args.end c.args.by, omega arith)

pub loop-i-preserved : goal.loop-i-preserved
loop-i-preserved c =
    let a = c.args in
    let s = a.room.now in
    let l = c.loop-i in
    let read = moved-read s a.end a.by (omega arith) l.room l.i l.invariant.0 (omega arith) (l.i - 1) (omega arith) in (
      moved_more s a.end a.by (omega arith) l.room _ l.i (l.i - 1) (6 * (l.i - 1 + a.by)) _ l.invariant.0
          (omega arith) (omega arith) (omega arith)
          (c.record_at-r.ensures ∙ read)
          c.put.ensures,
      omega arith,
    )

pub returns : goal.returns
returns c = c.loop-i.invariant.0 ∙ ap (λ (k : ℕ). moved c.args.room.now k c.args.end c.args.by) (omega arith)
