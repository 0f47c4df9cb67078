-- `in_order` is its two halves. Assumes nothing.
use Rattle.std.proofs.Common.{Bool, ◌&&◌, sym, ap, ◌∙◌}
use Rattle.rtr_receiver.specs.Promises.{cleared}
use Rattle.rtr_receiver.proofs.Memory.{fails, holds}
use Rattle.rtr_receiver.proofs.in_order.Goals as goal

pub returns-then-not-is_tabled : goal.returns-then-not-is_tabled
returns-then-not-is_tabled c = sym (ap (λ (b : Bool). b && cleared c.args.s) (fails c.is_tabled.ensures c.if-not-is_tabled.true-raw))

pub returns : goal.returns
returns c =
    c.is_cleared.ensures
    ∙ sym (ap (λ (b : Bool). b && cleared c.args.s) (holds c.is_tabled.ensures c.if-not-is_tabled.false-raw))
