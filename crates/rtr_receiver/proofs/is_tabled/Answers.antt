-- `is_tabled` looks for a table first. Assumes nothing.
use Rattle.std.proofs.Common.{not, sym, ap, ◌∙◌}
use Rattle.rtr_receiver.proofs.Calls.{tableless, tableless-records}
use Rattle.rtr_receiver.proofs.is_tabled.Goals as goal

pub returns-then-s-eq0 : goal.returns-then-s-eq0
returns-then-s-eq0 c =
    let s = c.args.s in
    ap not c.change_under_way.ensures ∙ sym (tableless s c.in-None.is c.if-s-eq0.true)

pub returns-else-s-eq0 : goal.returns-else-s-eq0
returns-else-s-eq0 c = sym (tableless-records c.args.s c.in-None.is c.if-s-eq0.false)
