-- `fill` empties the working room, or copies the live one over it. Assumes nothing.
use Rattle.std.proofs.Common.{sym, refl, subst}
use Rattle.rtr_receiver.specs.Private.{Filled}
use Rattle.rtr_receiver.specs.declared.LoadKind.{LoadKind}
use Rattle.rtr_receiver.proofs.fill.Goals as goal

pub returns-in-Full : goal.returns-in-Full
returns-in-Full c =
    let a = c.args in
    subst (λ (k : LoadKind). Filled k a.in_live a.live.now a.working.now (record { records = 0 }) c.empty.new.room) (sym c.in-Full.is) (refl, c.empty.ensures)

pub returns-in-Change : goal.returns-in-Change
returns-in-Change c =
    let a = c.args in
    subst (λ (k : LoadKind). Filled k a.in_live a.live.now a.working.now a.in_live c.copy.new.room) (sym c.in-Change.is) (refl, c.copy.ensures.1)
