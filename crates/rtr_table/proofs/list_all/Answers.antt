-- `list_all`: memory is of the size, so the start is not refused; there is room for the listing, and what is gathered is it. Assumes nothing.
use Rattle.std.specs.Prelude.{Result}
use mathlib.Core.Path.{◌∙◌, subst}
use native.Mathlib.Omega.{arith}
use Rattle.rtr_table.specs.Feeding.{Ends}
use Rattle.rtr_table.proofs.Feeds.{ends-count}
use Rattle.rtr_table.proofs.Laws.{listed-left}
use Rattle.rtr_table.proofs.list_all.Goals as goal
use Rattle.rtr_receiver.specs.declared.NotAReceiver.{NotAReceiver}
use Rattle.rtr_table.specs.declared.Ended.{Ended}

pub table_text-requires : goal.table_text-requires
table_text-requires g c =
    let call = c.hear_all-heard in
    let ends = subst (λ (a : Result Ended NotAReceiver). Ends a c.args.query.now call.new.live call.new.working call.new.hold) c.in-Ok.is call.ensures in
    omega (arith, ends-count c.in-Ok.ended c.args.query.now call.new.live call.new.working call.new.hold ends, c.requires.lines-size)

pub returns-in-Ok : goal.returns-in-Ok
returns-in-Ok g c =
    let call = c.hear_all-heard in
    let ends = subst (λ (a : Result Ended NotAReceiver). Ends a c.args.query.now call.new.live call.new.working call.new.hold) c.in-Ok.is call.ensures in
    listed-left c.in-Ok.ended c.args.query.now call.new.live call.new.working call.new.hold _ _ (call.auto.live ∙ c.requires.live-size) ends c.table_text.ensures

pub returns-in-Err : goal.returns-in-Err
returns-in-Err g c =
    let call = c.hear_all-heard in
    let ends = subst (λ (a : Result Ended NotAReceiver). Ends a c.args.query.now call.new.live call.new.working call.new.hold) c.in-Err.is call.ensures in
    absurd (ends (call.auto.live ∙ c.requires.live-size) (call.auto.working ∙ c.requires.working-size) (omega (arith, call.auto.hold, c.requires.hold-size)))
