-- `hear_all` starts, asks, and feeds all of the input: each call's promise is a step of one run. Assumes nothing.
use mathlib.Core.List.{[]}
use Rattle.rtr_table.proofs.Feeds.{ends-started, ends-refused}
use Rattle.rtr_table.proofs.hear_all.Goals as goal

pub returns-in-Ok : goal.returns-in-Ok
returns-in-Ok g c =
    let fed = c.feed_all in
    let asked = c.full_ask-asked in
    let started = c.start-started in
    ends-started _ _ _ started.result _ _ started.ensures _ c.in-Ok.is _ _ asked.result asked.ensures _ _ _ _ fed.auto.hold fed.ensures

pub returns-in-Err : goal.returns-in-Err
returns-in-Err g c =
    let started = c.start-started in
    ends-refused _ _ _ started.result _ _ started.ensures c.in-Err.is started.auto.live started.auto.working []
