-- `finish` copies the working room over the live one and empties it. Assumes nothing.
use Rattle.rtr_receiver.proofs.Deeds.{finish-stands}
use Rattle.rtr_receiver.proofs.finish.Goals as goal

pub returns : goal.returns
returns c =
    let a = c.args in
    let pre = c.requires in
    finish-stands a.s.life.limit a.s a.live.now a.working.now pre a.p c.refresh_interval_or_default.result c.retry_interval_or_default.result c.expire_interval_or_default.result
    c.refresh_interval_or_default.ensures c.retry_interval_or_default.ensures c.expire_interval_or_default.ensures
    c.copy.new.room c.empty.new.room c.copy.ensures.1 c.empty.ensures
