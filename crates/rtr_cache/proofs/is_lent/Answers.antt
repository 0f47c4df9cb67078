-- `is_lent`: the limit, then the room rules. Assumes nothing.
use borrow.Author.Tests.{eq-eqb, ne_eqb}
use Rattle.rtr_room.specs.Room.{limit_of}
use Rattle.rtr_receiver.specs.Promises.{record_limit}
use Rattle.rtr_cache.specs.Cache.{is_lent}
use Rattle.rtr_cache.proofs.is_lent.Goals as goal

pub returns-then-limit-ne-RECORD_LIMIT : goal.returns-then-limit-ne-RECORD_LIMIT
unfolding is_lent
returns-then-limit-ne-RECORD_LIMIT c = let a = c.args in simp (ne_eqb (limit_of a.room.now) record_limit c.if-limit-ne-RECORD_LIMIT.true)

pub returns : goal.returns
unfolding is_lent
returns c = let a = c.args in simp (eq-eqb (limit_of a.room.now) record_limit c.if-limit-ne-RECORD_LIMIT.false) c.rules.ensures
