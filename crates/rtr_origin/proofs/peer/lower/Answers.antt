-- `lower`: the second where it is lower, else the first. Assumes nothing.
use Rattle.rtr_origin.proofs.Surveys.{takes-second, keeps-first}
use Rattle.rtr_origin.proofs.peer.lower.Goals as goal

pub returns-then-y-x : goal.returns-then-y-x
returns-then-y-x c = takes-second _ _ c.if-y-x.true

pub returns : goal.returns
returns c = keeps-first _ _ c.if-y-x.false
