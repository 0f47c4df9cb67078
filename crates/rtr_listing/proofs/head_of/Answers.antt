-- `head_of`: the stop's number is the phase's; the rest is taken from the session. Assumes nothing.
use Rattle.rtr_listing.proofs.head_of.Goals as goal

pub returns : goal.returns
returns c =
    let s = c.args.s in
    λ i. record { stopped = c.stopped_as.ensures i; table = s.table; count = s.live.records }
