-- `head_length`: the lines written aside say how long they are. Assumes nothing.
use native.Mathlib.Omega.{arith}
use Rattle.rtr_listing.proofs.Lines.{head-at-most}
use Rattle.rtr_listing.proofs.head_length.Goals as goal

pub put_head-requires : goal.put_head-requires
put_head-requires c = omega (arith, head-at-most c.args.head)

pub returns : goal.returns
returns c = omega (arith, c.put_head.ensures.place, head-at-most c.args.head)
