-- `record_length`: the lines written aside say how long they are. Assumes nothing.
use native.Mathlib.Omega.{arith}
use Rattle.rtr_listing.proofs.Lines.{record-at-most}
use Rattle.rtr_listing.proofs.record_length.Goals as goal

pub put_record-requires : goal.put_record-requires
put_record-requires c = omega (arith, record-at-most c.args.r)

pub returns : goal.returns
returns c = omega (arith, c.put_record.ensures.place, record-at-most c.args.r)
