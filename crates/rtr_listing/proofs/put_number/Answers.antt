-- `put_number`: as many digits as the number has. Assumes nothing.
use Rattle.rtr_listing.proofs.put_number.Goals as goal

pub put_counted-requires : goal.put_counted-requires
put_counted-requires c = rw c.places.ensures c.requires

pub returns : goal.returns
returns c = rw c.places.ensures at c.put_counted.ensures
