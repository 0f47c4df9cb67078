-- `rtr_text::is_well_formed` meets its contract: the comparison is `well_formed`'s own. Assumes nothing.
use Rattle.rtr_text.specs.Utf8.{well_formed}
use Rattle.rtr_text.proofs.is_well_formed.Goals as goal

pub returns : goal.returns
unfolding well_formed
returns c = rw c.well_formed_up_to.ensures
