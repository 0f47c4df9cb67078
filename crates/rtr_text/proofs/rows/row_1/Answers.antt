-- `rtr_text::rows::row_1` meets its contract: its one range is tested at the character's first byte. Assumes nothing.
use Rattle.rtr_text.proofs.Begins.{byte-0}
use Rattle.rtr_text.proofs.rows.row_1.Goals as goal

pub returns : goal.returns
returns c = let a = c.args in byte-0 _ a.text.now a.at c.within.ensures
