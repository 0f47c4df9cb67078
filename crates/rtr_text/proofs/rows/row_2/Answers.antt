-- `rtr_text::rows::row_2` meets its contract: each test behind `&&` is of one range more. Assumes nothing.
use Rattle.rtr_text.proofs.Begins.{byte-0, more-fits, more-fails}
use Rattle.rtr_text.proofs.rows.row_2.Goals as goal

pub returns-then-within : goal.returns-then-within
returns-then-within c =
    let a = c.args in
    let one = byte-0 _ a.text.now a.at c.within.ensures in
    more-fits _ _ a.text.now a.at one c.if-within.true c.within-then-within.ensures

pub returns-else-within : goal.returns-else-within
returns-else-within c =
    let a = c.args in
    let one = byte-0 _ a.text.now a.at c.within.ensures in
    more-fails _ _ a.text.now a.at one c.if-within.false
