-- `rtr_text::rows::row_4` meets its contract: each test behind `&&` is of one range more. Assumes nothing.
use mathlib.Core.List.{[], ◌∷◌}
use mathlib.Core.Path.{◌≡◌, ◌∙◌}
use lib.ListN.{drop}
use Rattle.rtr_text.specs.Utf8.{begins, ◌to◌}
use Rattle.rtr_text.proofs.Begins.{byte-0, more-fits, more-fails}
use Rattle.rtr_text.proofs.rows.row_4.Goals as goal
use Rattle.rtr_text.proofs.rows.row_4.Goals.{then-within, else-within}

pub returns-then-within-2 : goal.returns-then-within-2
returns-then-within-2 c =
    let a = c.args in
    let one = byte-0 _ a.text.now a.at c.within.ensures in
    let two : c.if-within.value ≡ begins (0xe1 to 0xec ∷ 0x80 to 0xbf ∷ []) (drop a.at a.text.now) = elim c.if-within.branch [
      | then-within w ↦ more-fits (0xe1 to 0xec ∷ []) (0x80 to 0xbf) a.text.now a.at one w.if-within.true (w.value-is ∙ w.within-then-within.ensures)
      | else-within w ↦ w.value-is ∙ more-fails (0xe1 to 0xec ∷ []) (0x80 to 0xbf) a.text.now a.at one w.if-within.false
    ] in
    more-fits _ _ a.text.now a.at two c.if-within-2.true c.within-then-within-2.ensures

pub returns-else-within-2 : goal.returns-else-within-2
returns-else-within-2 c =
    let a = c.args in
    let one = byte-0 _ a.text.now a.at c.within.ensures in
    let two : c.if-within.value ≡ begins (0xe1 to 0xec ∷ 0x80 to 0xbf ∷ []) (drop a.at a.text.now) = elim c.if-within.branch [
      | then-within w ↦ more-fits (0xe1 to 0xec ∷ []) (0x80 to 0xbf) a.text.now a.at one w.if-within.true (w.value-is ∙ w.within-then-within.ensures)
      | else-within w ↦ w.value-is ∙ more-fails (0xe1 to 0xec ∷ []) (0x80 to 0xbf) a.text.now a.at one w.if-within.false
    ] in
    more-fails _ _ a.text.now a.at two c.if-within-2.false
