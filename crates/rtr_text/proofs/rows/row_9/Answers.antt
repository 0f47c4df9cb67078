-- `rtr_text::rows::row_9` meets its contract: each test behind `&&` is of one range more. Assumes nothing.
use mathlib.Core.List.{[], ◌∷◌}
use mathlib.Core.Path.{◌≡◌, ◌∙◌}
use lib.ListN.{drop}
use Rattle.rtr_text.specs.Utf8.{begins, ◌to◌}
use Rattle.rtr_text.proofs.Begins.{byte-0, more-fits, more-fails}
use Rattle.rtr_text.proofs.rows.row_9.Goals as goal
use Rattle.rtr_text.proofs.rows.row_9.Goals.{then-within, else-within, then-within-2, else-within-2}

pub returns-then-within-3 : goal.returns-then-within-3
returns-then-within-3 c =
    let a = c.args in
    let one = byte-0 _ a.text.now a.at c.within.ensures in
    let two : c.if-within.value ≡ begins (0xf4 to 0xf4 ∷ 0x80 to 0x8f ∷ []) (drop a.at a.text.now) = elim c.if-within.branch [
      | then-within w ↦ more-fits (0xf4 to 0xf4 ∷ []) (0x80 to 0x8f) a.text.now a.at one w.if-within.true (w.value-is ∙ w.within-then-within.ensures)
      | else-within w ↦ w.value-is ∙ more-fails (0xf4 to 0xf4 ∷ []) (0x80 to 0x8f) a.text.now a.at one w.if-within.false
    ] in
    let three : c.if-within-2.value ≡ begins (0xf4 to 0xf4 ∷ 0x80 to 0x8f ∷ 0x80 to 0xbf ∷ []) (drop a.at a.text.now) = elim c.if-within-2.branch [
      | then-within-2 w ↦ more-fits (0xf4 to 0xf4 ∷ 0x80 to 0x8f ∷ []) (0x80 to 0xbf) a.text.now a.at two w.if-within-2.true (w.value-is ∙ w.within-then-within-2.ensures)
      | else-within-2 w ↦ w.value-is ∙ more-fails (0xf4 to 0xf4 ∷ 0x80 to 0x8f ∷ []) (0x80 to 0xbf) a.text.now a.at two w.if-within-2.false
    ] in
    more-fits _ _ a.text.now a.at three c.if-within-3.true c.within-then-within-3.ensures

pub returns-else-within-3 : goal.returns-else-within-3
returns-else-within-3 c =
    let a = c.args in
    let one = byte-0 _ a.text.now a.at c.within.ensures in
    let two : c.if-within.value ≡ begins (0xf4 to 0xf4 ∷ 0x80 to 0x8f ∷ []) (drop a.at a.text.now) = elim c.if-within.branch [
      | then-within w ↦ more-fits (0xf4 to 0xf4 ∷ []) (0x80 to 0x8f) a.text.now a.at one w.if-within.true (w.value-is ∙ w.within-then-within.ensures)
      | else-within w ↦ w.value-is ∙ more-fails (0xf4 to 0xf4 ∷ []) (0x80 to 0x8f) a.text.now a.at one w.if-within.false
    ] in
    let three : c.if-within-2.value ≡ begins (0xf4 to 0xf4 ∷ 0x80 to 0x8f ∷ 0x80 to 0xbf ∷ []) (drop a.at a.text.now) = elim c.if-within-2.branch [
      | then-within-2 w ↦ more-fits (0xf4 to 0xf4 ∷ 0x80 to 0x8f ∷ []) (0x80 to 0xbf) a.text.now a.at two w.if-within-2.true (w.value-is ∙ w.within-then-within-2.ensures)
      | else-within-2 w ↦ w.value-is ∙ more-fails (0xf4 to 0xf4 ∷ 0x80 to 0x8f ∷ []) (0x80 to 0xbf) a.text.now a.at two w.if-within-2.false
    ] in
    more-fails _ _ a.text.now a.at three c.if-within-3.false
