-- `head_lines` refuses by 9 where the output is shorter than the lines, else it writes them at the front. Assumes nothing.
use mathlib.Core.Path.{sym, ap, ◌∙◌}
use Rattle.rtr_listing.specs.Listing.{head_lines}
use Rattle.rtr_listing.specs.Promises.{puts}
use Rattle.rtr_listing.specs.declared.Head.{Head}
use Rattle.rtr_listing.proofs.Calls.{too_short, wrote}
use Rattle.rtr_listing.proofs.head_lines.Goals as goal

pub returns-then-out-needed : goal.returns-then-out-needed
returns-then-out-needed c =
    let a = c.args in
    rw c.short.ensures
    (too_short (head_lines c.head_of-head.result) a.out.now _ (sym c.head_length-needed.ensures.0) c.if-out-needed.true
    ∙ ap (λ (h : Head). puts (head_lines h) a.out.now) c.head_of-head.ensures)

pub returns : goal.returns
returns c =
    let a = c.args in
    wrote (head_lines c.head_of-head.result) a.out.now _ _ _ (sym c.head_length-needed.ensures.0) c.if-out-needed.false c.put_head.ensures
    ∙ ap (λ (h : Head). puts (head_lines h) a.out.now) c.head_of-head.ensures
