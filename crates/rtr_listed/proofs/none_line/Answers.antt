-- `none_line`: the whole line is that text, or another one. Assumes nothing.
use mathlib.Core.Path.{sym, subst}
use Rattle.rtr_listing.specs.Listing.{text}
use Rattle.rtr_listed.specs.Private.{NoneTook, ValueAt, refused_at}
use Rattle.rtr_listed.proofs.Cursors.{refused-near, past_near, whole-took, whole-other, whole-nowhere}
use Rattle.rtr_listed.proofs.none_line.Goals.{in_default-via-in-Some+else-span, in_default-via-in_default}
use Rattle.rtr_listed.proofs.none_line.Goals as goal

pub returns-in-Some : goal.returns-in-Some
returns-in-Some c =
    let a = c.args in
    let there : ValueAt a.listing.now a.c (text "count=none") c.in-Some.span.from c.in-Some.span.end = c.in-Some.ensures in
    subst (NoneTook a.listing.now a.c) (sym c.past.ensures)
    (whole-took a.listing.now a.c (text "count=none") c.in-Some.span.from c.in-Some.span.end there c.if-span.true, past_near a.listing.now a.c c.in-Some.span.end there.inside)

pub returns-in_default : goal.returns-in_default
returns-in_default c =
    let a = c.args in
    let other : NoneTook a.listing.now a.c (refused_at a.c) = elim c.in_default.branch [
      | in_default-via-in-Some+else-span w ↦ (whole-other a.listing.now a.c (text "count=none") w.in-Some.span.from w.in-Some.span.end w.in-Some.ensures w.if-span.false, refused-near a.listing.now a.c c.requires.0)
      | in_default-via-in_default w ↦ (whole-nowhere a.listing.now a.c (text "count=none") w.in_default.ensures, refused-near a.listing.now a.c c.requires.0)
    ] in
    subst (NoneTook a.listing.now a.c) (sym c.refused.ensures) other
