-- `stop_line`: a number's line, and one test more. Assumes nothing.
use mathlib.Core.Path.{sym, ap, ◌∙◌, subst}
use Rattle.rtr_listing.specs.Listing.{text}
use Rattle.rtr_listed.specs.Listed.{named, number_in, may_stop}
use Rattle.rtr_listed.specs.Private.{NumberTook, narrowed}
use Rattle.rtr_listed.proofs.Cursors.{narrow-took}
use Rattle.rtr_listed.proofs.Numbers.{stop-low}
use Rattle.rtr_listed.proofs.stop_line.Goals as goal

pub returns : goal.returns
returns c =
    let a = c.args in
    let read = c.number_line-read in
    let took = narrow-took a.listing.now a.c (text "stopped=") 19 may_stop
    stop-low
    read.result c.requires.0 read.ensures in
    subst (NumberTook (named (text "stopped=") (number_in may_stop)) a.listing.now a.c 19) (sym (c.narrow.ensures ∙ ap (narrowed a.c read.result) c.may_stop.ensures)) took
