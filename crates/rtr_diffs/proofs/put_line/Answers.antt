-- `put_line`: what is written into the part behind a place. Assumes nothing.
use native.Mathlib.Omega.{arith}
use Rattle.rtr_listing.specs.Listing.{line_of}
use Rattle.rtr_diffs.proofs.Parts.{part-behind, put-part}
use Rattle.rtr_diffs.proofs.put_line.Goals as goal

pub behind-requires : goal.behind-requires
behind-requires c =
    let a = c.args in
    omega (arith, part-behind (line_of a.name.now a.value.now) a.out.now a.at c.requires c.text_line-answer.result _ c.text_line-answer.ensures, c.requires)

pub returns : goal.returns
returns c =
    let a = c.args in
    put-part (line_of a.name.now a.value.now) a.out.now a.at c.requires c.text_line-answer.result _ c.text_line-answer.ensures c.behind.result c.behind.ensures
