-- `put_record`: what is written into the part behind a place. Assumes nothing.
use native.Mathlib.Omega.{arith}
use Rattle.rtr_listing.specs.Listing.{record_lines}
use Rattle.rtr_diffs.proofs.Parts.{part-behind, put-part}
use Rattle.rtr_diffs.proofs.put_record.Goals as goal

pub behind-requires : goal.behind-requires
behind-requires c =
    let a = c.args in
    omega (arith, part-behind (record_lines a.r) a.out.now a.at c.requires c.record_lines-answer.result _ c.record_lines-answer.ensures, c.requires)

pub returns : goal.returns
returns c =
    let a = c.args in
    put-part (record_lines a.r) a.out.now a.at c.requires c.record_lines-answer.result _ c.record_lines-answer.ensures c.behind.result c.behind.ensures
