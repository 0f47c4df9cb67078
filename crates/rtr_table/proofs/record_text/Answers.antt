-- A record's lines fit, so they are written. Assumes nothing.
use Rattle.rtr_listing.specs.Listing.{record_lines}
use Rattle.rtr_listing.proofs.Laws.{record-at-most}
use Rattle.rtr_table.proofs.Prints.{shows-written, never-refused}
use Rattle.rtr_table.proofs.record_text.Goals as goal

pub returns-in-Ok : goal.returns-in-Ok
returns-in-Ok c =
    let call = c.record_lines-answer in
    shows-written (record_lines c.args.r) c.args.lines.now _ call.result (record-at-most c.args.r) c.requires call.ensures _ c.in-Ok.is

pub returns-in-Err : goal.returns-in-Err
returns-in-Err c =
    let call = c.record_lines-answer in
    absurd (never-refused (record_lines c.args.r) c.args.lines.now _ call.result (record-at-most c.args.r) c.requires call.ensures _ c.in-Err.is)
