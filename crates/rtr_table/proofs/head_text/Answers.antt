-- The head's lines fit, so they are written. Assumes nothing.
use Rattle.rtr_listing.specs.Listing.{head_lines, head_of}
use Rattle.rtr_listing.proofs.Laws.{head-at-most}
use Rattle.rtr_table.proofs.Prints.{shows-written, never-refused}
use Rattle.rtr_table.proofs.head_text.Goals as goal

pub returns-in-Ok : goal.returns-in-Ok
returns-in-Ok c =
    let call = c.head_lines-answer in
    shows-written (head_lines (head_of c.args.s)) c.args.lines.now _ call.result (head-at-most (head_of c.args.s)) c.requires call.ensures _ c.in-Ok.is

pub returns-in-Err : goal.returns-in-Err
returns-in-Err c =
    let call = c.head_lines-answer in
    absurd (never-refused (head_lines (head_of c.args.s)) c.args.lines.now _ call.result (head-at-most (head_of c.args.s)) c.requires call.ensures _ c.in-Err.is)
