-- `diff_text`: the output is long enough, so the text is written. Assumes nothing.
use Rattle.rtr_receiver.specs.Promises.{record_limit}
use Rattle.rtr_diff.proofs.Prints.{shows-text, never-refused}
use Rattle.rtr_diff.proofs.diff_text.Goals as goal

pub returns-in-Ok : goal.returns-in-Ok
returns-in-Ok c =
    let a = c.args in
    shows-text record_limit a.old.now a.new.now a.old_room.now a.new_room.now a.out.now _ _ _ c.diff-answer.result c.requires.old-size c.requires.new-size c.requires.out-size c.diff-answer.ensures _ c.in-Ok.is

pub returns-in-Err : goal.returns-in-Err
returns-in-Err c =
    let a = c.args in
    absurd (never-refused record_limit a.old.now a.new.now a.old_room.now a.new_room.now a.out.now _ _ _ c.diff-answer.result c.requires.old-size c.requires.new-size c.requires.out-size c.diff-answer.ensures _ c.in-Err.is)
