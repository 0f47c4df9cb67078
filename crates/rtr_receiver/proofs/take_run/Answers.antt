-- `take_run`: what was gathered is merged, and the tail is a room of 128, so it always is. Assumes nothing.
use Rattle.rtr_room.specs.Room.{limit_of}
use Rattle.rtr_room.proofs.Laws.{empty-is}
use Rattle.rtr_receiver.proofs.Gathering.{taken_none, merged-run, always-merged}
use Rattle.rtr_receiver.proofs.take_run.Goals as goal

pub returns-in-None : goal.returns-in-None
returns-in-None c =
    let a = c.args in
    taken_none (limit_of a.working.now) a.version a.piece.now a.at a.count a.working.now c.requires.0 c.requires.1

pub gather-run-requires : goal.gather-run-requires
gather-run-requires c = (c.requires.0, (empty-is 128).1, c.requires.1)

pub returns-in-Ok : goal.returns-in-Ok
returns-in-Ok c =
    let a = c.args in
    let merging = c.merge in
    merged-run (limit_of a.working.now) 128 a.version a.piece.now a.at a.count a.working.now c.requires.0 _ _ _ c.gather-run.ensures _
    merging.result _ merging.ensures c.in-Ok.is

pub returns-in-Err : goal.returns-in-Err
returns-in-Err c =
    let a = c.args in
    let merging = c.merge in
    absurd
    (always-merged (limit_of a.working.now) 128 a.version a.piece.now a.at a.count a.working.now c.requires.0 _ _ _ c.gather-run.ensures _
    merging.result merging.ensures c.in-Err.is)
