-- `write_run`: 9 where the output is shorter than the run, else its parts stand one behind the other. Assumes nothing.
use Prim.Native.Nat.{ℕ}
use mathlib.Core.Bool.{true, false}
use mathlib.Core.List.{List}
use mathlib.Core.Path.{sym, subst}
use native.Mathlib.Omega.{arith}
use Rattle.rtr_room.specs.Room.{records}
use Rattle.rtr_listing.specs.Private.{Put}
use Rattle.rtr_listing.proofs.Puts.{put_then}
use Rattle.rtr_listing.proofs.Calls.{too_short, wrote}
use Rattle.rtr_cache.proofs.NoPayload.{response-long}
use Rattle.rtr_cache.proofs.RunParts.{run_is, run_needs}
use Rattle.rtr_cache.proofs.write_run.Goals as goal

pub returns-then-out-needed : goal.returns-then-out-needed
returns-then-out-needed c =
    let v = c.args.version in
    let long = run_needs v c.args.end _ _ _ _ _ (c.side_length-withdrawn.ensures.0 v false) (c.side_length-announced.ensures.0 v true) (c.end_size.ensures.0 c.args.end) in
    rw c.short.ensures (too_short _ _ _ long c.if-out-needed.true)

pub put_response-at_first-requires : goal.put_response-at_first-requires
put_response-at_first-requires c = omega (arith, response-long c.args.version c.args.end.session)

pub put_side-at_second-requires : goal.put_side-at_second-requires
put_side-at_second-requires c =
    let v = c.args.version in
    (c.requires.0, omega (arith, response-long v c.args.end.session, c.side_length-withdrawn.ensures.0 v false))

pub put_side-at_end-requires : goal.put_side-at_end-requires
put_side-at_end-requires c =
    let v = c.args.version in
    ((c.requires.0.1, c.requires.0.0), omega (arith, response-long v c.args.end.session, c.side_length-withdrawn.ensures.0 v false, c.side_length-announced.ensures.0 v true))

pub put_end-requires : goal.put_end-requires
put_end-requires c =
    let v = c.args.version in
    omega (arith, response-long v c.args.end.session, c.side_length-withdrawn.ensures.0 v false, c.side_length-announced.ensures.0 v true, c.end_size.ensures.0 c.args.end)

pub returns : goal.returns
returns c =
    let a = c.args in
    let v = a.version in
    let old = records a.first_count a.first.now in
    let new = records a.second_count a.second.now in
    let long = run_needs v a.end old new _ _ _ (c.side_length-withdrawn.ensures.0 v false) (c.side_length-announced.ensures.0 v true) (c.end_size.ensures.0 a.end) in
    wrote _ a.out.now _ _ _ long c.if-out-needed.false
    (subst (λ (b : List ℕ). Put a.out.now 0 b c.put_end.result c.put_end.new.out)
    (sym (run_is v a.end old new))
    (put_then (omega arith) (put_then (omega arith) (put_then (omega arith) c.put_response-at_first.ensures c.put_side-at_second.ensures) c.put_side-at_end.ensures) c.put_end.ensures))
