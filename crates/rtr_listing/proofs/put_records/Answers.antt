use mathlib.Core.List.{◌++◌}
use mathlib.Core.Path.{◌≡◌, sym, ap, ◌∙◌}
use native.Mathlib.Numerals.{add-one}
use native.Mathlib.Omega.{arith}
use lib.ListN.{length}
use Rattle.rtr_room.specs.Room.{record_at, records}
use Rattle.rtr_room.specs.declared.Record.{Record}
use Rattle.rtr_listing.specs.Listing.{record_lines, all_lines}
use Rattle.rtr_listing.proofs.Puts.{put-nothing, put_then}
use Rattle.rtr_listing.proofs.Lines.{all_none, all-next, next-within, the-record, never-outside}
use Rattle.rtr_listing.proofs.put_records.Goals as goal
use Rattle.rtr_listing.proofs.put_records.Goals.{In-Some}

found : (c : In-Some) → c.in-Some.r ≡ record_at c.args.live.now c.loop-i.i
found c = the-record c.args.live.now c.loop-i.i _ _ (omega arith) c.get.ensures c.in-Some.is

pub loop-i-init : goal.loop-i-init
loop-i-init c =
    let a = c.args in
    rw (all_none a.live.now) (put-nothing a.out.now a.at)

pub put_record-next-requires : goal.put_record-next-requires
put_record-next-requires c =
    let a = c.args in
    let l = c.loop-i in
    omega (
      arith,
      next-within a.live.now l.i a.count (omega arith),
      ap (λ (r : Record). length (record_lines r)) (found (goal.at.put_record-next-requires c).In-Some),
    )

pub returns-in_default : goal.returns-in_default
returns-in_default c =
    absurd
    (never-outside c.args.live.now c.loop-i.i _ (omega arith) c.get.ensures c.in_default.is)

pub loop-i-preserved : goal.loop-i-preserved
loop-i-preserved c =
    let a = c.args in
    let l = c.loop-i in
    let lines = ap (λ (r : Record). all_lines (records l.i a.live.now) ++ record_lines r) (found (goal.at.loop-i-preserved c).In-Some) ∙ sym (all-next l.i a.live.now) in
    rw (add-one, ← lines) (put_then (omega arith) l.invariant c.put_record-next.ensures)
