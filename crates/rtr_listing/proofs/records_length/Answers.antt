use mathlib.Core.Path.{sym, ap}
use native.Mathlib.Numerals.{add-one}
use native.Mathlib.Omega.{arith}
use lib.ListN.{length}
use Rattle.rtr_room.specs.declared.Record.{Record}
use Rattle.rtr_listing.specs.Listing.{record_lines}
use Rattle.rtr_listing.proofs.Lines.{all_none, all-next-length, the-record, never-outside}
use Rattle.rtr_listing.proofs.records_length.Goals as goal

pub loop-i-init : goal.loop-i-init
loop-i-init c = (sym (ap length (all_none c.args.live.now)), omega arith)

pub returns-in_default : goal.returns-in_default
returns-in_default c =
    absurd
    (never-outside c.args.live.now c.loop-i.i _ (omega arith) c.get.ensures c.in_default.is)

pub loop-i-preserved : goal.loop-i-preserved
loop-i-preserved c =
    let a = c.args in
    let l = c.loop-i in
    let record_is = the-record a.live.now l.i _ _ (omega arith) c.get.ensures c.in-Some.is in
    let grown = all-next-length l.i a.live.now in (
      rw add-one (omega (arith, grown, ap (λ (r : Record). length (record_lines r)) record_is)),
      omega arith,
    )
