use mathlib.Core.Path.{ap}
use native.Mathlib.Numerals.{add-one}
use native.Mathlib.Omega.{arith}
use borrow.Author.Tests.{not-true, not-false}
use Rattle.rtr_room.specs.Room.{Outcome}
use Rattle.rtr_receiver.specs.Promises.{record_limit}
use Rattle.rtr_listed.proofs.Loop.{starts, goes_on, stops, ends}
use Rattle.rtr_listed.proofs.read_records.Goals as goal

pub loop-i-init : goal.loop-i-init
loop-i-init c =
    let a = c.args in
    starts record_limit a.listing.now a.count a.c a.room.now c.requires.1.1.0 c.requires.1.1.1 c.requires.0.0 c.requires.0.1

pub returns-then-not-next : goal.returns-then-not-next
returns-then-not-next c =
    let a = c.args in
    let l = c.loop-i in
    let read = c.read_record-read in
    stops record_limit a.listing.now a.count a.c l.room l.next l.i l.invariant read.result l.room (omega arith) read.ensures (not-true _ c.if-not-next.true)

pub loop-i-preserved : goal.loop-i-preserved
loop-i-preserved c =
    let a = c.args in
    let l = c.loop-i in
    let read = c.read_record-read in
    rw add-one (goes_on record_limit a.listing.now a.count a.c l.room l.next l.i l.invariant read.result _ c.loop-i-test.true c.requires.1.0 read.ensures (not-false _ c.if-not-next.false) (ap (λ (x : Outcome). x.left) c.enter.ensures))

pub returns : goal.returns
returns c =
    let a = c.args in
    let l = c.loop-i in
    ends record_limit a.listing.now a.count a.c l.room l.next l.i l.invariant (omega (arith, l.invariant.few))
