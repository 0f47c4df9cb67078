-- `one_step`: the search's answer decides, and what is left of the session and the rooms stands for what the definition says. Assumes nothing.
use Rattle.std.proofs.Common.{◌≡◌, [], length, Ok, sym, refl, subst, arith}
use Rattle.rtr_base.proofs.Told.{ok_told, err_told}
use Rattle.rtr_receiver.specs.Receiver.{on_pdu}
use Rattle.rtr_receiver.specs.Promises.{receiver_of, fed_to, fed_said_by, leaves}
use Rattle.rtr_receiver.specs.Private.{BothRooms, Did, Stepped, feed_here}
use Rattle.rtr_receiver.specs.declared.Session.{Session}
use Rattle.rtr_receiver.specs.declared.Step.{Step}
use Rattle.rtr_receiver.proofs.Steps.{shape_of}
use Rattle.rtr_receiver.proofs.Stepping.{step-more, step-never, step-stop, step_counts, step-pdu}
use Rattle.rtr_receiver.proofs.one_step.Goals as goal

pub on_pdu-d-requires : goal.on_pdu-d-requires
on_pdu-d-requires c =
    let a = c.args in
    let shape = shape_of a.s.life.limit a.s a.live.now a.working.now a.hold.now c.requires.0 in
    subst (λ (t : Session). BothRooms t.life.limit t a.live.now a.working.now) (sym c.with_held.ensures) (shape.live-room, shape.working-room, refl, c.requires.1, refl)

pub after_pdu-requires : goal.after_pdu-requires
after_pdu-requires c =
    let a = c.args in
    let live = a.live.now in
    let working = a.working.now in
    let hold = a.hold.now in
    let piece = a.piece.now in
    let pre = c.requires in
    let shape = shape_of a.s.life.limit a.s live working hold pre.0 in
    let r = c.search-searched.result in
    let hold' = c.search-searched.new.hold in
    let same : length hold' ≡ length hold = omega (arith, c.hold-1.given) in
    let pdu = c.in-Some.pdu in
    let lies = c.in-Some.field-0-1 in
    let did = subst
    (λ (t : Session). Did t.life.limit c.on_pdu-d.result c.on_pdu-d.new.live c.on_pdu-d.new.working (on_pdu t.life.limit pdu (receiver_of t live working [])))
    c.with_held.ensures
    c.on_pdu-d.ensures in
    let most = step_counts a.s.life.limit a.s live working hold piece a.at a.updates shape pre.1 r hold' same c.search-searched.ensures.says pdu lies (ok_told r.answer _ _ c.in-Ok.is c.in-Some.is) c.on_pdu-d.result c.on_pdu-d.new.live c.on_pdu-d.new.working pre.2 pre.3 did in
    omega (arith, c.well_formed)

pub returns-in-Some : goal.returns-in-Some
returns-in-Some c =
    let a = c.args in
    let live = a.live.now in
    let working = a.working.now in
    let hold = a.hold.now in
    let piece = a.piece.now in
    let pre = c.requires in
    let shape = shape_of a.s.life.limit a.s live working hold pre.0 in
    let r = c.search-searched.result in
    let hold' = c.search-searched.new.hold in
    let same : length hold' ≡ length hold = omega (arith, c.hold-1.given) in
    let pdu = c.in-Some.pdu in
    let lies = c.in-Some.field-0-1 in
    let did = subst
    (λ (t : Session). Did t.life.limit c.on_pdu-d.result c.on_pdu-d.new.live c.on_pdu-d.new.working (on_pdu t.life.limit pdu (receiver_of t live working [])))
    c.with_held.ensures
    c.on_pdu-d.ensures in
    subst (λ (t : Step). Stepped a.s.life.limit (feed_here a.s.life.limit a.s live working hold piece a.at a.updates) piece a.at t c.on_pdu-d.new.live c.on_pdu-d.new.working hold')
    (sym c.after_pdu.ensures)
    (step-pdu a.s.life.limit a.s live working hold piece a.at a.updates shape pre.1 r hold' same c.search-searched.ensures.says pdu lies (ok_told r.answer _ _ c.in-Ok.is c.in-Some.is)
    c.on_pdu-d.result c.on_pdu-d.new.live c.on_pdu-d.new.working pre.2 pre.3 did)

pub returns-in-Refused : goal.returns-in-Refused
returns-in-Refused c =
    let a = c.args in
    let live = a.live.now in
    let working = a.working.now in
    let hold = a.hold.now in
    let piece = a.piece.now in
    let pre = c.requires in
    let shape = shape_of a.s.life.limit a.s live working hold pre.0 in
    let r = c.search-searched.result in
    let hold' = c.search-searched.new.hold in
    let same : length hold' ≡ length hold = omega (arith, c.hold-1.given) in
    let error = c.in-Refused.error in
    step-stop a.s.life.limit a.s live working hold piece a.at a.updates shape pre.1 r hold' same c.search-searched.ensures.says error c.stop_with.result c.stop_with.new.working
    (err_told r.answer _ _ c.in-Err.is c.in-Refused.is) c.stop_with.ensures.0 c.stop_with.ensures.1

pub returns-in-None : goal.returns-in-None
returns-in-None c =
    let a = c.args in
    let live = a.live.now in
    let working = a.working.now in
    let hold = a.hold.now in
    let piece = a.piece.now in
    let pre = c.requires in
    let shape = shape_of a.s.life.limit a.s live working hold pre.0 in
    let r = c.search-searched.result in
    let hold' = c.search-searched.new.hold in
    let same : length hold' ≡ length hold = omega (arith, c.hold-1.given) in
    subst (λ (t : Session). fed_said_by (Ok tt) r.next a.updates (leaves t live working hold') hold' ≡ fed_to a.s.life.limit (feed_here a.s.life.limit a.s live working hold piece a.at a.updates))
    (sym c.with_held-in-None.ensures)
    (step-more a.s.life.limit a.s live working hold piece a.at a.updates shape pre.1 r hold' same c.search-searched.ensures.says (ok_told r.answer _ _ c.in-Ok.is c.in-None.is))

pub returns-in-NotAStream : goal.returns-in-NotAStream
returns-in-NotAStream c =
    let a = c.args in
    let live = a.live.now in
    let working = a.working.now in
    let hold = a.hold.now in
    let piece = a.piece.now in
    let pre = c.requires in
    let shape = shape_of a.s.life.limit a.s live working hold pre.0 in
    let r = c.search-searched.result in
    let hold' = c.search-searched.new.hold in
    let same : length hold' ≡ length hold = omega (arith, c.hold-1.given) in
    absurd (step-never a.s.life.limit a.s live working hold piece a.at a.updates shape pre.1 r hold' same c.search-searched.ensures.says (err_told r.answer _ _ c.in-Err.is c.in-NotAStream.is))
