-- `gather_one`: an announcement that neither table has is one more in the tail; anything else is left alone. Assumes nothing.
use Rattle.std.proofs.Common.{Result, Err, ◌≡◌, ℕ, List, sym, refl, ap, ◌∙◌, subst, inl, inr}
use Rattle.rtr_base.proofs.Told.{ok_told}
use Rattle.rtr_room.specs.Room.{Said, Outcome, enter_said, found, limit_of}
use Rattle.rtr_room.specs.Room.Said.{refused_by}
use Rattle.rtr_receiver.specs.Private.{AnnouncedAt}
use Rattle.rtr_receiver.proofs.Gathering.{missing-not-in, entered-tail, refused-tail}
use Rattle.rtr_receiver.proofs.gather_one.Goals as goal
use Rattle.rtr_room.specs.declared.EnterError.{EnterError}

-- what entering comes to, by what the call answered
outcome-of : (a b : Result ℕ EnterError) (o : Outcome) → a ≡ b → {left : List ℕ} → record { says = enter_said a; left = left } ≡ o → record { says = enter_said b; left = left } ≡ o
outcome-of a b o e {left} f = ap (λ (x : Result ℕ EnterError). record { says = enter_said x; left = left }) (sym e) ∙ f

pub returns-in-None : goal.returns-in-None
returns-in-None c = inl (refl, refl)

pub returns-in-Ok : goal.returns-in-Ok
returns-in-Ok c =
    let a = c.args in
    let pre = c.requires in
    let announced = subst (AnnouncedAt a.version a.piece.now a.at) c.in-Some.is c.announced_at-found.ensures in
    let tail = entered-tail (limit_of a.tail.now) a.n c.in-Ok.field-0 a.tail.now _ c.in-Some.record pre.1 announced.2 (outcome-of _ _ _ c.in-Ok.is c.enter.ensures) in
    inr (c.in-Some.record, announced.0, announced.1, tail.0, tail.1, missing-not-in (limit_of a.working.now) a.count _ a.working.now c.in-Some.record pre.0 (sym (ap found (ok_told c.look_up.result _ _ c.in-Ok-Missing.is c.in-Ok-Missing.field-0-is)) ∙ c.look_up.ensures), tail.2, announced.3)

-- a refusal of entering has a number
refused-so : (e : EnterError) → (k : ℕ) × (enter_said (Err e) ≡ refused_by k)
refused-so EnterError.AlreadyIn = (17, refl)
refused-so EnterError.Full = (18, refl)
refused-so EnterError.NotARoom = (22, refl)

pub returns-in-Err : goal.returns-in-Err
returns-in-Err c =
    let a = c.args in
    let so = refused-so c.in-Err.field-0 in
    inl (refl, refused-tail a.n so.0 a.tail.now _ c.in-Some.record (ap (λ (x : Said). record { says = x; left = c.enter.new.room }) (sym so.1) ∙ outcome-of _ _ _ c.in-Err.is c.enter.ensures))

pub returns-in_default : goal.returns-in_default
returns-in_default c = inl (refl, refl)
