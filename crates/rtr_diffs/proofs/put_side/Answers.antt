use Rattle.std.specs.Prelude.{Ok, Err, None}
use Rattle.std.proofs.Common.{rules}
use mathlib.Core.Path.{◌≡◌, refl, sym, ◌∙◌, subst}
use native.Mathlib.Numerals.{add-one}
use native.Mathlib.Omega.{arith}
use Rattle.rtr_base.proofs.Told.{ok_told}
use Rattle.rtr_room.specs.declared.Record.{Record}
use Rattle.rtr_listing.specs.Private.{Fits, Put}
use Rattle.rtr_diffs.specs.Diffs.{change_lines}
use Rattle.rtr_diffs.proofs.Sides.{side-starts, side-fits, side-goes-on, side-ends}
use Rattle.rtr_diffs.proofs.Search.{found-next, the-record, never-lost, none_left, never-refused}
use Rattle.rtr_diffs.proofs.put_side.Goals as goal

pub loop-p-init : goal.loop-p-init
loop-p-init c = let a = c.args in (omega arith, refl, side-starts a.announced _ _ a.out.now a.at)

pub put_change-next-requires : goal.put_change-next-requires
put_change-next-requires c =
    let a = c.args in
    let l = c.loop-p in
    let x = found-next _ _ _ _ _ _ c.requires.0 c.next_only.ensures _ (ok_told c.next_only.result _ _ c.in-Ok-Some.is c.in-Ok-Some.field-0-is) in
    subst (λ (r : Record). Fits l.out l.next (change_lines a.announced r)) (sym (the-record _ _ _ _ _ _ c.requires.0 c.next_only.ensures _ _ (ok_told c.next_only.result _ _ c.in-Ok-Some.is c.in-Ok-Some.field-0-is) (sym c.get.ensures ∙ c.in-Some.is)))
    (side-fits a.announced _ _ a.out.now a.at l.i l.out l.next l.invariant.2 c.in-Ok-Some.p _ c.requires.1 x.rest l.invariant.1)

pub overflow_add-i : goal.overflow_add-i
overflow_add-i c = omega (arith, (found-next _ _ _ _ _ _ c.requires.0 c.next_only.ensures _ (ok_told c.next_only.result _ _ c.in-Ok-Some.is c.in-Ok-Some.field-0-is)).below)

pub loop-p-smaller : goal.loop-p-smaller
loop-p-smaller c =
    let x = found-next _ _ _ _ _ _ c.requires.0 c.next_only.ensures _ (ok_told c.next_only.result _ _ c.in-Ok-Some.is c.in-Ok-Some.field-0-is) in omega (arith, x.behind, x.below)

pub loop-p-preserved : goal.loop-p-preserved
loop-p-preserved c =
    let a = c.args in
    let l = c.loop-p in
    let x = found-next _ _ _ _ _ _ c.requires.0 c.next_only.ensures _ (ok_told c.next_only.result _ _ c.in-Ok-Some.is c.in-Ok-Some.field-0-is) in
    let made = the-record _ _ _ _ _ _ c.requires.0 c.next_only.ensures _ _ (ok_told c.next_only.result _ _ c.in-Ok-Some.is c.in-Ok-Some.field-0-is) (sym c.get.ensures ∙ c.in-Some.is) in
    let wrote = c.put_change-next in
    let put = subst (λ (e : Record). Put l.out l.next (change_lines a.announced e) wrote.result wrote.new.out) made wrote.ensures in
    rw add-one (omega (arith, x.below), omega (arith, wrote.auto.out, l.invariant.1), side-goes-on a.announced _ _ a.out.now a.at l.i l.out l.next l.invariant.2 c.in-Ok-Some.p _ _ _ (omega (arith, c.requires.1)) x.rest put)

pub returns-in-loop-p : goal.returns-in-loop-p
returns-in-loop-p c =
    let a = c.args in
    let l = c.loop-p in
    let none : c.next_only.result ≡ Ok None = search rules in
    side-ends a.announced _ _ a.out.now a.at l.i l.out l.next l.invariant.2 (none_left _ _ _ _ _ _ c.requires.0 c.next_only.ensures none)

pub returns-in-loop-p-2 : goal.returns-in-loop-p-2
returns-in-loop-p-2 c =
    let refused : c.next_only.result ≡ Err (record {}) = search rules in
    absurd (never-refused _ _ _ _ _ _ c.requires.0 c.next_only.ensures refused)

pub returns-in-Ok-Some : goal.returns-in-Ok-Some
returns-in-Ok-Some c =
    let lost : c.get.result ≡ None = search rules in
    absurd (never-lost _ _ _ _ _ _ c.requires.0 c.next_only.ensures _ (ok_told c.next_only.result _ _ c.in-Ok-Some.is c.in-Ok-Some.field-0-is) (sym c.get.ensures ∙ lost))
