use Rattle.std.specs.Prelude.{Ok, Err, None}
use Rattle.std.proofs.Common.{rules}
use Prim.Native.Nat.{suc}
use mathlib.Core.List.{List}
use mathlib.Core.Path.{◌≡◌, sym, ap, ◌∙◌}
use native.Mathlib.Numerals.{add-one}
use native.Mathlib.Omega.{arith}
use lib.ListN.{length, drop, length-append}
use Rattle.rtr_base.proofs.Told.{ok_told}
use Rattle.rtr_room.specs.Room.{records}
use Rattle.rtr_room.specs.declared.Record.{Record}
use Rattle.rtr_room.proofs.Laws.{rules-size}
use Rattle.rtr_receiver.specs.Promises.{record_limit}
use Rattle.rtr_diffs.specs.Diffs.{change_lines}
use Rattle.rtr_diffs.specs.Private.{side_lines}
use Rattle.rtr_diffs.proofs.Texts.{side-none, side-next}
use Rattle.rtr_diffs.proofs.Search.{found-next, the-record, never-lost, none_left, never-refused}
use Rattle.rtr_diffs.proofs.side_length.Goals as goal

pub overflow_add-sum : goal.overflow_add-sum
overflow_add-sum c =
    let l = c.loop-p in
    omega (arith, c.change_length-sum.ensures.1, l.invariant.1, l.invariant.0, (rules-size record_limit _ _ c.requires.0).1)

pub overflow_add-i : goal.overflow_add-i
overflow_add-i c = omega (arith, (found-next _ _ _ _ _ _ c.requires c.next_only.ensures _ (ok_told c.next_only.result _ _ c.in-Ok-Some.is c.in-Ok-Some.field-0-is)).below)

pub loop-p-smaller : goal.loop-p-smaller
loop-p-smaller c =
    let x = found-next _ _ _ _ _ _ c.requires c.next_only.ensures _ (ok_told c.next_only.result _ _ c.in-Ok-Some.is c.in-Ok-Some.field-0-is) in omega (arith, x.behind, x.below)

pub loop-p-preserved : goal.loop-p-preserved
loop-p-preserved c =
    let s : List Record = records c.args.a_count c.args.a.now in
    let t : List Record = records c.args.b_count c.args.b.now in
    let a = c.args in
    let l = c.loop-p in
    let x = found-next _ _ _ _ _ _ c.requires c.next_only.ensures _ (ok_told c.next_only.result _ _ c.in-Ok-Some.is c.in-Ok-Some.field-0-is) in
    let made = the-record _ _ _ _ _ _ c.requires c.next_only.ensures _ _ (ok_told c.next_only.result _ _ c.in-Ok-Some.is c.in-Ok-Some.field-0-is) (sym c.get.ensures ∙ c.in-Some.is) in
    let whole = ap length (side-next a.announced (drop l.i s) (drop (suc c.in-Ok-Some.p) s) t _ x.rest) ∙ length-append (change_lines a.announced _) (side_lines a.announced (drop (suc c.in-Ok-Some.p) s) t) in
    let made = ap (λ (e : Record). length (change_lines a.announced e)) made in
    rw add-one (omega (arith, x.below), omega (arith, l.invariant.1, c.change_length-sum.ensures.1, x.behind), omega (arith, l.invariant.2, whole, made, c.change_length-sum.ensures.0))

pub returns-in-loop-p : goal.returns-in-loop-p
returns-in-loop-p c =
    let none : c.next_only.result ≡ Ok None = search rules in
    let s : List Record = records c.args.a_count c.args.a.now in
    let t : List Record = records c.args.b_count c.args.b.now in
    let l = c.loop-p in
    let left = ap length (side-none c.args.announced (drop l.i s) t (none_left _ _ _ _ _ _ c.requires c.next_only.ensures none)) in
    (omega (arith, l.invariant.2, left), omega (arith, l.invariant.1, l.invariant.0))

pub returns-in-loop-p-2 : goal.returns-in-loop-p-2
returns-in-loop-p-2 c =
    let refused : c.next_only.result ≡ Err (record {}) = search rules in
    absurd (never-refused _ _ _ _ _ _ c.requires c.next_only.ensures refused)

pub returns-in-Ok-Some : goal.returns-in-Ok-Some
returns-in-Ok-Some c =
    let lost : c.get.result ≡ None = search rules in
    absurd (never-lost _ _ _ _ _ _ c.requires c.next_only.ensures _ (ok_told c.next_only.result _ _ c.in-Ok-Some.is c.in-Ok-Some.field-0-is) (sym c.get.ensures ∙ lost))
