use Rattle.std.specs.Prelude.{Ok, Err, None}
use Rattle.std.proofs.Common.{rules}
use Prim.Native.Nat.{ℕ, suc, ◌+◌, ◌*◌, ◌≤◌}
use mathlib.Core.Bool.{Bool}
use mathlib.Core.List.{List, []}
use mathlib.Core.Path.{◌≡◌, sym, ap, ◌∙◌}
use native.Mathlib.Numerals.{add-one}
use native.Mathlib.Omega.{arith}
use lib.ListN.{length, drop, length-append}
use Rattle.rtr_base.proofs.Told.{ok_told}
use Rattle.rtr_models.specs.declared.RtrProtocolVersion.{RtrProtocolVersion}
use Rattle.rtr_room.specs.Room.{records, record_at}
use Rattle.rtr_room.specs.declared.Record.{Record}
use Rattle.rtr_changes.specs.Changes.{without}
use Rattle.rtr_cache.specs.Private.{side_bytes}
use Rattle.rtr_cache.proofs.RunParts.{prefix_part, side-none, side-next}
use Rattle.rtr_cache.proofs.Search.{found-next, the-record, never-lost, none_left, never-refused}
use Rattle.rtr_cache.proofs.side_length.Goals as goal

-- where nothing is left, the sum is the whole
side-counted : (s t : List Record) (m i sum : ℕ)
    → (i ≤ m) × (sum ≤ 32 * i) × ((v : RtrProtocolVersion) (announced : Bool) → sum + length (side_bytes v announced (drop i s) t) ≡ length (side_bytes v announced s t))
    → without (drop i s) t ≡ []
    → ((v : RtrProtocolVersion) (announced : Bool) → sum ≡ length (side_bytes v announced s t)) × (sum ≤ 32 * m)
side-counted s t m i sum inv none = (λ v announced. omega (arith, inv.2 v announced, ap length (side-none v announced (drop i s) t none)), omega arith)

pub overflow_add-i : goal.overflow_add-i
overflow_add-i c = omega (arith, (found-next _ _ _ _ _ _ c.requires.0 c.next_only.ensures _ (ok_told c.next_only.result _ _ c.in-Ok-Some.is c.in-Ok-Some.field-0-is)).below)

pub loop-p-smaller : goal.loop-p-smaller
loop-p-smaller c =
    let x = found-next _ _ _ _ _ _ c.requires.0 c.next_only.ensures _ (ok_told c.next_only.result _ _ c.in-Ok-Some.is c.in-Ok-Some.field-0-is) in omega (arith, x.behind, x.below)

pub loop-p-preserved : goal.loop-p-preserved
loop-p-preserved c =
    let s : List Record = records c.args.a_count c.args.a.now in
    let t : List Record = records c.args.b_count c.args.b.now in
    let l = c.loop-p in
    let x = found-next _ _ _ _ _ _ c.requires.0 c.next_only.ensures _ (ok_told c.next_only.result _ _ c.in-Ok-Some.is c.in-Ok-Some.field-0-is) in
    let left = drop (suc c.in-Ok-Some.p) s in
    let r = record_at c.args.a.now c.in-Ok-Some.p in
    let sum_is : (v : RtrProtocolVersion) (announced : Bool) → l.sum + c.prefix_size-sum.result + length (side_bytes v announced left t) ≡ length (side_bytes v announced s t) =
    λ v announced.
    let whole = ap length (side-next v announced (drop l.i s) t left r x.rest) ∙ length-append (prefix_part v announced r) (side_bytes v announced left t) in
    let made = ap (λ (e : Record). length (prefix_part v announced e)) (the-record _ _ _ _ _ _ c.requires.0 c.next_only.ensures _ _ (ok_told c.next_only.result _ _ c.in-Ok-Some.is c.in-Ok-Some.field-0-is) (sym c.get.ensures ∙ c.in-Some.is)) in
    omega (arith, l.invariant.2 v announced, whole, made, c.prefix_size-sum.ensures.0 v announced) in
    rw add-one (omega (arith, x.below), omega (arith, l.invariant.1, c.prefix_size-sum.ensures.1, x.behind), sum_is)

pub returns-in-loop-p : goal.returns-in-loop-p
returns-in-loop-p c =
    let none : c.next_only.result ≡ Ok None = search rules in
    side-counted _ _ _ _ _ c.loop-p.invariant (none_left _ _ _ _ _ _ c.requires.0 c.next_only.ensures none)

pub returns-in-loop-p-2 : goal.returns-in-loop-p-2
returns-in-loop-p-2 c =
    let refused : c.next_only.result ≡ Err (record {}) = search rules in
    absurd (never-refused _ _ _ _ _ _ c.requires.0 c.next_only.ensures refused)

pub returns-in-Ok-Some : goal.returns-in-Ok-Some
returns-in-Ok-Some c =
    let lost : c.get.result ≡ None = search rules in
    absurd (never-lost _ _ _ _ _ _ c.requires.0 c.next_only.ensures _ (ok_told c.next_only.result _ _ c.in-Ok-Some.is c.in-Ok-Some.field-0-is) (sym c.get.ensures ∙ lost))
