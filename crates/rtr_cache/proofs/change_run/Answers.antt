-- `change_run`: what is lent decides. That the numbers fit their types is what holding them tells. Assumes nothing.
use mathlib.Core.Bool.{true}
use mathlib.Core.Logic.{inl, inr}
use mathlib.Core.Path.{◌≡◌, sym, ◌∙◌}
use native.Mathlib.Omega.{arith}
use Rattle.rtr_listing.proofs.Calls.{fails, holds}
use Rattle.rtr_cache.specs.Cache.{is_lent}
use Rattle.rtr_receiver.specs.Fits.{TableNumbersFit}
use Rattle.rtr_cache.specs.Serves.{RoomFits}
use Rattle.rtr_cache.proofs.Laws.{lent-rules, lent-within, change-refused, change-lent}
use Rattle.rtr_cache.proofs.Owned.{table-owned}
use Rattle.rtr_cache.proofs.change_run.Goals as goal

pub returns-then-not-is_lent : goal.returns-then-not-is_lent
returns-then-not-is_lent c =
    let held : TableNumbersFit c.args.end × (RoomFits c.args.first.now × RoomFits c.args.second.now) = let end = table-owned c.args.end _ c.well_formed.1.0 in
    (end, ((λ i. omega (arith, c.shared_slice_known-1.given i)), (λ i. omega (arith, c.shared_slice_known-2-1.given i)))) in
    let a = c.args in
    let off = inl (fails c.is_lent.ensures c.if-not-is_lent.true-raw) in record {
      says = sym (change-refused a.version a.end a.first.now a.first_count a.second.now a.second_count a.out.now off);
      numbers_fit = held;
    }

pub returns-then-not-is_lent-2 : goal.returns-then-not-is_lent-2
returns-then-not-is_lent-2 c =
    let held : TableNumbersFit c.args.end × (RoomFits c.args.first.now × RoomFits c.args.second.now) = let end = table-owned c.args.end _ c.well_formed.1.0 in
    (end, ((λ i. omega (arith, c.shared_slice_known-1.given i)), (λ i. omega (arith, c.shared_slice_known-2-1.given i)))) in
    let a = c.args in
    let off = inr (fails c.is_lent-2.ensures c.if-not-is_lent-2.true-raw) in record {
      says = sym (change-refused a.version a.end a.first.now a.first_count a.second.now a.second_count a.out.now off);
      numbers_fit = held;
    }

pub write_run-requires : goal.write_run-requires
write_run-requires c =
    let lent : (is_lent c.args.first_count c.args.first.now ≡ true) × (is_lent c.args.second_count c.args.second.now ≡ true) = (holds c.is_lent.ensures c.if-not-is_lent.false-raw, holds c.is_lent-2.ensures c.if-not-is_lent-2.false-raw) in
    let is = lent in
    (((lent-rules _ _ is.0).1, (lent-rules _ _ is.1).1), (omega (arith, lent-within _ _ is.0), omega (arith, lent-within _ _ is.1)))

pub returns : goal.returns
returns c =
    let held : TableNumbersFit c.args.end × (RoomFits c.args.first.now × RoomFits c.args.second.now) = let end = table-owned c.args.end _ c.well_formed.1.0 in
    (end, ((λ i. omega (arith, c.shared_slice_known-1.given i)), (λ i. omega (arith, c.shared_slice_known-2-1.given i)))) in
    let lent : (is_lent c.args.first_count c.args.first.now ≡ true) × (is_lent c.args.second_count c.args.second.now ≡ true) = (holds c.is_lent.ensures c.if-not-is_lent.false-raw, holds c.is_lent-2.ensures c.if-not-is_lent-2.false-raw) in
    let a = c.args in
    let is = lent in
    let says = change-lent a.version a.end a.first.now a.first_count a.second.now a.second_count a.out.now is.0 is.1 in record {
      says = c.write_run.ensures ∙ sym says;
      numbers_fit = held;
    }
