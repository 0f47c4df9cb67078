-- `full_run`: what is lent decides, and the run from nothing is the full one. That the numbers fit their types is what holding them tells. Assumes nothing.
use Prim.Native.Nat.{ℕ}
use mathlib.Core.Bool.{true}
use mathlib.Core.List.{List, []}
use mathlib.Core.Path.{◌≡◌, sym, ap, ◌∙◌}
use native.Mathlib.Omega.{arith}
use Rattle.rtr_room.specs.Room.{records}
use Rattle.rtr_room.specs.declared.Record.{Record}
use Rattle.rtr_room.proofs.Laws.{records-none, empty-is}
use Rattle.rtr_receiver.specs.Fits.{TableNumbersFit}
use Rattle.rtr_receiver.specs.declared.LoadKind.{LoadKind}
use Rattle.rtr_listing.specs.Promises.{puts}
use Rattle.rtr_listing.proofs.Calls.{fails, holds}
use Rattle.rtr_cache.specs.Cache.{run_bytes, is_lent}
use Rattle.rtr_cache.specs.Serves.{RoomFits}
use Rattle.rtr_cache.proofs.Laws.{full-is-change-from-none, lent-rules, lent-within, full-refused, full-lent}
use Rattle.rtr_cache.proofs.Owned.{table-owned}
use Rattle.rtr_cache.proofs.full_run.Goals as goal

pub returns-then-not-is_lent : goal.returns-then-not-is_lent
returns-then-not-is_lent c =
    let held : TableNumbersFit c.args.end × RoomFits c.args.room.now = (table-owned c.args.end _ c.well_formed.1.0, λ i. omega (arith, c.shared_slice_known-1.given i)) in
    let a = c.args in record {
      says = sym (full-refused a.version a.end a.room.now a.count a.out.now (fails c.is_lent.ensures c.if-not-is_lent.true-raw));
      numbers_fit = held;
    }

pub write_run-requires : goal.write_run-requires
write_run-requires c =
    let lent : is_lent c.args.count c.args.room.now ≡ true = holds c.is_lent.ensures c.if-not-is_lent.false-raw in
    let is = lent in
    (((empty-is 0).1, (lent-rules _ _ is).1), (omega arith, omega (arith, lent-within _ _ is)))

pub returns : goal.returns
returns c =
    let held : TableNumbersFit c.args.end × RoomFits c.args.room.now = (table-owned c.args.end _ c.well_formed.1.0, λ i. omega (arith, c.shared_slice_known-1.given i)) in
    let lent : is_lent c.args.count c.args.room.now ≡ true = holds c.is_lent.ensures c.if-not-is_lent.false-raw in
    let a = c.args in record {
      says = c.write_run.ensures
          ∙ ap (λ (none : List Record). puts (run_bytes LoadKind.Change a.version a.end none (records a.count a.room.now)) a.out.now) (records-none [])
          ∙ ap (λ (b : List ℕ). puts b a.out.now) (sym (full-is-change-from-none a.version a.end [] (records a.count a.room.now)))
          ∙ sym (full-lent a.version a.end a.room.now a.count a.out.now lent);
      numbers_fit = held;
    }
