-- Every receiver can be listed: where the limit is not the session's, the live room breaks the room rules, or a record stands without a table, there is a reason for 22 of the
-- receiver's own (shape-exactly). Assumes nothing.
use Rattle.std.specs.Prelude.{Option, Some, None}
use Prim.Native.Nat.{ℕ, zero, suc, ◌<◌}
use mathlib.Core.Bool.{Bool, true, false, ◌||◌, true≢false}
use mathlib.Core.List.{List}
use mathlib.Core.Path.{◌≡◌, refl, sym, ◌∙◌}
use native.Mathlib.Omega.{arith}
use borrow.Author.Tests.{eqb-true, leb-true, leb-false}
use lib.Dec.{eqb, leb}
use Rattle.rtr_room.specs.Room.{is_room}
use Rattle.rtr_room.proofs.Laws.{rules-exactly}
use Rattle.rtr_receiver.specs.History.{has_table}
use Rattle.rtr_receiver.specs.Promises.{Reason, is_receiver, has_limit}
use Rattle.rtr_receiver.specs.Promises.Reason.{other_limit, live_over, live_rules, records_without_table}
use Rattle.rtr_receiver.specs.declared.Session.{Session}
use Rattle.rtr_receiver.proofs.Shape.{shape-exactly}
use Rattle.rtr_listing.specs.Promises.{is_listed}
use Rattle.rtr_receiver.specs.declared.Table.{Table}

unless-false : (b : Bool) → (b ≡ false → ⊥) → b ≡ true
unless-false true h = refl
unless-false false h = absurd (h refl)

pub above_zero : (n : ℕ) → eqb n 0 ≡ false → 0 < n
above_zero zero e = absurd (true≢false e)
above_zero (suc n) e = omega arith

module _ (limit : ℕ) (s : Session) (live working hold : List ℕ) (shape : is_receiver limit s live working hold ≡ true) where
  no-reason : Reason limit s live working hold → ⊥
  no-reason reason = true≢false (sym shape ∙ (shape-exactly limit s live working hold).1 reason)

  broken : (c : Bool) → leb s.live.records limit ≡ c → is_room limit s.live.records live ≡ false → Reason limit s live working hold
  broken true q e =
      live_rules (λ t table count same. true≢false (sym ((rules-exactly limit s.live.records live).1 (t, table, count, leb-true s.live.records limit q, same)) ∙ e))
  broken false q e = live_over (leb-false s.live.records limit q)

  tabled : (t : Option Table) → s.table ≡ t → (has_table t || eqb s.live.records 0) ≡ true
  tabled (Some t) e = refl
  tabled None e = unless-false _ (λ q. no-reason (records_without_table e (above_zero s.live.records q)))

  -- without a table there is no record
  pub no-records : s.table ≡ None → s.live.records ≡ 0
  no-records e = eqb-true s.live.records 0 (tabled None e)

  pub receiver-is-listed : is_listed limit s live ≡ true
  receiver-is-listed =
      let keeps : is_room limit s.live.records live ≡ true = unless-false _ (λ e. no-reason (broken (leb s.live.records limit) refl e)) in
      let limited : has_limit limit s ≡ true = unless-false _ (λ e. no-reason (other_limit e)) in
      simp (limited, keeps, tabled s.table refl)
