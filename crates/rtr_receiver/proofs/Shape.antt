-- 22 is given exactly where document 01 says: receiver shape is missing where one of its reasons holds, and nowhere else. Assumes nothing.
use Rattle.std.specs.Prelude.{Option, Some, None}
use Rattle.std.proofs.Common.{◌≡◌, ℕ, ◌*◌, ◌<◌, ◌≤◌, Bool, true, false, not, ◌&&◌, ◌||◌, eqb, leb, ◌⊎◌, ◌↔◌, List, length, take, sym, refl, ap, ◌∙◌, inl, inr, true≢false, arith, eqb-true, leb-false, leb-true}
use borrow.Author.Tests.{eqb-false, not-true, not-false}
use Rattle.rtr_codec.specs.Reading.{in_use}
use Rattle.rtr_stream.specs.Stream.{Heard, judge}
use Rattle.rtr_stream.specs.Search.{is_stream}
use Rattle.rtr_stream.proofs.Laws.{stream-has, stream-exactly}
use Rattle.rtr_room.specs.Room.{is_room}
use Rattle.rtr_room.proofs.Laws.{rules-exactly}
use Rattle.rtr_room.proofs.Laws.Tests.{first_of, second-of, not-both, unless}
use Rattle.rtr_receiver.specs.Contents.{Rooms, BreaksRules}
use Rattle.rtr_receiver.specs.History.{has_table}
use Rattle.rtr_receiver.specs.Promises.{change_under_way, is_loading, is_stopped, in_order, has_limit, is_receiver, Reason}
use Rattle.rtr_receiver.specs.Promises.Reason.{live_size, working_size, hold_size, live_over, working_over, held_over, live_rules, working_rules, records_without_table, change_without_table, working_outside_loading, held_in_stopped, held_pdu, held_refusal, other_limit}
use Rattle.rtr_receiver.specs.declared.Session.{Session}
use Rattle.rtr_receiver.proofs.Memory.{room-size, shape_is, not-shape-limit, not-shape-live, not-shape-working, not-shape-hold, not-shape-order}
use Rattle.rtr_receiver.specs.declared.Table.{Table}

-- ---- Tests

and-fails : (a b : Bool) → a && b ≡ false → (a ≡ false) ⊎ (b ≡ false)
and-fails true b e = inr e
and-fails false b e = inl refl

or-fails : (a b : Bool) → a || b ≡ false → (a ≡ false) × (b ≡ false)
or-fails true b e = absurd (true≢false e)
or-fails false b e = (refl, e)

or-other : (a b : Bool) → a || b ≡ true → a ≡ false → b ≡ true
or-other true b e q = absurd (true≢false q)
or-other false b e q = e

no_table : (t : Option Table) → has_table t ≡ false → t ≡ None
no_table None e = refl
no_table (Some t) e = absurd (true≢false e)

above_zero : (n : ℕ) → eqb n 0 ≡ false → 0 < n
above_zero n e = let h : n ≡ 0 → ⊥ = eqb-false n 0 e in omega arith

-- ---- Each test and its reasons

-- a room that is none: of another size, over its limit, or against the rules
room-fails : (limit count : ℕ) (s : List ℕ) → is_room limit count s ≡ false → (length s ≡ 6 * limit → ⊥) ⊎ ((limit < count) ⊎ BreaksRules limit (record { records = count }) s)
room-fails limit count s e = by_size (eqb (length s) (6 * limit)) refl
  where
    by_count : (b : Bool) → leb count limit ≡ b → (limit < count) ⊎ BreaksRules limit (record { records = count }) s
    by_count false q = inl (leb-false count limit q)
    by_count true q = inr (λ t h l r. not-both _ ((rules-exactly limit count s).1 (t, h, l, leb-true count limit q, r)) e)

    by_size : (b : Bool) → eqb (length s) (6 * limit) ≡ b → (length s ≡ 6 * limit → ⊥) ⊎ ((limit < count) ⊎ BreaksRules limit (record { records = count }) s)
    by_size false q = inl (eqb-false (length s) (6 * limit) q)
    by_size true q = inr (by_count (leb count limit) refl)

-- a room keeps the rules
room-keeps : (limit count : ℕ) (s : List ℕ) → is_room limit count s ≡ true → BreaksRules limit (record { records = count }) s → ⊥
room-keeps limit count s e breaks = let r = (rules-exactly limit count s).0 e in breaks r.0 r.1 r.2 r.4

-- what a session in order has
record InOrder (s : Session) : Type 0 where
  pub records : s.table ≡ None → s.live.records ≡ 0
  pub change : s.table ≡ None → change_under_way s.phase ≡ false
  pub working : is_loading s.phase ≡ false → s.working.records ≡ 0
  pub held : is_stopped s.phase ≡ true → s.held ≡ 0

order-has : (s : Session) → in_order s ≡ true → InOrder s
order-has s e =
    let table = first_of (has_table s.table || (eqb s.live.records 0 && not (change_under_way s.phase))) _ e in
    let rest = second-of (has_table s.table || (eqb s.live.records 0 && not (change_under_way s.phase))) _ e in
    record {
      records = λ t. eqb-true s.live.records 0 (first_of _ _ (or-other (has_table s.table) _ table (ap has_table t)));
      change = λ t. not-true _ (second-of (eqb s.live.records 0) _ (or-other (has_table s.table) _ table (ap has_table t)));
      working = λ l. eqb-true s.working.records 0 (or-other (is_loading s.phase) _ (first_of (is_loading s.phase || eqb s.working.records 0) _ rest) l);
      held = λ l. eqb-true s.held 0 (or-other (not (is_stopped s.phase)) _ (second-of (is_loading s.phase || eqb s.working.records 0) _ rest) (ap not l));
    }

module _ (limit : ℕ) (s : Session) (live working : Rooms) (hold : List ℕ) where
  by-live : is_room limit s.live.records live ≡ false → Reason limit s live working hold
  by-live e = go (room-fails limit s.live.records live e)
    where
      go : (length live ≡ 6 * limit → ⊥) ⊎ ((limit < s.live.records) ⊎ BreaksRules limit s.live live) → Reason limit s live working hold
      go (inl h) = live_size h
      go (inr (inl h)) = live_over h
      go (inr (inr h)) = live_rules h

  by-working : is_room limit s.working.records working ≡ false → Reason limit s live working hold
  by-working e = go (room-fails limit s.working.records working e)
    where
      go : (length working ≡ 6 * limit → ⊥) ⊎ ((limit < s.working.records) ⊎ BreaksRules limit s.working working) → Reason limit s live working hold
      go (inl h) = working_size h
      go (inr (inl h)) = working_over h
      go (inr (inr h)) = working_rules h

  by-hold : is_stream hold s.held ≡ false → Reason limit s live working hold
  by-hold e = by_size (leb 8 (length hold)) refl
    where
      by_heard : 8 ≤ length hold → s.held ≤ length hold → (h : Heard) → judge in_use (length hold) (take s.held hold) ≡ h → Reason limit s live working hold
      by_heard l m Heard.waits q = absurd (not-both _ (stream-exactly hold s.held l m q) e)
      by_heard l m (Heard.whole pdu) q = held_pdu pdu q
      by_heard l m (Heard.refused number values) q = held_refusal number values q

      by_count : 8 ≤ length hold → (b : Bool) → leb s.held (length hold) ≡ b → Reason limit s live working hold
      by_count l false q = held_over (leb-false s.held (length hold) q)
      by_count l true q = by_heard l (leb-true s.held (length hold) q) (judge in_use (length hold) (take s.held hold)) refl

      by_size : (b : Bool) → leb 8 (length hold) ≡ b → Reason limit s live working hold
      by_size false q = hold_size (leb-false 8 (length hold) q)
      by_size true q = by_count (leb-true 8 (length hold) q) (leb s.held (length hold)) refl

  by_order : in_order s ≡ false → Reason limit s live working hold
  by_order e = go (and-fails (has_table s.table || (eqb s.live.records 0 && not (change_under_way s.phase))) _ e)
    where
      table : s.table ≡ None → (eqb s.live.records 0 ≡ false) ⊎ (not (change_under_way s.phase) ≡ false) → Reason limit s live working hold
      table t (inl q) = records_without_table t (above_zero s.live.records q)
      table t (inr q) = change_without_table t (not-false _ q)

      rest : ((is_loading s.phase || eqb s.working.records 0) ≡ false) ⊎ ((not (is_stopped s.phase) || eqb s.held 0) ≡ false) → Reason limit s live working hold
      rest (inl q) = let r = or-fails (is_loading s.phase) _ q in working_outside_loading r.0 (above_zero s.working.records r.1)
      rest (inr q) = let r = or-fails (not (is_stopped s.phase)) _ q in held_in_stopped (not-false _ r.0) (above_zero s.held r.1)

      go : ((has_table s.table || (eqb s.live.records 0 && not (change_under_way s.phase))) ≡ false)
          ⊎ (((is_loading s.phase || eqb s.working.records 0) && (not (is_stopped s.phase) || eqb s.held 0)) ≡ false) →
          Reason limit s live working hold
      go (inl q) = let r = or-fails (has_table s.table) _ q in table (no_table s.table r.0) (and-fails (eqb s.live.records 0) _ r.1)
      go (inr q) = rest (and-fails (is_loading s.phase || eqb s.working.records 0) _ q)

  reason-of : is_receiver limit s live working hold ≡ false → Reason limit s live working hold
  reason-of e = limit-test (has_limit limit s) refl
    where
      order-test : has_limit limit s ≡ true → is_room limit s.live.records live ≡ true → is_room limit s.working.records working ≡ true → is_stream hold s.held ≡ true → (b : Bool) → in_order s ≡ b → Reason limit s live working hold
      order-test k l w h false o = by_order o
      order-test k l w h true o = absurd (not-both _ (shape_is limit s live working hold l w h o k) e)

      hold-test : has_limit limit s ≡ true → is_room limit s.live.records live ≡ true → is_room limit s.working.records working ≡ true → (b : Bool) → is_stream hold s.held ≡ b → Reason limit s live working hold
      hold-test k l w false h = by-hold h
      hold-test k l w true h = order-test k l w h (in_order s) refl

      working-test : has_limit limit s ≡ true → is_room limit s.live.records live ≡ true → (b : Bool) → is_room limit s.working.records working ≡ b → Reason limit s live working hold
      working-test k l false w = by-working w
      working-test k l true w = hold-test k l w (is_stream hold s.held) refl

      live_test : has_limit limit s ≡ true → (b : Bool) → is_room limit s.live.records live ≡ b → Reason limit s live working hold
      live_test k false l = by-live l
      live_test k true l = working-test k l (is_room limit s.working.records working) refl

      limit-test : (b : Bool) → has_limit limit s ≡ b → Reason limit s live working hold
      limit-test false k = other_limit k
      limit-test true k = live_test k (is_room limit s.live.records live) refl

  not_live : (is_room limit s.live.records live ≡ true → ⊥) → is_receiver limit s live working hold ≡ false
  not_live h = not-shape-live limit s live working hold (unless _ h)

  not-working : (is_room limit s.working.records working ≡ true → ⊥) → is_receiver limit s live working hold ≡ false
  not-working h = not-shape-working limit s live working hold (unless _ h)

  not-hold : (is_stream hold s.held ≡ true → ⊥) → is_receiver limit s live working hold ≡ false
  not-hold h = not-shape-hold limit s live working hold (unless _ h)

  not-order : (InOrder s → ⊥) → is_receiver limit s live working hold ≡ false
  not-order h = not-shape-order limit s live working hold (unless _ (λ o. h (order-has s o)))

  -- a judgement that is no wish for more
  judged-other : (h : Heard) → (Heard.waits ≡ h → ⊥) → judge in_use (length hold) (take s.held hold) ≡ h → is_receiver limit s live working hold ≡ false
  judged-other h differs e = not-hold (λ t. differs (sym (stream-has hold s.held t).2 ∙ e))

  by-reason : Reason limit s live working hold → is_receiver limit s live working hold ≡ false
  by-reason (other_limit h) = not-shape-limit limit s live working hold h
  by-reason (live_size h) = not_live (λ t. h (room-size limit s.live.records live t).0)
  by-reason (working_size h) = not-working (λ t. h (room-size limit s.working.records working t).0)
  by-reason (hold_size h) = not-hold (λ t. omega (arith, (stream-has hold s.held t).0))
  by-reason (live_over h) = not_live (λ t. omega (arith, (room-size limit s.live.records live t).1))
  by-reason (working_over h) = not-working (λ t. omega (arith, (room-size limit s.working.records working t).1))
  by-reason (held_over h) = not-hold (λ t. omega (arith, (stream-has hold s.held t).1))
  by-reason (live_rules h) = not_live (λ t. room-keeps limit s.live.records live t h)
  by-reason (working_rules h) = not-working (λ t. room-keeps limit s.working.records working t h)
  by-reason (records_without_table t h) = not-order (λ o. omega (arith, o.records t))
  by-reason (change_without_table t h) = not-order (λ o. not-both _ h (o.change t))
  by-reason (working_outside_loading l h) = not-order (λ o. omega (arith, o.working l))
  by-reason (held_in_stopped l h) = not-order (λ o. omega (arith, o.held l))
  by-reason (held_pdu pdu e) = judged-other (Heard.whole pdu) (λ q. let z : ◌≡◌ {A = ℕ} 0 1 = cc in omega arith) e
  by-reason (held_refusal number values e) = judged-other (Heard.refused number values) (λ q. let z : ◌≡◌ {A = ℕ} 0 1 = cc in omega arith) e

  -- 22 exactly where one of the reasons holds
  pub shape-exactly : is_receiver limit s live working hold ≡ false ↔ Reason limit s live working hold
  shape-exactly = (reason-of, by-reason)
