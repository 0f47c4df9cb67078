-- What the calls answer: the shared refusals are those of the promise, a receiver's live room is the room of a table, and what both engines
-- find of it is its state. Assumes nothing.
use Rattle.std.specs.Prelude.{Option, Some, None, is_some, Result, Ok, Err, ⊤}
use Prim.Native.Nat.{ℕ, ◌≤◌, ◌<◌}
use mathlib.Core.Bool.{Bool, true, false, cond, not}
use mathlib.Core.List.{List}
use mathlib.Core.Path.{◌≡◌, refl, sym, ap, ◌∙◌}
use native.Mathlib.Omega.{arith}
use lib.Dec.{leb, ltb}
use borrow.Author.Tests.{ltb-true, ltb-false, leb-true, leb-false, lt-ltb, le-ltb}
use Rattle.rtr_room.specs.Table.{prefix_of}
use Rattle.rtr_room.specs.Room.{records, record_at, is_room, limit_of}
use Rattle.rtr_room.specs.declared.Record.{Record}
use Rattle.rtr_room.proofs.Laws.{rules-exactly, rules-size}
use Rattle.rtr_room.proofs.Laws.Tests.{not-both}
use Rattle.rtr_receiver.specs.Contents.{Rooms, contents}
use Rattle.rtr_receiver.specs.History.{has_table}
use Rattle.rtr_receiver.specs.Promises.{is_receiver}
use Rattle.rtr_receiver.specs.Promises.Reason.{live_over, live_rules}
use Rattle.rtr_receiver.specs.declared.Session.{Session}
use Rattle.rtr_receiver.specs.declared.Table.{Table}
use Rattle.rtr_receiver.proofs.Shape.{shape-exactly}
use Rattle.rtr_origin.specs.Origin.{longest_in, state_of}
use Rattle.rtr_origin.specs.Promises.{validate_says, route_refusal}
use Rattle.rtr_origin.specs.Promises.RouteSays.{state, refused}
use Rattle.rtr_origin.specs.Private.{plain, Under}
use Rattle.rtr_origin.specs.Judged.{Asks, Walked, Ran, target_of, strength, strongest, named, bar_says, bar_said}
use Rattle.rtr_origin.specs.declared.Route.{Route}
use Rattle.rtr_origin.specs.declared.RouteState.{RouteState}
use Rattle.rtr_origin.specs.declared.RouteState.TheVariants.{Valid}
use Rattle.rtr_origin.specs.declared.ValidateError.{ValidateError}
use Rattle.rtr_origin.specs.declared.ValidateError.TheVariants.{NotAReceiver, NoTable, TooLong}
use Rattle.rtr_origin.proofs.Judging.{named-two, state-is, target-asks, all-within, strongest-within}
use Rattle.rtr_origin.proofs.Engine.{none-loose}

-- ---- refusals

-- longer than the family allows
pub over : (n : ℕ) (q : Route) → longest_in q.prefix ≡ n → ltb n q.length ≡ not (leb q.length (longest_in q.prefix))
over n q e = rw e (go (leb q.length n) refl)
  where
    go : (b : Bool) → leb q.length n ≡ b → ltb n q.length ≡ not b
    go true w = le-ltb n q.length (leb-true q.length n w)
    go false w = lt-ltb n q.length (leb-false q.length n w)

-- what the test for a table says
pub tabled : (t : Option Table) (b : Bool) → is_some t ≡ not b → b ≡ false → has_table t ≡ true
tabled None b e w = e ∙ ap not w
tabled (Some _) b e w = refl

pub untabled : (t : Option Table) (b : Bool) → is_some t ≡ not b → b ≡ true → t ≡ None
untabled None b e w = refl
untabled (Some _) b e w = absurd (cc)

module _ (limit : ℕ) (s : Session) (live working : Rooms) (hold : List ℕ) (q : Route) where
  pub bar-22 : is_receiver limit s live working hold ≡ false → 22 ≡ bar_says limit s live working hold q
  unfolding bar_says
  bar-22 e = rw e

  pub bar-21 : is_receiver limit s live working hold ≡ true → s.table ≡ None → 21 ≡ bar_says limit s live working hold q
  unfolding bar_says
  bar-21 e t = rw (e, t)

  pub bar-23 : is_receiver limit s live working hold ≡ true → has_table s.table ≡ true → leb q.length (longest_in q.prefix) ≡ false → 23 ≡ bar_says limit s live working hold q
  unfolding bar_says
  bar-23 e t l = rw (e, t, l)

  pub bar-none : is_receiver limit s live working hold ≡ true → has_table s.table ≡ true → leb q.length (longest_in q.prefix) ≡ true → 0 ≡ bar_says limit s live working hold q
  unfolding bar_says
  bar-none e t l = rw (e, t, l)

  some_number : (e : ValidateError) → route_refusal e ≡ 0 → ⊥
  some_number NotAReceiver h = omega arith
  some_number NoTable h = omega arith
  some_number TooLong h = omega arith

  pub shut-is : (b : Result ⊤ ValidateError) (e : ValidateError) → b ≡ Err e → bar_said b ≡ bar_says limit s live working hold q → refused (route_refusal e) ≡ validate_says limit s live working hold q
  unfolding validate_says bar_says
  shut-is b e w h =
      go (is_receiver limit s live working hold) (has_table s.table) (leb q.length (longest_in q.prefix)) (sym (ap bar_said w) ∙ h)
    where
      go : (x y z : Bool) → route_refusal e ≡ cond x (cond y (cond z 0 23) 21) 22
          → refused (route_refusal e) ≡ cond x (cond y (cond z (state (state_of q (contents s.live live))) (refused 23)) (refused 21)) (refused 22)
      go false y z p = ap refused p
      go true false z p = ap refused p
      go true true false p = ap refused p
      go true true true p = absurd (some_number e p)

  pub open_is : (b : Result ⊤ ValidateError) → b ≡ Ok tt → bar_said b ≡ bar_says limit s live working hold q
      → (is_receiver limit s live working hold ≡ true) × (state (state_of q (contents s.live live)) ≡ validate_says limit s live working hold q)
  unfolding validate_says bar_says
  open_is b w h = go (is_receiver limit s live working hold) (has_table s.table) (leb q.length (longest_in q.prefix)) refl (sym (ap bar_said w) ∙ h)
    where
      go : (x y z : Bool) → is_receiver limit s live working hold ≡ x → ◌≡◌ {A = ℕ} 0 (cond x (cond y (cond z 0 23) 21) 22)
          → (is_receiver limit s live working hold ≡ true) × (state (state_of q (contents s.live live)) ≡ cond x (cond y (cond z (state (state_of q (contents s.live live))) (refused 23)) (refused 21)) (refused 22))
      go false y z e p = absurd (omega arith)
      go true false z e p = absurd (omega arith)
      go true true false e p = absurd (omega arith)
      go true true true e p = (e, refl)

-- a receiver's live room is the room of a table
module _ (limit : ℕ) (s : Session) (live working : Rooms) (hold : List ℕ) where
  of-limit : is_receiver limit s live working hold ≡ true → is_room limit s.live.records live ≡ true
  of-limit e = go (is_room limit s.live.records live) refl
    where
      fits : s.live.records ≤ limit
      fits = under (ltb limit s.live.records) refl
        where
          under : (b : Bool) → ltb limit s.live.records ≡ b → s.live.records ≤ limit
          under true w = absurd (not-both _ e ((shape-exactly limit s live working hold).1 (live_over (ltb-true limit _ w))))
          under false w = ltb-false limit _ w

      go : (b : Bool) → is_room limit s.live.records live ≡ b → is_room limit s.live.records live ≡ true
      go true w = w
      go false w =
          absurd (not-both _ e ((shape-exactly limit s live working hold).1 (live_rules (λ t h n r.
          not-both _ ((rules-exactly limit s.live.records live).1 (t, h, n, fits, r)) w))))

  pub live-room : is_receiver limit s live working hold ≡ true → is_room (limit_of live) s.live.records live ≡ true
  live-room e =
      let size = (rules-size limit s.live.records live (of-limit e)).0 in
      let n : limit_of live ≡ limit = omega arith in
      rw n (of-limit e)

-- 0 and 0 are always low enough
pub under_none : (q : Route) (t : List Record) → Under 0 0 q t
under_none q t = record { none-shorter = λ d i l f p. omega arith; none-looser = λ d i l f p. omega arith }

-- ---- states

-- what a strength says is a state's
module _ (q : Route) (a : Record) (e : a ≡ target_of q) (l : q.length < 256) where
  pub asks : Asks q a
  asks = rw e (target-asks q l)

  pub as-named : (t : List Record) (n : ℕ) (r : RouteState) → r ≡ named n → n ≡ strongest a t → r ≡ state_of q t
  as-named t n r p h = p ∙ ap named h ∙ sym (state-is q a asks t)

  module _ (s : List ℕ) (count least loose : ℕ) (h : is_room (limit_of s) count s ≡ true) (u : Under least loose q (records count s)) (first : ℕ) (w : Walked least a s count first) where
    pub valid-by-walk : first ≡ 2 → Valid ≡ state_of q (records count s)
    valid-by-walk e2 = as-named (records count s) 2 Valid (named-two 2 refl) (omega (arith, w.there, strongest-within a s count))

    -- no records with host bits are short enough to cover
    pub walk-alone : prefix_of a < loose → first ≡ strongest a (records count s)
    walk-alone o = omega (arith, w.there, all-within a s count first each)
      where
        each : (i : ℕ) → i < count → strength a (record_at s i) ≤ first
        each i m = go (plain (record_at s i)) refl
          where
            go : (b : Bool) → plain (record_at s i) ≡ b → strength a (record_at s i) ≤ first
            go true p = w.all_plain q loose asks u i m p
            go false p = none-loose s count h q a asks least loose u o first i m p

    pub walk-and-run : (second r : ℕ) → Ran loose a s count second → first ≤ r → second ≤ r → ((n : ℕ) → first ≤ n → second ≤ n → r ≤ n) → r ≡ strongest a (records count s)
    walk-and-run second r v f g o = omega (arith, o _ w.there v.there, all-within a s count r each)
      where
        each : (i : ℕ) → i < count → strength a (record_at s i) ≤ r
        each i m = go (plain (record_at s i)) refl
          where
            go : (b : Bool) → plain (record_at s i) ≡ b → strength a (record_at s i) ≤ r
            go true p = omega (arith, w.all_plain q loose asks u i m p)
            go false p = omega (arith, v.all-loose q least asks u i m p)
