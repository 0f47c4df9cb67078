-- What receiver shape, the table and the route's length decide of a question: 22 exactly where the shape is missing, then 21 exactly where there is no table,
-- then 23 exactly where the route is longer than its family allows; else the state, by the live table alone. By the cases of each test. Assumes nothing.
use Rattle.std.specs.Prelude.{Option, Some, None}
use Prim.Native.Nat.{ℕ, ◌≤◌, ◌<◌}
use mathlib.Core.Bool.{Bool, true, false, cond}
use mathlib.Core.List.{List}
use mathlib.Core.Logic.{◌↔◌}
use mathlib.Core.Path.{◌≡◌, refl}
use native.Mathlib.Omega.{arith}
use lib.Dec.{leb}
use borrow.Author.Tests.{leb-false, le-leb, lt-leb}
use Rattle.rtr_receiver.specs.Contents.{Rooms, contents}
use Rattle.rtr_receiver.specs.History.{has_table}
use Rattle.rtr_receiver.specs.Promises.{is_receiver}
use Rattle.rtr_receiver.specs.declared.Session.{Session}
use Rattle.rtr_origin.specs.Origin.{longest_in, state_of}
use Rattle.rtr_origin.specs.Promises.{RouteSays, validate_says}
use Rattle.rtr_origin.specs.Promises.RouteSays.{state, refused}
use Rattle.rtr_origin.specs.declared.Route.{Route}
use Rattle.rtr_origin.specs.declared.RoutePrefix.TheVariants.{IPv4, IPv6}
use Rattle.rtr_receiver.specs.declared.Table.{Table}

module _ (limit : ℕ) (s : Session) (live working : Rooms) (hold : List ℕ) (q : Route) where
  -- without the shape 22, whatever else
  pub shapeless-validate : is_receiver limit s live working hold ≡ false → validate_says limit s live working hold q ≡ refused 22
  unfolding validate_says
  shapeless-validate e = rw e

  module _ (e : is_receiver limit s live working hold ≡ true) where
    -- without a table 21, however long the route
    pub untabled-validate : s.table ≡ None → validate_says limit s live working hold q ≡ refused 21
    unfolding validate_says
    untabled-validate t = rw (e, t)

    module _ (t : has_table s.table ≡ true) where
      -- a route that is too long 23
      pub too-long-validate : longest_in q.prefix < q.length → validate_says limit s live working hold q ≡ refused 23
      unfolding validate_says
      too-long-validate l = rw (e, t, lt-leb q.length (longest_in q.prefix) l)

      -- any other its state by the live table: the working room, the hold and the phase play no part
      pub shaped-validate : q.length ≤ longest_in q.prefix → validate_says limit s live working hold q ≡ state (state_of q (contents s.live live))
      unfolding validate_says
      shaped-validate l = rw (e, t, le-leb q.length (longest_in q.prefix) l)

      -- so an IPv4 route over 32, and an IPv6 route over 128
      pub ipv4-over-32 : (address : _) → q.prefix ≡ IPv4 address → 32 < q.length → validate_says limit s live working hold q ≡ refused 23
      ipv4-over-32 address p l = too-long-validate (rw p l)

      pub ipv6-over-128 : (address : _) → q.prefix ≡ IPv6 address → 128 < q.length → validate_says limit s live working hold q ≡ refused 23
      ipv6-over-128 address p l = too-long-validate (rw p l)

  -- each refusal for its reason alone
  abbrev answer : Bool → Bool → Bool → RouteSays
  answer x y z = cond x (cond y (cond z (state (state_of q (contents s.live live))) (refused 23)) (refused 21)) (refused 22)

  numbered : (m n : ℕ) → (m ≡ n → ⊥) → refused m ≡ refused n → ⊥
  numbered m n d e = d (cc)

  stated : (x : _) (n : ℕ) → state x ≡ refused n → ⊥
  stated x n e = let z : ◌≡◌ {A = ℕ} 0 1 = cc in omega arith

  pub refused-22-exactly : validate_says limit s live working hold q ≡ refused 22 ↔ is_receiver limit s live working hold ≡ false
  unfolding validate_says
  refused-22-exactly = (go (is_receiver limit s live working hold) (has_table s.table) (leb q.length (longest_in q.prefix)), shapeless-validate)
    where
      go : (x y z : Bool) → answer x y z ≡ refused 22 → x ≡ false
      go false y z p = refl
      go true false z p = absurd (numbered 21 22 (λ i. omega arith) p)
      go true true false p = absurd (numbered 23 22 (λ i. omega arith) p)
      go true true true p = absurd (stated _ 22 p)

  pub refused-21-exactly : validate_says limit s live working hold q ≡ refused 21 ↔ ((is_receiver limit s live working hold ≡ true) × (s.table ≡ None))
  unfolding validate_says
  refused-21-exactly = (
    (λ p.
        let w = go (is_receiver limit s live working hold) (has_table s.table) (leb q.length (longest_in q.prefix)) p in
        (w.0, none s.table w.1)),
    λ w. untabled-validate w.0 w.1,
  )
    where
      none : (t : Option Table) → has_table t ≡ false → t ≡ None
      none None h = refl
      none (Some i) h = absurd (never h)
        where
          never : true ≡ false → ⊥
          never h = let z : ◌≡◌ {A = ℕ} 0 1 = cc in omega arith

      go : (x y z : Bool) → answer x y z ≡ refused 21 → (x ≡ true) × (y ≡ false)
      go false y z p = absurd (numbered 22 21 (λ i. omega arith) p)
      go true false z p = (refl, refl)
      go true true false p = absurd (numbered 23 21 (λ i. omega arith) p)
      go true true true p = absurd (stated _ 21 p)

  pub refused-23-exactly : validate_says limit s live working hold q ≡ refused 23 ↔ ((is_receiver limit s live working hold ≡ true) × (has_table s.table ≡ true) × (longest_in q.prefix < q.length))
  unfolding validate_says
  refused-23-exactly = (
    (λ p.
        let w = go (is_receiver limit s live working hold) (has_table s.table) (leb q.length (longest_in q.prefix)) p in
        (w.0, w.1, leb-false q.length (longest_in q.prefix) w.2)),
    λ w. too-long-validate w.0 w.1 w.2,
  )
    where
      go : (x y z : Bool) → answer x y z ≡ refused 23 → (x ≡ true) × (y ≡ true) × (z ≡ false)
      go false y z p = absurd (numbered 22 23 (λ i. omega arith) p)
      go true false z p = absurd (numbered 21 23 (λ i. omega arith) p)
      go true true false p = (refl, refl, refl)
      go true true true p = absurd (stated _ 23 p)
