-- The two engines on tables: each may be asked of the room of every table for every route, the too long ones too, and what it promises there is the table's
-- state; so they agree (`engines-agree-on-tables`). Document 02, request One: "proved equal on every table and route". Assumes nothing.
use Prim.Native.Nat.{ℕ, ◌≤◌, ◌<◌}
use mathlib.Core.Bool.{true}
use mathlib.Core.List.{List}
use mathlib.Core.Path.{◌≡◌, refl, sym, ap, ◌∙◌}
use contract.Lifetimes.{Lfts}
use borrow.Fn.World.{ArgsD}
use lib.ListN.{length}
use Rattle.rtr_room.specs.Table.{is_table}
use Rattle.rtr_room.specs.Room.{room, records, is_room, limit_of}
use Rattle.rtr_room.specs.declared.Record.{Record}
use Rattle.rtr_room.proofs.Laws.{records-of-room, room-limit, rules-exactly}
use Rattle.rtr_origin.specs.Origin.{state_of}
use Rattle.rtr_origin.specs.Private.{Under}
use Rattle.rtr_origin.specs.Judged.{target_of, named, strongest}
use Rattle.rtr_origin.specs.declared.Route.{Route}
use Rattle.rtr_origin.proofs.Answers.{under_none, as-named}
use Rattle.rtr_origin.specs.contracts.by_order.{signature}
use Rattle.rtr_origin.proofs.by_order.Reads as order-reads
use Rattle.rtr_origin.specs.contracts.scan.{signature as scan-signature}
use Rattle.rtr_origin.proofs.scan.Reads as scan-reads

module _ (limit : ℕ) (t : List Record) (h : is_table t ≡ true) (l : length t ≤ limit) where
  -- its room keeps the rules
  in-rule : is_room (limit_of (room limit t)) (length t) (room limit t) ≡ true
  in-rule = rw (room-limit limit t l) ((rules-exactly limit (length t) (room limit t)).1 (t, h, refl, l, refl))

  module _ (κs : Lfts 1) (a : ArgsD signature κs) (room-is : a.0.now ≡ room limit t) (count-is : a.1.0 ≡ length t) where
    the-records : records a.1.0 a.0.now ≡ t
    the-records = ap (λ (n : ℕ). records n a.0.now) count-is ∙ ap (λ (s : List ℕ). records (length t) s) room-is ∙ records-of-room limit t

    -- with two numbers that are low enough it may be asked
    pub by-order-asked : Under a.1.1.0 a.1.1.1.0 a.1.1.1.1.0 t → order-reads.Pre κs a
    by-order-asked u = (rw (room-is, count-is) in-rule, rw the-records u)

    -- and what it finds is the table's state
    pub by-order-is-state : (r : _) (s : _) → order-reads.Post κs a r s → r ≡ state_of a.1.1.1.1.0 t
    by-order-is-state r s p = p ∙ ap (state_of a.1.1.1.1.0) the-records

  -- the scan, of a route as a record: the strength that it finds stands for the table's state
  module _ (κs : Lfts 1) (a : ArgsD scan-signature κs) (room-is : a.0.now ≡ room limit t) (count-is : a.1.0 ≡ length t) (q : Route) (byte : q.length < 256) (route-is : a.1.1.0 ≡ target_of q) where
    pub scan-is-state : (n : _) (s : _) → scan-reads.Post κs a n s → named n ≡ state_of q t
    scan-is-state n s p =
        as-named q a.1.1.0 route-is byte t n (named n) refl
        (p ∙ ap (λ (x : List Record). strongest a.1.1.0 x) (ap (λ (k : ℕ). records k a.0.now) count-is ∙ ap (λ (x : List ℕ). records (length t) x) room-is ∙ records-of-room limit t))

  -- so the two agree on every table and route, those that 23 refuses too
  pub engines-agree-on-tables : (κs : Lfts 1) (a : ArgsD signature κs) (κs' : Lfts 1) (a' : ArgsD scan-signature κs') (q : Route) →
      a.0.now ≡ room limit t → a.1.0 ≡ length t → a.1.1.1.1.0 ≡ q →
      a'.0.now ≡ room limit t → a'.1.0 ≡ length t → a'.1.1.0 ≡ target_of q → q.length < 256 →
      (r : _) (s : _) (n : _) (s' : _) → order-reads.Post κs a r s → scan-reads.Post κs' a' n s' → r ≡ named n
  engines-agree-on-tables κs a κs' a' q room-is count-is route-is room-is' count-is' route-is' byte r s n s' p p' =
      by-order-is-state κs a room-is count-is r s p ∙ ap (λ (x : Route). state_of x t) route-is ∙ sym (scan-is-state κs' a' room-is' count-is' q byte route-is' n s' p')

-- 0 and 0 are low enough for every table and route
pub always-asked : (q : Route) (t : List Record) → Under 0 0 q t
always-asked = under_none
