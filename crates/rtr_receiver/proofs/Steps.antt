-- A step of a feed, in the code's words and in the definition's: what the search found decides, and memory that stands for a receiver stands for what the
-- receiver becomes. Assumes nothing.
use Rattle.std.proofs.Common.{◌≡◌, ℕ, Bool, true, false, not, ◌&&◌, ◌||◌, eqb, ◌⊎◌, List, [], ◌∷◌, length, take, sym, refl, ap, ◌∙◌, inl, inr, arith, eq-eqb, eqb-true}
use Rattle.rtr_stream.specs.Search.{is_stream}
use Rattle.rtr_room.specs.Room.{records, is_room}
use Rattle.rtr_room.proofs.Laws.{rules-exactly, records-of-room}
use Rattle.rtr_receiver.specs.Contents.{Rooms}
use Rattle.rtr_receiver.specs.Receiver.{Receiver}
use Rattle.rtr_receiver.specs.Receiver.Stage.{stopped}
use Rattle.rtr_receiver.specs.History.{has_table}
use Rattle.rtr_receiver.specs.Promises.{stopped_by, stage_of, receiver_of, change_under_way, is_loading, is_stopped, in_order, is_limit, has_limit, is_receiver, Left, leaves, in_memory}
use Rattle.rtr_receiver.specs.declared.LoadKind.{LoadKind}
use Rattle.rtr_receiver.specs.declared.Stop.{Stop}
use Rattle.rtr_receiver.specs.declared.Phase.{Phase}
use Rattle.rtr_receiver.specs.declared.Session.{Session}
use Rattle.rtr_receiver.proofs.Memory as memory
use Rattle.rtr_receiver.proofs.Memory.{room-stands, stop-says}
use Rattle.rtr_receiver.proofs.Good.{Good, change_in, loading_in, stopped_in}

-- ---- tests

both : (a b : Bool) → a && b ≡ true → (a ≡ true) × (b ≡ true)
both true b e = (refl, e)
both false b e = absurd (let z : ◌≡◌ {A = ℕ} 0 1 = cc in omega arith)

either : (a b : Bool) → a || b ≡ true → (a ≡ true) ⊎ (b ≡ true)
either true b e = inl refl
either false b e = inr e

and_is : {a b : Bool} → a ≡ true → b ≡ true → a && b ≡ true
and_is {b = b} p q = ap (λ (x : Bool). x && b) p ∙ q

or_left : {a : Bool} (b : Bool) → a ≡ true → a || b ≡ true
or_left b p = ap (λ (x : Bool). x || b) p

or_right : (a : Bool) {b : Bool} → b ≡ true → a || b ≡ true
or_right true q = refl
or_right false q = q

negated : (a : Bool) → not a ≡ true → a ≡ false
negated true e = absurd (let z : ◌≡◌ {A = ℕ} 0 1 = cc in omega arith)
negated false e = refl

none : {A : Type 0} (t : List A) → length t ≡ 0 → t ≡ []
none [] e = refl
none (x ∷ t) e = absurd (omega arith)

-- ---- the phase in the session record and the phase

-- a phase that stopped, by the stop's number and values
pub stopped-stage : (stop : Stop) → stage_of (Phase.Stopped stop) ≡ stopped (stop-says stop).0 (stop-says stop).1
stopped-stage stop = ap stopped_by (stop-says stop).2

change-alike : (p : Phase) → change_under_way p ≡ change_in (stage_of p)
change-alike Phase.Idle = refl
change-alike Phase.MustReset = refl
change-alike Phase.AskedFull = refl
change-alike Phase.AskedChange = refl
change-alike (Phase.Loading LoadKind.Full session) = refl
change-alike (Phase.Loading LoadKind.Change session) = refl
change-alike (Phase.Stopped stop) = sym (ap change_in (stopped-stage stop))

loading-alike : (p : Phase) → is_loading p ≡ loading_in (stage_of p)
loading-alike Phase.Idle = refl
loading-alike Phase.MustReset = refl
loading-alike Phase.AskedFull = refl
loading-alike Phase.AskedChange = refl
loading-alike (Phase.Loading kind session) = refl
loading-alike (Phase.Stopped stop) = sym (ap loading_in (stopped-stage stop))

stopped-alike : (p : Phase) → is_stopped p ≡ stopped_in (stage_of p)
stopped-alike Phase.Idle = refl
stopped-alike Phase.MustReset = refl
stopped-alike Phase.AskedFull = refl
stopped-alike Phase.AskedChange = refl
stopped-alike (Phase.Loading kind session) = refl
stopped-alike (Phase.Stopped stop) = sym (ap stopped_in (stopped-stage stop))

-- ---- memory and receiver

-- the five parts of receiver shape
pub record Shape (limit : ℕ) (s : Session) (live working : Rooms) (hold : List ℕ) : Type 0 where
  pub live-room : is_room limit s.live.records live ≡ true
  pub working-room : is_room limit s.working.records working ≡ true
  pub stream : is_stream hold s.held ≡ true
  pub order : in_order s ≡ true
  pub limited : has_limit limit s ≡ true

module _ (limit : ℕ) (s : Session) (live working : Rooms) (hold : List ℕ) where
  pub shape_of : is_receiver limit s live working hold ≡ true → Shape limit s live working hold
  shape_of e =
      let t = memory.shape_of limit s live working hold e in
      record { live-room = t.0; working-room = t.1; stream = t.2; order = t.3; limited = t.4 }

  pub shape_is : Shape limit s live working hold → is_receiver limit s live working hold ≡ true
  shape_is h = memory.shape_is limit s live working hold h.live-room h.working-room h.stream h.order h.limited

  -- receiver shape in memory is receiver shape on tables
  pub good_of : Shape limit s live working hold → Good limit (receiver_of s live working hold)
  good_of h =
      let l = room-stands limit s.live.records live h.live-room in
      let w = room-stands limit s.working.records working h.working-room in
      let o = both _ _ h.order in
      let p = both _ _ o.1 in
      record {
        live = l.4;
        live-fits = omega (arith, l.1, l.2);
        working = w.4;
        working-fits = omega (arith, w.1, w.2);
        tabled = tabled l.1 (either _ _ o.0);
        emptied = emptied w.1 (either _ _ p.0);
        quiet = quiet (either _ _ p.1);
      }
    where
      tabled : length (records s.live.records live) ≡ s.live.records →
          (has_table s.table ≡ true) ⊎ (eqb s.live.records 0 && not (change_under_way s.phase) ≡ true) →
          (has_table s.table ≡ true) ⊎ ((records s.live.records live ≡ []) × (change_in (stage_of s.phase) ≡ false))
      tabled long (inl t) = inl t
      tabled long (inr t) =
          let z = both _ _ t in
          inr (none _ (long ∙ eqb-true s.live.records 0 z.0), sym (change-alike s.phase) ∙ negated _ z.1)

      emptied : length (records s.working.records working) ≡ s.working.records →
          (is_loading s.phase ≡ true) ⊎ (eqb s.working.records 0 ≡ true) →
          (loading_in (stage_of s.phase) ≡ true) ⊎ (records s.working.records working ≡ [])
      emptied long (inl t) = inl (sym (loading-alike s.phase) ∙ t)
      emptied long (inr t) = inr (none _ (long ∙ eqb-true s.working.records 0 t))

      quiet : (not (is_stopped s.phase) ≡ true) ⊎ (eqb s.held 0 ≡ true) → (stopped_in (stage_of s.phase) ≡ false) ⊎ (take s.held hold ≡ [])
      quiet (inl t) = inl (sym (stopped-alike s.phase) ∙ negated _ t)
      quiet (inr t) = inr (ap (λ (n : ℕ). take n hold) (eqb-true s.held 0 t))

  -- and back
  pub shape-of-good : is_limit limit ≡ true → (r : Receiver) → Good limit r → leaves s live working hold ≡ in_memory limit r → is_stream hold s.held ≡ true → Shape limit s live working hold
  shape-of-good known r g e t =
      record {
        live-room = (rules-exactly limit s.live.records live).1 (r.live, g.live, sym live-count, omega (arith, live-count, g.live-fits), ap (λ (x : Left). x.live) e);
        working-room = (rules-exactly limit s.working.records working).1 (r.working, g.working, sym working-count, omega (arith, working-count, g.working-fits), ap (λ (x : Left). x.working) e);
        stream = t;
        order = and_is (tabled g.tabled) (and_is (emptied g.emptied) (quiet g.quiet));
        limited = and_is (eq-eqb s.life.limit limit (ap (λ (x : Left). x.life.limit) e)) known;
      }
    where
      live-count : s.live.records ≡ length r.live
      live-count = ap (λ (x : Left). x.live_count.records) e

      working-count : s.working.records ≡ length r.working
      working-count = ap (λ (x : Left). x.working_count.records) e

      held-count : s.held ≡ length r.held
      held-count = ap (λ (x : Left). x.held_count) e

      stage : stage_of s.phase ≡ r.stage
      stage = ap (λ (x : Left). x.stage) e

      tabled : (has_table r.table ≡ true) ⊎ ((r.live ≡ []) × (change_in r.stage ≡ false)) → has_table s.table || (eqb s.live.records 0 && not (change_under_way s.phase)) ≡ true
      tabled (inl t) = or_left _ (ap (λ (x : Left). has_table x.table) e ∙ t)
      tabled (inr t) =
          or_right (has_table s.table)
          (and_is (eq-eqb s.live.records 0 (live-count ∙ ap length t.0))
          (ap not (change-alike s.phase ∙ ap change_in stage ∙ t.1)))

      emptied : (loading_in r.stage ≡ true) ⊎ (r.working ≡ []) → is_loading s.phase || eqb s.working.records 0 ≡ true
      emptied (inl t) = or_left _ (loading-alike s.phase ∙ ap loading_in stage ∙ t)
      emptied (inr t) = or_right (is_loading s.phase) (eq-eqb s.working.records 0 (working-count ∙ ap length t))

      quiet : (stopped_in r.stage ≡ false) ⊎ (r.held ≡ []) → not (is_stopped s.phase) || eqb s.held 0 ≡ true
      quiet (inl t) = or_left _ (ap not (stopped-alike s.phase ∙ ap stopped_in stage ∙ t))
      quiet (inr t) = or_right (not (is_stopped s.phase)) (eq-eqb s.held 0 (held-count ∙ ap length t))

  -- memory that is a receiver's stands for it
  pub stands-for : (r : Receiver) → leaves s live working hold ≡ in_memory limit r → receiver_of s live working hold ≡ r
  stands-for r e = λ i.
      record {
        version = (e i).life.version;
        stage = (e i).stage;
        table = (e i).table;
        note = (e i).note;
        live = live-is i;
        working = working-is i;
        held = (e i).held;
      }
    where
      live-is : records s.live.records live ≡ r.live
      live-is =
          ap (λ (n : ℕ). records n live) (ap (λ (x : Left). x.live_count.records) e) ∙ ap (records (length r.live)) (ap (λ (x : Left). x.live) e)
          ∙ records-of-room limit r.live

      working-is : records s.working.records working ≡ r.working
      working-is =
          ap (λ (n : ℕ). records n working) (ap (λ (x : Left). x.working_count.records) e)
          ∙ ap (records (length r.working)) (ap (λ (x : Left). x.working) e)
          ∙ records-of-room limit r.working
