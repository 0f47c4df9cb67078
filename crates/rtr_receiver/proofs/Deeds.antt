-- What each deed leaves in memory stands for what the definition makes of the receiver: a room that keeps the rules is the room of its records, so
-- the laws of rooms say what a call makes of it. Assumes nothing.
use Rattle.std.specs.Prelude.{Option, Some, Result, Err}
use Rattle.std.proofs.Common.{◌≡◌, ℕ, ◌*◌, Bool, true, cond, List, [], length, take, replicate, sym, refl, ap, ◌∙◌, ap₂, ⊎_elim, arith, eq-eqb, ne_eqb}
use Rattle.rtr_models.specs.Values.{seconds_or}
use Rattle.rtr_models.specs.declared.RtrEndOfData.{RtrEndOfData}
use Rattle.rtr_codec.specs.Read.{Verdict}
use Rattle.rtr_room.specs.Table.{Change, enter, leave}
use Rattle.rtr_room.specs.Room.{room, records, is_room, Said, Outcome, keeps, entered, gone, outcome_of, enter_said, leave_said, copied}
use Rattle.rtr_room.specs.Room.Said.{counted, refused_by}
use Rattle.rtr_room.specs.declared.Record.{Record}
use Rattle.rtr_room.proofs.Laws.{room-length, empty-is, copy_is, enter-is, leave-is, enter-refuses, leave-refuses, changed-is, refused-is}
use Rattle.rtr_receiver.specs.Contents.{Rooms}
use Rattle.rtr_receiver.specs.Receiver.{Stage, Receiver, Deed, in_stage, stop, on_serial_notify, start_load, on_change_response, changed_to, on_record, finish, no_update}
use Rattle.rtr_receiver.specs.Receiver.Stage.{idle, must_reset, asked_full, asked_change, loading, stopped}
use Rattle.rtr_receiver.specs.Promises.{stop_said, stopped_by, stage_of, receiver_of, leaves, in_memory}
use Rattle.rtr_receiver.specs.Private.{BothRooms, Stands, Did, response_in, reset_in, end_in, begun, carried_out, Filled, stopped_session}
use Rattle.rtr_receiver.specs.declared.LoadKind.{LoadKind}
use Rattle.rtr_receiver.specs.declared.Stop.{Stop}
use Rattle.rtr_receiver.specs.declared.Phase.{Phase}
use Rattle.rtr_receiver.specs.declared.Table.{Table}
use Rattle.rtr_receiver.specs.declared.Counts.{Counts}
use Rattle.rtr_receiver.specs.declared.Session.{Session}
use Rattle.rtr_receiver.specs.declared.Doing.{Doing}
use Rattle.rtr_receiver.proofs.Memory.{room-stands, room-size, with-limit, with-records, left-alike}
use Rattle.rtr_room.specs.declared.EnterError.{EnterError}
use Rattle.rtr_room.specs.declared.LeaveError.{LeaveError}

-- ---- rooms

-- zeros of that size are the empty room
zeros-stand : (limit : ℕ) (w w' : List ℕ) → length w ≡ 6 * limit → w' ≡ replicate (length w) 0 → w' ≡ room limit []
zeros-stand limit w w' n e = e ∙ ap (λ (k : ℕ). replicate k 0) n ∙ (empty-is limit).0

-- ---- what a call leaves

nothing-held : (n : ℕ) → n ≡ 0 → n ≡ length (take {A = ℕ} n [])
nothing-held n e = e ∙ ap (λ (k : ℕ). length (take {A = ℕ} k [])) (sym e)

-- rooms of tables, with their counts, and nothing held
pub rooms-stand : (limit : ℕ) (s : Session) (live working : Rooms) (l w : List Record) → s.life.limit ≡ limit → s.live.records ≡ length l → s.working.records ≡ length w → s.held ≡ 0 → live ≡ room limit l → working ≡ room limit w →
    Stands limit s live working (record { version = s.life.version; stage = stage_of s.phase; table = s.table; note = s.note; live = l; working = w; held = take s.held [] })
rooms-stand limit s live working l w k lc wc h le we =
    left-alike (with-limit k) refl refl refl (with-records lc) (with-records wc) (nothing-held s.held h) le we refl

-- a stop, in the stage of its reason
stop-stands : (limit : ℕ) (s : Session) (live working : Rooms) → s.life.limit ≡ limit → is_room limit s.live.records live ≡ true →
    (why : Stop) (stage : Stage) → stopped_by (stop_said why) ≡ stage →
    (w w' : List ℕ) → length w ≡ 6 * limit → w' ≡ replicate (length w) 0 → (r : Session) → r ≡ stopped_session s why →
    Stands limit r live w' (in_stage stage (stop 0 [] (receiver_of s live working [])))
stop-stands limit s live working k b why stage e w w' n z r q =
    let l = room-stands limit s.live.records live b in
    ap (λ (t : Session). leaves t live w' []) q
    ∙ left-alike (with-limit k) e refl refl (with-records (sym l.1)) refl refl l.0 (zeros-stand limit w w' n z) refl

-- both rooms as they were, in another phase, with another table and note
kept-stands : (limit : ℕ) (s : Session) (live working : Rooms) → BothRooms limit s live working → (r : Session) → r.life.limit ≡ s.life.limit → r.live ≡ s.live → r.working ≡ s.working → r.held ≡ s.held →
    Stands limit r live working (record { version = r.life.version; stage = stage_of r.phase; table = r.table; note = r.note; live = records s.live.records live; working = records s.working.records working; held = take r.held [] })
kept-stands limit s live working b r k lc wc hc =
    let l = room-stands limit s.live.records live b.0 in
    let w = room-stands limit s.working.records working b.1 in
    rooms-stand limit r live working _ _ (k ∙ b.4) (ap (λ (n : Counts). n.records) lc ∙ sym l.1) (ap (λ (n : Counts). n.records) wc ∙ sym w.1) (hc ∙ b.2) l.0 w.0

-- ---- the phases that a `_` stands for

-- what comes of the phases, where it is the same in each that the phase may be
out-of-turn : {A : Type 0} (f : Stage → A) (x : A) (p : Phase) → f idle ≡ x → f must_reset ≡ x → (p ≡ Phase.AskedFull → f asked_full ≡ x) → (p ≡ Phase.AskedChange → f asked_change ≡ x) → ((kind : LoadKind) (session : ℕ) → p ≡ Phase.Loading kind session → f (loading kind session) ≡ x) → ((n : ℕ) (v : List ℕ) → f (stopped n v) ≡ x) → f (stage_of p) ≡ x
out-of-turn f x Phase.Idle i m a c l s = i
out-of-turn f x Phase.MustReset i m a c l s = m
out-of-turn f x Phase.AskedFull i m a c l s = a refl
out-of-turn f x Phase.AskedChange i m a c l s = c refl
out-of-turn f x (Phase.Loading kind session) i m a c l s = l kind session refl
out-of-turn f x (Phase.Stopped why) i m a c l s = go (stop_said why)
  where
    go : (v : Verdict) → f (stopped_by v) ≡ x
    go (Verdict.accepted pdu n) = i
    go (Verdict.refused n v) = s n v

pub response-out : (id : ℕ) (r : Receiver) (p : Phase) → (p ≡ Phase.AskedFull → ⊥) → (p ≡ Phase.AskedChange → ⊥) → response_in (stage_of p) id r ≡ stop 13 [] r
response-out id r p a c = out-of-turn (λ (x : Stage). response_in x id r) (stop 13 [] r) p refl refl (λ e. absurd (a e)) (λ e. absurd (c e)) (λ kind session e. refl) (λ n v. refl)

pub reset-out : (r : Receiver) (p : Phase) → (p ≡ Phase.AskedChange → ⊥) → reset_in (stage_of p) r ≡ stop 13 [] r
reset-out r p c = out-of-turn (λ (x : Stage). reset_in x r) (stop 13 [] r) p refl refl (λ e. refl) (λ e. absurd (c e)) (λ kind session e. refl) (λ n v. refl)

pub end-out : (e : RtrEndOfData) (r : Receiver) (p : Phase) → ((kind : LoadKind) (session : ℕ) → p ≡ Phase.Loading kind session → ⊥) → end_in (stage_of p) e r ≡ no_update (stop 13 [] r)
end-out e r p l = out-of-turn (λ (x : Stage). end_in x e r) (no_update (stop 13 [] r)) p refl refl (λ k. refl) (λ k. refl) (λ kind session k. absurd (l kind session k)) (λ n v. refl)

-- ---- a record enters or leaves

-- what a room call comes to on numbers that keep the room rules
pub enter-on : (limit count : ℕ) (s : List ℕ) (r : Record) → is_room limit count s ≡ true → entered s count r ≡ outcome_of limit (records count s) (enter limit r (records count s))
enter-on limit count s r h =
    let m = room-stands limit count s h in
    ap₂ (λ (a : List ℕ) (n : ℕ). entered a n r) m.0 (sym m.1) ∙ enter-is limit r (records count s) m.3 (omega (arith, m.1, m.2))

leave-on : (limit count : ℕ) (s : List ℕ) (r : Record) → is_room limit count s ≡ true → gone s count r ≡ outcome_of limit (records count s) (leave r (records count s))
leave-on limit count s r h =
    let m = room-stands limit count s h in
    ap₂ (λ (a : List ℕ) (n : ℕ). gone a n r) m.0 (sym m.1) ∙ leave-is limit r (records count s) m.3 (omega (arith, m.1, m.2))

-- an outcome in the code's words is a change's
abbrev Came : ℕ → List Record → Said → List ℕ → Change → Type 0
Came limit t said left c = ◌≡◌ {A = Outcome} (record { says = said; left = left }) (outcome_of limit t c)

-- the session with another count in the working room
abbrev with_working : Session → ℕ → Session
with_working s n = record { life = s.life; phase = s.phase; table = s.table; note = s.note; live = s.live; working = record { records = n }; held = s.held }

-- the session with a load begun, and these counts in the working room
abbrev loading_from : Session → LoadKind → ℕ → Counts → Session
loading_from s kind id n = record { life = s.life; phase = Phase.Loading kind id; table = s.table; note = s.note; live = s.live; working = n; held = s.held }

module _ (limit : ℕ) (s : Session) (live working : Rooms) (b : BothRooms limit s live working) where
  pub changed-stands : (c : Change) (n : ℕ) (w : List ℕ) → Came limit (records s.working.records working) (counted n) w c → (r : Session) → r ≡ with_working s n → Stands limit r live w (changed_to c (receiver_of s live working []))
  changed-stands (Change.changed t) n w e r q =
      let o : ◌≡◌ {A = Outcome} (record { says = counted n; left = w }) (record { says = counted (length t); left = room limit t }) = e ∙ changed-is limit (records s.working.records working) t in
      let l = room-stands limit s.live.records live b.0 in
      let said : counted n ≡ counted (length t) = ap (λ (x : Outcome). x.says) o in
      let count : n ≡ length t = cc in
      ap (λ (x : Session). leaves x live w []) q
      ∙ rooms-stand limit (with_working s n) live w _ t b.4 (sym l.1) count b.2 l.0 (ap (λ (x : Outcome). x.left) o)
  changed-stands (Change.refused m) n w e r q =
      let said : counted n ≡ refused_by m = ap (λ (x : Outcome). x.says) (e ∙ refused-is limit m (records s.working.records working)) in
      let z : ◌≡◌ {A = ℕ} 0 1 = cc in absurd (omega arith)

  -- a refusal by a number is a change's refusal by that number, and leaves the room
  refused-came : (c : Change) (n : ℕ) (w : List ℕ) → Came limit (records s.working.records working) (refused_by n) w c → (c ≡ Change.refused n) × (w ≡ room limit (records s.working.records working))
  refused-came (Change.changed t) n w e =
      let said : refused_by n ≡ counted (length t) = ap (λ (x : Outcome). x.says) (e ∙ changed-is limit (records s.working.records working) t) in
      let z : ◌≡◌ {A = ℕ} 0 1 = cc in absurd (omega arith)
  refused-came (Change.refused m) n w e =
      let o : ◌≡◌ {A = Outcome} (record { says = refused_by n; left = w }) (keeps m (room limit (records s.working.records working))) = e ∙ refused-is limit m (records s.working.records working) in
      let said : refused_by n ≡ refused_by m = ap (λ (x : Outcome). x.says) o in
      let same : n ≡ m = cc in
      (ap Change.refused (sym same), ap (λ (x : Outcome). x.left) o)

  pub refused-stands : (c : Change) (n : ℕ) (w : List ℕ) → Came limit (records s.working.records working) (refused_by n) w c → (why : Stop) → stop_said why ≡ Verdict.refused n [] → (r : Session) (w' : List ℕ) → (r ≡ stopped_session s why) × (w' ≡ replicate (length w) 0) → Stands limit r live w' (changed_to c (receiver_of s live working []))
  refused-stands c n w e why k r w' q =
      let m = room-stands limit s.working.records working b.1 in
      let f = refused-came c n w e in
      stop-stands limit s live working b.4 b.0 why (stopped n []) (ap stopped_by k) w w' (ap length f.1 ∙ room-length limit _ (omega (arith, m.1, m.2))) q.1 r q.0
      ∙ ap (λ (x : Change). in_memory limit (changed_to x (receiver_of s live working []))) (sym f.0)

  -- entering, by what the call answered
  pub enter-came : (r : Record) (a : Result ℕ EnterError) (w : List ℕ) → record { says = enter_said a; left = w } ≡ entered working s.working.records r → (a' : Result ℕ EnterError) → a ≡ a' → Came limit (records s.working.records working) (enter_said a') w (enter limit r (records s.working.records working))
  enter-came r a w e a' g = ap (λ (x : Result ℕ EnterError). record { says = enter_said x; left = w }) (sym g) ∙ e ∙ enter-on limit s.working.records working r b.1

  -- the working room is a room
  pub enters-a-room : (r : Record) (a : Result ℕ EnterError) (w : List ℕ) → record { says = enter_said a; left = w } ≡ entered working s.working.records r → a ≡ Err EnterError.NotARoom → ⊥
  enters-a-room r a w e g = ⊎_elim (λ p. omega arith) (λ p. omega arith) (enter-refuses limit 22 r _ (refused-came _ 22 w (enter-came r a w e _ g)).0)

  -- leaving
  pub leave-came : (r : Record) (a : Result ℕ LeaveError) (w : List ℕ) → record { says = leave_said a; left = w } ≡ gone working s.working.records r → (a' : Result ℕ LeaveError) → a ≡ a' → Came limit (records s.working.records working) (leave_said a') w (leave r (records s.working.records working))
  leave-came r a w e a' g = ap (λ (x : Result ℕ LeaveError). record { says = leave_said x; left = w }) (sym g) ∙ e ∙ leave-on limit s.working.records working r b.1

  pub leaves-a-room : (r : Record) (a : Result ℕ LeaveError) (w : List ℕ) → record { says = leave_said a; left = w } ≡ gone working s.working.records r → a ≡ Err LeaveError.NotARoom → ⊥
  leaves-a-room r a w e g = let p : ◌≡◌ {A = ℕ} 22 16 = leave-refuses 22 r _ (refused-came _ 22 w (leave-came r a w e _ g)).0 in omega arith

  -- ---- loads

  -- a load begins, with this table in the working room
  load-stands : (kind : LoadKind) (id n : ℕ) (w : List ℕ) (t : List Record) → n ≡ length t → w ≡ room limit t →
      (q : Session) → q ≡ loading_from s kind id (record { records = n }) →
      Stands limit q live w (start_load kind id t (receiver_of s live working []))
  load-stands kind id n w t c e q f =
      let l = room-stands limit s.live.records live b.0 in
      ap (λ (x : Session). leaves x live w []) f ∙ rooms-stand limit (loading_from s kind id (record { records = n })) live w _ t b.4 (sym l.1) c b.2 l.0 e

  -- the live room copied over the working one
  copied-stands : (w : List ℕ) → w ≡ copied live working → w ≡ room limit (records s.live.records live)
  copied-stands w e =
      let l = room-stands limit s.live.records live b.0 in
      let m = room-stands limit s.working.records working b.1 in
      e ∙ ap₂ copied l.0 m.0 ∙ (copy_is limit _ _ (omega (arith, l.1, l.2)) (omega (arith, m.1, m.2))).0

  -- the working room copied over the live one, and emptied
  pub finish-stands : (p : RtrEndOfData) (refresh retry expire : ℕ) → refresh ≡ seconds_or 3600 p.refresh_interval → retry ≡ seconds_or 600 p.retry_interval → expire ≡ seconds_or 7200 p.expire_interval →
      (l w : List ℕ) → l ≡ copied working live → w ≡ replicate (length working) 0 →
      Stands limit
      (record {
        life = s.life;
        phase = Phase.Idle;
        table = Some (record { session = p.session_id; serial = p.serial_number; refresh = refresh; retry = retry; expire = expire });
        note = s.note;
        live = s.working;
        working = record { records = 0 };
        held = s.held;
      })
      l w (finish p (receiver_of s live working []))
  finish-stands p refresh retry expire h₁ h₂ h₃ l w le we =
      let k = room-stands limit s.live.records live b.0 in
      let m = room-stands limit s.working.records working b.1 in
      let table : Some (record { session = p.session_id; serial = p.serial_number; refresh = refresh; retry = retry; expire = expire })
      ≡ Some (record { session = p.session_id; serial = p.serial_number; refresh = seconds_or 3600 p.refresh_interval; retry = seconds_or 600 p.retry_interval; expire = seconds_or 7200 p.expire_interval }) =
      λ i. Some (record { session = p.session_id; serial = p.serial_number; refresh = h₁ i; retry = h₂ i; expire = h₃ i }) in
      left-alike (with-limit b.4) refl table refl (with-records (sym m.1)) refl (nothing-held s.held b.2)
      (le ∙ ap₂ copied m.0 k.0 ∙ (copy_is limit _ _ (omega (arith, m.1, m.2)) (omega (arith, k.1, k.2))).0)
      (zeros-stand limit working w (room-size limit s.working.records working b.1).0 we)
      refl

  -- ---- what is decided is carried out

  -- a load begins: the working room is emptied, or the live one copied over it
  pub begun-stands : (kind : LoadKind) (id : ℕ) (n : Counts) (w : List ℕ) → Filled kind s.live live working n w →
      (q : Session) → q ≡ loading_from s kind id n →
      Stands limit q live w (begun kind id (receiver_of s live working []))
  begun-stands LoadKind.Full id n w h q f =
      load-stands LoadKind.Full id 0 w [] refl (zeros-stand limit working w (room-size limit s.working.records working b.1).0 h.1) q (f ∙ ap (loading_from s LoadKind.Full id) h.0)
  begun-stands LoadKind.Change id n w h q f =
      load-stands LoadKind.Change id s.live.records w (records s.live.records live) (sym (room-stands limit s.live.records live b.0).1) (copied-stands w h.1) q (f ∙ ap (loading_from s LoadKind.Change id) h.0)

  -- the same in another phase
  pub phase-stands : (p : Phase) (q : Session) → q ≡ record { life = s.life; phase = p; table = s.table; note = s.note; live = s.live; working = s.working; held = s.held } →
      Stands limit q live working (in_stage (stage_of p) (receiver_of s live working []))
  phase-stands p q f =
      ap (λ (x : Session). leaves x live working []) f
      ∙ kept-stands limit s live working b (record { life = s.life; phase = p; table = s.table; note = s.note; live = s.live; working = s.working; held = s.held }) refl refl refl refl

  pub passed-stands : Stands limit s live working (receiver_of s live working [])
  passed-stands = kept-stands limit s live working b s refl refl refl refl

  -- a Serial Notify changes the note alone
  pub notify-stands : (id serial : ℕ) (q : Session) → q ≡ record { life = s.life; phase = s.phase; table = s.table; note = Some (id, serial); live = s.live; working = s.working; held = s.held } →
      Stands limit q live working (on_serial_notify id serial (receiver_of s live working []))
  notify-stands id serial q f =
      ap (λ (x : Session). leaves x live working []) f
      ∙ kept-stands limit s live working b (record { life = s.life; phase = s.phase; table = s.table; note = Some (id, serial); live = s.live; working = s.working; held = s.held }) refl refl refl refl

  -- a stop of a session and the working room as they were
  pub stops : (why : Stop) (q : Session) (w : List ℕ) → (q ≡ stopped_session s why) × (w ≡ replicate (length working) 0) →
      Stands limit q live w (carried_out limit (Doing.Stops why) (receiver_of s live working [])).then
  stops why q w h = stop-stands limit s live working b.4 b.0 why _ refl working w (room-size limit s.working.records working b.1).0 h.1 q h.0

  -- a record announced or withdrawn
  pub takes-stands : (announced is : Bool) (x : Record) → announced ≡ is → (q : Session) (l w : List ℕ) → Stands limit q l w (on_record limit is x (receiver_of s live working [])) → Stands limit q l w (carried_out limit (Doing.Takes announced x) (receiver_of s live working [])).then
  takes-stands announced is x e q l w h = h ∙ ap (λ (y : Bool). in_memory limit (on_record limit y x (receiver_of s live working []))) (sym e)

  -- what a decision is in other words
  pub as-decided : (d e : Doing) → d ≡ e → (q : Session) (l w : List ℕ) → Stands limit q l w (carried_out limit e (receiver_of s live working [])).then → Stands limit q l w (carried_out limit d (receiver_of s live working [])).then
  as-decided d e f q l w h = h ∙ ap (λ (x : Doing). in_memory limit (carried_out limit x (receiver_of s live working [])).then) (sym f)

-- ---- another session

pub other-session : (id : ℕ) (t : Option Table) (known : Table) → t ≡ Some known → (id ≡ known.session → ⊥) → (r : Receiver) → on_change_response t id r ≡ stop 15 [] r
other-session id t known e h r =
    ap (λ (x : Option Table). on_change_response x id r) e
    ∙ ap (λ (x : Bool). cond x (start_load LoadKind.Change id r.live r) (stop 15 [] r)) (ne_eqb id known.session h)

pub same-session : (id : ℕ) (t : Option Table) (known : Table) → t ≡ Some known → id ≡ known.session → (r : Receiver) → on_change_response t id r ≡ start_load LoadKind.Change id r.live r
same-session id t known e h r =
    ap (λ (x : Option Table). on_change_response x id r) e
    ∙ ap (λ (x : Bool). cond x (start_load LoadKind.Change id r.live r) (stop 15 [] r)) (eq-eqb id known.session h)

-- what comes of a Cache Response after a change ask
pub response-change : (p : Phase) (id : ℕ) (r to : Receiver) → p ≡ Phase.AskedChange → on_change_response r.table id r ≡ to → no_update to ≡ no_update (response_in (stage_of p) id r)
response-change p id r to e f = ap no_update (sym f) ∙ ap (λ (x : Phase). no_update (response_in (stage_of x) id r)) (sym e)

-- an End of Data of the load's session, and of another
pub end_is : (e : RtrEndOfData) (r : Receiver) (p : Phase) (kind : LoadKind) (id : ℕ) → p ≡ Phase.Loading kind id → e.session_id ≡ id → end_in (stage_of p) e r ≡ record { then = finish e r; updates = 1 }
end_is e r p kind id q h =
    ap (λ (x : Phase). end_in (stage_of x) e r) q
    ∙ ap (λ (x : Bool). cond x (record { then = finish e r; updates = 1 }) (no_update (stop 15 [] r))) (eq-eqb e.session_id id h)

pub end-other : (e : RtrEndOfData) (r : Receiver) (p : Phase) (kind : LoadKind) (id : ℕ) → p ≡ Phase.Loading kind id → (e.session_id ≡ id → ⊥) → end_in (stage_of p) e r ≡ no_update (stop 15 [] r)
end-other e r p kind id q h =
    ap (λ (x : Phase). end_in (stage_of x) e r) q
    ∙ ap (λ (x : Bool). cond x (record { then = finish e r; updates = 1 }) (no_update (stop 15 [] r))) (ne_eqb e.session_id id h)

-- ---- deeds

-- a session and how many updates finished, as decided
pub did : (limit : ℕ) (live working : List ℕ) (q : Session) (n : ℕ) (to : Deed) → Stands limit q live working to.then → n ≡ to.updates → (deed : Deed) → to ≡ deed → Did limit (record { session = q; updates = n }) live working deed
did limit live working q n to h k deed f = (h ∙ ap (λ (x : Deed). in_memory limit x.then) f, k ∙ ap (λ (x : Deed). x.updates) f)
