-- Demand 3. Along a run memory keeps receiver shape, stands for a receiver that goes the history's way, and so holds the table that the updates make which
-- finished in that history (`history`); cuts change nothing (`cut-anywhere`), and there is no table exactly where none has finished (`no_table_lem`). Assumes nothing.
use Rattle.std.specs.Prelude.{Option, Some, None, Ok, Result, Err, ⊤}
use Rattle.std.proofs.Common.{◌≡◌, ℕ, ◌+◌, ◌*◌, ◌≤◌, Bool, true, false, cond, ◌&&◌, eqb, leb, ◌⊎◌, ◌↔◌, List, [], ◌∷◌, ◌++◌, length, take, sym, refl, ap, ◌∙◌, subst, inl, inr, append_assoc, append-nil, arith, leb-true}
use Rattle.rtr_models.specs.declared.RtrProtocolVersion.{RtrProtocolVersion}
use Rattle.rtr_models.specs.declared.RtrPdu.TheVariants.{ResetQuery, SerialQuery}
use Rattle.rtr_codec.specs.Reading.{in_use}
use Rattle.rtr_codec.proofs.Rules.{LengthsInRule, accepted-in-rule}
use Rattle.rtr_encode.specs.Encode.{Writing, encode}
use Rattle.rtr_stream.specs.Stream.{Heard, judge}
use Rattle.rtr_stream.proofs.Laws.{nothing-waits, whole-is-read, stream-exactly, waits-fits}
use Rattle.rtr_room.proofs.Laws.{empty-table}
use Rattle.rtr_receiver.specs.Receiver.{Stage, Receiver, Feed, fresh, holding, in_stage, heard, listens, on_byte, on_piece, feed, full_query, change_query, serial_query, asked_by, ask, reconnected}
use Rattle.rtr_receiver.specs.History.{Event, Update, Live, Place, no_table, with_updates, table_of, updated, finished, has_table}
use Rattle.rtr_receiver.specs.Promises.{Left, StartSays, AskSays, ReconnectSays, receiver_of, is_limit, is_receiver, leaves, in_memory, fed_to, feed_says, fed_said_by, start_says, start_said, asked_to, full_ask_says, change_ask_says, reconnect_says}
use Rattle.rtr_receiver.specs.Runs.{Call, Memory, Step, Run, bytes, history_of, live_in}
use Rattle.rtr_receiver.specs.declared.LoadKind.{LoadKind}
use Rattle.rtr_receiver.specs.declared.Done.{Done}
use Rattle.rtr_receiver.proofs.Feeds.{from}
use Rattle.rtr_receiver.proofs.Good.{Good, fresh-good, stop-good, pdu-good, change_in, loading_in, stopped_in}
use Rattle.rtr_receiver.proofs.Steps.{shape_is, shape-of-good, stands-for}
use Rattle.rtr_receiver.proofs.Kept.{told-drops}
use Rattle.rtr_receiver.proofs.Histories.{At, Leads, live_of, onward-by, all-between, piece-follows, full-follows, change-follows, reconnect-follows}
use Rattle.rtr_receiver.specs.declared.Table.{Table}
use Rattle.rtr_receiver.specs.declared.FeedError.{FeedError}

module _ (limit H : ℕ) where
  -- ---- every call keeps the shape

  -- a receiver that is in shape, and what it holds waits
  pub record Sound (r : Receiver) : Type 0 where
    pub good : Good limit r
    pub waits : judge in_use H r.held ≡ Heard.waits

  holding-sound : (r : Receiver) (s : List ℕ) → listens r.stage ≡ true → judge in_use H s ≡ Heard.waits → Good limit r → Sound (holding s r)
  holding-sound r s on w g =
      record {
        good =
            record {
              live = g.live;
              live-fits = g.live-fits;
              working = g.working;
              working-fits = g.working-fits;
              tabled = g.tabled;
              emptied = g.emptied;
              quiet = inl (calm r.stage on);
            };
        waits = w;
      }
    where
      calm : (s : Stage) → listens s ≡ true → stopped_in s ≡ false
      calm Stage.idle e = refl
      calm Stage.must_reset e = refl
      calm Stage.asked_full e = refl
      calm Stage.asked_change e = refl
      calm (Stage.loading kind session) e = refl
      calm (Stage.stopped k x) e = absurd (let z : ◌≡◌ {A = ℕ} 0 1 = cc in omega arith)

  pub byte-sound : (f : Feed) (b : ℕ) → Sound f.receiver → Sound (on_byte limit H f b).receiver
  unfolding on_byte
  byte-sound f b sound = go (listens f.receiver.stage) refl
    where
      by : (h : Heard) → listens f.receiver.stage ≡ true → judge in_use H (f.receiver.held ++ b ∷ []) ≡ h → Sound (heard limit (f.taken + 1) f.updates f.receiver (f.receiver.held ++ b ∷ []) h).receiver
      by Heard.waits on j = holding-sound f.receiver (f.receiver.held ++ b ∷ []) on j sound.good
      by (Heard.whole pdu) on j =
          let g : Good limit f.receiver = sound.good in
          let wholly = whole-is-read in_use H (f.receiver.held ++ b ∷ []) pdu j in
          let rule : LengthsInRule pdu = accepted-in-rule in_use (f.receiver.held ++ b ∷ []) pdu wholly.0 wholly.1 in
          record {
            good =
                (pdu-good limit pdu (holding [] f.receiver)
                (record {
                  live = g.live;
                  live-fits = g.live-fits;
                  working = g.working;
                  working-fits = g.working-fits;
                  tabled = g.tabled;
                  emptied = g.emptied;
                  quiet = inr refl;
                })
                rule).0;
            waits = ap (judge in_use H) (told-drops limit pdu f.receiver) ∙ nothing-waits in_use H;
          }
      by (Heard.refused number values) on j = record { good = stop-good limit number values f.receiver sound.good; waits = nothing-waits in_use H }

      go : (t : Bool) → listens f.receiver.stage ≡ t → Sound (cond t (heard limit (f.taken + 1) f.updates f.receiver (f.receiver.held ++ b ∷ []) (judge in_use H (f.receiver.held ++ b ∷ []))) f).receiver
      go true e = by (judge in_use H (f.receiver.held ++ b ∷ [])) e refl
      go false e = sound

  piece-sound : (piece : List ℕ) (f : Feed) → Sound f.receiver → Sound (on_piece limit H f piece).receiver
  unfolding on_piece
  piece-sound [] f sound = sound
  piece-sound (b ∷ piece) f sound = piece-sound piece (on_byte limit H f b) (byte-sound f b sound)

  -- another phase that is no load, no change and no stop
  asked-sound : (r : Receiver) (stage : Stage) → Sound r → loading_in r.stage ≡ false → ((has_table r.table ≡ true) ⊎ (change_in stage ≡ false)) → stopped_in stage ≡ false → Sound (in_stage stage r)
  asked-sound r stage sound l c t =
      let g : Good limit r = sound.good in
      record {
        good =
            record {
              live = g.live;
              live-fits = g.live-fits;
              working = g.working;
              working-fits = g.working-fits;
              tabled = tabled c g.tabled;
              emptied = inr (emptied g.emptied);
              quiet = inl t;
            };
        waits = sound.waits;
      }
    where
      tabled : (has_table r.table ≡ true) ⊎ (change_in stage ≡ false) →
          (has_table r.table ≡ true) ⊎ ((r.live ≡ []) × (change_in r.stage ≡ false)) →
          (has_table r.table ≡ true) ⊎ ((r.live ≡ []) × (change_in stage ≡ false))
      tabled (inl h) g = inl h
      tabled (inr n) (inl h) = inl h
      tabled (inr n) (inr h) = inr (h.0, n)

      emptied : (loading_in r.stage ≡ true) ⊎ (r.working ≡ []) → r.working ≡ []
      emptied (inl e) = absurd (let z : true ≡ false = sym e ∙ l in let o : ◌≡◌ {A = ℕ} 0 1 = cc in omega arith)
      emptied (inr e) = e

  by-writing : (w : Writing) (stage : Stage) (r : Receiver) (out : List ℕ) → Sound r → Sound (in_stage stage r) → Sound (asked_by w stage r out).receiver
  by-writing (Writing.written n) stage r out sound then = then
  by-writing (Writing.refused number values) stage r out sound then = sound

  pub full-sound : (r : Receiver) (out : List ℕ) → Sound r → (stage : Stage) → r.stage ≡ stage → Sound (ask (full_query stage r) r out).receiver
  full-sound r out sound Stage.idle e = let w = encode in_use (ResetQuery (record { version = r.version })) [] out in by-writing w.says Stage.asked_full r w.out sound (asked-sound r Stage.asked_full sound (ap loading_in e) (inr refl) refl)
  full-sound r out sound Stage.must_reset e = let w = encode in_use (ResetQuery (record { version = r.version })) [] out in by-writing w.says Stage.asked_full r w.out sound (asked-sound r Stage.asked_full sound (ap loading_in e) (inr refl) refl)
  full-sound r out sound Stage.asked_full e = sound
  full-sound r out sound Stage.asked_change e = sound
  full-sound r out sound (Stage.loading kind session) e = sound
  full-sound r out sound (Stage.stopped k x) e = sound

  pub change-sound : (r : Receiver) (out : List ℕ) → Sound r → (stage : Stage) → r.stage ≡ stage → Sound (ask (change_query stage r) r out).receiver
  change-sound r out sound Stage.idle e = table r.table refl
    where
      table : (t : Option Table) → r.table ≡ t → Sound (ask (serial_query t r) r out).receiver
      table None q = sound
      table (Some t) q = let w = encode in_use (SerialQuery (record { version = r.version; session_id = t.session; serial_number = t.serial })) [] out in by-writing w.says Stage.asked_change r w.out sound (asked-sound r Stage.asked_change sound (ap loading_in e) (inl (ap has_table q)) refl)
  change-sound r out sound Stage.must_reset e = sound
  change-sound r out sound Stage.asked_full e = sound
  change-sound r out sound Stage.asked_change e = sound
  change-sound r out sound (Stage.loading kind session) e = sound
  change-sound r out sound (Stage.stopped k x) e = sound

  pub reconnect-sound : (r : Receiver) → Sound r → Sound (reconnected r)
  reconnect-sound r sound =
      let g : Good limit r = sound.good in
      record {
        good =
            record {
              live = g.live;
              live-fits = g.live-fits;
              working = empty-table;
              working-fits = omega arith;
              tabled = tabled g.tabled;
              emptied = inr refl;
              quiet = inl refl;
            };
        waits = nothing-waits in_use H;
      }
    where
      tabled : (has_table r.table ≡ true) ⊎ ((r.live ≡ []) × (change_in r.stage ≡ false)) → (has_table r.table ≡ true) ⊎ ((r.live ≡ []) × (change_in Stage.idle ≡ false))
      tabled (inl h) = inl h
      tabled (inr h) = inr (h.0, refl)

  -- ---- memory along a run

  -- memory stands for a sound receiver at a place
  pub record Stands (m : Memory) (r : Receiver) : Type 0 where
    pub known : is_limit limit ≡ true
    pub size : length m.hold ≡ H
    pub least : 8 ≤ H
    pub left : leaves m.session m.live m.working m.hold ≡ in_memory limit r
    pub sound : Sound r

  -- so it has receiver shape
  pub in-shape : {m : Memory} {r : Receiver} → Stands m r → is_receiver limit m.session m.live m.working m.hold ≡ true
  in-shape {m} {r} s =
      let fits = waits-fits in_use H r.held s.least s.sound.waits in
      let count : m.session.held ≡ length r.held = ap (λ (x : Left). x.held_count) s.left in
      let held : take m.session.held m.hold ≡ r.held = ap (λ (x : Left). x.held) s.left in
      shape_is limit m.session m.live m.working m.hold
      (shape-of-good limit m.session m.live m.working m.hold s.known r s.sound.good s.left
      (stream-exactly m.hold m.session.held (omega (arith, s.size, s.least)) (omega (arith, s.size))
      (ap (judge in_use (length m.hold)) held ∙ ap (λ (h : ℕ). judge in_use h r.held) s.size ∙ s.sound.waits)))

  -- what a call says where memory has receiver shape
  fed-left : (done : Done) (l : Left) (hold : List ℕ) (f : Feed) → fed_said_by done.answer done.taken done.updates l hold ≡ fed_to limit f → l ≡ in_memory limit f.receiver
  fed-left done l hold f e = go done.answer e
    where
      go : (a : Result ⊤ FeedError) → fed_said_by a done.taken done.updates l hold ≡ fed_to limit f → l ≡ in_memory limit f.receiver
      go (Ok tt) q = cc
      go (Err (FeedError.Stopped why)) q = cc
      go (Err FeedError.NotAReceiver) q = absurd (let z : ◌≡◌ {A = ℕ} 0 1 = cc in omega arith)

  feed-said : (m : Memory) (piece : List ℕ) → is_receiver limit m.session m.live m.working m.hold ≡ true → feed_says limit m.session m.live m.working m.hold piece ≡ fed_to limit (feed limit (length m.hold) (receiver_of m.session m.live m.working m.hold) piece)
  unfolding feed_says
  feed-said m piece e = simp e

  full-said : (m : Memory) (out : List ℕ) → is_receiver limit m.session m.live m.working m.hold ≡ true → full_ask_says limit m.session m.live m.working m.hold out ≡ asked_to limit (ask (full_query (receiver_of m.session m.live m.working m.hold).stage (receiver_of m.session m.live m.working m.hold)) (receiver_of m.session m.live m.working m.hold) out)
  unfolding full_ask_says
  full-said m out e = simp e

  change-said : (m : Memory) (out : List ℕ) → is_receiver limit m.session m.live m.working m.hold ≡ true → change_ask_says limit m.session m.live m.working m.hold out ≡ asked_to limit (ask (change_query (receiver_of m.session m.live m.working m.hold).stage (receiver_of m.session m.live m.working m.hold)) (receiver_of m.session m.live m.working m.hold) out)
  unfolding change_ask_says
  change-said m out e = simp e

  reconnect-said : (m : Memory) → is_receiver limit m.session m.live m.working m.hold ≡ true → reconnect_says limit m.session m.live m.working m.hold ≡ record { number = 0; left = in_memory limit (reconnected (receiver_of m.session m.live m.working m.hold)) }
  unfolding reconnect_says
  reconnect-said m e = simp e

  -- the receiver that memory stands for
  pub is-receiver : {m : Memory} {r : Receiver} → Stands m r → receiver_of m.session m.live m.working m.hold ≡ r
  is-receiver {m} {r} s = stands-for limit m.session m.live m.working m.hold r s.left

  -- the receiver after a call
  abbrev pub after : Call → Receiver → Receiver
  after (Call.feed piece) r = (on_piece limit H (from r 0 0) piece).receiver
  after (Call.ask LoadKind.Full out) r = (ask (full_query r.stage r) r out).receiver
  after (Call.ask LoadKind.Change out) r = (ask (change_query r.stage r) r out).receiver
  after Call.reconnect r = reconnected r

  -- memory that stands for a receiver stands, after a call, for the receiver after it
  pub step-stands : (call : Call) (m m' : Memory) (r : Receiver) → Stands m r → Step limit m call m' → Stands m' (after call r)
  unfolding feed
  step-stands (Call.feed piece) m m' r st (Step.fed s done live working hold size e) =
      let said = e ∙ feed-said m piece (in-shape st) in
      let left = fed-left done (leaves s live working hold) hold (feed limit (length m.hold) (receiver_of m.session m.live m.working m.hold) piece) said in
      record {
        known = st.known;
        size = size ∙ st.size;
        least = st.least;
        left =
            left
            ∙ ap (λ (h : ℕ). in_memory limit (on_piece limit h (from (receiver_of m.session m.live m.working m.hold) 0 0) piece).receiver) st.size
            ∙ ap (λ (x : Receiver). in_memory limit (on_piece limit H (from x 0 0) piece).receiver) (is-receiver st);
        sound = piece-sound piece (from r 0 0) st.sound;
      }
  step-stands (Call.ask LoadKind.Full out) m m' r st (Step.asked_full s answer out' e) =
      let said = e ∙ full-said m out (in-shape st) in
      record {
        known = st.known;
        size = st.size;
        least = st.least;
        left = ap (λ (x : AskSays). x.left) said ∙ ap (λ (x : Receiver). in_memory limit (ask (full_query x.stage x) x out).receiver) (is-receiver st);
        sound = full-sound r out st.sound r.stage refl;
      }
  step-stands (Call.ask LoadKind.Change out) m m' r st (Step.asked_change s answer out' e) =
      let said = e ∙ change-said m out (in-shape st) in
      record {
        known = st.known;
        size = st.size;
        least = st.least;
        left = ap (λ (x : AskSays). x.left) said ∙ ap (λ (x : Receiver). in_memory limit (ask (change_query x.stage x) x out).receiver) (is-receiver st);
        sound = change-sound r out st.sound r.stage refl;
      }
  step-stands Call.reconnect m m' r st (Step.connected s answer working e) =
      let said = e ∙ reconnect-said m (in-shape st) in
      record {
        known = st.known;
        size = st.size;
        least = st.least;
        left = ap (λ (x : ReconnectSays). x.left) said ∙ ap (λ (x : Receiver). in_memory limit (reconnected x)) (is-receiver st);
        sound = reconnect-sound r st.sound;
      }

  -- what a call leads to, from a place
  leads : (call : Call) (r : Receiver) (p : Place) → At limit H r p → Leads limit H r p (history_of (call ∷ [])) (after call r)
  unfolding history_of
  leads (Call.feed piece) r p a = subst (λ (es : List Event). Leads limit H r p es (after (Call.feed piece) r)) (sym (append-nil (bytes piece))) (piece-follows limit H piece r p 0 0 a).0
  leads (Call.ask LoadKind.Full out) r p a = (full-follows limit H r p out a).0
  leads (Call.ask LoadKind.Change out) r p a = (change-follows limit H r p out a).0
  leads Call.reconnect r p a = (reconnect-follows limit H r p).0

  -- a run so far: memory stands for a receiver, to which the history leads from a fresh start
  pub record Along (v : RtrProtocolVersion) (calls : List Call) (m : Memory) : Type 0 where
    pub receiver : Receiver
    pub stands : Stands m receiver
    pub way : Leads limit H (fresh v) Place.idle (history_of calls) receiver

  pub history-snoc : (calls : List Call) (call : Call) → history_of calls ++ history_of (call ∷ []) ≡ history_of (calls ++ call ∷ [])
  unfolding history_of
  history-snoc [] call = refl
  history-snoc (Call.feed piece ∷ calls) call = append_assoc (bytes piece) (history_of calls) (history_of (call ∷ [])) ∙ ap (λ (x : List Event). bytes piece ++ x) (history-snoc calls call)
  history-snoc (Call.ask kind out ∷ calls) call = ap (λ (x : List Event). Event.ask kind (length out) ∷ x) (history-snoc calls call)
  history-snoc (Call.reconnect ∷ calls) call = ap (λ (x : List Event). Event.reconnect ∷ x) (history-snoc calls call)

  -- a start stands for a fresh receiver
  pub start-stands : (v : RtrProtocolVersion) (m : Memory) (live working : List ℕ) → length m.hold ≡ H → start_said (Ok m.session) m.live m.working m.hold ≡ start_says limit v live working m.hold → Stands m (fresh v)
  unfolding start_says
  start-stands v m live working size e = go (is_limit limit) (eqb (length live) (6 * limit)) (eqb (length working) (6 * limit)) (leb 8 (length m.hold)) refl refl e
    where
      go : (k a b c : Bool) →
          is_limit limit ≡ k →
          leb 8 (length m.hold) ≡ c →
          StartSays.started (leaves m.session m.live m.working m.hold) ≡ cond (k && (a && (b && c))) (StartSays.started (in_memory limit (fresh v))) (StartSays.refused_start 22 live working) →
          Stands m (fresh v)
      go true true true true w t q =
          record {
            known = w;
            size = size;
            least = omega (arith, size, leb-true 8 (length m.hold) t);
            left = cc;
            sound = record { good = fresh-good limit v; waits = nothing-waits in_use H };
          }
      go true true true false w t q = absurd (let z : ◌≡◌ {A = ℕ} 0 1 = cc in omega arith)
      go true true false c w t q = absurd (let z : ◌≡◌ {A = ℕ} 0 1 = cc in omega arith)
      go true false b c w t q = absurd (let z : ◌≡◌ {A = ℕ} 0 1 = cc in omega arith)
      go false a b c w t q = absurd (let z : ◌≡◌ {A = ℕ} 0 1 = cc in omega arith)

  start-along : (v : RtrProtocolVersion) (m : Memory) (live working : List ℕ) → length m.hold ≡ H → start_said (Ok m.session) m.live m.working m.hold ≡ start_says limit v live working m.hold → Along v [] m
  unfolding history_of with_updates
  start-along v m live working size e =
      record {
        receiver = fresh v;
        stands = start-stands v m live working size e;
        way = record { place = Place.idle; at = At.at-idle refl; between = []; table = refl; to-come = λ es. refl };
      }

  -- one call more
  step-along : (v : RtrProtocolVersion) (calls : List Call) (call : Call) (m m' : Memory) → Along v calls m → Step limit m call m' → Along v (calls ++ call ∷ []) m'
  step-along v calls call m m' along step =
      let r : Receiver = along.receiver in
      record {
        receiver = after call r;
        stands = step-stands call m m' r along.stands step;
        way =
            subst (λ (es : List Event). Leads limit H (fresh v) Place.idle es (after call r)) (history-snoc calls call)
            (onward-by limit H along.way (leads call r along.way.place along.way.at));
      }

  pub run_along : (v : RtrProtocolVersion) (calls : List Call) (m : Memory) → Run limit v H calls m → Along v calls m
  run_along v calls m (Run.started m₀ live working size e) = start-along v m₀ live working size e
  run_along v calls m (Run.next {calls = before} {call = call} {m = m₀} run step) = step-along v before call m₀ m (run_along v before m₀ run) step

-- ---- Demand 3

-- In every run, over every version, hold size, list of calls and cut, the live table with its session, serial and intervals is what the updates make that
-- finished in the history.
pub history : (limit H : ℕ) (v : RtrProtocolVersion) (calls : List Call) (m : Memory) → Run limit v H calls m → live_in m ≡ table_of limit (finished limit H v (history_of calls))
history limit H v calls m run =
    let along = run_along limit H v calls m run in
    ap live_of (is-receiver limit H along.stands) ∙ along.way.table ∙ ap (table_of limit) (sym (all-between limit H along.way))

-- the same bytes cut elsewhere, between the same asks and reconnects, leave the same live table
pub cut-anywhere : (limit H : ℕ) (v : RtrProtocolVersion) (calls calls' : List Call) (m m' : Memory) → Run limit v H calls m → Run limit v H calls' m' → history_of calls ≡ history_of calls' → live_in m ≡ live_in m'
cut-anywhere limit H v calls calls' m m' run run' e =
    history limit H v calls m run ∙ ap (λ (h : List Event). table_of limit (finished limit H v h)) e ∙ sym (history limit H v calls' m' run')

-- no update makes no table
pub table-of-none : (limit : ℕ) → table_of limit [] ≡ no_table
unfolding with_updates
table-of-none limit = refl

-- a table stays a table
known-stays : (limit : ℕ) (us : List Update) (live : Live) → has_table live.info ≡ true → has_table (with_updates limit live us).info ≡ true
unfolding with_updates
known-stays limit [] live e = e
known-stays limit (u ∷ us) live e = known-stays limit us (updated limit live u) refl

-- there is no table exactly where no update has finished
pub no_table_lem : (limit H : ℕ) (v : RtrProtocolVersion) (calls : List Call) (m : Memory) → Run limit v H calls m → ((live_in m).info ≡ None) ↔ (finished limit H v (history_of calls) ≡ [])
unfolding with_updates
no_table_lem limit H v calls m run = (λ e. go (finished limit H v (history_of calls)) (sym (ap (λ (l : Live). l.info) (history limit H v calls m run)) ∙ e), λ e. ap (λ (l : Live). l.info) (history limit H v calls m run) ∙ ap (λ (us : List Update). (table_of limit us).info) e)
  where
    go : (us : List Update) → (table_of limit us).info ≡ None → us ≡ []
    go [] e = refl
    go (u ∷ us) e = absurd (let z : true ≡ false = sym (known-stays limit us (updated limit no_table u) refl) ∙ ap has_table e in let o : ◌≡◌ {A = ℕ} 0 1 = cc in omega arith)
