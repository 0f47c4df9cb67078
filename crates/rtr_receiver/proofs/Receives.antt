-- The whole state from the history. Along every run memory is `in_memory` of the receiver that the history's events lead to, step by step of Receiver's page (`memory-is`): so the same bytes cut elsewhere leave the same
-- state (`state-cut-anywhere`), and what a feed, an ask, a reconnect and the notify comparison say is that receiver's (`feed-is`, `full-ask-is`, `change-ask-is`, `reconnect-is`, `notify-is`). After every history that receiver's
-- table, updates, phase with its stop and working table are what History's page says, which knows nothing of these steps (`receives-history`). Assumes nothing.
use Rattle.std.specs.Prelude.{Option, Some, None}
use Rattle.std.proofs.Common.{◌≡◌, ℕ, ◌+◌, ◌-◌, Bool, true, false, cond, leb, ◌⊎◌, List, [], ◌∷◌, ◌++◌, length, replicate, sym, refl, ap, ◌∙◌, subst, inl, inr, append-nil, arith, length-append}
use lib.ListN.{length-replicate}
use Rattle.rtr_models.specs.declared.RtrProtocolVersion.{RtrProtocolVersion}
use Rattle.rtr_codec.specs.Reading.{in_use}
use Rattle.rtr_stream.specs.Stream.{Heard, judge}
use Rattle.rtr_stream.proofs.Laws.{nothing-waits}
use Rattle.rtr_receiver.specs.Receiver.{Stage, Receiver, Feed, fresh, holding, in_stage, heard, listens, on_pdu, on_byte, on_piece, feed, full_query, serial_query, change_query, ask, reconnected, notified}
use Rattle.rtr_receiver.specs.History.{Event, Update, Place, with_updates, table_of, finished, stands_after}
use Rattle.rtr_receiver.specs.Promises.{Left, FeedSays, NotifySays, receiver_of, stage_of, in_memory, ending_of, fed_to, feed_says, asked_to, full_ask_says, change_ask_says, reconnect_says, notify_says}
use Rattle.rtr_receiver.specs.Receives.{asking, on_event, on_events, receives, stage_at, working_at}
use Rattle.rtr_receiver.specs.Runs.{Call, Memory, Run, bytes, history_of, left_in}
use Rattle.rtr_receiver.specs.declared.LoadKind.{LoadKind}
use Rattle.rtr_receiver.proofs.Feeds.{from}
use Rattle.rtr_receiver.proofs.Good.{fresh-good, loading_in}
use Rattle.rtr_receiver.proofs.Histories.{At, Leads, live_of, onward-by, all-between, ends_there, full_is, change-is, byte-follows, full-follows, change-follows, reconnect-follows, Quietly}
use Rattle.rtr_receiver.proofs.Runs.{Sound, Stands, after, start-stands, in-shape, is-receiver, step-stands, history-snoc, byte-sound, full-sound, change-sound, reconnect-sound}
use Rattle.rtr_receiver.proofs.Shaped.{shaped-feed, shaped-full-ask, shaped-change-ask, shaped-reconnect, shaped-notify}
use Rattle.rtr_receiver.specs.declared.Table.{Table}

module _ (limit H : ℕ) where
  -- ---- Of an ask's output only the space counts

  -- a query is written, or not, by the space for it
  full-by-space : (r : Receiver) (out out' : List ℕ) → length out ≡ length out' → (stage : Stage) → (ask (full_query stage r) r out).receiver ≡ (ask (full_query stage r) r out').receiver
  full-by-space r out out' e Stage.idle = full_is limit H r out ∙ ap (λ (k : ℕ). cond (leb 8 k) (in_stage Stage.asked_full r) r) e ∙ sym (full_is limit H r out')
  full-by-space r out out' e Stage.must_reset = full_is limit H r out ∙ ap (λ (k : ℕ). cond (leb 8 k) (in_stage Stage.asked_full r) r) e ∙ sym (full_is limit H r out')
  full-by-space r out out' e Stage.asked_full = refl
  full-by-space r out out' e Stage.asked_change = refl
  full-by-space r out out' e (Stage.loading kind session) = refl
  full-by-space r out out' e (Stage.stopped number values) = refl

  serial-by-space : (r : Receiver) (out out' : List ℕ) → length out ≡ length out' → (t : Option Table) → (ask (serial_query t r) r out).receiver ≡ (ask (serial_query t r) r out').receiver
  serial-by-space r out out' e None = refl
  serial-by-space r out out' e (Some t) = change-is limit H r t out ∙ ap (λ (k : ℕ). cond (leb 12 k) (in_stage Stage.asked_change r) r) e ∙ sym (change-is limit H r t out')

  change-by-space : (r : Receiver) (out out' : List ℕ) → length out ≡ length out' → (stage : Stage) → (ask (change_query stage r) r out).receiver ≡ (ask (change_query stage r) r out').receiver
  change-by-space r out out' e Stage.idle = serial-by-space r out out' e r.table
  change-by-space r out out' e Stage.must_reset = refl
  change-by-space r out out' e Stage.asked_full = refl
  change-by-space r out out' e Stage.asked_change = refl
  change-by-space r out out' e (Stage.loading kind session) = refl
  change-by-space r out out' e (Stage.stopped number values) = refl

  -- ---- A feed adds to what was taken and finished before it

  abbrev adding : ℕ → ℕ → Feed → Feed
  adding k u f = record { receiver = f.receiver; taken = k + f.taken; updates = u + f.updates }

  heard-adds : (k u taken updates : ℕ) (r : Receiver) (s : List ℕ) (h : Heard) → heard limit (k + taken + 1) (u + updates) r s h ≡ adding k u (heard limit (taken + 1) updates r s h)
  heard-adds k u taken updates r s Heard.waits =
      let e : k + taken + 1 ≡ k + (taken + 1) = omega arith in
      λ i. record { receiver = holding s r; taken = e i; updates = u + updates }
  heard-adds k u taken updates r s (Heard.whole pdu) =
      let d = on_pdu limit pdu (holding [] r) in
      let e : k + taken + 1 ≡ k + (taken + 1) = omega arith in
      let q : u + updates + d.updates ≡ u + (updates + d.updates) = omega arith in
      λ i. record { receiver = d.then; taken = e i; updates = q i }
  heard-adds k u taken updates r s (Heard.refused number values) =
      let e : k + taken + 1 ≡ k + (taken + 1) = omega arith in
      λ i. record { receiver = (heard limit 0 0 r s (Heard.refused number values)).receiver; taken = e i; updates = u + updates }

  byte-adds : (k u : ℕ) (f : Feed) (b : ℕ) → on_byte limit H (adding k u f) b ≡ adding k u (on_byte limit H f b)
  unfolding on_byte
  byte-adds k u f b = go (listens f.receiver.stage)
    where
      s : List ℕ
      s = f.receiver.held ++ b ∷ []

      go : (t : Bool) → cond t (heard limit (k + f.taken + 1) (u + f.updates) f.receiver s (judge in_use H s)) (adding k u f) ≡ adding k u (cond t (heard limit (f.taken + 1) f.updates f.receiver s (judge in_use H s)) f)
      go true = heard-adds k u f.taken f.updates f.receiver s (judge in_use H s)
      go false = refl

  piece-adds : (piece : List ℕ) (k u : ℕ) (f : Feed) → on_piece limit H (adding k u f) piece ≡ adding k u (on_piece limit H f piece)
  unfolding on_piece
  piece-adds [] k u f = refl
  piece-adds (b ∷ piece) k u f = ap (λ (x : Feed). on_piece limit H x piece) (byte-adds k u f b) ∙ piece-adds piece k u (on_byte limit H f b)

  -- so a piece adds what it would be fed alone
  pub piece-after : (piece : List ℕ) (f : Feed) → on_piece limit H f piece ≡ adding f.taken f.updates (on_piece limit H (from f.receiver 0 0) piece)
  piece-after piece f =
      let k : f.taken ≡ f.taken + 0 = omega arith in
      let u : f.updates ≡ f.updates + 0 = omega arith in
      ap (λ (x : Feed). on_piece limit H x piece) (λ i. record { receiver = f.receiver; taken = k i; updates = u i })
      ∙ piece-adds piece f.taken f.updates (from f.receiver 0 0)

  -- ---- Events one after another

  pub events-join : (es es' : List Event) (f : Feed) → on_events limit H f (es ++ es') ≡ on_events limit H (on_events limit H f es) es'
  unfolding on_events
  events-join [] es' f = refl
  events-join (e ∷ es) es' f = events-join es es' (on_event limit H f e)

  -- a piece's bytes are the piece
  pub bytes-are-piece : (piece : List ℕ) (f : Feed) → on_events limit H f (bytes piece) ≡ on_piece limit H f piece
  unfolding on_events on_piece
  bytes-are-piece [] f = refl
  bytes-are-piece (b ∷ piece) f = bytes-are-piece piece (on_byte limit H f b)

  -- a call's events lead where the call leads
  call-events : (call : Call) (f : Feed) → (on_events limit H f (history_of (call ∷ []))).receiver ≡ after limit H call f.receiver
  unfolding on_events history_of
  call-events (Call.feed piece) f =
      ap (λ (es : List Event). (on_events limit H f es).receiver) (append-nil (bytes piece))
      ∙ ap (λ (x : Feed). x.receiver) (bytes-are-piece piece f)
      ∙ ap (λ (x : Feed). x.receiver) (piece-after piece f)
  call-events (Call.ask LoadKind.Full out) f = full-by-space f.receiver (replicate (length out) 0) out (length-replicate (length out) 0) f.receiver.stage
  call-events (Call.ask LoadKind.Change out) f = change-by-space f.receiver (replicate (length out) 0) out (length-replicate (length out) 0) f.receiver.stage
  call-events Call.reconnect f = refl

  -- bytes taken: a byte is where the receiver listens, and nothing else takes any
  pub takes-bytes : (f : Feed) (b : ℕ) → (on_event limit H f (Event.byte b)).taken ≡ cond (listens f.receiver.stage) (f.taken + 1) f.taken
  unfolding on_byte
  takes-bytes f b = go (listens f.receiver.stage) (judge in_use H (f.receiver.held ++ b ∷ []))
    where
      go : (t : Bool) (h : Heard) → (cond t (heard limit (f.taken + 1) f.updates f.receiver (f.receiver.held ++ b ∷ []) h) f).taken ≡ cond t (f.taken + 1) f.taken
      go true Heard.waits = refl
      go true (Heard.whole pdu) = refl
      go true (Heard.refused number values) = refl
      go false h = refl

  pub takes_none : (f : Feed) (kind : LoadKind) (space : ℕ) → ((on_event limit H f (Event.ask kind space)).taken ≡ f.taken) × ((on_event limit H f Event.reconnect).taken ≡ f.taken)
  takes_none f kind space = (refl, refl)

  -- one call more in a history
  pub receives-next : (v : RtrProtocolVersion) (calls : List Call) (call : Call) → receives limit H v (history_of (calls ++ call ∷ [])) ≡ on_events limit H (receives limit H v (history_of calls)) (history_of (call ∷ []))
  receives-next v calls call =
      ap (receives limit H v) (sym (history-snoc limit H calls call)) ∙ events-join (history_of calls) (history_of (call ∷ [])) (record { receiver = fresh v; taken = 0; updates = 0 })

  -- a piece more
  pub receives-piece : (v : RtrProtocolVersion) (calls : List Call) (piece : List ℕ) → receives limit H v (history_of (calls ++ Call.feed piece ∷ [])) ≡ on_piece limit H (receives limit H v (history_of calls)) piece
  unfolding history_of
  receives-piece v calls piece =
      receives-next v calls (Call.feed piece)
      ∙ ap (on_events limit H (receives limit H v (history_of calls))) (append-nil (bytes piece))
      ∙ bytes-are-piece piece (receives limit H v (history_of calls))

-- ---- Along a run

-- a run, and the receiver that its history leads to
module _ (limit H : ℕ) (v : RtrProtocolVersion) where
  -- memory stands for it
  pub stands-for-history : (calls : List Call) (m : Memory) → Run limit v H calls m → Stands limit H m (receives limit H v (history_of calls)).receiver
  unfolding history_of on_events
  stands-for-history calls m (Run.started m₀ live working size e) = start-stands limit H v m₀ live working size e
  stands-for-history calls m (Run.next {calls = before} {call = call} {m = m₀} run step) =
      subst (Stands limit H m)
      (sym (call-events limit H call (receives limit H v (history_of before))) ∙ sym (ap (λ (f : Feed). f.receiver) (receives-next limit H v before call)))
      (step-stands limit H call m₀ m _ (stands-for-history before m₀ run) step)

  -- memory is that receiver: phase, stop with number and values, table, note, counts, both rooms whole, held bytes
  pub memory-is : (calls : List Call) (m : Memory) → Run limit v H calls m → left_in m ≡ in_memory limit (receives limit H v (history_of calls)).receiver
  memory-is calls m run = (stands-for-history calls m run).left

  -- the same bytes cut elsewhere, between the same asks and reconnects, leave the same state
  pub state-cut-anywhere : (calls calls' : List Call) (m m' : Memory) → Run limit v H calls m → Run limit v H calls' m' → history_of calls ≡ history_of calls' → left_in m ≡ left_in m'
  state-cut-anywhere calls calls' m m' run run' e =
      memory-is calls m run ∙ ap (λ (es : List Event). in_memory limit (receives limit H v es).receiver) e ∙ sym (memory-is calls' m' run')

  module _ (calls : List Call) (m : Memory) (run : Run limit v H calls m) where
    -- the receiver so far
    abbrev now : Receiver
    now = (receives limit H v (history_of calls)).receiver

    standing : Stands limit H m now
    standing = stands-for-history calls m run

    same : receiver_of m.session m.live m.working m.hold ≡ now
    same = is-receiver limit H standing

    -- what a feed says: the bytes and updates that the history with the piece has more, the stop of the receiver there, and that receiver in memory
    pub feed-is : (piece : List ℕ) →
        feed_says limit m.session m.live m.working m.hold piece
        ≡ FeedSays.fed
        ((receives limit H v (history_of (calls ++ Call.feed piece ∷ []))).taken - (receives limit H v (history_of calls)).taken)
        ((receives limit H v (history_of (calls ++ Call.feed piece ∷ []))).updates - (receives limit H v (history_of calls)).updates)
        (ending_of (receives limit H v (history_of (calls ++ Call.feed piece ∷ []))).receiver.stage)
        (in_memory limit (receives limit H v (history_of (calls ++ Call.feed piece ∷ []))).receiver)
    unfolding feed
    feed-is piece =
        let before : Feed = receives limit H v (history_of calls) in
        let fed : Feed = on_piece limit H (from now 0 0) piece in
        let joined : receives limit H v (history_of (calls ++ Call.feed piece ∷ [])) ≡ adding limit H before.taken before.updates fed = receives-piece limit H v calls piece ∙ piece-after limit H piece before in
        let taken : fed.taken ≡ before.taken + fed.taken - before.taken = omega arith in
        let updates : fed.updates ≡ before.updates + fed.updates - before.updates = omega arith in
        shaped-feed limit m.session m.live m.working m.hold (in-shape limit H standing) piece
        ∙ (λ i. fed_to limit (feed limit (standing.size i) (same i) piece))
        ∙ (λ i. FeedSays.fed (taken i) (updates i) (ending_of fed.receiver.stage) (in_memory limit fed.receiver))
        ∙ (λ i. FeedSays.fed ((sym joined i).taken - before.taken) ((sym joined i).updates - before.updates) (ending_of (sym joined i).receiver.stage) (in_memory limit (sym joined i).receiver))

    -- what an ask says, and what it leaves of the output and of memory
    pub full-ask-is : (out : List ℕ) → full_ask_says limit m.session m.live m.working m.hold out ≡ asked_to limit (ask (full_query now.stage now) now out)
    full-ask-is out =
        shaped-full-ask limit m.session m.live m.working m.hold (in-shape limit H standing) out ∙ ap (λ (r : Receiver). asked_to limit (ask (full_query r.stage r) r out)) same

    pub change-ask-is : (out : List ℕ) → change_ask_says limit m.session m.live m.working m.hold out ≡ asked_to limit (ask (change_query now.stage now) now out)
    change-ask-is out =
        shaped-change-ask limit m.session m.live m.working m.hold (in-shape limit H standing) out ∙ ap (λ (r : Receiver). asked_to limit (ask (change_query r.stage r) r out)) same

    pub reconnect-is : reconnect_says limit m.session m.live m.working m.hold ≡ record { number = 0; left = in_memory limit (reconnected now) }
    reconnect-is =
        shaped-reconnect limit m.session m.live m.working m.hold (in-shape limit H standing) ∙ (λ i. record { number = 0; left = in_memory limit (reconnected (same i)) })

    pub notify-is : notify_says limit m.session m.live m.working m.hold ≡ NotifySays.compares (notified now.table now.note)
    notify-is =
        shaped-notify limit m.session m.live m.working m.hold (in-shape limit H standing) ∙ (λ i. NotifySays.compares (notified (same i).table (same i).note))

-- ---- After every history the receiver is where History's page says

module _ (limit H : ℕ) where
  -- an event keeps a receiver sound
  event-sound : (e : Event) (f : Feed) → Sound limit H f.receiver → Sound limit H (on_event limit H f e).receiver
  event-sound (Event.byte b) f sound = byte-sound limit H f b sound
  event-sound (Event.ask LoadKind.Full space) f sound = full-sound limit H f.receiver (replicate space 0) sound f.receiver.stage refl
  event-sound (Event.ask LoadKind.Change space) f sound = change-sound limit H f.receiver (replicate space 0) sound f.receiver.stage refl
  event-sound Event.reconnect f sound = reconnect-sound limit H f.receiver sound

  events-sound : (es : List Event) (f : Feed) → Sound limit H f.receiver → Sound limit H (on_events limit H f es).receiver
  unfolding on_events
  events-sound [] f sound = sound
  events-sound (e ∷ es) f sound = events-sound es (on_event limit H f e) (event-sound e f sound)

  -- events lead on, and count the updates that finish by them
  abbrev Goes : Feed → Place → List Event → Feed → Type 0
  Goes f p es f' = (way : Leads limit H f.receiver p es f'.receiver) × (f'.updates ≡ f.updates + length way.between)

  -- an ask and a reconnect count none
  none_more : (u : ℕ) (us : List Update) → us ≡ [] → u ≡ u + length us
  none_more u us e = let n : length us ≡ 0 = ap length e in omega (arith, n)

  event-goes : (e : Event) (f : Feed) (p : Place) → At limit H f.receiver p → Goes f p (e ∷ []) (on_event limit H f e)
  event-goes (Event.byte b) f p a = byte-follows limit H f.receiver p b f.taken f.updates a
  event-goes (Event.ask LoadKind.Full space) f p a =
      let q = subst (λ (k : ℕ). Quietly limit H f.receiver p (Event.ask LoadKind.Full k ∷ []) (asking LoadKind.Full space f.receiver)) (length-replicate space 0) (full-follows limit H f.receiver p (replicate space 0) a) in
      (q.0, none_more f.updates q.0.between q.1)
  event-goes (Event.ask LoadKind.Change space) f p a =
      let q = subst (λ (k : ℕ). Quietly limit H f.receiver p (Event.ask LoadKind.Change k ∷ []) (asking LoadKind.Change space f.receiver)) (length-replicate space 0) (change-follows limit H f.receiver p (replicate space 0) a) in
      (q.0, none_more f.updates q.0.between q.1)
  event-goes Event.reconnect f p a =
      let q = reconnect-follows limit H f.receiver p in
      (q.0, none_more f.updates q.0.between q.1)

  events-go : (es : List Event) (f : Feed) (p : Place) → At limit H f.receiver p → Goes f p es (on_events limit H f es)
  unfolding on_events with_updates
  events-go [] f p a = (record { place = p; at = a; between = []; table = refl; to-come = λ later. refl }, none_more f.updates [] refl)
  events-go (e ∷ es) f p a =
      let one = event-goes e f p a in
      let rest = events-go es (on_event limit H f e) one.0.place one.0.at in
      (onward-by limit H one.0 rest.0, omega (arith, one.1, rest.1, length-append one.0.between rest.0.between))

  -- the phase at a place, and the working table
  stage_at_lem : (r : Receiver) (p : Place) → At limit H r p → r.stage ≡ stage_at p
  stage_at_lem r Place.idle (At.at-idle e) = e
  stage_at_lem r Place.must_reset (At.at-reset e) = e
  stage_at_lem r (Place.asked LoadKind.Full) (At.at-full e) = e
  stage_at_lem r (Place.asked LoadKind.Change) (At.at-change e) = e
  stage_at_lem r (Place.loading kind session cs) (At.at_load e w) = e
  stage_at_lem r (Place.lost number values) (At.at-lost e) = e

  -- outside a load it is empty
  emptied : (r : Receiver) → Sound limit H r → loading_in r.stage ≡ false → r.working ≡ []
  emptied r sound off = go sound.good.emptied
    where
      go : (loading_in r.stage ≡ true) ⊎ (r.working ≡ []) → r.working ≡ []
      go (inl on) = absurd (let z : true ≡ false = sym on ∙ off in let o : ◌≡◌ {A = ℕ} 0 1 = cc in omega arith)
      go (inr e) = e

  working-at : (r : Receiver) (p : Place) → Sound limit H r → At limit H r p → r.working ≡ working_at limit r.live p
  working-at r Place.idle sound (At.at-idle e) = emptied r sound (ap loading_in e)
  working-at r Place.must_reset sound (At.at-reset e) = emptied r sound (ap loading_in e)
  working-at r (Place.asked LoadKind.Full) sound (At.at-full e) = emptied r sound (ap loading_in e)
  working-at r (Place.asked LoadKind.Change) sound (At.at-change e) = emptied r sound (ap loading_in e)
  working-at r (Place.loading kind session cs) sound (At.at_load e w) = w
  working-at r (Place.lost number values) sound (At.at-lost e) = emptied r sound (ap loading_in e)

  -- the receiver after a history, and what History's page says of it
  pub record FromHistory (v : RtrProtocolVersion) (es : List Event) : Type 0 where
    pub table : live_of (receives limit H v es).receiver ≡ table_of limit (finished limit H v es)
    pub updates : (receives limit H v es).updates ≡ length (finished limit H v es)
    pub stage : (receives limit H v es).receiver.stage ≡ stage_at (stands_after limit H v es)
    pub working : (receives limit H v es).receiver.working ≡ working_at limit (table_of limit (finished limit H v es)).records (stands_after limit H v es)

  pub receives-history : (v : RtrProtocolVersion) (es : List Event) → FromHistory v es
  receives-history v es =
      let start : Feed = record { receiver = fresh v; taken = 0; updates = 0 } in
      let went = events-go es start Place.idle (At.at-idle refl) in
      let r : Receiver = (receives limit H v es).receiver in
      let sound : Sound limit H r = events-sound es start (record { good = fresh-good limit v; waits = nothing-waits in_use H }) in
      let done = all-between limit H went.0 in
      let there = ends_there limit H went.0 in
      let count : length (finished limit H v es) ≡ length went.0.between = ap length done in
      let table : live_of r ≡ table_of limit (finished limit H v es) = went.0.table ∙ ap (table_of limit) (sym done) in
      record {
        table = table;
        updates = omega (arith, went.1, count);
        stage = stage_at_lem r went.0.place went.0.at ∙ ap stage_at (sym there);
        working = working-at r went.0.place sound went.0.at ∙ (λ i. working_at limit (table i).records (sym there i));
      }

-- the stop of a connection that History's page calls lost is the receiver's, and in memory
pub stop-from-history : (limit H : ℕ) (v : RtrProtocolVersion) (calls : List Call) (m : Memory) → Run limit v H calls m → stage_of m.session.phase ≡ stage_at (stands_after limit H v (history_of calls))
stop-from-history limit H v calls m run = ap (λ (l : Left). l.stage) (memory-is limit H v calls m run) ∙ (receives-history limit H v (history_of calls)).stage
