-- Demand 1 on lent memory. What the feed that stops leaves of it (`stop-in-memory`): the working room all zeros, nothing held, and live room, table and note as they were before the byte that stopped. And one statement
-- over all later calls up to the next reconnect (`stop-holds`): memory stays as it is (the hold past the held count is anyone's), every feed takes nothing and says the same stop, every ask is refused by 20 and leaves its output. `refused-full-keeps`, `refused-change-keeps`:
-- what a refused ask of a run leaves. Assumes nothing.
use Rattle.std.specs.Prelude.{Result, Ok, Err, ⊤}
use Rattle.std.proofs.Common.{◌≡◌, ℕ, suc, ◌*◌, ◌<◌, true, false, List, [], ◌∷◌, ◌++◌, length, take, replicate, sym, refl, ap, ◌∙◌, arith}
use Rattle.rtr_models.specs.declared.RtrProtocolVersion.{RtrProtocolVersion}
use Rattle.rtr_encode.specs.Encode.{Writing}
use Rattle.rtr_room.proofs.Laws.{empty-is}
use Rattle.rtr_receiver.specs.Contents.{counts_of, rooms_of}
use Rattle.rtr_receiver.specs.Receiver.{Stage, Receiver, Feed, stop, feed, full_query, change_query, listens, ask}
use Rattle.rtr_receiver.specs.Receiver.Stage.{stopped}
use Rattle.rtr_receiver.specs.Promises.{Left, Ending, FeedSays, AskSays, is_receiver, receiver_of, stage_of, leaves, in_memory, fed_said_by, feed_says, asked_to, ask_said, ask_writing, full_ask_says, change_ask_says}
use Rattle.rtr_receiver.specs.Receives.{receives}
use Rattle.rtr_receiver.specs.Runs.{Call, Memory, Step, Steps, Run, history_of, left_in, reconnects}
use Rattle.rtr_receiver.specs.declared.LoadKind.{LoadKind}
use Rattle.rtr_receiver.specs.declared.Session.{Session}
use Rattle.rtr_receiver.proofs.Feeds.{from}
use Rattle.rtr_receiver.proofs.Memory.{standing}
use Rattle.rtr_receiver.proofs.Kept.{Cleared, piece-keeps}
use Rattle.rtr_receiver.proofs.Laws.{keeps-shape, stop-clears, stop-repeats, refused-keeps-full, refused-keeps-change}
use Rattle.rtr_receiver.proofs.Receives.{memory-is, receives-piece, piece-after}
use Rattle.rtr_receiver.proofs.Shaped.{shaped-full-ask, shaped-change-ask}
use Rattle.rtr_receiver.specs.declared.FeedError.{FeedError}
use Rattle.rtr_receiver.specs.declared.AskError.{AskError}

-- ---- What a stop leaves

-- the receiver that stopped is the one before the byte, stopped
cleared-is : (r r' : Receiver) (n : ℕ) (x : List ℕ) → r'.version ≡ r.version → r'.stage ≡ stopped n x → Cleared r r' → r' ≡ stop n x r
cleared-is r r' n x v s c =
    λ i. record { version = v i; stage = s i; table = c.3 i; note = c.4 i; live = c.2 i; working = c.1 i; held = c.0 i }

-- the receiver fed on stops as Receiver's page says: after k bytes it listened, and byte k stopped it
pub fed-stops : (limit H : ℕ) (r : Receiver) (piece : List ℕ) (n : ℕ) (x : List ℕ) →
    listens r.stage ≡ true →
    (feed limit H r piece).receiver.stage ≡ stopped n x →
    (k : ℕ)
    × (k < length piece)
    × ((feed limit H r piece).taken ≡ suc k)
    × (listens (feed limit H r (take k piece)).receiver.stage ≡ true)
    × ((feed limit H r piece).receiver ≡ stop n x (feed limit H r (take k piece)).receiver)
unfolding feed
fed-stops limit H r piece n x on e =
    let c = stop-clears limit H r piece on (ap listens e) in
    let version = (piece-keeps limit H piece (from r 0 0)).version ∙ sym (piece-keeps limit H (take c.0 piece) (from r 0 0)).version in
    (c.0, c.1, c.2, c.3, cleared-is (feed limit H r (take c.0 piece)).receiver (feed limit H r piece).receiver n x version e c.5)

-- lent memory and the session record after a stop, beside the receiver before the byte that stopped
pub record Emptied (limit n : ℕ) (x : List ℕ) (before : Receiver) (m : Memory) : Type 0 where
  pub state : left_in m ≡ in_memory limit (stop n x before)
  -- the working room and what is held are cleared
  pub working-room : m.working ≡ replicate (6 * limit) 0
  pub working-count : m.session.working.records ≡ 0
  pub held-count : m.session.held ≡ 0
  -- the live room, its table and the note are kept
  pub live-room : m.live ≡ rooms_of limit before.live
  pub live-count : m.session.live ≡ counts_of before.live
  pub table : m.session.table ≡ before.table
  pub note : m.session.note ≡ before.note

emptied-of : (limit n : ℕ) (x : List ℕ) (before : Receiver) (m : Memory) → left_in m ≡ in_memory limit (stop n x before) → Emptied limit n x before m
emptied-of limit n x before m e =
    record {
      state = e;
      working-room = ap (λ (l : Left). l.working) e ∙ sym (empty-is limit).0;
      working-count = ap (λ (l : Left). l.working_count.records) e;
      held-count = ap (λ (l : Left). l.held_count) e;
      live-room = ap (λ (l : Left). l.live) e;
      live-count = ap (λ (l : Left). l.live_count) e;
      table = ap (λ (l : Left). l.table) e;
      note = ap (λ (l : Left). l.note) e;
    }

-- the feed that stops, along a run: fed up to the byte before, the receiver of the history listens; memory is that receiver stopped
pub stop-in-memory : (limit H : ℕ) (v : RtrProtocolVersion) (calls : List Call) (m m' : Memory) (piece : List ℕ) (n : ℕ) (x : List ℕ) →
    Run limit v H calls m →
    Step limit m (Call.feed piece) m' →
    listens (stage_of m.session.phase) ≡ true →
    stage_of m'.session.phase ≡ stopped n x →
    (k : ℕ)
    × (k < length piece)
    × (listens (receives limit H v (history_of (calls ++ Call.feed (take k piece) ∷ []))).receiver.stage ≡ true)
    × Emptied limit n x (receives limit H v (history_of (calls ++ Call.feed (take k piece) ∷ []))).receiver m'
unfolding feed
stop-in-memory limit H v calls m m' piece n x run step on e =
    let r : Receiver = (receives limit H v (history_of calls)).receiver in
    let fed : (p : List ℕ) → (receives limit H v (history_of (calls ++ Call.feed p ∷ []))).receiver ≡ (feed limit H r p).receiver =
    λ p. ap (λ (f : Feed). f.receiver) (receives-piece limit H v calls p ∙ piece-after limit H p (receives limit H v (history_of calls))) in
    let here = memory-is limit H v calls m run in
    let there = memory-is limit H v (calls ++ Call.feed piece ∷ []) m' (Run.next run step) in
    let stage : (feed limit H r piece).receiver.stage ≡ stopped n x =
    sym (ap (λ (y : Receiver). y.stage) (fed piece)) ∙ sym (ap (λ (l : Left). l.stage) there) ∙ e in
    let c = fed-stops limit H r piece n x (sym (ap (λ (l : Left). listens l.stage) here) ∙ on) stage in
    let before : (feed limit H r (take c.0 piece)).receiver ≡ (receives limit H v (history_of (calls ++ Call.feed (take c.0 piece) ∷ []))).receiver = sym (fed (take c.0 piece)) in (
      c.0,
      c.1,
      sym (ap (λ (y : Receiver). listens y.stage) before) ∙ c.3,
      emptied-of limit n x _ m' (there ∙ ap (in_memory limit) (fed piece ∙ c.4 ∙ ap (stop n x) before)),
    )

-- ---- Until the next reconnect

-- what memory and every call say in Stopped
pub record Still (limit n : ℕ) (x : List ℕ) (m m' : Memory) : Type 0 where
  pub same : left_in m' ≡ left_in m
  pub feeds : (piece : List ℕ) → feed_says limit m'.session m'.live m'.working m'.hold piece ≡ FeedSays.fed 0 0 (Ending.stops n x) (left_in m)
  pub asks-full : (out : List ℕ) → full_ask_says limit m'.session m'.live m'.working m'.hold out ≡ record { says = Writing.refused 20 []; out = out; left = left_in m }
  pub asks-change : (out : List ℕ) → change_ask_says limit m'.session m'.live m'.working m'.hold out ≡ record { says = Writing.refused 20 []; out = out; left = left_in m }

module _ (limit n : ℕ) (x : List ℕ) where
  -- of memory that has receiver shape and stopped
  stands-still : (m m' : Memory) → is_receiver limit m'.session m'.live m'.working m'.hold ≡ true → stage_of m'.session.phase ≡ stopped n x → left_in m' ≡ left_in m → Still limit n x m m'
  stands-still m m' shape e q =
      let r : Receiver = receiver_of m'.session m'.live m'.working m'.hold in
      let left : in_memory limit r ≡ left_in m = sym (standing limit m'.session m'.live m'.working m'.hold shape) ∙ q in
      record {
        same = q;
        feeds = λ piece. stop-repeats limit m'.session m'.live m'.working m'.hold piece n x shape e ∙ ap (FeedSays.fed 0 0 (Ending.stops n x)) q;
        asks-full = λ out.
            shaped-full-ask limit m'.session m'.live m'.working m'.hold shape out
            ∙ ap (λ (s : Stage). asked_to limit (ask (full_query s r) r out)) e
            ∙ (λ i. record { says = Writing.refused 20 []; out = out; left = left i });
        asks-change = λ out.
            shaped-change-ask limit m'.session m'.live m'.working m'.hold shape out
            ∙ ap (λ (s : Stage). asked_to limit (ask (change_query s r) r out)) e
            ∙ (λ i. record { says = Writing.refused 20 []; out = out; left = left i });
      }

  -- what a feed that was not refused leaves
  left-fed : (answer : Result ⊤ FeedError) (taken updates : ℕ) (l l' : Left) (hold : List ℕ) → fed_said_by answer taken updates l hold ≡ FeedSays.fed 0 0 (Ending.stops n x) l' → l ≡ l'
  left-fed (Ok tt) taken updates l l' hold e = cc
  left-fed (Err (FeedError.Stopped why)) taken updates l l' hold e = cc
  left-fed (Err FeedError.NotAReceiver) taken updates l l' hold e = absurd (let z : ◌≡◌ {A = ℕ} 0 1 = cc in omega arith)

  -- so a call that is no reconnect leaves memory
  still-step : (call : Call) (m m' m'' : Memory) → Still limit n x m m' → Step limit m' call m'' → reconnects (call ∷ []) ≡ false → left_in m'' ≡ left_in m
  still-step (Call.feed piece) m m' m'' still (Step.fed s done live working hold size e) quiet =
      left-fed done.answer done.taken done.updates (leaves s live working hold) (left_in m) hold (e ∙ still.feeds piece)
  still-step (Call.ask LoadKind.Full out) m m' m'' still (Step.asked_full s answer out' e) quiet = ap (λ (a : AskSays). a.left) (e ∙ still.asks-full out)
  still-step (Call.ask LoadKind.Change out) m m' m'' still (Step.asked_change s answer out' e) quiet = ap (λ (a : AskSays). a.left) (e ∙ still.asks-change out)
  still-step Call.reconnect m m' m'' still step quiet = absurd (let z : ◌≡◌ {A = ℕ} 0 1 = cc in omega arith)

  -- no reconnect among calls is none among the first, and none last
  no-reconnect : (calls : List Call) (call : Call) → reconnects (calls ++ call ∷ []) ≡ false → (reconnects calls ≡ false) × (reconnects (call ∷ []) ≡ false)
  no-reconnect [] call e = (refl, e)
  no-reconnect (Call.feed piece ∷ calls) call e = no-reconnect calls call e
  no-reconnect (Call.ask kind out ∷ calls) call e = no-reconnect calls call e
  no-reconnect (Call.reconnect ∷ calls) call e = absurd (let z : ◌≡◌ {A = ℕ} 0 1 = cc in omega arith)

  -- "A stop .. repeats until a reconnect": from any memory that has receiver shape and stopped, whatever calls come, as long as no reconnect is among them
  pub stop-holds : (m : Memory) →
      is_receiver limit m.session m.live m.working m.hold ≡ true →
      stage_of m.session.phase ≡ stopped n x →
      (calls : List Call) (m' : Memory) →
      Steps limit m calls m' →
      reconnects calls ≡ false →
      Still limit n x m m' × (is_receiver limit m'.session m'.live m'.working m'.hold ≡ true)
  stop-holds m shape e calls m' Steps.none quiet = (stands-still m m shape e refl, shape)
  stop-holds m shape e calls m'' (Steps.more {calls = before} {call = call} {m' = m'} steps step) quiet =
      let both = no-reconnect before call quiet in
      let so_far = stop-holds m shape e before m' steps both.0 in
      let kept = keeps-shape limit call m' m'' so_far.1 step in
      let q = still-step call m m' m'' so_far.0 step both.1 in
      (stands-still m m'' kept (ap (λ (l : Left). l.stage) q ∙ e) q, kept)

-- ---- A refused ask of a run leaves memory and output

module _ (limit : ℕ) (m : Memory) (out : List ℕ) (s : Session) (answer : Result ℕ AskError) (out' : List ℕ) (k : ℕ) (x : List ℕ) (refused : ask_writing answer ≡ Writing.refused k x) where
  pub refused-full-keeps :
      ask_said (record { session = s; answer = answer }) m.live m.working m.hold out' ≡ full_ask_says limit m.session m.live m.working m.hold out →
      (out' ≡ out) × (leaves s m.live m.working m.hold ≡ left_in m)
  refused-full-keeps e =
      let kept = refused-keeps-full limit m.session m.live m.working m.hold out k x (sym (ap (λ (a : AskSays). a.says) e) ∙ refused) in
      (ap (λ (a : AskSays). a.out) e ∙ kept.0, ap (λ (a : AskSays). a.left) e ∙ kept.1)

  pub refused-change-keeps :
      ask_said (record { session = s; answer = answer }) m.live m.working m.hold out' ≡ change_ask_says limit m.session m.live m.working m.hold out →
      (out' ≡ out) × (leaves s m.live m.working m.hold ≡ left_in m)
  refused-change-keeps e =
      let kept = refused-keeps-change limit m.session m.live m.working m.hold out k x (sym (ap (λ (a : AskSays). a.says) e) ∙ refused) in
      (ap (λ (a : AskSays). a.out) e ∙ kept.0, ap (λ (a : AskSays). a.left) e ∙ kept.1)
