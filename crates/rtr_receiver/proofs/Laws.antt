-- The laws that higher crates and readers cite of the receiver's calls, over every limit: a refused call changes nothing, and when a start is refused; every call keeps receiver shape and the version; what a feed takes and counts;
-- a stop clears and repeats. Each is about the promises of specs/Promises.antt, but the last two: the table that records make (specs/History.antt).
-- Assumes nothing.
use Rattle.std.specs.Prelude.{Option, Some, None}
use Rattle.std.proofs.Common.{◌≡◌, ℕ, suc, ◌*◌, ◌<◌, ◌≤◌, Bool, true, false, cond, ◌&&◌, eqb, leb, ◌↔◌, List, [], ◌∷◌, ◌++◌, length, take, sym, refl, ap, ◌∙◌, subst, append-nil, arith, eq-eqb, eqb-true, le-leb, leb-true}
use Rattle.rtr_models.specs.declared.RtrProtocolVersion.{RtrProtocolVersion}
use Rattle.rtr_encode.specs.Encode.{Writing, encode}
use Rattle.rtr_encode.proofs.Laws.{refused-keeps-output}
use Rattle.rtr_codec.specs.Reading.{in_use}
use Rattle.rtr_stream.proofs.Laws.{stream-has}
use Rattle.rtr_room.specs.Table.{Change}
use Rattle.rtr_room.proofs.Laws.Tests.{second-of}
use Rattle.rtr_receiver.specs.Contents.{Contents, Rooms}
use Rattle.rtr_receiver.specs.Receiver.{Stage, Receiver, Feed, Query, is_stop, fresh, feed, full_query, serial_query, change_query, listens, on_piece, asked_by, ask, reconnected}
use Rattle.rtr_receiver.specs.Receiver.Stage.{idle, must_reset, asked_full, asked_change, loading, stopped}
use Rattle.rtr_receiver.specs.Promises.{Left, Ending, FeedSays, StartSays, AskSays, ReconnectSays, is_limit, is_receiver, receiver_of, stage_of, leaves, in_memory, ending_of, fed_to, feed_says, start_says, asked_to, ask_says, full_ask_says, change_ask_says, reconnect_says}
use Rattle.rtr_receiver.specs.History.{Event, Changed, Update, applied, kept, with_all, finished}
use Rattle.rtr_receiver.specs.Runs.{Call, Memory, Step, Run, bytes, history_of}
use Rattle.rtr_receiver.specs.declared.LoadKind.{LoadKind}
use Rattle.rtr_receiver.specs.declared.Session.{Session}
use Rattle.rtr_receiver.proofs.Feeds.{from, stopped-takes-none}
use Rattle.rtr_receiver.proofs.Memory.{limit_is, limit-of, standing}
use Rattle.rtr_receiver.proofs.Steps.{shape_of, good_of}
use Rattle.rtr_receiver.proofs.Kept.{to_come, stops_rightly, Cleared, piece-keeps, Through, through}
use Rattle.rtr_receiver.proofs.Histories.{with-one-more, piece-follows, onward-by, all-between}
use Rattle.rtr_receiver.proofs.Runs.{Stands, after, run_along, in-shape, is-receiver, step-stands, history-snoc}
use Rattle.rtr_receiver.specs.declared.Table.{Table}

-- ---- A refused call changes nothing

-- 22: a feed takes and counts 0 and leaves everything, the whole hold too
pub refused-keeps-feed : (limit : ℕ) (s : Session) (live working : Rooms) (hold piece : List ℕ) → is_receiver limit s live working hold ≡ false → feed_says limit s live working hold piece ≡ FeedSays.refused_feed 22 0 0 (leaves s live working hold) hold
unfolding feed_says
refused-keeps-feed limit s live working hold piece e = simp e

-- a start that is refused leaves both rooms, and is refused by 22
pub refused-keeps-start : (limit : ℕ) (v : RtrProtocolVersion) (live working hold live' working' : List ℕ) (k : ℕ) → start_says limit v live working hold ≡ StartSays.refused_start k live' working' → (live' ≡ live) × (working' ≡ working) × (k ≡ 22)
unfolding start_says
refused-keeps-start limit v live working hold live' working' k e = go (is_limit limit && (eqb (length live) (6 * limit) && (eqb (length working) (6 * limit) && leb 8 (length hold)))) e
  where
    go : (b : Bool) → cond b (StartSays.started (in_memory limit (fresh v))) (StartSays.refused_start 22 live working) ≡ StartSays.refused_start k live' working' → (live' ≡ live) × (working' ≡ working) × (k ≡ 22)
    go true q = absurd (let z : ◌≡◌ {A = ℕ} 0 1 = cc in omega arith)
    go false q = let a : live' ≡ live = cc in let b : working' ≡ working = cc in let c : k ≡ 22 = cc in (a, b, c)

-- a start begins, and a fresh receiver, exactly where a receiver may have the limit, both rooms are rooms of the limit and the hold has 8 bytes or more
pub start-exactly : (limit : ℕ) (v : RtrProtocolVersion) (live working hold : List ℕ) (left : Left) →
    (start_says limit v live working hold ≡ StartSays.started left) ↔ ((left ≡ in_memory limit (fresh v)) × (length live ≡ 6 * limit) × (length working ≡ 6 * limit) × (8 ≤ length hold) × (is_limit limit ≡ true))
unfolding start_says
start-exactly limit v live working hold left = (go (is_limit limit) (eqb (length live) (6 * limit)) (eqb (length working) (6 * limit)) (leb 8 (length hold)) refl refl refl refl, back)
  where
    go : (k a b c : Bool) → is_limit limit ≡ k → eqb (length live) (6 * limit) ≡ a → eqb (length working) (6 * limit) ≡ b → leb 8 (length hold) ≡ c →
        cond (k && (a && (b && c))) (StartSays.started (in_memory limit (fresh v))) (StartSays.refused_start 22 live working) ≡ StartSays.started left →
        (left ≡ in_memory limit (fresh v)) × (length live ≡ 6 * limit) × (length working ≡ 6 * limit) × (8 ≤ length hold) × (is_limit limit ≡ true)
    go true true true true w x y z q = let same : left ≡ in_memory limit (fresh v) = cc in (same, eqb-true _ _ x, eqb-true _ _ y, leb-true _ _ z, w)
    go true true true false w x y z q = absurd (let o : ◌≡◌ {A = ℕ} 0 1 = cc in omega arith)
    go true true false c w x y z q = absurd (let o : ◌≡◌ {A = ℕ} 0 1 = cc in omega arith)
    go true false b c w x y z q = absurd (let o : ◌≡◌ {A = ℕ} 0 1 = cc in omega arith)
    go false a b c w x y z q = absurd (let o : ◌≡◌ {A = ℕ} 0 1 = cc in omega arith)

    back : (left ≡ in_memory limit (fresh v)) × (length live ≡ 6 * limit) × (length working ≡ 6 * limit) × (8 ≤ length hold) × (is_limit limit ≡ true) → start_says limit v live working hold ≡ StartSays.started left
    back h =
        (λ i. cond (h.4 i && (eq-eqb (length live) (6 * limit) h.1 i && (eq-eqb (length working) (6 * limit) h.2 i && le-leb 8 (length hold) h.3 i))) (StartSays.started (in_memory limit (fresh v))) (StartSays.refused_start 22 live working))
        ∙ ap StartSays.started (sym h.0)

-- a refused ask changes neither receiver nor output
refused-query : (q : Query) (r : Receiver) (out : List ℕ) (k : ℕ) (x : List ℕ) → (ask q r out).says ≡ Writing.refused k x → ((ask q r out).receiver ≡ r) × ((ask q r out).out ≡ out)
refused-query (Query.refused number) r out k x e = (refl, refl)
refused-query (Query.query pdu stage) r out k x e = go (encode in_use pdu [] out).says refl e
  where
    go : (w : Writing) →
        (encode in_use pdu [] out).says ≡ w →
        (asked_by w stage r (encode in_use pdu [] out).out).says ≡ Writing.refused k x →
        ((asked_by w stage r (encode in_use pdu [] out).out).receiver ≡ r) × ((asked_by w stage r (encode in_use pdu [] out).out).out ≡ out)
    go (Writing.written n) q e = absurd (let z : ◌≡◌ {A = ℕ} 0 1 = cc in omega arith)
    go (Writing.refused k' x') q e = (refl, refused-keeps-output in_use pdu [] out k' x' q)

module _ (limit : ℕ) (s : Session) (live working : Rooms) (hold : List ℕ) where
  abbrev Keeps : AskSays → List ℕ → Type 0
  Keeps a out = (a.out ≡ out) × (a.left ≡ leaves s live working hold)

  refused-keeps : (query_of : Receiver → Query) (out : List ℕ) (k : ℕ) (x : List ℕ) → (ask_says limit query_of s live working hold out).says ≡ Writing.refused k x → Keeps (ask_says limit query_of s live working hold out) out
  refused-keeps query_of out k x e = go (is_receiver limit s live working hold) refl e
    where
      r : Receiver
      r = receiver_of s live working hold

      given : Bool → AskSays
      given b = cond b (asked_to limit (ask (query_of r) r out)) (record { says = Writing.refused 22 []; out = out; left = leaves s live working hold })

      go : (b : Bool) → is_receiver limit s live working hold ≡ b → (given b).says ≡ Writing.refused k x → Keeps (given b) out
      go true t q =
          let kept = refused-query (query_of r) r out k x q in
          (kept.1, ap (in_memory limit) kept.0 ∙ sym (standing limit s live working hold t))
      go false t q = (refl, refl)

  -- by 22, 20 or 9
  pub refused-keeps-full : (out : List ℕ) (k : ℕ) (x : List ℕ) → (full_ask_says limit s live working hold out).says ≡ Writing.refused k x → Keeps (full_ask_says limit s live working hold out) out
  unfolding full_ask_says
  refused-keeps-full out k x e = refused-keeps (λ r. full_query r.stage r) out k x e

  -- by 22, 20, 21 or 9
  pub refused-keeps-change : (out : List ℕ) (k : ℕ) (x : List ℕ) → (change_ask_says limit s live working hold out).says ≡ Writing.refused k x → Keeps (change_ask_says limit s live working hold out) out
  unfolding change_ask_says
  refused-keeps-change out k x e = refused-keeps (λ r. change_query r.stage r) out k x e

  pub refused-keeps-reconnect : (reconnect_says limit s live working hold).number ≡ 22 → (reconnect_says limit s live working hold).left ≡ leaves s live working hold
  unfolding reconnect_says
  refused-keeps-reconnect e = go (is_receiver limit s live working hold) e
    where
      given : Bool → ReconnectSays
      given b = cond b (record { number = 0; left = in_memory limit (reconnected (receiver_of s live working hold)) }) (record { number = 22; left = leaves s live working hold })

      go : (b : Bool) → (given b).number ≡ 22 → (given b).left ≡ leaves s live working hold
      go true q = absurd (omega arith)
      go false q = refl

  -- ---- What a feed takes and counts

  -- a feed that is not refused is the receiver's
  pub record Means (piece : List ℕ) (taken updates : ℕ) (ending : Ending) (left : Left) : Type 0 where
    pub shape : is_receiver limit s live working hold ≡ true
    pub taken_is : (feed limit (length hold) (receiver_of s live working hold) piece).taken ≡ taken
    pub updates-is : (feed limit (length hold) (receiver_of s live working hold) piece).updates ≡ updates
    pub ending-is : ending_of (feed limit (length hold) (receiver_of s live working hold) piece).receiver.stage ≡ ending
    pub left_is : in_memory limit (feed limit (length hold) (receiver_of s live working hold) piece).receiver ≡ left

  pub fed-means : (piece : List ℕ) (taken updates : ℕ) (ending : Ending) (left : Left) → feed_says limit s live working hold piece ≡ FeedSays.fed taken updates ending left → Means piece taken updates ending left
  unfolding feed_says
  fed-means piece taken updates ending left e = go (is_receiver limit s live working hold) refl e
    where
      f : Feed
      f = feed limit (length hold) (receiver_of s live working hold) piece

      go : (b : Bool) → is_receiver limit s live working hold ≡ b → cond b (fed_to limit f) (FeedSays.refused_feed 22 0 0 (leaves s live working hold) hold) ≡ FeedSays.fed taken updates ending left → Means piece taken updates ending left
      go true t q = record { shape = t; taken_is = cc; updates-is = cc; ending-is = cc; left_is = cc }
      go false t q = absurd (let z : ◌≡◌ {A = ℕ} 0 1 = cc in omega arith)

  listens-on : (stage : Stage) → ending_of stage ≡ Ending.goes_on → listens stage ≡ true
  listens-on idle e = refl
  listens-on must_reset e = refl
  listens-on asked_full e = refl
  listens-on asked_change e = refl
  listens-on (loading kind session) e = refl
  listens-on (stopped n x) e = absurd (let z : ◌≡◌ {A = ℕ} 0 1 = cc in omega arith)

  -- "Without a stop all bytes are taken"
  pub goes-on-takes-all : (piece : List ℕ) (taken updates : ℕ) (left : Left) → feed_says limit s live working hold piece ≡ FeedSays.fed taken updates Ending.goes_on left → taken ≡ length piece
  unfolding feed
  goes-on-takes-all piece taken updates left e = go (listens r.stage) refl
    where
      r : Receiver
      r = receiver_of s live working hold

      m : Means piece taken updates Ending.goes_on left
      m = fed-means piece taken updates Ending.goes_on left e

      on : listens (on_piece limit (length hold) (from r 0 0) piece).receiver.stage ≡ true
      on = listens-on (on_piece limit (length hold) (from r 0 0) piece).receiver.stage m.ending-is

      by : Through limit (length hold) (from r 0 0) piece → taken ≡ length piece
      by (Through.whole t n) = sym m.taken_is ∙ n ∙ omega arith
      by (Through.stops k less before same n off clear) = absurd (let z : true ≡ false = sym on ∙ off in let o : ◌≡◌ {A = ℕ} 0 1 = cc in omega arith)

      go : (b : Bool) → listens r.stage ≡ b → taken ≡ length piece
      go true t = by (through limit (length hold) piece (from r 0 0) t)
      go false t =
          let stays = stopped-takes-none limit (length hold) piece (from r 0 0) t in
          absurd (let z : true ≡ false = sym on ∙ ap (λ (x : Feed). listens x.receiver.stage) stays ∙ t in let o : ◌≡◌ {A = ℕ} 0 1 = cc in omega arith)

  few : (stage : Stage) → to_come stage ≤ 1
  few idle = omega arith
  few must_reset = omega arith
  few asked_full = omega arith
  few asked_change = omega arith
  few (loading kind session) = omega arith
  few (stopped n x) = omega arith

  -- an update cannot finish twice in a feed
  pub one-update : (piece : List ℕ) (taken updates : ℕ) (ending : Ending) (left : Left) → feed_says limit s live working hold piece ≡ FeedSays.fed taken updates ending left → updates ≤ 1
  unfolding feed
  one-update piece taken updates ending left e =
      let m = fed-means piece taken updates ending left e in
      let k = piece-keeps limit (length hold) piece (from (receiver_of s live working hold) 0 0) in
      omega (arith, k.spends, few (stage_of s.phase), m.updates-is)

  -- "A receiver has one version .. for its life"
  pub version-stays : (piece : List ℕ) (taken updates : ℕ) (ending : Ending) (left : Left) → feed_says limit s live working hold piece ≡ FeedSays.fed taken updates ending left → left.life.version ≡ s.life.version
  unfolding feed
  version-stays piece taken updates ending left e =
      let m = fed-means piece taken updates ending left e in
      sym (ap (λ (l : Left). l.life.version) m.left_is) ∙ (piece-keeps limit (length hold) piece (from (receiver_of s live working hold) 0 0)).version

  -- and one record limit
  pub limit-stays : (piece : List ℕ) (taken updates : ℕ) (ending : Ending) (left : Left) → feed_says limit s live working hold piece ≡ FeedSays.fed taken updates ending left → left.life.limit ≡ s.life.limit
  limit-stays piece taken updates ending left e =
      let m = fed-means piece taken updates ending left e in
      sym (ap (λ (l : Left). l.life.limit) m.left_is) ∙ sym (limit_is limit s live working hold (shape_of limit s live working hold m.shape).limited)

  -- ---- Stops

  numbered : (stage : Stage) (n : ℕ) (x : List ℕ) → ending_of stage ≡ Ending.stops n x → stops_rightly stage ≡ true → is_stop n ≡ true
  numbered idle n x e t = absurd (let z : ◌≡◌ {A = ℕ} 0 1 = cc in omega arith)
  numbered must_reset n x e t = absurd (let z : ◌≡◌ {A = ℕ} 0 1 = cc in omega arith)
  numbered asked_full n x e t = absurd (let z : ◌≡◌ {A = ℕ} 0 1 = cc in omega arith)
  numbered asked_change n x e t = absurd (let z : ◌≡◌ {A = ℕ} 0 1 = cc in omega arith)
  numbered (loading kind session) n x e t = absurd (let z : ◌≡◌ {A = ℕ} 0 1 = cc in omega arith)
  numbered (stopped m y) n x e t = let same : m ≡ n = cc in sym (ap is_stop same) ∙ t

  -- "2 to 8 and 12 to 19 in the stream are stops; 1 never arises there"
  pub stops-are : (piece : List ℕ) (taken updates n : ℕ) (x : List ℕ) (left : Left) → stops_rightly (stage_of s.phase) ≡ true → feed_says limit s live working hold piece ≡ FeedSays.fed taken updates (Ending.stops n x) left → is_stop n ≡ true
  unfolding feed
  stops-are piece taken updates n x left t e =
      let m = fed-means piece taken updates (Ending.stops n x) left e in
      numbered (on_piece limit (length hold) (from (receiver_of s live working hold) 0 0) piece).receiver.stage n x m.ending-is ((piece-keeps limit (length hold) piece (from (receiver_of s live working hold) 0 0)).rightly t)

  -- "in Stopped it takes none and gives the same stop"
  pub stop-repeats : (piece : List ℕ) (n : ℕ) (x : List ℕ) → is_receiver limit s live working hold ≡ true → stage_of s.phase ≡ stopped n x → feed_says limit s live working hold piece ≡ FeedSays.fed 0 0 (Ending.stops n x) (leaves s live working hold)
  unfolding feed_says feed
  stop-repeats piece n x shape e =
      let r : Receiver = receiver_of s live working hold in
      let none : on_piece limit (length hold) (from r 0 0) piece ≡ from r 0 0 = stopped-takes-none limit (length hold) piece (from r 0 0) (ap listens e) in
      ap (λ (b : Bool). cond b (fed_to limit (on_piece limit (length hold) (from r 0 0) piece)) (FeedSays.refused_feed 22 0 0 (leaves s live working hold) hold)) shape
      ∙ ap (fed_to limit) none
      ∙ ap (λ (t : Stage). FeedSays.fed 0 0 (ending_of t) (in_memory limit r)) e
      ∙ ap (λ (l : Left). FeedSays.fed 0 0 (Ending.stops n x) l) (sym (standing limit s live working hold shape))

-- "A stop takes bytes up to the one that completed the refused header or PDU", and clears: fed up to the byte before, the receiver listens; that byte stops it, and what follows is not taken. The held
-- bytes and the working table are gone; the live table, its session, serial and intervals, and the note are those before the byte.
pub stop-clears : (limit H : ℕ) (r : Receiver) (piece : List ℕ) →
    listens r.stage ≡ true →
    listens (feed limit H r piece).receiver.stage ≡ false →
    (k : ℕ)
    × (k < length piece)
    × ((feed limit H r piece).taken ≡ suc k)
    × (listens (feed limit H r (take k piece)).receiver.stage ≡ true)
    × (feed limit H r (take (suc k) piece) ≡ feed limit H r piece)
    × Cleared (feed limit H r (take k piece)).receiver (feed limit H r piece).receiver
unfolding feed
stop-clears limit H r piece on off = go (through limit H piece (from r 0 0) on)
  where
    go : Through limit H (from r 0 0) piece →
        (k : ℕ)
        × (k < length piece)
        × ((on_piece limit H (from r 0 0) piece).taken ≡ suc k)
        × (listens (on_piece limit H (from r 0 0) (take k piece)).receiver.stage ≡ true)
        × (on_piece limit H (from r 0 0) (take (suc k) piece) ≡ on_piece limit H (from r 0 0) piece)
        × Cleared (on_piece limit H (from r 0 0) (take k piece)).receiver (on_piece limit H (from r 0 0) piece).receiver
    go (Through.whole t n) = absurd (let z : true ≡ false = sym t ∙ off in let o : ◌≡◌ {A = ℕ} 0 1 = cc in omega arith)
    go (Through.stops k less before same n gone clear) = (k, less, n ∙ omega arith, before, same, clear)

-- receiver shape speaks of the limit that the session holds
pub limit-of-shape : (limit : ℕ) (s : Session) (live working : Rooms) (hold : List ℕ) → is_receiver limit s live working hold ≡ true → s.life.limit ≡ limit
limit-of-shape = limit-of

-- ---- Every call keeps receiver shape

-- memory that has it stands for its receiver
pub stands-in-shape : (limit : ℕ) (m : Memory) → is_receiver limit m.session m.live m.working m.hold ≡ true
    → Stands limit (length m.hold) m (receiver_of m.session m.live m.working m.hold)
stands-in-shape limit m e =
    let shape = shape_of limit m.session m.live m.working m.hold e in
    let stream = stream-has m.hold m.session.held shape.stream in
    record {
      known = second-of (eqb m.session.life.limit limit) (is_limit limit) shape.limited;
      size = refl;
      least = stream.0;
      left = standing limit m.session m.live m.working m.hold e;
      sound = record { good = good_of limit m.session m.live m.working m.hold shape; waits = stream.2 };
    }

-- from any memory that has it
pub keeps-shape : (limit : ℕ) (call : Call) (m m' : Memory) → is_receiver limit m.session m.live m.working m.hold ≡ true → Step limit m call m' → is_receiver limit m'.session m'.live m'.working m'.hold ≡ true
keeps-shape limit call m m' e step = in-shape limit (length m.hold) (step-stands limit (length m.hold) call m m' _ (stands-in-shape limit m e) step)

-- so along a run 22 never comes
pub shape-kept : (limit H : ℕ) (v : RtrProtocolVersion) (calls : List Call) (m : Memory) → Run limit v H calls m → is_receiver limit m.session m.live m.working m.hold ≡ true
shape-kept limit H v calls m run = in-shape limit H (run_along limit H v calls m run).stands

-- ---- "A receiver has one version .. for its life"

-- an ask keeps it, written or refused
asked-version : (q : Query) (r : Receiver) (out : List ℕ) → (ask q r out).receiver.version ≡ r.version
asked-version (Query.refused number) r out = refl
asked-version (Query.query pdu stage) r out = go (encode in_use pdu [] out).says
  where
    go : (w : Writing) → (asked_by w stage r (encode in_use pdu [] out).out).receiver.version ≡ r.version
    go (Writing.written n) = refl
    go (Writing.refused k x) = refl

-- and so does every call
after-version : (limit H : ℕ) (call : Call) (r : Receiver) → (after limit H call r).version ≡ r.version
after-version limit H (Call.feed piece) r = (piece-keeps limit H piece (from r 0 0)).version
after-version limit H (Call.ask LoadKind.Full out) r = asked-version (full_query r.stage r) r out
after-version limit H (Call.ask LoadKind.Change out) r = asked-version (change_query r.stage r) r out
after-version limit H Call.reconnect r = refl

-- along a run it is the one that was started
pub version-for-life : (limit H : ℕ) (v : RtrProtocolVersion) (calls : List Call) (m : Memory) → Run limit v H calls m → m.session.life.version ≡ v
version-for-life limit H v calls m (Run.started m₀ live working size e) = ap (λ (l : Left). l.life.version) ((start-exactly limit v live working m₀.hold _).0 (sym e)).0
version-for-life limit H v calls m (Run.next {calls = before} {call = call} {m = m₀} run step) =
    let along = run_along limit H v before m₀ run in
    ap (λ (l : Left). l.life.version) (step-stands limit H call m₀ m along.receiver along.stands step).left
    ∙ after-version limit H call along.receiver
    ∙ sym (ap (λ (l : Left). l.life.version) along.stands.left)
    ∙ version-for-life limit H v before m₀ run

-- and one record limit
pub limit-for-life : (limit H : ℕ) (v : RtrProtocolVersion) (calls : List Call) (m : Memory) → Run limit v H calls m → m.session.life.limit ≡ limit
limit-for-life limit H v calls m run = ap (λ (l : Left). l.life.limit) (run_along limit H v calls m run).stands.left

-- ---- Along a run a stop is one of "2 to 8 and 12 to 19": 1 never arises

-- the phase that a query leads to
abbrev leads_rightly : Query → Bool
leads_rightly (Query.query pdu stage) = stops_rightly stage
leads_rightly (Query.refused number) = true

full-rightly : (stage : Stage) (r : Receiver) → leads_rightly (full_query stage r) ≡ true
full-rightly idle r = refl
full-rightly must_reset r = refl
full-rightly asked_full r = refl
full-rightly asked_change r = refl
full-rightly (loading kind session) r = refl
full-rightly (stopped n x) r = refl

serial-rightly : (t : Option Table) (r : Receiver) → leads_rightly (serial_query t r) ≡ true
serial-rightly None r = refl
serial-rightly (Some t) r = refl

change-rightly : (stage : Stage) (r : Receiver) → leads_rightly (change_query stage r) ≡ true
change-rightly idle r = serial-rightly r.table r
change-rightly must_reset r = refl
change-rightly asked_full r = refl
change-rightly asked_change r = refl
change-rightly (loading kind session) r = refl
change-rightly (stopped n x) r = refl

asked-rightly : (q : Query) (r : Receiver) (out : List ℕ) → leads_rightly q ≡ true → stops_rightly r.stage ≡ true → stops_rightly (ask q r out).receiver.stage ≡ true
asked-rightly (Query.refused number) r out l t = t
asked-rightly (Query.query pdu stage) r out l t = go (encode in_use pdu [] out).says
  where
    go : (w : Writing) → stops_rightly (asked_by w stage r (encode in_use pdu [] out).out).receiver.stage ≡ true
    go (Writing.written n) = l
    go (Writing.refused k x) = t

after-rightly : (limit H : ℕ) (call : Call) (r : Receiver) → stops_rightly r.stage ≡ true → stops_rightly (after limit H call r).stage ≡ true
after-rightly limit H (Call.feed piece) r t = (piece-keeps limit H piece (from r 0 0)).rightly t
after-rightly limit H (Call.ask LoadKind.Full out) r t = asked-rightly (full_query r.stage r) r out (full-rightly r.stage r) t
after-rightly limit H (Call.ask LoadKind.Change out) r t = asked-rightly (change_query r.stage r) r out (change-rightly r.stage r) t
after-rightly limit H Call.reconnect r t = refl

pub run-stops-are : (limit H : ℕ) (v : RtrProtocolVersion) (calls : List Call) (m : Memory) → Run limit v H calls m → stops_rightly (stage_of m.session.phase) ≡ true
run-stops-are limit H v calls m (Run.started m₀ live working size e) = ap (λ (l : Left). stops_rightly l.stage) ((start-exactly limit v live working m₀.hold _).0 (sym e)).0
run-stops-are limit H v calls m (Run.next {calls = before} {call = call} {m = m₀} run step) =
    let along = run_along limit H v before m₀ run in
    ap (λ (l : Left). stops_rightly l.stage) (step-stands limit H call m₀ m along.receiver along.stands step).left
    ∙ after-rightly limit H call along.receiver (sym (ap (λ (l : Left). stops_rightly l.stage) along.stands.left) ∙ run-stops-are limit H v before m₀ run)

-- so a call that meets its promise, at the limit that the session holds, is the next step of the run
pub next-step : (limit H : ℕ) (v : RtrProtocolVersion) (calls : List Call) (call : Call) (m m' : Memory) → Run limit v H calls m → Step m.session.life.limit m call m' → Run limit v H (calls ++ call ∷ []) m'
next-step limit H v calls call m m' run step = Run.next run (subst (λ (n : ℕ). Step n m call m') (limit-for-life limit H v calls m run) step)

-- ---- What a feed counts is what the history's page counts: the updates that have finished grow at their end by as many

pub feed-counts : (limit H : ℕ) (v : RtrProtocolVersion) (calls : List Call) (m : Memory) (piece : List ℕ) (taken counted : ℕ) (ending : Ending) (left : Left) →
    Run limit v H calls m →
    feed_says limit m.session m.live m.working m.hold piece ≡ FeedSays.fed taken counted ending left →
    (us : List Update)
    × (finished limit H v (history_of (calls ++ Call.feed piece ∷ [])) ≡ finished limit H v (history_of calls) ++ us)
    × (length us ≡ counted)
unfolding feed history_of
feed-counts limit H v calls m piece taken counted ending left run e =
    let along = run_along limit H v calls m run in
    let fed = piece-follows limit H piece along.receiver along.way.place 0 0 along.way.at in
    let us : List Update = fed.0.between in
    let means = fed-means limit m.session m.live m.working m.hold piece taken counted ending left e in
    let said : counted ≡ length us =
    sym means.updates-is ∙ (λ i. (feed limit (along.stands.size i) (is-receiver limit H along.stands i) piece).updates) ∙ fed.1 ∙ omega arith in (
      us,
      ap (finished limit H v) (sym (history-snoc limit H calls (Call.feed piece)) ∙ ap (λ (es : List Event). history_of calls ++ es) (append-nil (bytes piece)))
          ∙ all-between limit H (onward-by limit H along.way fed.0)
          ∙ ap (λ (done : List Update). done ++ us) (sym (all-between limit H along.way)),
      sym said,
    )

-- ---- The table that records make

-- none leave it
pub with-all-none : (limit : ℕ) (t : Contents) → with_all limit t [] ≡ t
unfolding with_all
with-all-none limit t = refl

-- one that applies makes the table that the others begin from
pub with-all-next : (limit : ℕ) (t t' : Contents) (c : Changed) (cs : List Changed)
    → applied limit t c.announced c.what ≡ Change.changed t' → with_all limit t (c ∷ cs) ≡ with_all limit t' cs
unfolding with_all
with-all-next limit t t' c cs e = ap (λ (k : Change). with_all limit (kept t k) cs) e

-- and so does one behind others
pub with-all-last : (limit : ℕ) (t u u' : Contents) (cs : List Changed) (c : Changed)
    → with_all limit t cs ≡ u → applied limit u c.announced c.what ≡ Change.changed u' → with_all limit t (cs ++ c ∷ []) ≡ u'
with-all-last limit t u u' cs c so_far e =
    with-one-more limit cs t c ∙ ap (λ (x : Contents). kept x (applied limit x c.announced c.what)) so_far ∙ ap (kept u) e
