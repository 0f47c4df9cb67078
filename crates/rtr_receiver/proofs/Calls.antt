-- What the calls without a feed come to, by cases: the tests of an order, the asks, reconnect, start and the notify comparison. Assumes nothing.
use Rattle.std.specs.Prelude.{Option, Some, None, Result, Ok, Err}
use Rattle.std.proofs.Common.{◌≡◌, ◌⊎◌, inl, inr, ℕ, ◌+◌, ◌-◌, ◌*◌, ◌%◌, ◌<◌, ◌≤◌, Bool, true, false, cond, not, ◌&&◌, ◌||◌, eqb, leb, List, [], ◌∷◌, length, replicate, sym, refl, ap, ◌∙◌, arith, le-ltb, lt-ltb, eq-eqb, ne_eqb, le-leb, leb-false, leb-true}
use mathlib.Core.Bool.{and-true}
use borrow.Author.Tests.{lt-leb}
use Rattle.rtr_models.specs.declared.RtrProtocolVersion.{RtrProtocolVersion}
use Rattle.rtr_models.specs.declared.RtrPdu.{RtrPdu}
use Rattle.rtr_codec.specs.Reading.{in_use}
use Rattle.rtr_encode.specs.Encode.{Writing, Encoded, encode}
use Rattle.rtr_encode.specs.Answers.{writing}
use Rattle.rtr_encode.specs.declared.EncodeError.{EncodeError}
use Rattle.rtr_room.proofs.Laws.{empty-is}
use Rattle.rtr_receiver.specs.Contents.{Rooms}
use Rattle.rtr_receiver.specs.Receiver.{Stage, Receiver, Query, Notified, full_query, change_query, asked_by, ask, reconnected, notified, compared, fresh}
use Rattle.rtr_receiver.specs.History.{has_table}
use Rattle.rtr_receiver.specs.Promises.{Left, StartSays, NotifySays, change_under_way, is_loading, is_stopped, stage_of, receiver_of, is_limit, is_receiver, leaves, in_memory, start_says, asked_to, ask_says, ask_said, reconnect_says, notify_says, tabled}
use Rattle.rtr_receiver.specs.Private.{asked_for}
use Rattle.rtr_receiver.specs.declared.LoadKind.{LoadKind}
use Rattle.rtr_receiver.specs.declared.Stop.{Stop}
use Rattle.rtr_receiver.specs.declared.Phase.{Phase}
use Rattle.rtr_receiver.specs.declared.Table.{Table}
use Rattle.rtr_receiver.specs.declared.Session.{Session}
use Rattle.rtr_receiver.specs.declared.AskError.{AskError}
use Rattle.rtr_receiver.specs.declared.AskedSession.{AskedSession}
use Rattle.rtr_receiver.proofs.Memory.{with-limit, with-records, left-alike, limit_is, room-stands, room-size, shape_of, standing, stopped-is}

-- ---- The phases that a `_` stands for

pub no_change : (p : Phase) → (p ≡ Phase.AskedChange → ⊥) → ((kind : LoadKind) (session : ℕ) → p ≡ Phase.Loading kind session → ⊥) → change_under_way p ≡ false
no_change Phase.Idle a l = refl
no_change Phase.MustReset a l = refl
no_change Phase.AskedFull a l = refl
no_change Phase.AskedChange a l = absurd (a refl)
no_change (Phase.Loading kind session) a l = absurd (l kind session refl)
no_change (Phase.Stopped stop) a l = refl

pub cleared-else : (p : Phase) (w h : ℕ) → ((kind : LoadKind) (session : ℕ) → p ≡ Phase.Loading kind session → ⊥) → ((stop : Stop) → p ≡ Phase.Stopped stop → ⊥) → ((is_loading p || eqb w 0) && (not (is_stopped p) || eqb h 0)) ≡ eqb w 0
cleared-else Phase.Idle w h l k = and-true (eqb w 0)
cleared-else Phase.MustReset w h l k = and-true (eqb w 0)
cleared-else Phase.AskedFull w h l k = and-true (eqb w 0)
cleared-else Phase.AskedChange w h l k = and-true (eqb w 0)
cleared-else (Phase.Loading kind session) w h l k = absurd (l kind session refl)
cleared-else (Phase.Stopped stop) w h l k = absurd (k stop refl)

-- a stop has nothing held and an empty working room
stopped-cleared : (p : Phase) (w h : ℕ) (stop : Stop) → p ≡ Phase.Stopped stop → ((is_loading p || eqb w 0) && (not (is_stopped p) || eqb h 0)) ≡ (eqb w 0 && eqb h 0)
stopped-cleared p w h stop e = ap (λ (x : Phase). (is_loading x || eqb w 0) && (not (is_stopped x) || eqb h 0)) e

pub stopped-empty : (p : Phase) (w h : ℕ) (stop : Stop) → p ≡ Phase.Stopped stop → w ≡ 0 → ((is_loading p || eqb w 0) && (not (is_stopped p) || eqb h 0)) ≡ eqb h 0
stopped-empty p w h stop e q = stopped-cleared p w h stop e ∙ ap (λ (b : Bool). b && eqb h 0) (eq-eqb w 0 q)

pub stopped-full : (p : Phase) (w h : ℕ) (stop : Stop) → p ≡ Phase.Stopped stop → (w ≡ 0 → ⊥) → ((is_loading p || eqb w 0) && (not (is_stopped p) || eqb h 0)) ≡ eqb w 0
stopped-full p w h stop e q = stopped-cleared p w h stop e ∙ ap (λ (b : Bool). b && eqb h 0) (ne_eqb w 0 q) ∙ sym (ne_eqb w 0 q)

-- without a table there is no record, and no change
pub tableless : (s : Session) → s.table ≡ None → s.live.records ≡ 0 → tabled s ≡ not (change_under_way s.phase)
tableless s e q =
    ap (λ (t : Option Table). has_table t || (eqb s.live.records 0 && not (change_under_way s.phase))) e
    ∙ ap (λ (b : Bool). b && not (change_under_way s.phase)) (eq-eqb s.live.records 0 q)

pub tableless-records : (s : Session) → s.table ≡ None → (s.live.records ≡ 0 → ⊥) → tabled s ≡ false
tableless-records s e q =
    ap (λ (t : Option Table). has_table t || (eqb s.live.records 0 && not (change_under_way s.phase))) e
    ∙ ap (λ (b : Bool). b && not (change_under_way s.phase)) (ne_eqb s.live.records 0 q)

-- a full ask in another phase than Idle and MustReset
pub full-else : (p : Phase) (r : Receiver) → (p ≡ Phase.Idle → ⊥) → (p ≡ Phase.MustReset → ⊥) → full_query (stage_of p) r ≡ Query.refused 20
full-else Phase.Idle r a b = absurd (a refl)
full-else Phase.MustReset r a b = absurd (b refl)
full-else Phase.AskedFull r a b = refl
full-else Phase.AskedChange r a b = refl
full-else (Phase.Loading kind session) r a b = refl
full-else (Phase.Stopped stop) r a b = ap (λ (t : Stage). full_query t r) (stopped-is stop).2

-- a full ask in either phase that takes one
pub full-either : (p : Phase) (r : Receiver) → (p ≡ Phase.Idle) ⊎ (p ≡ Phase.MustReset) → full_query (stage_of p) r ≡ full_query (stage_of Phase.Idle) r
full-either p r (inl e) = ap (λ (x : Phase). full_query (stage_of x) r) e
full-either p r (inr e) = ap (λ (x : Phase). full_query (stage_of x) r) e

-- a change ask in another phase than Idle
pub change-else : (p : Phase) (r : Receiver) → (p ≡ Phase.Idle → ⊥) → change_query (stage_of p) r ≡ Query.refused 20
change-else Phase.Idle r h = absurd (h refl)
change-else Phase.MustReset r h = refl
change-else Phase.AskedFull r h = refl
change-else Phase.AskedChange r h = refl
change-else (Phase.Loading kind session) r h = refl
change-else (Phase.Stopped stop) r h = ap (λ (t : Stage). change_query t r) (stopped-is stop).2

-- ---- The asks

pub asked-written
    : (s t : Session) (answer : Result ℕ EncodeError) (phase : Phase) (n : ℕ) →
    answer ≡ Ok n →
    t ≡ record { life = s.life; phase = phase; table = s.table; note = s.note; live = s.live; working = s.working; held = s.held } →
    ◌≡◌ {A = AskedSession} (record { session = t; answer = Ok n }) (asked_for s answer phase)
asked-written s t answer phase n e f =
    ap {B = AskedSession} (λ (x : Session). record { session = x; answer = Ok n }) f ∙ sym (ap (λ (x : Result ℕ EncodeError). asked_for s x phase) e)

pub asked-refused
    : (s : Session) (answer : Result ℕ EncodeError) (phase : Phase) (error : EncodeError) →
    answer ≡ Err error →
    ◌≡◌ {A = AskedSession} (record { session = s; answer = Err (AskError.Encoding error) }) (asked_for s answer phase)
asked-refused s answer phase error e = sym (ap (λ (x : Result ℕ EncodeError). asked_for s x phase) e)

-- the same left in another stage
abbrev in_stage_left : Stage → Left → Left
in_stage_left stage l =
    record {
      life = l.life;
      stage = stage;
      table = l.table;
      note = l.note;
      live_count = l.live_count;
      working_count = l.working_count;
      held_count = l.held_count;
      live = l.live;
      working = l.working;
      held = l.held;
    }

module _ (limit : ℕ) (s : Session) (live working : Rooms) (hold : List ℕ) where
  module _ (query_of : Receiver → Query) (out : List ℕ) where
    -- 22
    pub ask-shapeless
        : (t : AskedSession) →
        t ≡ record { session = s; answer = Err AskError.NotAReceiver } →
        is_receiver limit s live working hold ≡ false →
        ask_said t live working hold out ≡ ask_says limit query_of s live working hold out
    ask-shapeless t q e = ap (λ (x : AskedSession). ask_said x live working hold out) q ∙ simp e

    ask-is
        : (q : Query) →
        is_receiver limit s live working hold ≡ true →
        query_of (receiver_of s live working hold) ≡ q →
        ask_says limit query_of s live working hold out ≡ asked_to limit (ask q (receiver_of s live working hold) out)
    ask-is q e f = simp e (ap (λ (x : Query). asked_to limit (ask x (receiver_of s live working hold) out)) f)

    -- 20 and 21 leave everything
    refused-by
        : (number : ℕ) →
        is_receiver limit s live working hold ≡ true →
        query_of (receiver_of s live working hold) ≡ Query.refused number →
        record { says = Writing.refused number []; out = out; left = leaves s live working hold } ≡ ask_says limit query_of s live working hold out
    refused-by number e f =
        ap (λ (l : Left). record { says = Writing.refused number []; out = out; left = l }) (standing limit s live working hold e)
        ∙ sym (ask-is (Query.refused number) e f)

    pub ask-in-wrong-phase
        : (t : AskedSession) →
        t ≡ record { session = s; answer = Err AskError.WrongPhase } →
        is_receiver limit s live working hold ≡ true →
        query_of (receiver_of s live working hold) ≡ Query.refused 20 →
        ask_said t live working hold out ≡ ask_says limit query_of s live working hold out
    ask-in-wrong-phase t q e f = ap (λ (x : AskedSession). ask_said x live working hold out) q ∙ refused-by 20 e f

    pub ask-without-table
        : (t : AskedSession) →
        t ≡ record { session = s; answer = Err AskError.NoTable } →
        is_receiver limit s live working hold ≡ true →
        query_of (receiver_of s live working hold) ≡ Query.refused 21 →
        ask_said t live working hold out ≡ ask_says limit query_of s live working hold out
    ask-without-table t q e f = ap (λ (x : AskedSession). ask_said x live working hold out) q ∙ refused-by 21 e f

    -- a query that is written, or refused by the encoder
    pub ask-written
        : (t : AskedSession) (answer : Result ℕ EncodeError) (phase : Phase) (pdu : RtrPdu) (out' : List ℕ) →
        t ≡ asked_for s answer phase →
        is_receiver limit s live working hold ≡ true →
        query_of (receiver_of s live working hold) ≡ Query.query pdu (stage_of phase) →
        record { says = writing answer; out = out' } ≡ encode in_use pdu [] out →
        ask_said t live working hold out' ≡ ask_says limit query_of s live working hold out
    ask-written t answer phase pdu out' q e f g =
        ap (λ (x : AskedSession). ask_said x live working hold out') q
        ∙ said answer
        ∙ ap (λ (x : Encoded). asked_to limit (asked_by x.says (stage_of phase) (receiver_of s live working hold) x.out)) g
        ∙ sym (ask-is (Query.query pdu (stage_of phase)) e f)
      where
        stands : leaves s live working hold ≡ in_memory limit (receiver_of s live working hold)
        stands = standing limit s live working hold e

        kept : (number : ℕ) (values : List ℕ) →
            record { says = Writing.refused number values; out = out'; left = leaves s live working hold }
            ≡ asked_to limit (asked_by (Writing.refused number values) (stage_of phase) (receiver_of s live working hold) out')
        kept number values = ap (λ (l : Left). record { says = Writing.refused number values; out = out'; left = l }) stands

        said : (answer : Result ℕ EncodeError) →
            ask_said (asked_for s answer phase) live working hold out'
            ≡ asked_to limit (asked_by (writing answer) (stage_of phase) (receiver_of s live working hold) out')
        said (Ok n) = ap (λ (l : Left). record { says = Writing.written n; out = out'; left = in_stage_left (stage_of phase) l }) stands
        said (Err EncodeError.PlaceOutside) = kept 11 []
        said (Err EncodeError.InvalidUtf8) = kept 8 _
        said (Err EncodeError.TooLong) = kept 10 []
        said (Err (EncodeError.OutputShort needed)) = kept 9 (needed ∷ [])

  -- ---- Reconnect

  pub reconnect-shapeless : is_receiver limit s live working hold ≡ false → record { number = 22; left = leaves s live working hold } ≡ reconnect_says limit s live working hold
  unfolding reconnect_says
  reconnect-shapeless e = simp e

  pub reconnect-is
      : (working' : List ℕ) →
      is_receiver limit s live working hold ≡ true →
      working' ≡ replicate (length working) 0 →
      record {
        number = 0;
        left = leaves (record { life = s.life; phase = Phase.Idle; table = s.table; note = None; live = s.live; working = record { records = 0 }; held = 0 }) live working' hold;
      }
      ≡ reconnect_says limit s live working hold
  unfolding reconnect_says
  reconnect-is working' e f =
      let shape = shape_of limit s live working hold e in
      let a = room-stands limit s.live.records live shape.0 in
      simp e
      (ap (λ (l : Left). record { number = 0; left = l })
      (left-alike {b = in_memory limit (reconnected (receiver_of s live working hold))} (with-limit (limit_is limit s live working hold shape.4)) refl refl refl (with-records (sym a.1)) refl refl a.0
      (f ∙ ap (λ (n : ℕ). replicate n 0) (room-size limit s.working.records working shape.1).0 ∙ (empty-is limit).0)
      refl))

  -- ---- The notify comparison

  pub notify-shapeless : is_receiver limit s live working hold ≡ false → NotifySays.refused_notify 22 ≡ notify_says limit s live working hold
  unfolding notify_says
  notify-shapeless e = simp e

  pub notify-is : (n : Notified) → is_receiver limit s live working hold ≡ true → notified s.table s.note ≡ n → NotifySays.compares n ≡ notify_says limit s live working hold
  unfolding notify_says
  notify-is n e f = simp e (ap NotifySays.compares (sym f))

pub without-table : (table : Option Table) (note : Option (ℕ × ℕ)) → table ≡ None → notified table note ≡ Notified.none
without-table table note e = ap (λ (t : Option Table). notified t note) e

pub without-note : (table : Option Table) (note : Option (ℕ × ℕ)) (t : Table) → table ≡ Some t → note ≡ None → notified table note ≡ Notified.none
without-note table note t e f = ap (λ (x : Option Table). notified x note) e ∙ ap (λ (x : Option (ℕ × ℕ)). notified (Some t) x) f

module _ (table : Option Table) (note : Option (ℕ × ℕ)) (t : Table) (session serial : ℕ) (e : table ≡ Some t) (f : note ≡ Some (session, serial)) where
  with-note : notified table note ≡ cond (eqb session t.session) (compared serial t.serial) Notified.other_session
  with-note = ap (λ (x : Option Table). notified x note) e ∙ ap (λ (x : Option (ℕ × ℕ)). notified (Some t) x) f

  pub of-other-session : (session ≡ t.session → ⊥) → notified table note ≡ Notified.other_session
  of-other-session h = with-note ∙ simp (ne_eqb session t.session h)

  pub of-same-session : session ≡ t.session → notified table note ≡ compared serial t.serial
  of-same-session h = with-note ∙ simp (eq-eqb session t.session h)

-- ---- RFC 1982: n is a ahead of t, over 32 bits that wrap

module _ (n t a : ℕ) (small_n : n < 4294967296) (small-t : t < 4294967296) (small-a : a < 4294967296) (e : (a + t) % 4294967296 ≡ n) where
  pub ahead-same : a ≡ 0 → compared n t ≡ Notified.same
  ahead-same h = simp (eq-eqb n t (omega arith))

  pub ahead-newer : (a ≡ 0 → ⊥) → a < 2147483648 → compared n t ≡ Notified.newer
  ahead-newer h k = go (leb t n) refl
    where
      go : (b : Bool) → leb t n ≡ b → compared n t ≡ Notified.newer
      go true q =
          let l : t ≤ n = leb-true t n q in
          simp (ne_eqb n t (λ z. omega arith), lt-ltb t n (omega arith), lt-ltb (n - t) 2147483648 (omega arith))
      go false q =
          let l : n < t = leb-false t n q in
          simp (ne_eqb n t (λ z. omega arith), le-ltb t n (omega arith), lt-ltb n t l, lt-ltb 2147483648 (t - n) (omega arith))

  pub ahead-halfway : a ≡ 2147483648 → compared n t ≡ Notified.undefined
  ahead-halfway h = go (leb t n) refl
    where
      go : (b : Bool) → leb t n ≡ b → compared n t ≡ Notified.undefined
      go true q =
          let l : t ≤ n = leb-true t n q in
          simp (ne_eqb n t (λ z. omega arith), lt-ltb t n (omega arith), le-ltb n t l, le-ltb (n - t) 2147483648 (omega arith), le-ltb 2147483648 (n - t) (omega arith))
      go false q =
          let l : n < t = leb-false t n q in
          simp (ne_eqb n t (λ z. omega arith), le-ltb t n (omega arith), lt-ltb n t l, le-ltb (t - n) 2147483648 (omega arith), le-ltb 2147483648 (t - n) (omega arith))

  pub ahead-older : 2147483648 < a → compared n t ≡ Notified.older
  ahead-older h = go (leb t n) refl
    where
      go : (b : Bool) → leb t n ≡ b → compared n t ≡ Notified.older
      go true q =
          let l : t ≤ n = leb-true t n q in
          simp (ne_eqb n t (λ z. omega arith), lt-ltb t n (omega arith), le-ltb n t l, le-ltb (n - t) 2147483648 (omega arith), lt-ltb 2147483648 (n - t) (omega arith))
      go false q =
          let l : n < t = leb-false t n q in
          simp (ne_eqb n t (λ z. omega arith), le-ltb t n (omega arith), lt-ltb n t l, lt-ltb (t - n) 2147483648 (omega arith), le-ltb 2147483648 (t - n) (omega arith))

-- ---- Start

module _ (limit : ℕ) (known : is_limit limit ≡ true) (version : RtrProtocolVersion) (live working hold : List ℕ) where
  pub start-live : (length live ≡ 6 * limit → ⊥) → StartSays.refused_start 22 live working ≡ start_says limit version live working hold
  unfolding start_says
  start-live h = simp (known, ne_eqb (length live) (6 * limit) h)

  pub start-working : length live ≡ 6 * limit → (length working ≡ 6 * limit → ⊥) → StartSays.refused_start 22 live working ≡ start_says limit version live working hold
  unfolding start_says
  start-working l h = simp (known, eq-eqb (length live) (6 * limit) l, ne_eqb (length working) (6 * limit) h)

  pub start-hold : length live ≡ 6 * limit → length working ≡ 6 * limit → length hold < 8 → StartSays.refused_start 22 live working ≡ start_says limit version live working hold
  unfolding start_says
  start-hold l w h = simp (known, eq-eqb (length live) (6 * limit) l, eq-eqb (length working) (6 * limit) w, lt-leb 8 (length hold) h)

  pub start_is
      : (live' working' : List ℕ) →
      length live ≡ 6 * limit →
      length working ≡ 6 * limit →
      8 ≤ length hold →
      live' ≡ replicate (length live) 0 →
      working' ≡ replicate (length working) 0 →
      StartSays.started
      (leaves (record { life = record { version = version; limit = limit }; phase = Phase.Idle; table = None; note = None; live = record { records = 0 }; working = record { records = 0 }; held = 0 }) live' working' hold)
      ≡ start_says limit version live working hold
  unfolding start_says
  start_is live' working' l w h e f =
      simp (known, eq-eqb (length live) (6 * limit) l, eq-eqb (length working) (6 * limit) w, le-leb 8 (length hold) h)
      (ap StartSays.started
      (left-alike {b = in_memory limit (fresh version)} refl refl refl refl refl refl refl
      (e ∙ ap (λ (n : ℕ). replicate n 0) l ∙ (empty-is limit).0)
      (f ∙ ap (λ (n : ℕ). replicate n 0) w ∙ (empty-is limit).0)
      refl))
