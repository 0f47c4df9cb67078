-- A session record and lent memory stand for a receiver; what each call promises of them: document 01, "Refusal numbers" (22) and "How tight the
-- promises are". Definitions are over any record limit, and the calls promise them of the limit that the session record holds. 22 asks that a receiver may have that limit (`is_limit`): of
-- any other, what supposes receiver shape says nothing.
use Rattle.std.specs.Prelude.{◌≡◌, ℕ, ◌<◌, Bool, true, false, cond, not, ◌&&◌, ◌||◌, List, [], ◌∷◌, length, take, ◌==◌, nat_le, Option, None, Result, Ok, Err, ⊤}
use Rattle.rtr_models.specs.Codes.{code_number}
use Rattle.rtr_models.specs.declared.RtrProtocolVersion.{RtrProtocolVersion}
use Rattle.rtr_models.specs.declared.RtrPdu.{RtrPdu}
use Rattle.rtr_codec.specs.Reading.{in_use}
use Rattle.rtr_codec.specs.Read.{Verdict}
use Rattle.rtr_encode.specs.Encode.{Writing}
use Rattle.rtr_encode.specs.Answers.{encode_refusal}
use Rattle.rtr_stream.specs.Stream.{Heard, judge}
use Rattle.rtr_stream.specs.Search.{is_stream, stream_refusal}
use Rattle.rtr_receiver.specs.Contents.{Rooms, contents, are_rooms, rooms_of, counts_of, are_sized, is_none, OverLimit, Used, OffSize, BreaksRules}
use Rattle.rtr_receiver.specs.History.{has_table}
use Rattle.rtr_receiver.specs.Receiver.{Stage, Receiver, Feed, Query, Asked, Notified, fresh, feed, full_query, change_query, ask, reconnected, notified}
use Rattle.rtr_receiver.specs.Receiver.Stage.{idle, must_reset, asked_full, asked_change, loading, stopped}
use Rattle.rtr_receiver.specs.declared.LoadKind.{LoadKind}
use Rattle.rtr_receiver.specs.declared.Stop.{Stop}
use Rattle.rtr_receiver.specs.declared.Phase.{Phase}
use Rattle.rtr_receiver.specs.declared.Life.{Life}
use Rattle.rtr_receiver.specs.declared.Counts.{Counts}
use Rattle.rtr_receiver.specs.declared.Session.{Session}
use Rattle.rtr_receiver.specs.declared.AskError.{AskError}
use Rattle.rtr_receiver.specs.declared.AskedSession.{AskedSession}
use Rattle.rtr_receiver.specs.declared.Fed.{Fed}
use Rattle.rtr_receiver.specs.declared.Reconnected.{Reconnected}
use Rattle.rtr_receiver.specs.declared.Table.{Table}
use Rattle.rtr_receiver.specs.declared.FeedError.{FeedError}
use Rattle.rtr_receiver.specs.declared.NotAReceiver.{NotAReceiver}
use Rattle.rtr_receiver.specs.declared.Comparison.{Comparison}

-- document 01's number and values of a stop
abbrev pub stop_said : Stop → Verdict
stop_said (Stop.Stream error) = stream_refusal error
stop_said Stop.OutOfTurn = Verdict.refused 13 []
stop_said Stop.OtherVersion = Verdict.refused 14 []
stop_said Stop.OtherSession = Verdict.refused 15 []
stop_said Stop.NotIn = Verdict.refused 16 []
stop_said Stop.AlreadyIn = Verdict.refused 17 []
stop_said Stop.RoomFull = Verdict.refused 18 []
stop_said (Stop.ErrorReport code) = Verdict.refused 19 (code_number code ∷ [])

abbrev pub stopped_by : Verdict → Stage
stopped_by (Verdict.accepted pdu consumed) = idle
stopped_by (Verdict.refused number values) = stopped number values

-- the phase that the session record holds
abbrev pub stage_of : Phase → Stage
stage_of Phase.Idle = idle
stage_of Phase.MustReset = must_reset
stage_of Phase.AskedFull = asked_full
stage_of Phase.AskedChange = asked_change
stage_of (Phase.Loading kind session) = loading kind session
stage_of (Phase.Stopped stop) = stopped_by (stop_said stop)

-- the receiver that a session record and lent memory stand for
abbrev pub receiver_of : Session → Rooms → Rooms → List ℕ → Receiver
receiver_of s live working hold =
    record {
      version = s.life.version;
      stage = stage_of s.phase;
      table = s.table;
      note = s.note;
      live = contents s.live live;
      working = contents s.working working;
      held = take s.held hold;
    }

-- a change is under way in AskedChange and in a load that a change began
abbrev pub change_under_way : Phase → Bool
change_under_way Phase.Idle = false
change_under_way Phase.MustReset = false
change_under_way Phase.AskedFull = false
change_under_way Phase.AskedChange = true
change_under_way (Phase.Loading LoadKind.Full session) = false
change_under_way (Phase.Loading LoadKind.Change session) = true
change_under_way (Phase.Stopped stop) = false

abbrev pub is_loading : Phase → Bool
is_loading Phase.Idle = false
is_loading Phase.MustReset = false
is_loading Phase.AskedFull = false
is_loading Phase.AskedChange = false
is_loading (Phase.Loading kind session) = true
is_loading (Phase.Stopped stop) = false

abbrev pub is_stopped : Phase → Bool
is_stopped Phase.Idle = false
is_stopped Phase.MustReset = false
is_stopped Phase.AskedFull = false
is_stopped Phase.AskedChange = false
is_stopped (Phase.Loading kind session) = false
is_stopped (Phase.Stopped stop) = true

-- live records and a change under way have their table (document 01, "Refusal numbers", 22)
abbrev pub tabled : Session → Bool
tabled s = has_table s.table || (is_none s.live && not (change_under_way s.phase))

-- the working room is empty outside Loading, and nothing is held in Stopped (the same)
abbrev pub cleared : Session → Bool
cleared s = (is_loading s.phase || is_none s.working) && (not (is_stopped s.phase) || s.held == 0)

-- what 22 asks of the session record alone
abbrev pub in_order : Session → Bool
in_order s = tabled s && cleared s

-- "at most 1,024 records" (document 01, "Stream and receiver"): the limit that a start gives, and the only one that a receiver may have
abbrev pub record_limit : ℕ
record_limit = 1024

-- a limit that a receiver may have
abbrev pub is_limit : ℕ → Bool
is_limit limit = limit == record_limit

-- the session record holds this limit, and a receiver may have it
abbrev pub has_limit : ℕ → Session → Bool
has_limit limit s = s.life.limit == limit && is_limit limit

-- receiver shape: where it is missing the answer is 22. The limit is the session's; both rooms are rooms of the limit and keep the room rules up to their counts; the hold is a
-- stream (8 bytes or more, no more held than it has, what is held makes neither a PDU nor a refusal)
unfoldable pub is_receiver : ℕ → Session → Rooms → Rooms → List ℕ → Bool
is_receiver limit s live working hold =
    has_limit limit s
    && (are_rooms limit s.live live && (are_rooms limit s.working working && (is_stream hold s.held && in_order s)))

-- document 01's reasons for 22, one by one, over any limit: proofs/Shape.antt has that receiver shape is missing exactly where one of them holds
pub data Reason (limit : ℕ) (s : Session) (live working : Rooms) (hold : List ℕ) : Type 0 where
  other_limit : has_limit limit s ≡ false → Reason limit s live working hold
  live_size : OffSize limit live → Reason limit s live working hold
  working_size : OffSize limit working → Reason limit s live working hold
  hold_size : length hold < 8 → Reason limit s live working hold
  live_over : OverLimit limit s.live → Reason limit s live working hold
  working_over : OverLimit limit s.working → Reason limit s live working hold
  held_over : length hold < s.held → Reason limit s live working hold
  live_rules : BreaksRules limit s.live live → Reason limit s live working hold
  working_rules : BreaksRules limit s.working working → Reason limit s live working hold
  records_without_table : s.table ≡ None → Used s.live → Reason limit s live working hold
  change_without_table : s.table ≡ None → change_under_way s.phase ≡ true → Reason limit s live working hold
  working_outside_loading : is_loading s.phase ≡ false → Used s.working → Reason limit s live working hold
  held_in_stopped : is_stopped s.phase ≡ true → 0 < s.held → Reason limit s live working hold
  held_pdu : (pdu : RtrPdu) → judge in_use (length hold) (take s.held hold) ≡ Heard.whole pdu → Reason limit s live working hold
  held_refusal : (number : ℕ) (values : List ℕ) → judge in_use (length hold) (take s.held hold) ≡ Heard.refused number values → Reason limit s live working hold

-- what a call leaves: the session record, both rooms whole, and the hold up to the held count
pub record Left : Type 0 where
  pub life : Life
  pub stage : Stage
  pub table : Option Table
  pub note : Option (ℕ × ℕ)
  pub live_count : Counts
  pub working_count : Counts
  pub held_count : ℕ
  pub live : Rooms
  pub working : Rooms
  pub held : List ℕ

abbrev pub leaves : Session → Rooms → Rooms → List ℕ → Left
leaves s live working hold =
    record {
      life = s.life;
      stage = stage_of s.phase;
      table = s.table;
      note = s.note;
      live_count = s.live;
      working_count = s.working;
      held_count = s.held;
      live = live;
      working = working;
      held = take s.held hold;
    }

-- a receiver in memory, with this limit
abbrev pub in_memory : ℕ → Receiver → Left
in_memory limit r =
    record {
      life = record { version = r.version; limit = limit };
      stage = r.stage;
      table = r.table;
      note = r.note;
      live_count = counts_of r.live;
      working_count = counts_of r.working;
      held_count = length r.held;
      live = rooms_of limit r.live;
      working = rooms_of limit r.working;
      held = r.held;
    }

-- a stop with its number and values, or none
pub data Ending : Type 0 where
  goes_on : Ending
  stops : ℕ → List ℕ → Ending

abbrev pub ending_of : Stage → Ending
ending_of idle = goes_on
ending_of must_reset = goes_on
ending_of asked_full = goes_on
ending_of asked_change = goes_on
ending_of (loading kind session) = goes_on
ending_of (stopped number values) = stops number values

-- ---- feed: bytes taken, updates finished, the stop if there is one, and what is left; or refused by a number, with bytes taken, updates finished, what is left and the
-- whole hold: 22 takes and counts 0 and leaves all
pub data FeedSays : Type 0 where
  fed : ℕ → ℕ → Ending → Left → FeedSays
  refused_feed : ℕ → ℕ → ℕ → Left → List ℕ → FeedSays

abbrev pub fed_to : ℕ → Feed → FeedSays
fed_to limit f = fed f.taken f.updates (ending_of f.receiver.stage) (in_memory limit f.receiver)

unfoldable pub feed_says : ℕ → Session → Rooms → Rooms → List ℕ → List ℕ → FeedSays
feed_says limit s live working hold piece =
    cond (is_receiver limit s live working hold)
    (fed_to limit (feed limit (length hold) (receiver_of s live working hold) piece))
    (refused_feed 22 0 0 (leaves s live working hold) hold)

-- what the code's answer says, given the memory that it leaves
abbrev pub fed_said_by : Result ⊤ FeedError → ℕ → ℕ → Left → List ℕ → FeedSays
fed_said_by (Ok tt) taken updates left hold = fed taken updates goes_on left
fed_said_by (Err (FeedError.Stopped stop)) taken updates left hold = fed taken updates (ending_of (stopped_by (stop_said stop))) left
fed_said_by (Err FeedError.NotAReceiver) taken updates left hold = refused_feed 22 taken updates left hold

abbrev pub fed_said : Fed → Rooms → Rooms → List ℕ → FeedSays
fed_said r live working hold = fed_said_by r.done.answer r.done.taken r.done.updates (leaves r.session live working hold) hold

-- the promise: what the answer says of the memory that it leaves is that, and the hold keeps its length
abbrev pub FedAs : ℕ → Session → Rooms → Rooms → List ℕ → List ℕ → Fed → Rooms → Rooms → List ℕ → Type 0
FedAs limit s live working hold piece r live' working' hold' =
    (fed_said r live' working' hold' ≡ feed_says limit s live working hold piece) × (length hold' ≡ length hold)

-- ---- start: a fresh receiver in both rooms, or refused by a number, with both rooms as they are left: 22 for a limit, a room's size or H leaves them as they were
pub data StartSays : Type 0 where
  started : Left → StartSays
  refused_start : ℕ → Rooms → Rooms → StartSays

unfoldable pub start_says : ℕ → RtrProtocolVersion → Rooms → Rooms → List ℕ → StartSays
start_says limit version live working hold =
    cond (is_limit limit && (are_sized limit live && (are_sized limit working && nat_le 8 (length hold))))
    (started (in_memory limit (fresh version)))
    (refused_start 22 live working)

abbrev pub start_said : Result Session NotAReceiver → Rooms → Rooms → List ℕ → StartSays
start_said (Ok s) live working hold = started (leaves s live working hold)
start_said (Err refusal) live working hold = refused_start 22 live working

-- ---- the asks: 22, 20, 21, 9; what was written or the refusal, the output, and what is left
pub record AskSays : Type 0 where
  pub says : Writing
  pub out : List ℕ
  pub left : Left

abbrev pub asked_to : ℕ → Asked → AskSays
asked_to limit a = record { says = a.says; out = a.out; left = in_memory limit a.receiver }

abbrev pub ask_says : ℕ → (Receiver → Query) → Session → Rooms → Rooms → List ℕ → List ℕ → AskSays
ask_says limit query_of s live working hold out =
    cond (is_receiver limit s live working hold)
    (asked_to limit (ask (query_of (receiver_of s live working hold)) (receiver_of s live working hold) out))
    (record { says = Writing.refused 22 []; out = out; left = leaves s live working hold })

unfoldable pub full_ask_says : ℕ → Session → Rooms → Rooms → List ℕ → List ℕ → AskSays
full_ask_says limit s live working hold out = ask_says limit (λ r. full_query r.stage r) s live working hold out

unfoldable pub change_ask_says : ℕ → Session → Rooms → Rooms → List ℕ → List ℕ → AskSays
change_ask_says limit s live working hold out = ask_says limit (λ r. change_query r.stage r) s live working hold out

abbrev pub ask_error : AskError → Writing
ask_error AskError.NotAReceiver = Writing.refused 22 []
ask_error AskError.WrongPhase = Writing.refused 20 []
ask_error AskError.NoTable = Writing.refused 21 []
ask_error (AskError.Encoding error) = encode_refusal error

abbrev pub ask_writing : Result ℕ AskError → Writing
ask_writing (Ok n) = Writing.written n
ask_writing (Err error) = ask_error error

abbrev pub ask_said : AskedSession → Rooms → Rooms → List ℕ → List ℕ → AskSays
ask_said r live working hold out =
    record { says = ask_writing r.answer; out = out; left = leaves r.session live working hold }

-- ---- reconnect: 22, or what is left of it
pub record ReconnectSays : Type 0 where
  pub number : ℕ
  pub left : Left

unfoldable pub reconnect_says : ℕ → Session → Rooms → Rooms → List ℕ → ReconnectSays
reconnect_says limit s live working hold =
    cond (is_receiver limit s live working hold)
    (record { number = 0; left = in_memory limit (reconnected (receiver_of s live working hold)) })
    (record { number = 22; left = leaves s live working hold })

abbrev pub reconnect_number : Result ⊤ NotAReceiver → ℕ
reconnect_number (Ok tt) = 0
reconnect_number (Err refusal) = 22

abbrev pub reconnect_said : Reconnected → Rooms → Rooms → List ℕ → ReconnectSays
reconnect_said r live working hold = record { number = reconnect_number r.answer; left = leaves r.session live working hold }

-- ---- the notify comparison: 22 first
pub data NotifySays : Type 0 where
  compares : Notified → NotifySays
  refused_notify : ℕ → NotifySays

unfoldable pub notify_says : ℕ → Session → Rooms → Rooms → List ℕ → NotifySays
notify_says limit s live working hold = cond (is_receiver limit s live working hold) (compares (notified s.table s.note)) (refused_notify 22)

abbrev pub notify_said : Result Comparison NotAReceiver → NotifySays
notify_said (Ok Comparison.None) = compares Notified.none
notify_said (Ok Comparison.OtherSession) = compares Notified.other_session
notify_said (Ok Comparison.Same) = compares Notified.same
notify_said (Ok Comparison.Newer) = compares Notified.newer
notify_said (Ok Comparison.Older) = compares Notified.older
notify_said (Ok Comparison.Undefined) = compares Notified.undefined
notify_said (Err refusal) = refused_notify 22
