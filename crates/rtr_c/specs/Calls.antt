-- What each call from C answers and leaves, through the crates below: a session is its 24 numbers (rtr_numbers) and a PDU its 12 (rtr_pdu_numbers), rooms are
-- of the limit that the session holds. Numbers that are no session's and no PDU's are refused by 22. A route is its six (rtr_origin).
use Rattle.std.specs.Prelude.{ℕ, Bool, true, false, cond, List, [], ◌∷◌, ◌++◌, eqb, length, get_or, take, Option, Some, None}
use Rattle.rtr_models.specs.Codes.{type_number, version_found}
use Rattle.rtr_models.specs.declared.RtrProtocolVersion.{RtrProtocolVersion}
use Rattle.rtr_codec.specs.Reading.{in_use}
use Rattle.rtr_codec.specs.Read.{Verdict, read}
use Rattle.rtr_encode.specs.Encode.{Writing, Encoded, encode}
use Rattle.rtr_encode.specs.Answers.{number_of}
use Rattle.rtr_listing.specs.Promises.{listing_says}
use Rattle.rtr_listing.specs.declared.Head.{Head}
use Rattle.rtr_listed.specs.Promises.{ListedSays, ListedLeft, listed_says}
use Rattle.rtr_diffs.specs.Diffs.{DiffLeft, diff_says}
use Rattle.rtr_cache.specs.Cache.{full_run_says, change_run_says}
use Rattle.rtr_walk.specs.Walk.{End, WalkVerdict, walk}
use Rattle.rtr_receiver.specs.Receiver.{Notified}
use Rattle.rtr_receiver.specs.History.{has_table}
use Rattle.rtr_receiver.specs.Promises.{Ending, FeedSays, StartSays, AskSays, ReconnectSays, NotifySays, is_receiver, feed_says, start_says, full_ask_says, change_ask_says, reconnect_says, notify_says, record_limit}
use Rattle.rtr_receiver.specs.declared.Table.{Table}
use Rattle.rtr_receiver.specs.declared.Session.{Session}
use Rattle.rtr_numbers.specs.Numbers.{table_number, table_or, table_numbers_of, left_numbers, session_size}
use Rattle.rtr_pdu_numbers.specs.Numbers.{pdu_numbers}
use Rattle.rtr_numbers.specs.Back.{session_of, table_found}
use Rattle.rtr_pdu_numbers.specs.Back.{pdu_of}
use Rattle.rtr_origin.specs.Origin.{state_number}
use Rattle.rtr_origin.specs.Promises.{RouteSays, validate_says}
use Rattle.rtr_origin.specs.Numbers.{route_of}
use Rattle.rtr_origin.specs.Peer.{peer_leaves}
use Rattle.rtr_models.specs.declared.RtrPdu.{RtrPdu}
use Rattle.rtr_origin.specs.declared.Route.{Route}

-- ---- whether numbers are a session's; those that are none are refused by 22 in every call but start, which writes them
abbrev pub is_known : Option Session → Bool
is_known (Some s) = true
is_known None = false

-- numbers that some session has
unfoldable pub is_session : List ℕ → Bool
is_session numbers = is_known (session_of numbers)

-- ---- read: 9 where not 12 numbers are lent, else 0 and the PDU's numbers, or the refusal and the numbers as they were
pub record ReadLeft : Type 0 where
  pub answer : ℕ
  pub pdu : List ℕ

-- what the answer and the memory that it leaves say
abbrev pub read_gives : ℕ → List ℕ → ReadLeft
read_gives answer pdu = record { answer = answer; pdu = pdu }

-- what a read says and leaves
abbrev pub read_left : Verdict → List ℕ → ReadLeft
read_left (Verdict.accepted pdu consumed) numbers = read_gives 0 (pdu_numbers pdu consumed)
read_left (Verdict.refused number values) numbers = read_gives number numbers

-- the promise of `hingemoss_read`
unfoldable pub read_c : List ℕ → List ℕ → ReadLeft
read_c bytes numbers = cond (eqb (length numbers) 12) (read_left (read in_use bytes) numbers) (read_gives 9 numbers)

-- ---- encode: 22 where the numbers are no PDU's, else 0, 8, 9, 10 or 11; the bytes written, or needed (9), or 0; and the output
pub record EncodeLeft : Type 0 where
  pub answer : ℕ
  pub written : ℕ
  pub out : List ℕ

-- what the answer and the memory that it leaves say
abbrev pub encode_gives : ℕ → ℕ → List ℕ → EncodeLeft
encode_gives answer written out = record { answer = answer; written = written; out = out }

-- the bytes written; of a refusal its value, which only 9 has
abbrev pub amount_of : Writing → ℕ
amount_of (Writing.written n) = n
amount_of (Writing.refused number values) = get_or values 0 0

-- what an encoding says and leaves
abbrev pub encode_left : Encoded → EncodeLeft
encode_left e = encode_gives (number_of e.says) (amount_of e.says) e.out

-- a PDU that was found is encoded
abbrev pub encode_found : Option (RtrPdu × ℕ) → List ℕ → List ℕ → EncodeLeft
encode_found (Some (pdu, consumed)) payload out = encode_left (encode in_use pdu payload out)
encode_found None payload out = encode_gives 22 0 out

-- the promise of `hingemoss_encode`
unfoldable pub encode_c : List ℕ → List ℕ → List ℕ → EncodeLeft
encode_c numbers payload out = encode_found (pdu_of numbers) payload out

-- ---- walk: 0, the level, the end's number and its value; or the refusal and zeros
pub record WalkLeft : Type 0 where
  pub answer : ℕ
  pub level : ℕ
  pub end : ℕ
  pub value : ℕ

-- what the answer and the memory that it leaves say
abbrev pub walk_gives : ℕ → ℕ → ℕ → ℕ → WalkLeft
walk_gives answer level end value = record { answer = answer; level = level; end = end; value = value }

-- an end's number
abbrev pub end_number : End → ℕ
end_number (End.plain type) = 0
end_number End.empty = 1
end_number (End.refused_by number) = 2
end_number End.too_deep = 3

-- a plain PDU's type, or the number of the refusal
abbrev pub end_value : End → ℕ
end_value (End.plain type) = type_number type
end_value End.empty = 0
end_value (End.refused_by number) = number
end_value End.too_deep = 0

-- what a walk says
abbrev pub walk_left : WalkVerdict → WalkLeft
walk_left (WalkVerdict.walked level end) = walk_gives 0 level (end_number end) (end_value end)
walk_left (WalkVerdict.refused number values) = walk_gives number 0 0 0

-- the promise of `hingemoss_walk`
unfoldable pub walk_c : List ℕ → WalkLeft
walk_c bytes = walk_left (walk in_use bytes)

-- ---- start: 0, the fresh session and both rooms zeroed; or 22 and all as it was
pub record StartLeft : Type 0 where
  pub answer : ℕ
  pub session : List ℕ
  pub live : List ℕ
  pub working : List ℕ

-- what the answer and the memory that it leaves say
abbrev pub start_gives : ℕ → List ℕ → List ℕ → List ℕ → StartLeft
start_gives answer session live working = record { answer = answer; session = session; live = live; working = working }

-- what a start says and leaves
abbrev pub start_left : StartSays → List ℕ → StartLeft
start_left (StartSays.started left) session = start_gives 0 (left_numbers left) left.live left.working
start_left (StartSays.refused_start number live working) session = start_gives number session live working

-- a version that was found is started
abbrev pub start_found : Option RtrProtocolVersion → List ℕ → List ℕ → List ℕ → List ℕ → StartLeft
start_found (Some version) session live working hold = start_left (start_says record_limit version live working hold) session
start_found None session live working hold = start_gives 22 session live working

-- the promise of `hingemoss_start`
unfoldable pub start_c : ℕ → List ℕ → List ℕ → List ℕ → List ℕ → StartLeft
start_c version session live working hold =
    cond (eqb (length session) session_size) (start_found (version_found version) session live working hold) (start_gives 22 session live working)

-- ---- the asks: 0, 22, 20, 21 or 9, the session and the output
pub record AskLeft : Type 0 where
  pub answer : ℕ
  pub session : List ℕ
  pub out : List ℕ

-- what the answer and the memory that it leaves say
abbrev pub ask_gives : ℕ → List ℕ → List ℕ → AskLeft
ask_gives answer session out = record { answer = answer; session = session; out = out }

-- what an ask says and leaves
abbrev pub ask_left : AskSays → AskLeft
ask_left a = ask_gives (number_of a.says) (left_numbers a.left) a.out

-- a session that was found asks
abbrev pub ask_found : (Session → AskSays) → Option Session → List ℕ → List ℕ → AskLeft
ask_found ask (Some s) session out = ask_left (ask s)
ask_found ask None session out = ask_gives 22 session out

-- the promise of `hingemoss_full_ask`
unfoldable pub full_ask_c : List ℕ → List ℕ → List ℕ → List ℕ → List ℕ → AskLeft
full_ask_c session live working hold out = ask_found (λ s. full_ask_says s.life.limit s live working hold out) (session_of session) session out

-- the promise of `hingemoss_change_ask`
unfoldable pub change_ask_c : List ℕ → List ℕ → List ℕ → List ℕ → List ℕ → AskLeft
change_ask_c session live working hold out = ask_found (λ s. change_ask_says s.life.limit s live working hold out) (session_of session) session out

-- ---- feed: 0 or the stop's number, or 22; the session, both rooms, the bytes held (of 22 the whole hold), bytes taken and updates finished
pub record FeedLeft : Type 0 where
  pub answer : ℕ
  pub session : List ℕ
  pub live : List ℕ
  pub working : List ℕ
  pub held : List ℕ
  pub taken : ℕ
  pub updates : ℕ

-- of the hold what is promised: up to the held count, which is number 17, or all of it on 22
abbrev pub held_of : ℕ → List ℕ → List ℕ → List ℕ
held_of answer session hold = cond (eqb answer 22) hold (take (get_or session 17 0) hold)

-- what the answer and the memory that it leaves say
abbrev pub feed_gives : ℕ → List ℕ → List ℕ → List ℕ → List ℕ → ℕ → ℕ → FeedLeft
feed_gives answer session live working hold taken updates =
    record {
      answer = answer;
      session = session;
      live = live;
      working = working;
      held = held_of answer session hold;
      taken = taken;
      updates = updates;
    }

-- a stop's number, or 0
abbrev pub ending_number : Ending → ℕ
ending_number Ending.goes_on = 0
ending_number (Ending.stops number values) = number

-- what a feed says and leaves
abbrev pub feed_left : FeedSays → FeedLeft
feed_left (FeedSays.fed taken updates ending left) =
    record {
      answer = ending_number ending;
      session = left_numbers left;
      live = left.live;
      working = left.working;
      held = left.held;
      taken = taken;
      updates = updates;
    }
feed_left (FeedSays.refused_feed number taken updates left hold) =
    record {
      answer = number;
      session = left_numbers left;
      live = left.live;
      working = left.working;
      held = hold;
      taken = taken;
      updates = updates;
    }

-- a session that was found is fed
abbrev pub feed_found : Option Session → List ℕ → List ℕ → List ℕ → List ℕ → List ℕ → FeedLeft
feed_found (Some s) session live working hold piece = feed_left (feed_says s.life.limit s live working hold piece)
feed_found None session live working hold piece = feed_gives 22 session live working hold 0 0

-- the promise of `hingemoss_feed`
unfoldable pub feed_c : List ℕ → List ℕ → List ℕ → List ℕ → List ℕ → FeedLeft
feed_c session live working hold piece = feed_found (session_of session) session live working hold piece

-- ---- reconnect: 0 or 22, the session and the working room
pub record ReconnectLeft : Type 0 where
  pub answer : ℕ
  pub session : List ℕ
  pub working : List ℕ

-- what the answer and the memory that it leaves say
abbrev pub reconnect_gives : ℕ → List ℕ → List ℕ → ReconnectLeft
reconnect_gives answer session working = record { answer = answer; session = session; working = working }

-- what a reconnect says and leaves
abbrev pub reconnect_left : ReconnectSays → ReconnectLeft
reconnect_left r = reconnect_gives r.number (left_numbers r.left) r.left.working

-- a session that was found is reconnected
abbrev pub reconnect_found : Option Session → List ℕ → List ℕ → List ℕ → List ℕ → ReconnectLeft
reconnect_found (Some s) session live working hold = reconnect_left (reconnect_says s.life.limit s live working hold)
reconnect_found None session live working hold = reconnect_gives 22 session working

-- the promise of `hingemoss_reconnect`
unfoldable pub reconnect_c : List ℕ → List ℕ → List ℕ → List ℕ → ReconnectLeft
reconnect_c session live working hold = reconnect_found (session_of session) session live working hold

-- ---- notify: 0 and how the note compares, or 22 and 0
pub record NotifyLeft : Type 0 where
  pub answer : ℕ
  pub compared : ℕ

-- what the answer and the memory that it leaves say
abbrev pub notify_gives : ℕ → ℕ → NotifyLeft
notify_gives answer compared = record { answer = answer; compared = compared }

-- a comparison's number
abbrev pub compared_number : Notified → ℕ
compared_number Notified.none = 0
compared_number Notified.other_session = 1
compared_number Notified.same = 2
compared_number Notified.newer = 3
compared_number Notified.older = 4
compared_number Notified.undefined = 5

-- what a comparison says
abbrev pub notify_left : NotifySays → NotifyLeft
notify_left (NotifySays.compares n) = notify_gives 0 (compared_number n)
notify_left (NotifySays.refused_notify number) = notify_gives number 0

-- a session that was found is compared
abbrev pub notify_found : Option Session → List ℕ → List ℕ → List ℕ → NotifyLeft
notify_found (Some s) live working hold = notify_left (notify_says s.life.limit s live working hold)
notify_found None live working hold = notify_gives 22 0

-- the promise of `hingemoss_notify`
unfoldable pub notify_c : List ℕ → List ℕ → List ℕ → List ℕ → NotifyLeft
notify_c session live working hold = notify_found (session_of session) live working hold

-- ---- listing: 0, 22 or 9; the bytes written, or needed (9), or 0; and the output
abbrev pub listing_found : Option Session → List ℕ → List ℕ → EncodeLeft
listing_found (Some s) live out = encode_left (listing_says s.life.limit s live out)
listing_found None live out = encode_gives 22 0 out

-- the promise of `hingemoss_listing`
unfoldable pub listing_c : List ℕ → List ℕ → List ℕ → EncodeLeft
listing_c session live out = listing_found (session_of session) live out

-- ---- read_listing: 0 and what the listing says before its records; 22; or 24 and the line. The room and the numbers of the head, which stay on 22; on 24 the room is all zeros
pub record ReadListingLeft : Type 0 where
  pub answer : ℕ
  pub room : List ℕ
  pub head : List ℕ
  pub line : ℕ

-- what the answer and the memory that it leaves say
abbrev pub read_listing_gives : ℕ → List ℕ → List ℕ → ℕ → ReadListingLeft
read_listing_gives answer room head line = record { answer = answer; room = room; head = head; line = line }

-- how many numbers a head is
abbrev pub head_size : ℕ
head_size = 8

-- the stop's number, 0 without one; whether there is a table, and what it says, zeros without one; how many records
abbrev pub head_numbers : Head → List ℕ
head_numbers head = head.stopped ∷ table_number head.table ∷ (table_numbers_of (table_or head.table) ++ head.count ∷ [])

-- what a reading says; of a refusal the line is its value, which only 24 has
abbrev pub read_listing_said : ListedSays → List ℕ → List ℕ → ReadListingLeft
read_listing_said (ListedSays.says said) room head = read_listing_gives 0 room (head_numbers said) 0
read_listing_said (ListedSays.refused number values) room head = read_listing_gives number room head (get_or values 0 0)

-- what a reading says and leaves
abbrev pub read_listing_left : ListedLeft → List ℕ → ReadListingLeft
read_listing_left left head = read_listing_said left.answer left.room head

-- the promise of `hingemoss_read_listing`
unfoldable pub read_listing_c : List ℕ → List ℕ → List ℕ → ReadListingLeft
read_listing_c text room head = cond (eqb (length head) head_size) (read_listing_left (listed_says record_limit text room) head) (read_listing_gives 22 room head 0)

-- ---- diff: 0 (a refused file is told in the text), 22 or 9; the bytes written, or needed (9), or 0; the output; and both rooms
pub record DiffCLeft : Type 0 where
  pub encoded : EncodeLeft
  pub old_room : List ℕ
  pub new_room : List ℕ

-- what the answer and the memory that it leaves say
abbrev pub diff_gives : ℕ → ℕ → List ℕ → List ℕ → List ℕ → DiffCLeft
diff_gives answer written old_room new_room out = record { encoded = encode_gives answer written out; old_room = old_room; new_room = new_room }

-- what comparing two listings says and leaves
abbrev pub diff_left_c : DiffLeft → DiffCLeft
diff_left_c d = record { encoded = encode_left d.out; old_room = d.old_room; new_room = d.new_room }

-- the promise of `hingemoss_diff`
unfoldable pub diff_c : List ℕ → List ℕ → List ℕ → List ℕ → List ℕ → DiffCLeft
diff_c old new old_room new_room out = diff_left_c (diff_says record_limit old new old_room new_room out)

-- ---- validate: 0 and the number of the route's state by the live table; or 22, 21 or 23, and 0
pub record ValidateLeft : Type 0 where
  pub answer : ℕ
  pub state : ℕ

-- what the answer and the memory that it leaves say
abbrev pub validate_gives : ℕ → ℕ → ValidateLeft
validate_gives answer state = record { answer = answer; state = state }

-- what a question says
abbrev pub validate_left : RouteSays → ValidateLeft
validate_left (RouteSays.state s) = validate_gives 0 (state_number s)
validate_left (RouteSays.refused number) = validate_gives number 0

-- a session that was found is asked of a route; where six numbers are no route's, 23 comes behind 22 and 21 as for one that is too long
abbrev pub validate_found : Option Session → Option Route → List ℕ → List ℕ → List ℕ → ValidateLeft
validate_found (Some s) (Some q) live working hold = validate_left (validate_says s.life.limit s live working hold q)
validate_found (Some s) None live working hold =
    cond (is_receiver s.life.limit s live working hold)
    (cond (has_table s.table) (validate_gives 23 0) (validate_gives 21 0))
    (validate_gives 22 0)
validate_found None route live working hold = validate_gives 22 0

-- the promise of `hingemoss_validate`
unfoldable pub validate_c : List ℕ → List ℕ → List ℕ → List ℕ → List ℕ → ValidateLeft
validate_c session live working hold route =
    cond (eqb (length route) 6) (validate_found (session_of session) (route_of route) live working hold) (validate_gives 22 0)

-- ---- validate_all: 0, 22, 21 or 9; how many routes there were, or how many states are needed (9), or 0; and the list of states
abbrev pub validate_all_found : Option Session → List ℕ → List ℕ → List ℕ → List ℕ → List ℕ → EncodeLeft
validate_all_found (Some s) live working hold routes states = encode_left (peer_leaves s.life.limit s live working hold routes states)
validate_all_found None live working hold routes states = encode_gives 22 0 states

-- the promise of `hingemoss_validate_all`
unfoldable pub validate_all_c : List ℕ → List ℕ → List ℕ → List ℕ → List ℕ → List ℕ → EncodeLeft
validate_all_c session live working hold routes states = validate_all_found (session_of session) live working hold routes states

-- ---- the runs: 0, 22 (also where the version or the five numbers are none's) or 9; the bytes written, or needed (9), or 0; and the output

-- a run of a version and a table's numbers that were found
abbrev pub run_found : (RtrProtocolVersion → Table → Encoded) → Option RtrProtocolVersion → Option Table → List ℕ → EncodeLeft
run_found run (Some version) (Some end) out = encode_left (run version end)
run_found run (Some version) None out = encode_gives 22 0 out
run_found run None end out = encode_gives 22 0 out

-- the promise of `hingemoss_full_run`
unfoldable pub full_run_c : ℕ → List ℕ → List ℕ → ℕ → List ℕ → EncodeLeft
full_run_c version end table count out = run_found (λ v t. full_run_says v t table count out) (version_found version) (table_found end) out

-- the promise of `hingemoss_change_run`
unfoldable pub change_run_c : ℕ → List ℕ → List ℕ → ℕ → List ℕ → ℕ → List ℕ → EncodeLeft
change_run_c version end first first_count second second_count out =
    run_found (λ v t. change_run_says v t first first_count second second_count out) (version_found version) (table_found end) out
