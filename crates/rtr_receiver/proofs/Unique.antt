-- What each public call promises leaves one result and one content of lent memory, of the hold up to the held count (document 01, "How tight the promises
-- are"). A session record is told from what it leaves: the phase by its name, a stop by its number and values. Assumes nothing.
use Rattle.std.specs.Prelude.{Option, Some, None, Result, Ok, Err, ⊤}
use Rattle.std.proofs.Common.{◌≡◌, ℕ, cond, eqb, List, [], get_or, take, sym, refl, ap, ◌∙◌}
use Rattle.rtr_base.proofs.Unique.{only_one, only-this}
use Rattle.rtr_models.specs.Codes.{code_found, code_number}
use Rattle.rtr_models.specs.declared.RtrErrorCode.{RtrErrorCode}
use Rattle.rtr_models.specs.declared.RtrErrorCode.TheVariants.{CorruptData, InternalError, NoDataAvailable, InvalidRequest, UnsupportedProtocolVersion, UnsupportedPduType, WithdrawalOfUnknownRecord, DuplicateAnnouncementReceived, UnexpectedProtocolVersion}
use Rattle.rtr_codec.specs.declared.RtrError.TheVariants.{IncompletePdu, InvalidProtocolVersion, InvalidPduType, InvalidLength, RouterKeyInV0, InvalidPrefixLength, InvalidErrorCode, InvalidUtf8}
use Rattle.rtr_encode.specs.Encode.{Writing}
use Rattle.rtr_encode.specs.declared.EncodeError.{EncodeError}
use Rattle.rtr_stream.specs.Search.{Says}
use Rattle.rtr_stream.specs.declared.StreamError.{StreamError}
use Rattle.rtr_stream.proofs.Unique.{saying, answer-told}
use Rattle.rtr_receiver.specs.Contents.{Rooms}
use Rattle.rtr_receiver.specs.Receiver.{Stage, Notified}
use Rattle.rtr_receiver.specs.Promises.{Left, Ending, FeedSays, StartSays, AskSays, ReconnectSays, NotifySays, stop_said, stopped_by, stage_of, ending_of, leaves, fed_said_by, fed_said, start_said, ask_writing, ask_said, reconnect_number, reconnect_said, notify_said}
use Rattle.rtr_receiver.specs.declared.Stop.{Stop}
use Rattle.rtr_receiver.specs.declared.Phase.{Phase}
use Rattle.rtr_receiver.specs.declared.Session.{Session}
use Rattle.rtr_receiver.specs.declared.AskError.{AskError}
use Rattle.rtr_receiver.specs.declared.AskedSession.{AskedSession}
use Rattle.rtr_receiver.specs.declared.Fed.{Fed}
use Rattle.rtr_receiver.specs.declared.Reconnected.{Reconnected}
use Rattle.rtr_receiver.proofs.Memory.{stop-says}
use Rattle.rtr_receiver.proofs.Steps.{stopped-stage}
use Rattle.rtr_receiver.proofs.start.Reads as start-reads
use Rattle.rtr_receiver.proofs.full_ask.Reads as full-reads
use Rattle.rtr_receiver.proofs.change_ask.Reads as change-reads
use Rattle.rtr_receiver.proofs.feed.Reads as feed-reads
use Rattle.rtr_receiver.proofs.reconnect.Reads as reconnect-reads
use Rattle.rtr_receiver.proofs.notify.Reads as notify-reads
use Rattle.rtr_receiver.proofs.Stop.number.Reads as number-reads
use Rattle.rtr_receiver.proofs.is_limit.Reads as limit-reads
use Rattle.rtr_receiver.proofs.is_receiver.Reads as receiver-reads
use Rattle.rtr_models.specs.declared.RtrPdu.{RtrPdu}
use Rattle.rtr_stream.specs.declared.SearchError.{SearchError}
use Rattle.rtr_stream.specs.declared.Lies.{Lies}
use Rattle.rtr_receiver.specs.declared.FeedError.{FeedError}
use Rattle.rtr_receiver.specs.declared.NotAReceiver.{NotAReceiver}
use Rattle.rtr_receiver.specs.declared.Comparison.{Comparison}

-- the stop that has a number and values
error_in : Result (Option (RtrPdu × Lies)) SearchError → StreamError
error_in (Err (SearchError.Refused error)) = error
error_in (Ok (Some (pdu, lies))) = StreamError.OverHold 0
error_in (Ok None) = StreamError.OverHold 0
error_in (Err SearchError.NotAStream) = StreamError.OverHold 0

code_in : Option RtrErrorCode → RtrErrorCode
code_in (Some c) = c
code_in None = CorruptData

stop_of : ℕ → List ℕ → Stop
stop_of k x =
    cond (eqb k 13) Stop.OutOfTurn
    (cond (eqb k 14) Stop.OtherVersion
    (cond (eqb k 15) Stop.OtherSession
    (cond (eqb k 16) Stop.NotIn
    (cond (eqb k 17) Stop.AlreadyIn
    (cond (eqb k 18) Stop.RoomFull
    (cond (eqb k 19) (Stop.ErrorReport (code_in (code_found (get_or x 0 0)))) (Stop.Stream (error_in (saying (Says.stops k x))))))))))

phase_of : Stage → Phase
phase_of Stage.idle = Phase.Idle
phase_of Stage.must_reset = Phase.MustReset
phase_of Stage.asked_full = Phase.AskedFull
phase_of Stage.asked_change = Phase.AskedChange
phase_of (Stage.loading kind session) = Phase.Loading kind session
phase_of (Stage.stopped k x) = Phase.Stopped (stop_of k x)

-- a stream's refusal is told from its number and values
stream-back : (e : StreamError) → phase_of (stage_of (Phase.Stopped (Stop.Stream e))) ≡ Phase.Stopped (Stop.Stream e)
unfolding phase_of stop_of error_in
stream-back (StreamError.OverHold n) = ap (λ (a : Result (Option (RtrPdu × Lies)) SearchError). Phase.Stopped (Stop.Stream (error_in a))) (answer-told [] [] (Err (SearchError.Refused (StreamError.OverHold n))))
stream-back (StreamError.Read (IncompletePdu a n)) = ap (λ (a : Result (Option (RtrPdu × Lies)) SearchError). Phase.Stopped (Stop.Stream (error_in a))) (answer-told [] [] (Err (SearchError.Refused (StreamError.Read (IncompletePdu a n)))))
stream-back (StreamError.Read (InvalidPduType t)) = ap (λ (a : Result (Option (RtrPdu × Lies)) SearchError). Phase.Stopped (Stop.Stream (error_in a))) (answer-told [] [] (Err (SearchError.Refused (StreamError.Read (InvalidPduType t)))))
stream-back (StreamError.Read (InvalidProtocolVersion v)) = ap (λ (a : Result (Option (RtrPdu × Lies)) SearchError). Phase.Stopped (Stop.Stream (error_in a))) (answer-told [] [] (Err (SearchError.Refused (StreamError.Read (InvalidProtocolVersion v)))))
stream-back (StreamError.Read (InvalidErrorCode c)) = ap (λ (a : Result (Option (RtrPdu × Lies)) SearchError). Phase.Stopped (Stop.Stream (error_in a))) (answer-told [] [] (Err (SearchError.Refused (StreamError.Read (InvalidErrorCode c)))))
stream-back (StreamError.Read (InvalidLength e a t)) = ap (λ (a : Result (Option (RtrPdu × Lies)) SearchError). Phase.Stopped (Stop.Stream (error_in a))) (answer-told [] [] (Err (SearchError.Refused (StreamError.Read (InvalidLength e a t)))))
stream-back (StreamError.Read (InvalidPrefixLength l m b)) = ap (λ (a : Result (Option (RtrPdu × Lies)) SearchError). Phase.Stopped (Stop.Stream (error_in a))) (answer-told [] [] (Err (SearchError.Refused (StreamError.Read (InvalidPrefixLength l m b)))))
stream-back (StreamError.Read InvalidUtf8) = ap (λ (a : Result (Option (RtrPdu × Lies)) SearchError). Phase.Stopped (Stop.Stream (error_in a))) (answer-told [] [] (Err (SearchError.Refused (StreamError.Read InvalidUtf8))))
stream-back (StreamError.Read RouterKeyInV0) = ap (λ (a : Result (Option (RtrPdu × Lies)) SearchError). Phase.Stopped (Stop.Stream (error_in a))) (answer-told [] [] (Err (SearchError.Refused (StreamError.Read RouterKeyInV0))))

report-back : (c : RtrErrorCode) → code_in (code_found (code_number c)) ≡ c
unfolding code_in
report-back CorruptData = refl
report-back InternalError = refl
report-back NoDataAvailable = refl
report-back InvalidRequest = refl
report-back UnsupportedProtocolVersion = refl
report-back UnsupportedPduType = refl
report-back WithdrawalOfUnknownRecord = refl
report-back DuplicateAnnouncementReceived = refl
report-back UnexpectedProtocolVersion = refl

phase-back : (p : Phase) → phase_of (stage_of p) ≡ p
unfolding phase_of stop_of
phase-back Phase.Idle = refl
phase-back Phase.MustReset = refl
phase-back Phase.AskedFull = refl
phase-back Phase.AskedChange = refl
phase-back (Phase.Loading kind session) = refl
phase-back (Phase.Stopped (Stop.Stream e)) = stream-back e
phase-back (Phase.Stopped Stop.OutOfTurn) = refl
phase-back (Phase.Stopped Stop.OtherVersion) = refl
phase-back (Phase.Stopped Stop.OtherSession) = refl
phase-back (Phase.Stopped Stop.NotIn) = refl
phase-back (Phase.Stopped Stop.AlreadyIn) = refl
phase-back (Phase.Stopped Stop.RoomFull) = refl
phase-back (Phase.Stopped (Stop.ErrorReport c)) = ap (λ (x : RtrErrorCode). Phase.Stopped (Stop.ErrorReport x)) (report-back c)

session_of : Left → Session
session_of l = record { life = l.life; phase = phase_of l.stage; table = l.table; note = l.note; live = l.live_count; working = l.working_count; held = l.held_count }

session-back : (s : Session) (live working : Rooms) (hold : List ℕ) → session_of (leaves s live working hold) ≡ s
unfolding session_of
session-back s live working hold = λ i. record { life = s.life; phase = phase-back s.phase i; table = s.table; note = s.note; live = s.live; working = s.working; held = s.held }

-- what two sessions and memories leave alike is alike
one_left : (s s' : Session) (live live' working working' hold hold' : List ℕ) → leaves s live working hold ≡ leaves s' live' working' hold' → (s ≡ s') × (live ≡ live') × (working ≡ working') × (take s.held hold ≡ take s'.held hold')
one_left s s' live live' working working' hold hold' e = (
  sym (session-back s live working hold) ∙ ap session_of e ∙ session-back s' live' working' hold',
  ap (λ (l : Left). l.live) e,
  ap (λ (l : Left). l.working) e,
  ap (λ (l : Left). l.held) e,
)

-- ---- feed

stop-back : (stop : Stop) → stop_of (stop-says stop).0 (stop-says stop).1 ≡ stop
unfolding phase_of
stop-back stop =
    let e : Phase.Stopped (stop_of (stop-says stop).0 (stop-says stop).1) ≡ Phase.Stopped stop = sym (ap phase_of (stopped-stage stop)) ∙ phase-back (Phase.Stopped stop) in
    cc

answer_in : Ending → Result ⊤ FeedError
answer_in Ending.goes_on = Ok tt
answer_in (Ending.stops k x) = Err (FeedError.Stopped (stop_of k x))

fed_of : FeedSays → Fed
fed_of (FeedSays.fed taken updates ending left) = record { session = session_of left; done = record { taken = taken; updates = updates; answer = answer_in ending } }
fed_of (FeedSays.refused_feed number taken updates left hold) = record { session = session_of left; done = record { taken = taken; updates = updates; answer = Err FeedError.NotAReceiver } }

left_in : FeedSays → Left
left_in (FeedSays.fed taken updates ending left) = left
left_in (FeedSays.refused_feed number taken updates left hold) = left

left_in_lem : (a : Result ⊤ FeedError) (taken updates : ℕ) (left : Left) (hold : List ℕ) → left_in (fed_said_by a taken updates left hold) ≡ left
unfolding left_in
left_in_lem (Ok tt) taken updates left hold = refl
left_in_lem (Err (FeedError.Stopped stop)) taken updates left hold = refl
left_in_lem (Err FeedError.NotAReceiver) taken updates left hold = refl

answer_back : (stop : Stop) → answer_in (ending_of (stopped_by (stop_said stop))) ≡ Err (FeedError.Stopped stop)
unfolding answer_in
answer_back stop = ap (λ (s : Stage). answer_in (ending_of s)) (stopped-stage stop) ∙ ap (λ (s : Stop). Err (FeedError.Stopped s)) (stop-back stop)

fed_by : (a : Result ⊤ FeedError) (taken updates : ℕ) (s : Session) (live working : Rooms) (hold : List ℕ) → fed_of (fed_said_by a taken updates (leaves s live working hold) hold) ≡ record { session = s; done = record { taken = taken; updates = updates; answer = a } }
unfolding fed_of answer_in
fed_by (Ok tt) taken updates s live working hold = λ i. record { session = session-back s live working hold i; done = record { taken = taken; updates = updates; answer = Ok tt } }
fed_by (Err (FeedError.Stopped stop)) taken updates s live working hold = λ i. record { session = session-back s live working hold i; done = record { taken = taken; updates = updates; answer = answer_back stop i } }
fed_by (Err FeedError.NotAReceiver) taken updates s live working hold = λ i. record { session = session-back s live working hold i; done = record { taken = taken; updates = updates; answer = Err FeedError.NotAReceiver } }

one-fed : (r r' : Fed) (live live' working working' hold hold' : List ℕ) (given : FeedSays) →
    fed_said r live working hold ≡ given →
    fed_said r' live' working' hold' ≡ given →
    (r ≡ r') × (live ≡ live') × (working ≡ working') × (take r.session.held hold ≡ take r'.session.held hold')
one-fed r r' live live' working working' hold hold' given p q =
    let same : leaves r.session live working hold ≡ leaves r'.session live' working' hold' =
    sym (left_in_lem r.done.answer _ _ _ hold) ∙ ap left_in (p ∙ sym q) ∙ left_in_lem r'.done.answer _ _ _ hold' in
    let rest = one_left r.session r'.session live live' working working' hold hold' same in (
      sym (fed_by r.done.answer r.done.taken r.done.updates r.session live working hold) ∙ ap fed_of (p ∙ sym q) ∙ fed_by r'.done.answer r'.done.taken r'.done.updates r'.session live' working' hold',
      rest.1,
      rest.2,
      rest.3,
    )

pub feed-unique : (κs : _) (a : _) (r r' : _) (s s' : _) → feed-reads.Post κs a r s → feed-reads.Post κs a r' s'
    → (r ≡ r') × (s.1.0.now ≡ s'.1.0.now) × (s.1.1.0.now ≡ s'.1.1.0.now) × (take r.session.held s.1.1.1.0.now ≡ take r'.session.held s'.1.1.1.0.now)
feed-unique κs a r r' s s' p q = one-fed r r' s.1.0.now s'.1.0.now s.1.1.0.now s'.1.1.0.now s.1.1.1.0.now s'.1.1.1.0.now _ p.0 q.0

-- under 22 the whole hold is fixed
hold_in : FeedSays → List ℕ
hold_in (FeedSays.fed taken updates ending left) = []
hold_in (FeedSays.refused_feed number taken updates left hold) = hold

hold-in : (a : Result ⊤ FeedError) (taken updates : ℕ) (left : Left) (hold : List ℕ) → a ≡ Err FeedError.NotAReceiver → hold_in (fed_said_by a taken updates left hold) ≡ hold
unfolding hold_in
hold-in a taken updates left hold e = ap (λ (x : Result ⊤ FeedError). hold_in (fed_said_by x taken updates left hold)) e

pub feed-unique-refused : (κs : _) (a : _) (r r' : _) (s s' : _) → feed-reads.Post κs a r s → feed-reads.Post κs a r' s' → r.done.answer ≡ Err FeedError.NotAReceiver → s.1.1.1.0.now ≡ s'.1.1.1.0.now
feed-unique-refused κs a r r' s s' p q e =
    let same : r ≡ r' = (feed-unique κs a r r' s s' p q).0 in
    sym (hold-in r.done.answer r.done.taken r.done.updates (leaves r.session s.1.0.now s.1.1.0.now s.1.1.1.0.now) s.1.1.1.0.now e)
    ∙ ap hold_in (p.0 ∙ sym q.0)
    ∙ hold-in r'.done.answer r'.done.taken r'.done.updates (leaves r'.session s'.1.0.now s'.1.1.0.now s'.1.1.1.0.now) s'.1.1.1.0.now (sym (ap (λ (x : Fed). x.done.answer) same) ∙ e)

-- ---- start

start_of : StartSays → Result Session NotAReceiver
start_of (StartSays.started left) = Ok (session_of left)
start_of (StartSays.refused_start number live working) = Err (record {})

live_in : StartSays → List ℕ
live_in (StartSays.started left) = left.live
live_in (StartSays.refused_start number live working) = live

working_in : StartSays → List ℕ
working_in (StartSays.started left) = left.working
working_in (StartSays.refused_start number live working) = working

start_back : (r : Result Session NotAReceiver) (live working hold : List ℕ) → (start_of (start_said r live working hold) ≡ r) × (live_in (start_said r live working hold) ≡ live) × (working_in (start_said r live working hold) ≡ working)
unfolding start_of live_in working_in
start_back (Ok s) live working hold = (ap Ok (session-back s live working hold), refl, refl)
start_back (Err refusal) live working hold = (refl, refl, refl)

pub start-unique : (κs : _) (a : _) (r r' : _) (s s' : _) → start-reads.Post κs a r s → start-reads.Post κs a r' s' → (r ≡ r') × (s.1.0.now ≡ s'.1.0.now) × (s.1.1.0.now ≡ s'.1.1.0.now)
start-unique κs a r r' s s' p q =
    let x = start_back r s.1.0.now s.1.1.0.now _ in
    let y = start_back r' s'.1.0.now s'.1.1.0.now _ in
    (sym x.0 ∙ ap start_of (p ∙ sym q) ∙ y.0, sym x.1 ∙ ap live_in (p ∙ sym q) ∙ y.1, sym x.2 ∙ ap working_in (p ∙ sym q) ∙ y.2)

-- ---- reconnect and notify

connected_of : ℕ → Result ⊤ NotAReceiver
connected_of n = cond (eqb n 22) (Err (record {})) (Ok tt)

connected-back : (r : Result ⊤ NotAReceiver) → connected_of (reconnect_number r) ≡ r
unfolding connected_of
connected-back (Ok tt) = refl
connected-back (Err refusal) = refl

one-connected : (r r' : Reconnected) (live working working' hold : List ℕ) (given : ReconnectSays) → reconnect_said r live working hold ≡ given → reconnect_said r' live working' hold ≡ given → (r ≡ r') × (working ≡ working')
one-connected r r' live working working' hold given p q =
    let rest = one_left r.session r'.session live live working working' hold hold (ap (λ (x : ReconnectSays). x.left) (p ∙ sym q)) in
    let answer : r.answer ≡ r'.answer =
    sym (connected-back r.answer) ∙ ap (λ (x : ReconnectSays). connected_of x.number) (p ∙ sym q) ∙ connected-back r'.answer in
    ((λ i. record { session = rest.0 i; answer = answer i }), rest.2)

pub reconnect-unique : (κs : _) (a : _) (r r' : _) (s s' : _) → reconnect-reads.Post κs a r s → reconnect-reads.Post κs a r' s' → (r ≡ r') × (s.1.1.0.now ≡ s'.1.1.0.now)
reconnect-unique κs a r r' s s' p q = one-connected r r' _ s.1.1.0.now s'.1.1.0.now _ _ p q

-- ---- the asks

error_of : ℕ → List ℕ → AskError
error_of k x =
    cond (eqb k 22) AskError.NotAReceiver
    (cond (eqb k 20) AskError.WrongPhase
    (cond (eqb k 21) AskError.NoTable
    (cond (eqb k 11) (AskError.Encoding EncodeError.PlaceOutside)
    (cond (eqb k 8) (AskError.Encoding EncodeError.InvalidUtf8)
    (cond (eqb k 10) (AskError.Encoding EncodeError.TooLong) (AskError.Encoding (EncodeError.OutputShort (get_or x 0 0))))))))

ask_of : Writing → Result ℕ AskError
ask_of (Writing.written n) = Ok n
ask_of (Writing.refused k x) = Err (error_of k x)

ask-back : (a : Result ℕ AskError) → ask_of (ask_writing a) ≡ a
unfolding ask_of error_of
ask-back (Ok n) = refl
ask-back (Err AskError.NotAReceiver) = refl
ask-back (Err AskError.WrongPhase) = refl
ask-back (Err AskError.NoTable) = refl
ask-back (Err (AskError.Encoding EncodeError.PlaceOutside)) = refl
ask-back (Err (AskError.Encoding EncodeError.InvalidUtf8)) = refl
ask-back (Err (AskError.Encoding EncodeError.TooLong)) = refl
ask-back (Err (AskError.Encoding (EncodeError.OutputShort n))) = refl

one-asked : (r r' : AskedSession) (live working hold out out' : List ℕ) (given : AskSays) → ask_said r live working hold out ≡ given → ask_said r' live working hold out' ≡ given → (r ≡ r') × (out ≡ out')
one-asked r r' live working hold out out' given p q =
    let rest = one_left r.session r'.session live live working working hold hold (ap (λ (x : AskSays). x.left) (p ∙ sym q)) in
    let answer : r.answer ≡ r'.answer = sym (ask-back r.answer) ∙ ap (λ (x : AskSays). ask_of x.says) (p ∙ sym q) ∙ ask-back r'.answer in
    ((λ i. record { session = rest.0 i; answer = answer i }), ap (λ (x : AskSays). x.out) (p ∙ sym q))

pub full-ask-unique : (κs : _) (a : _) (r r' : _) (s s' : _) → full-reads.Post κs a r s → full-reads.Post κs a r' s' → (r ≡ r') × (s.1.1.1.1.0.now ≡ s'.1.1.1.1.0.now)
full-ask-unique κs a r r' s s' p q = one-asked r r' _ _ _ s.1.1.1.1.0.now s'.1.1.1.1.0.now _ p q

pub change-ask-unique : (κs : _) (a : _) (r r' : _) (s s' : _) → change-reads.Post κs a r s → change-reads.Post κs a r' s' → (r ≡ r') × (s.1.1.1.1.0.now ≡ s'.1.1.1.1.0.now)
change-ask-unique κs a r r' s s' p q = one-asked r r' _ _ _ s.1.1.1.1.0.now s'.1.1.1.1.0.now _ p q

notify_of : NotifySays → Result Comparison NotAReceiver
notify_of (NotifySays.refused_notify number) = Err (record {})
notify_of (NotifySays.compares Notified.none) = Ok Comparison.None
notify_of (NotifySays.compares Notified.other_session) = Ok Comparison.OtherSession
notify_of (NotifySays.compares Notified.same) = Ok Comparison.Same
notify_of (NotifySays.compares Notified.newer) = Ok Comparison.Newer
notify_of (NotifySays.compares Notified.older) = Ok Comparison.Older
notify_of (NotifySays.compares Notified.undefined) = Ok Comparison.Undefined

notify-back : (r : Result Comparison NotAReceiver) → notify_of (notify_said r) ≡ r
unfolding notify_of
notify-back (Ok Comparison.None) = refl
notify-back (Ok Comparison.OtherSession) = refl
notify-back (Ok Comparison.Same) = refl
notify-back (Ok Comparison.Newer) = refl
notify-back (Ok Comparison.Older) = refl
notify-back (Ok Comparison.Undefined) = refl
notify-back (Err refusal) = refl

pub notify-unique : (κs : _) (a : _) (r r' : _) (s s' : _) → notify-reads.Post κs a r s → notify-reads.Post κs a r' s' → r ≡ r'
notify-unique κs a r r' s s' p q = only_one notify_said notify_of notify-back r r' _ p q

pub stop-number-unique : (κs : _) (a : _) (r r' : _) (s s' : _) → number-reads.Post κs a r s → number-reads.Post κs a r' s' → r ≡ r'
stop-number-unique κs a r r' s s' p q = only-this r r' _ p q

pub is-limit-unique : (κs : _) (a : _) (r r' : _) (s s' : _) → limit-reads.Post κs a r s → limit-reads.Post κs a r' s' → r ≡ r'
is-limit-unique κs a r r' s s' p q = only-this r r' _ p q

pub is-receiver-unique : (κs : _) (a : _) (r r' : _) (s s' : _) → receiver-reads.Post κs a r s → receiver-reads.Post κs a r' s' → r ≡ r'
is-receiver-unique κs a r r' s s' p q = only-this r r' _ p q
