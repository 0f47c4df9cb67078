-- Each contract of this crate, as Rattle reads it off the source, is the by-value call's (`.._says`, by computation): of the record's exit content and the answer where the record is lent, of what is returned where it is lent on. So the
-- by-value call's uniqueness is this crate's too: one answer, one content of the record and one of lent memory (of the hold up to the held count, and all of it under 22). Many feeds are as unique as one, and leave all of memory under 22 (Times.antt: `times-unique`, `times-refused`). A promise that is weakened
-- breaks this file. Assumes nothing.
use Rattle.std.specs.Prelude.{Result, ⊤, Err}
use mathlib.Core.Bool.{Bool}
use mathlib.Core.List.{List}
use mathlib.Core.Path.{◌≡◌, refl, sym, ap, ◌∙◌}
use Prim.Native.Nat.{ℕ}
use contract.Lifetimes.{Lfts}
use denote.Bor.{Bor}
use denote.MutBor.{MutBor}
use lib.ListN.{take}
use Rattle.rtr_codec.specs.declared.RunRead.{RunRead}
use Rattle.rtr_codec.proofs.Unique.{read-at-unique}
use Rattle.rtr_codec.proofs.read_at.Reads as read_at
use Rattle.rtr_receiver.specs.declared.Session.{Session}
use Rattle.rtr_receiver.specs.declared.Done.{Done}
use Rattle.rtr_receiver.specs.declared.Fed.{Fed}
use Rattle.rtr_receiver.specs.declared.AskedSession.{AskedSession}
use Rattle.rtr_receiver.specs.declared.Reconnected.{Reconnected}
use Rattle.rtr_receiver.specs.Runs.{Memory as Lent}
use Rattle.rtr_receiver.proofs.Unique.{feed-unique, feed-unique-refused, full-ask-unique, change-ask-unique, reconnect-unique, notify-unique}
use Rattle.rtr_receiver.proofs.feed.Reads as feed
use Rattle.rtr_receiver.proofs.full_ask.Reads as full-ask
use Rattle.rtr_receiver.proofs.change_ask.Reads as change-ask
use Rattle.rtr_receiver.proofs.reconnect.Reads as reconnect
use Rattle.rtr_receiver.proofs.notify.Reads as notify
use Rattle.rtr_held.proofs.feed_in_place.Reads as feed-in-place
use Rattle.rtr_held.proofs.full_ask_in_place.Reads as full-ask-in-place
use Rattle.rtr_held.proofs.change_ask_in_place.Reads as change-ask-in-place
use Rattle.rtr_held.proofs.reconnect_in_place.Reads as reconnect-in-place
use Rattle.rtr_held.proofs.notify_of.Reads as notify-of
use Rattle.rtr_held.proofs.feed_times.Reads as feed-times
use Rattle.rtr_held.proofs.feed_through.Reads as feed-through
use Rattle.rtr_held.proofs.feed_times_through.Reads as feed-times-through
use Rattle.rtr_held.proofs.full_ask_through.Reads as full-ask-through
use Rattle.rtr_held.proofs.change_ask_through.Reads as change-ask-through
use Rattle.rtr_held.proofs.reconnect_through.Reads as reconnect-through
use Rattle.rtr_held.proofs.notify_through.Reads as notify-through
use Rattle.rtr_held.specs.declared.RtrRun.{RtrRun}
use Rattle.rtr_held.specs.Times.{FedTimes}
use Rattle.rtr_held.proofs.Times.{times-unique}
use Rattle.rtr_held.proofs.run_of.Reads as run_of
use Rattle.rtr_held.proofs.place_of.Reads as place_of
use Rattle.rtr_held.proofs.rest_at.Reads as rest_at
use Rattle.rtr_held.proofs.done_at.Reads as done_at
use Rattle.rtr_held.proofs.rest_of.Reads as rest_of
use Rattle.rtr_held.proofs.is_done.Reads as is-done
use Rattle.rtr_held.proofs.next_pdu.Reads as next-pdu
use Rattle.rtr_held.proofs.read_run.Reads as read-run
use Rattle.rtr_models.specs.declared.RtrPdu.{RtrPdu}
use Rattle.rtr_codec.specs.declared.RtrError.{RtrError}
use Rattle.rtr_receiver.specs.declared.FeedError.{FeedError}
use Rattle.rtr_receiver.specs.declared.NotAReceiver.{NotAReceiver}
use Rattle.rtr_receiver.specs.declared.Comparison.{Comparison}
use Rattle.rtr_receiver.specs.declared.AskError.{AskError}

-- a slice that is lent to be read, and one that is lent to be written
abbrev Slice : Type 0
Slice = Bor (List ℕ)

abbrev MutSlice : Type 0
MutSlice = MutBor (List ℕ)

-- ---- feed

abbrev pub FeedHeld : Lfts 4 → MutBor Session → MutSlice → MutSlice → MutSlice → Slice → MutBor Session → MutSlice → MutSlice → MutSlice → Done → Type 0
FeedHeld κs x x1 x2 x3 x4 y y1 y2 y3 r = feed.Post κs (x.now, (x1, (x2, (x3, (x4, tt))))) (record { session = y.now; done = r }) (x.now, (y1, (y2, (y3, (x4, tt)))))

pub feed-in-place-says : (κ : _) (κs : Lfts 4) (x y : MutBor Session) (x1 x2 x3 : MutSlice) (x4 : Slice) (y1 y2 y3 : MutSlice) (r : Done) →
    feed-in-place.Post (κ, κs) (x, (x1, (x2, (x3, (x4, tt))))) r (y, (y1, (y2, (y3, (x4, tt))))) ≡ FeedHeld κs x x1 x2 x3 x4 y y1 y2 y3 r
feed-in-place-says κ κs x y x1 x2 x3 x4 y1 y2 y3 r = refl

pub feed-through-says : (κs : Lfts 4) (x : Session) (x1 x2 x3 : MutSlice) (x4 : Slice) (y1 y2 y3 : MutSlice) (r : Fed) →
    feed-through.Post κs (x, (x1, (x2, (x3, (x4, tt))))) r (x, (y1, (y2, (y3, (x4, tt))))) ≡ feed.Post κs (x, (x1, (x2, (x3, (x4, tt))))) r (x, (y1, (y2, (y3, (x4, tt)))))
feed-through-says κs x x1 x2 x3 x4 y1 y2 y3 r = refl

pub feed-in-place-unique : (κs : Lfts 4) (x : MutBor Session) (x1 x2 x3 : MutSlice) (x4 : Slice) (y y' : MutBor Session) (y1 y2 y3 y1' y2' y3' : MutSlice) (r r' : Done) → FeedHeld κs x x1 x2 x3 x4 y y1 y2 y3 r → FeedHeld κs x x1 x2 x3 x4 y' y1' y2' y3' r'
    → (y.now ≡ y'.now) × (r ≡ r') × (y1.now ≡ y1'.now) × (y2.now ≡ y2'.now) × (take y.now.held y3.now ≡ take y'.now.held y3'.now)
feed-in-place-unique κs x x1 x2 x3 x4 y y' y1 y2 y3 y1' y2' y3' r r' p p' =
    let one = feed-unique κs (x.now, (x1, (x2, (x3, (x4, tt))))) (record { session = y.now; done = r }) (record { session = y'.now; done = r' }) (x.now, (y1, (y2, (y3, (x4, tt))))) (x.now, (y1', (y2', (y3', (x4, tt))))) p p' in
    (ap (λ (z : Fed). z.session) one.0, ap (λ (z : Fed). z.done) one.0, one.1, one.2, one.3)

-- under 22 the whole hold is fixed
pub feed-in-place-unique-refused : (κs : Lfts 4) (x : MutBor Session) (x1 x2 x3 : MutSlice) (x4 : Slice) (y y' : MutBor Session) (y1 y2 y3 y1' y2' y3' : MutSlice) (r r' : Done) → FeedHeld κs x x1 x2 x3 x4 y y1 y2 y3 r → FeedHeld κs x x1 x2 x3 x4 y' y1' y2' y3' r'
    → r.answer ≡ Err FeedError.NotAReceiver → y3.now ≡ y3'.now
feed-in-place-unique-refused κs x x1 x2 x3 x4 y y' y1 y2 y3 y1' y2' y3' r r' p p' e = feed-unique-refused κs (x.now, (x1, (x2, (x3, (x4, tt))))) (record { session = y.now; done = r }) (record { session = y'.now; done = r' }) (x.now, (y1, (y2, (y3, (x4, tt))))) (x.now, (y1', (y2', (y3', (x4, tt))))) p p' e

-- ---- feed, so many times

abbrev memory : Session → MutSlice → MutSlice → MutSlice → Lent
memory s x1 x2 x3 = record { session = s; live = x1.now; working = x2.now; hold = x3.now }

pub feed-times-says : (κs : Lfts 5) (x y : MutBor Session) (x1 x2 x3 : MutSlice) (x4 : Slice) (y1 y2 y3 : MutSlice) (n : ℕ) →
    feed-times.Post κs (x, (x1, (x2, (x3, (x4, (n, tt)))))) tt (y, (y1, (y2, (y3, (x4, (n, tt)))))) ≡ FedTimes x4.now (memory x.now x1 x2 x3) n (memory y.now y1 y2 y3)
feed-times-says κs x y x1 x2 x3 x4 y1 y2 y3 n = refl

pub feed-times-through-says : (κs : Lfts 4) (x : Session) (x1 x2 x3 : MutSlice) (x4 : Slice) (y1 y2 y3 : MutSlice) (n : ℕ) (r : Session) →
    feed-times-through.Post κs (x, (x1, (x2, (x3, (x4, (n, tt)))))) r (x, (y1, (y2, (y3, (x4, (n, tt)))))) ≡ FedTimes x4.now (memory x x1 x2 x3) n (memory r y1 y2 y3)
feed-times-through-says κs x x1 x2 x3 x4 y1 y2 y3 n r = refl

pub feed-times-unique : (x : Session) (x1 x2 x3 : MutSlice) (x4 : Slice) (n : ℕ) (y y' : Session) (y1 y2 y3 y1' y2' y3' : MutSlice) → FedTimes x4.now (memory x x1 x2 x3) n (memory y y1 y2 y3) → FedTimes x4.now (memory x x1 x2 x3) n (memory y' y1' y2' y3')
    → (y ≡ y') × (y1.now ≡ y1'.now) × (y2.now ≡ y2'.now) × (take y.held y3.now ≡ take y'.held y3'.now)
feed-times-unique x x1 x2 x3 x4 n y y' y1 y2 y3 y1' y2' y3' p p' =
    let one = times-unique x4.now (memory x x1 x2 x3) n (memory y y1 y2 y3) (memory y' y1' y2' y3') p p' in
    (one.session, one.live, one.working, one.held)

-- ---- full_ask

abbrev pub FullAskHeld : Lfts 4 → MutBor Session → Slice → Slice → Slice → MutSlice → MutBor Session → MutSlice → Result ℕ AskError → Type 0
FullAskHeld κs x x1 x2 x3 x4 y y4 r = full-ask.Post κs (x.now, (x1, (x2, (x3, (x4, tt))))) (record { session = y.now; answer = r }) (x.now, (x1, (x2, (x3, (y4, tt)))))

pub full-ask-in-place-says : (κ : _) (κs : Lfts 4) (x y : MutBor Session) (x1 x2 x3 : Slice) (x4 y4 : MutSlice) (r : Result ℕ AskError) →
    full-ask-in-place.Post (κ, κs) (x, (x1, (x2, (x3, (x4, tt))))) r (y, (x1, (x2, (x3, (y4, tt))))) ≡ FullAskHeld κs x x1 x2 x3 x4 y y4 r
full-ask-in-place-says κ κs x y x1 x2 x3 x4 y4 r = refl

pub full-ask-through-says : (κs : Lfts 4) (x : Session) (x1 x2 x3 : Slice) (x4 y4 : MutSlice) (r : AskedSession) →
    full-ask-through.Post κs (x, (x1, (x2, (x3, (x4, tt))))) r (x, (x1, (x2, (x3, (y4, tt))))) ≡ full-ask.Post κs (x, (x1, (x2, (x3, (x4, tt))))) r (x, (x1, (x2, (x3, (y4, tt)))))
full-ask-through-says κs x x1 x2 x3 x4 y4 r = refl

pub full-ask-in-place-unique : (κs : Lfts 4) (x : MutBor Session) (x1 x2 x3 : Slice) (x4 : MutSlice) (y y' : MutBor Session) (y4 y4' : MutSlice) (r r' : Result ℕ AskError) → FullAskHeld κs x x1 x2 x3 x4 y y4 r → FullAskHeld κs x x1 x2 x3 x4 y' y4' r'
    → (y.now ≡ y'.now) × (r ≡ r') × (y4.now ≡ y4'.now)
full-ask-in-place-unique κs x x1 x2 x3 x4 y y' y4 y4' r r' p p' =
    let one = full-ask-unique κs (x.now, (x1, (x2, (x3, (x4, tt))))) (record { session = y.now; answer = r }) (record { session = y'.now; answer = r' }) (x.now, (x1, (x2, (x3, (y4, tt))))) (x.now, (x1, (x2, (x3, (y4', tt))))) p p' in
    (ap (λ (z : AskedSession). z.session) one.0, ap (λ (z : AskedSession). z.answer) one.0, one.1)

-- ---- change_ask

abbrev pub ChangeAskHeld : Lfts 4 → MutBor Session → Slice → Slice → Slice → MutSlice → MutBor Session → MutSlice → Result ℕ AskError → Type 0
ChangeAskHeld κs x x1 x2 x3 x4 y y4 r = change-ask.Post κs (x.now, (x1, (x2, (x3, (x4, tt))))) (record { session = y.now; answer = r }) (x.now, (x1, (x2, (x3, (y4, tt)))))

pub change-ask-in-place-says : (κ : _) (κs : Lfts 4) (x y : MutBor Session) (x1 x2 x3 : Slice) (x4 y4 : MutSlice) (r : Result ℕ AskError) →
    change-ask-in-place.Post (κ, κs) (x, (x1, (x2, (x3, (x4, tt))))) r (y, (x1, (x2, (x3, (y4, tt))))) ≡ ChangeAskHeld κs x x1 x2 x3 x4 y y4 r
change-ask-in-place-says κ κs x y x1 x2 x3 x4 y4 r = refl

pub change-ask-through-says : (κs : Lfts 4) (x : Session) (x1 x2 x3 : Slice) (x4 y4 : MutSlice) (r : AskedSession) →
    change-ask-through.Post κs (x, (x1, (x2, (x3, (x4, tt))))) r (x, (x1, (x2, (x3, (y4, tt))))) ≡ change-ask.Post κs (x, (x1, (x2, (x3, (x4, tt))))) r (x, (x1, (x2, (x3, (y4, tt)))))
change-ask-through-says κs x x1 x2 x3 x4 y4 r = refl

pub change-ask-in-place-unique : (κs : Lfts 4) (x : MutBor Session) (x1 x2 x3 : Slice) (x4 : MutSlice) (y y' : MutBor Session) (y4 y4' : MutSlice) (r r' : Result ℕ AskError) → ChangeAskHeld κs x x1 x2 x3 x4 y y4 r → ChangeAskHeld κs x x1 x2 x3 x4 y' y4' r'
    → (y.now ≡ y'.now) × (r ≡ r') × (y4.now ≡ y4'.now)
change-ask-in-place-unique κs x x1 x2 x3 x4 y y' y4 y4' r r' p p' =
    let one = change-ask-unique κs (x.now, (x1, (x2, (x3, (x4, tt))))) (record { session = y.now; answer = r }) (record { session = y'.now; answer = r' }) (x.now, (x1, (x2, (x3, (y4, tt))))) (x.now, (x1, (x2, (x3, (y4', tt))))) p p' in
    (ap (λ (z : AskedSession). z.session) one.0, ap (λ (z : AskedSession). z.answer) one.0, one.1)

-- ---- reconnect

abbrev pub ReconnectHeld : Lfts 3 → MutBor Session → Slice → MutSlice → Slice → MutBor Session → MutSlice → Result ⊤ NotAReceiver → Type 0
ReconnectHeld κs x x1 x2 x3 y y2 r = reconnect.Post κs (x.now, (x1, (x2, (x3, tt)))) (record { session = y.now; answer = r }) (x.now, (x1, (y2, (x3, tt))))

pub reconnect-in-place-says : (κ : _) (κs : Lfts 3) (x y : MutBor Session) (x1 : Slice) (x2 : MutSlice) (x3 : Slice) (y2 : MutSlice) (r : Result ⊤ NotAReceiver) →
    reconnect-in-place.Post (κ, κs) (x, (x1, (x2, (x3, tt)))) r (y, (x1, (y2, (x3, tt)))) ≡ ReconnectHeld κs x x1 x2 x3 y y2 r
reconnect-in-place-says κ κs x y x1 x2 x3 y2 r = refl

pub reconnect-through-says : (κs : Lfts 3) (x : Session) (x1 : Slice) (x2 : MutSlice) (x3 : Slice) (y2 : MutSlice) (r : Reconnected) →
    reconnect-through.Post κs (x, (x1, (x2, (x3, tt)))) r (x, (x1, (y2, (x3, tt)))) ≡ reconnect.Post κs (x, (x1, (x2, (x3, tt)))) r (x, (x1, (y2, (x3, tt))))
reconnect-through-says κs x x1 x2 x3 y2 r = refl

pub reconnect-in-place-unique : (κs : Lfts 3) (x : MutBor Session) (x1 : Slice) (x2 : MutSlice) (x3 : Slice) (y y' : MutBor Session) (y2 y2' : MutSlice) (r r' : Result ⊤ NotAReceiver) → ReconnectHeld κs x x1 x2 x3 y y2 r → ReconnectHeld κs x x1 x2 x3 y' y2' r'
    → (y.now ≡ y'.now) × (r ≡ r') × (y2.now ≡ y2'.now)
reconnect-in-place-unique κs x x1 x2 x3 y y' y2 y2' r r' p p' =
    let one = reconnect-unique κs (x.now, (x1, (x2, (x3, tt)))) (record { session = y.now; answer = r }) (record { session = y'.now; answer = r' }) (x.now, (x1, (y2, (x3, tt)))) (x.now, (x1, (y2', (x3, tt)))) p p' in
    (ap (λ (z : Reconnected). z.session) one.0, ap (λ (z : Reconnected). z.answer) one.0, one.1)

-- ---- notify

abbrev pub NotifyHeld : Lfts 3 → Bor Session → Slice → Slice → Slice → Result Comparison NotAReceiver → Type 0
NotifyHeld κs x x1 x2 x3 r = notify.Post κs (x.now, (x1, (x2, (x3, tt)))) r (x.now, (x1, (x2, (x3, tt))))

pub notify-of-says : (κ : _) (κs : Lfts 3) (x : Bor Session) (x1 x2 x3 : Slice) (r : Result Comparison NotAReceiver) →
    notify-of.Post (κ, κs) (x, (x1, (x2, (x3, tt)))) r (x, (x1, (x2, (x3, tt)))) ≡ NotifyHeld κs x x1 x2 x3 r
notify-of-says κ κs x x1 x2 x3 r = refl

pub notify-through-says : (κs : Lfts 3) (x : Session) (x1 x2 x3 : Slice) (r : Result Comparison NotAReceiver) →
    notify-through.Post κs (x, (x1, (x2, (x3, tt)))) r (x, (x1, (x2, (x3, tt)))) ≡ notify.Post κs (x, (x1, (x2, (x3, tt)))) r (x, (x1, (x2, (x3, tt))))
notify-through-says κs x x1 x2 x3 r = refl

pub notify-of-unique : (κs : Lfts 3) (x : Bor Session) (x1 x2 x3 : Slice) (r r' : Result Comparison NotAReceiver) → NotifyHeld κs x x1 x2 x3 r → NotifyHeld κs x x1 x2 x3 r' → r ≡ r'
notify-of-unique κs x x1 x2 x3 r r' p p' = notify-unique κs (x.now, (x1, (x2, (x3, tt)))) r r' (x.now, (x1, (x2, (x3, tt)))) (x.now, (x1, (x2, (x3, tt)))) p p'

-- ---- the run reader: `next_pdu` is `read_at` at the run's bytes and place, its next place being the run's at exit; the bytes stay

abbrev pub NextHeld : Lfts 1 → MutBor RtrRun → MutBor RtrRun → Result (RtrPdu × ℕ) RtrError → Type 0
NextHeld κs x y r = read_at.Post κs (x.now.bytes, (x.now.at, tt)) (record { answer = r; next = y.now.at }) (x.now.bytes, (x.now.at, tt)) × (y.now.bytes ≡ x.now.bytes)

pub next-pdu-says : (κ : _) (κs : Lfts 1) (x y : MutBor RtrRun) (r : Result (RtrPdu × ℕ) RtrError) →
    next-pdu.Post (κ, κs) (x, tt) r (y, tt) ≡ NextHeld κs x y r
next-pdu-says κ κs x y r = refl

pub next-pdu-unique : (κs : Lfts 1) (x y y' : MutBor RtrRun) (r r' : Result (RtrPdu × ℕ) RtrError) → NextHeld κs x y r → NextHeld κs x y' r' → (y.now ≡ y'.now) × (r ≡ r')
next-pdu-unique κs x y y' r r' p p' =
    let one = read-at-unique κs (x.now.bytes, (x.now.at, tt)) (record { answer = r; next = y.now.at }) (record { answer = r'; next = y'.now.at }) (x.now.bytes, (x.now.at, tt)) (x.now.bytes, (x.now.at, tt)) p.0 p'.0 in
    let bytes : y.now.bytes ≡ y'.now.bytes = p.1 ∙ sym p'.1 in
    ((λ i. record { bytes = bytes i; at = (one i).next }), ap (λ (z : RunRead). z.answer) one)

-- `read_run` is `read_at` by its contract alone
pub read-run-says : (κs : Lfts 1) (x : Slice) (n : ℕ) (r : RunRead) →
    read-run.Post κs (x, (n, tt)) r (x, (n, tt)) ≡ read_at.Post κs (x, (n, tt)) r (x, (n, tt))
read-run-says κs x n r = refl

pub read-run-unique : (κs : Lfts 1) (x : Slice) (n : ℕ) (r r' : RunRead) → read_at.Post κs (x, (n, tt)) r (x, (n, tt)) → read_at.Post κs (x, (n, tt)) r' (x, (n, tt)) → r ≡ r'
read-run-unique κs x n r r' p p' = read-at-unique κs (x, (n, tt)) r r' (x, (n, tt)) (x, (n, tt)) p p'

-- `run_of` is the run of these bytes at 0, and `place_of` the run's place
abbrev pub RunHeld : Slice → RtrRun → Type 0
RunHeld x r = (r.bytes ≡ x) × (r.at ≡ 0)

pub run-of-says : (κs : Lfts 1) (x : Slice) (r : RtrRun) →
    run_of.Post κs (x, tt) r (x, tt) ≡ RunHeld x r
run-of-says κs x r = refl

pub run-of-unique : (x : Slice) (r r' : RtrRun) → RunHeld x r → RunHeld x r' → r ≡ r'
run-of-unique x r r' p p' =
    let bytes : r.bytes ≡ r'.bytes = p.0 ∙ sym p'.0 in
    let at : r.at ≡ r'.at = p.1 ∙ sym p'.1 in
    λ i. record { bytes = bytes i; at = at i }

pub place-of-says : (κs : Lfts 1) (x : RtrRun) (y : _) (n : ℕ) →
    place_of.Post κs (x, tt) n (y, tt) ≡ (n ≡ x.at)
place-of-says κs x y n = refl

pub place-of-unique : (x : RtrRun) (n n' : ℕ) → n ≡ x.at → n' ≡ x.at → n ≡ n'
place-of-unique x n n' p p' = p ∙ sym p'

-- `rest_of` and `is_done` are `rest_at` and `done_at` at the run's bytes and place
pub rest-of-says : (κs : Lfts 1) (x : RtrRun) (y : _) (n : ℕ) →
    rest_of.Post κs (x, tt) n (y, tt) ≡ rest_at.Post κs (x.bytes, (x.at, tt)) n (x.bytes, (x.at, tt))
rest-of-says κs x y n = refl

pub rest-at-unique : (κs : Lfts 1) (x : Slice) (at n n' : ℕ) → rest_at.Post κs (x, (at, tt)) n (x, (at, tt)) → rest_at.Post κs (x, (at, tt)) n' (x, (at, tt)) → n ≡ n'
rest-at-unique κs x at n n' p p' = p ∙ sym p'

pub is-done-says : (κs : Lfts 1) (x : RtrRun) (y : _) (b : Bool) →
    is-done.Post κs (x, tt) b (y, tt) ≡ done_at.Post κs (x.bytes, (x.at, tt)) b (x.bytes, (x.at, tt))
is-done-says κs x y b = refl

pub done-at-unique : (κs : Lfts 1) (x : Slice) (at : ℕ) (b b' : Bool) → done_at.Post κs (x, (at, tt)) b (x, (at, tt)) → done_at.Post κs (x, (at, tt)) b' (x, (at, tt)) → b ≡ b'
done-at-unique κs x at b b' p p' = p ∙ sym p'
