-- Demand 3 at the C boundary. A C host's run reads back as a run of the receiver with the same calls (`c-run-is-run`), so the receiver's laws hold of it: its numbers are
-- always a session's in memory of receiver shape (`c-in-shape`), so none of its calls is answered by 22 (`c-never-22`), and numbers 6 to 11 and the live room hold the table that the updates make which finished in the history
-- (`c-history`), wherever the bytes were cut (`c-cut-anywhere`); the finished updates grow by as many as a feed counts (`c-feed-counts`). Assumes nothing.
use Rattle.std.specs.Prelude.{Some, Option, None}
use Prim.Native.Nat.{ℕ}
use mathlib.Core.Bool.{true}
use mathlib.Core.List.{List, [], ◌∷◌, ◌++◌}
use mathlib.Core.Logic.{◌↔◌}
use mathlib.Core.Path.{◌≡◌, refl, sym, ap, ◌∙◌, subst}
use native.Mathlib.Omega.{arith}
use lib.ListN.{length, get_or}
use Rattle.rtr_models.specs.Codes.{version_found}
use Rattle.rtr_models.specs.declared.RtrProtocolVersion.{RtrProtocolVersion}
use Rattle.rtr_room.specs.Room.{records}
use Rattle.rtr_receiver.specs.History.{Event, Update, Live, finished, table_of}
use Rattle.rtr_receiver.specs.Promises.{FeedSays, is_receiver, record_limit, feed_says}
use Rattle.rtr_receiver.specs.Runs.{Call, Memory, Run, history_of, live_in}
use Rattle.rtr_receiver.specs.declared.Session.{Session}
use Rattle.rtr_receiver.proofs.Laws.{shape-kept, feed-counts, limit-for-life, next-step}
use Rattle.rtr_receiver.proofs.Shaped as receiver
use Rattle.rtr_receiver.proofs.Runs.{history, no_table_lem}
use Rattle.rtr_numbers.specs.Numbers.{table_number}
use Rattle.rtr_numbers.specs.Back.{session_of}
use Rattle.rtr_numbers.proofs.Laws.{numbers-of-session, session-table}
use Rattle.rtr_c.proofs.Laws.{shaped-full-ask, shaped-change-ask, shaped-feed, shaped-reconnect, shaped-notify, shaped-listing}
use Rattle.rtr_c.specs.Calls.{full_ask_c, change_ask_c, feed_left, feed_found, feed_c, reconnect_c, notify_c, listing_c}
use Rattle.rtr_c.specs.Runs.{CMemory, memory_of, LeadsOn, CStep, CRun, Holds}
use Rattle.rtr_receiver.specs.declared.Table.{Table}

-- the session that the numbers are, and the receiver's run to it
pub record ReadsBack (version H : ℕ) (calls : List Call) (c : CMemory) : Type 0 where
  pub spoken : RtrProtocolVersion
  pub spoken-is : version_found version ≡ Some spoken
  pub known : Session
  pub known_is : session_of c.session ≡ Some known
  pub run : Run record_limit spoken H calls (memory_of c known)

step-leads : (c : CMemory) (call : Call) (c' : CMemory) → CStep c call c' → LeadsOn c call c'
step-leads c call c' (CStep.fed answer session live working hold taken updates said leads) = leads
step-leads c call c' (CStep.asked_full answer session out' said leads) = leads
step-leads c call c' (CStep.asked_change answer session out' said leads) = leads
step-leads c call c' (CStep.connected answer session working said leads) = leads

-- every C run is a run of the receiver
pub c-run-is-run : {version H : ℕ} {calls : List Call} {c : CMemory} → CRun version H calls c → ReadsBack version H calls c
c-run-is-run {version} {H} (CRun.started c session live working size said begins) =
    record {
      spoken = begins.spoken;
      spoken-is = begins.spoken-is;
      known = begins.known;
      known_is = begins.known_is;
      run = subst (λ (k : ℕ). Run record_limit begins.spoken k [] (memory_of c begins.known)) size begins.run;
    }
c-run-is-run {version} {H} (CRun.next {calls} {call} {c} {c'} before step) =
    let b = c-run-is-run before in
    let led = step-leads c call c' step b.known b.known_is in
    record {
      spoken = b.spoken;
      spoken-is = b.spoken-is;
      known = led.known;
      known_is = led.known_is;
      run = next-step record_limit H b.spoken calls call _ _ b.run led.step;
    }

-- so the numbers are a session's, in memory of receiver shape: a call on them is not refused for what was lent
pub c-in-shape : {version H : ℕ} {calls : List Call} {c : CMemory} → CRun version H calls c → (s : Session) × (session_of c.session ≡ Some s) × (is_receiver s.life.limit s c.live c.working c.hold ≡ true)
c-in-shape {version} {H} {calls} {c} r =
    let b = c-run-is-run r in (
      b.known,
      b.known_is,
      subst (λ (n : ℕ). is_receiver n b.known c.live c.working c.hold ≡ true) (sym (limit-for-life record_limit H b.spoken calls (memory_of c b.known) b.run))
          (shape-kept record_limit H b.spoken calls (memory_of c b.known) b.run),
    )

-- so no call of a run is answered by 22
pub c-never-22 : {version H : ℕ} {calls : List Call} {c : CMemory} → CRun version H calls c →
    ((out : List ℕ) → (full_ask_c c.session c.live c.working c.hold out).answer ≡ 22 → ⊥)
    × ((out : List ℕ) → (change_ask_c c.session c.live c.working c.hold out).answer ≡ 22 → ⊥)
    × ((piece : List ℕ) → (feed_c c.session c.live c.working c.hold piece).answer ≡ 22 → ⊥)
    × ((reconnect_c c.session c.live c.working c.hold).answer ≡ 0)
    × ((notify_c c.session c.live c.working c.hold).answer ≡ 0)
    × ((out : List ℕ) → (listing_c c.session c.live out).answer ≡ 22 → ⊥)
c-never-22 {version} {H} {calls} {c} r =
    let k = c-in-shape r in (
      shaped-full-ask c.session c.live c.working c.hold k.0 k.1 k.2,
      shaped-change-ask c.session c.live c.working c.hold k.0 k.1 k.2,
      shaped-feed c.session c.live c.working c.hold k.0 k.1 k.2,
      shaped-reconnect c.session c.live c.working c.hold k.0 k.1 k.2,
      shaped-notify c.session c.live c.working c.hold k.0 k.1 k.2,
      shaped-listing c.session c.live c.working c.hold k.0 k.1 k.2,
    )

-- what a session's numbers and its live room hold
table-held : (c : CMemory) (s : Session) → session_of c.session ≡ Some s → Holds c (live_in (memory_of c s))
table-held c s e =
    let n = numbers-of-session c.session s e in
    let t = session-table s in
    record {
      known = ap (λ (x : List ℕ). get_or x 6 0) n ∙ t.0;
      session = ap (λ (x : List ℕ). get_or x 7 0) n ∙ t.1;
      serial = ap (λ (x : List ℕ). get_or x 8 0) n ∙ t.2;
      refresh = ap (λ (x : List ℕ). get_or x 9 0) n ∙ t.3;
      retry = ap (λ (x : List ℕ). get_or x 10 0) n ∙ t.4;
      expire = ap (λ (x : List ℕ). get_or x 11 0) n ∙ t.5;
      listed = ap (λ (k : ℕ). records k c.live) (ap (λ (x : List ℕ). get_or x 15 0) n ∙ t.6);
    }

-- In every C run, stopped after any byte: number 6, the session, serial and intervals in numbers 7 to 11, and the live room's records, are those of the table that the updates
-- make which finished in the history. `finished` and `table_of` are the page to read first: rtr_receiver, specs/History.antt.
pub c-history : {version H : ℕ} {calls : List Call} {c : CMemory} (v : RtrProtocolVersion) → version_found version ≡ Some v → CRun version H calls c → Holds c (table_of record_limit (finished record_limit H v (history_of calls)))
c-history {version} {H} {calls} {c} v e r =
    let b = c-run-is-run r in
    let same : b.spoken ≡ v = cc (b.spoken-is, e) in
    subst (Holds c)
    (history record_limit H b.spoken calls (memory_of c b.known) b.run
    ∙ ap (λ (x : RtrProtocolVersion). table_of record_limit (finished record_limit H x (history_of calls))) same)
    (table-held c b.known b.known_is)

-- What *updates counts of a piece fed next: by so many do the updates that have finished in the history grow, at their end.
pub c-feed-counts : {version H : ℕ} {calls : List Call} {c : CMemory} (v : RtrProtocolVersion) → version_found version ≡ Some v → CRun version H calls c → (piece : List ℕ) →
    (us : List Update)
    × (finished record_limit H v (history_of (calls ++ Call.feed piece ∷ [])) ≡ finished record_limit H v (history_of calls) ++ us)
    × (length us ≡ (feed_c c.session c.live c.working c.hold piece).updates)
unfolding feed_c
c-feed-counts {version} {H} {calls} {c} v e r piece =
    let b = c-run-is-run r in
    let s : Session = b.known in
    let m : Memory = memory_of c s in
    let same : b.spoken ≡ v = cc (b.spoken-is, e) in
    let run : Run record_limit v H calls m = subst (λ (x : RtrProtocolVersion). Run record_limit x H calls m) same b.run in
    let said = receiver.shaped-feed record_limit s c.live c.working c.hold (shape-kept record_limit H v calls m run) piece in
    let law = feed-counts record_limit H v calls m piece _ _ _ _ run said in (
      law.0,
      law.1,
      law.2
          ∙ sym (ap (λ (x : Option Session). (feed_found x c.session c.live c.working c.hold piece).updates) b.known_is
          ∙ ap (λ (n : ℕ). (feed_left (feed_says n s c.live c.working c.hold piece)).updates) (limit-for-life record_limit H v calls m run)
          ∙ ap (λ (x : FeedSays). (feed_left x).updates) said),
    )

-- the same bytes cut elsewhere, between the same asks and reconnects, leave the same table
pub c-cut-anywhere : {version H : ℕ} {calls calls' : List Call} {c c' : CMemory} → CRun version H calls c → CRun version H calls' c' → history_of calls ≡ history_of calls' → (t : Live) × Holds c t × Holds c' t
c-cut-anywhere {version} {H} {calls} {calls'} {c} {c'} r r' e =
    let b = c-run-is-run r in (
      table_of record_limit (finished record_limit H b.spoken (history_of calls)),
      c-history b.spoken b.spoken-is r,
      subst (λ (h : List Event). Holds c' (table_of record_limit (finished record_limit H b.spoken h))) (sym e) (c-history b.spoken b.spoken-is r'),
    )

-- number 6 is 0 exactly where no update has finished
pub c-no-table : {version H : ℕ} {calls : List Call} {c : CMemory} (v : RtrProtocolVersion) → version_found version ≡ Some v → CRun version H calls c → (get_or c.session 6 0 ≡ 0) ↔ (finished record_limit H v (history_of calls) ≡ [])
c-no-table {version} {H} {calls} {c} v e r =
    let b = c-run-is-run r in
    let s : Session = b.known in
    let same : b.spoken ≡ v = cc (b.spoken-is, e) in
    let one : finished record_limit H b.spoken (history_of calls) ≡ finished record_limit H v (history_of calls) = ap (λ (x : RtrProtocolVersion). finished record_limit H x (history_of calls)) same in
    let six : get_or c.session 6 0 ≡ table_number s.table = (table-held c s b.known_is).known in
    let law = no_table_lem record_limit H b.spoken calls (memory_of c s) b.run in
    (λ q. sym one ∙ law.0 (none s.table (sym six ∙ q)), λ q. six ∙ ap table_number (law.1 (one ∙ q)))
  where
    none : (t : Option Table) → table_number t ≡ 0 → t ≡ None
    none None q = refl
    none (Some t) q = absurd (omega arith)
