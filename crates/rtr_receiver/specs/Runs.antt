-- Demand 3's other side (the design, section 5): calls one after another, each meeting its promise, from a fresh start. `notify` changes nothing, a refused start begins no run, a second start
-- begins a new one; H is the same throughout. What a call leaves of the hold past the held count is anything. proofs/Coded.antt: the code's calls are these steps.
use Rattle.std.specs.Prelude.{◌≡◌, ℕ, Bool, true, false, List, [], ◌∷◌, ◌++◌, length, Result, Ok, ⊤}
use Rattle.rtr_models.specs.declared.RtrProtocolVersion.{RtrProtocolVersion}
use Rattle.rtr_receiver.specs.Contents.{Rooms, contents}
use Rattle.rtr_receiver.specs.History.{Event, Live}
use Rattle.rtr_receiver.specs.Promises.{Left, leaves, fed_said, feed_says, start_said, start_says, ask_said, full_ask_says, change_ask_says, reconnect_said, reconnect_says}
use Rattle.rtr_receiver.specs.declared.LoadKind.{LoadKind}
use Rattle.rtr_receiver.specs.declared.Session.{Session}
use Rattle.rtr_receiver.specs.declared.Done.{Done}
use Rattle.rtr_receiver.specs.declared.NotAReceiver.{NotAReceiver}
use Rattle.rtr_receiver.specs.declared.AskError.{AskError}

-- a call: a piece fed, an ask with the output lent for it, a new connection
pub data Call : Type 0 where
  feed : List ℕ → Call
  ask : LoadKind → List ℕ → Call
  reconnect : Call

-- each piece is fed by a call of its own
abbrev pub feeds : List (List ℕ) → List Call
feeds [] = []
feeds (piece ∷ pieces) = feed piece ∷ feeds pieces

-- the history of calls: bytes, asks with their room, reconnects; the pieces' cuts are forgotten
abbrev pub bytes : List ℕ → List Event
bytes [] = []
bytes (b ∷ piece) = Event.byte b ∷ bytes piece

unfoldable pub history_of : List Call → List Event
history_of [] = []
history_of (feed piece ∷ calls) = bytes piece ++ history_of calls
history_of (ask kind out ∷ calls) = Event.ask kind (length out) ∷ history_of calls
history_of (reconnect ∷ calls) = Event.reconnect ∷ history_of calls

-- the session record and lent memory between two calls
pub record Memory : Type 0 where
  pub session : Session
  pub live : Rooms
  pub working : Rooms
  pub hold : List ℕ

-- what there is of it: all but the hold past the held count
abbrev pub left_in : Memory → Left
left_in m = leaves m.session m.live m.working m.hold

-- a call that meets its promise leads from one memory to the next
pub data Step (limit : ℕ) (m : Memory) : Call → Memory → Type 0 where
  fed : {piece : List ℕ} (s : Session) (done : Done) (live working : Rooms) (hold : List ℕ) →
      length hold ≡ length m.hold →
      fed_said (record { session = s; done = done }) live working hold ≡ feed_says limit m.session m.live m.working m.hold piece →
      Step limit m (feed piece) (record { session = s; live = live; working = working; hold = hold })
  asked_full : {out : List ℕ} (s : Session) (answer : Result ℕ AskError) (out' : List ℕ) →
      ask_said (record { session = s; answer = answer }) m.live m.working m.hold out' ≡ full_ask_says limit m.session m.live m.working m.hold out →
      Step limit m (ask LoadKind.Full out) (record { session = s; live = m.live; working = m.working; hold = m.hold })
  asked_change : {out : List ℕ} (s : Session) (answer : Result ℕ AskError) (out' : List ℕ) →
      ask_said (record { session = s; answer = answer }) m.live m.working m.hold out' ≡ change_ask_says limit m.session m.live m.working m.hold out →
      Step limit m (ask LoadKind.Change out) (record { session = s; live = m.live; working = m.working; hold = m.hold })
  connected : (s : Session) (answer : Result ⊤ NotAReceiver) (working : Rooms) →
      reconnect_said (record { session = s; answer = answer }) m.live working m.hold ≡ reconnect_says limit m.session m.live m.working m.hold →
      Step limit m reconnect (record { session = s; live = m.live; working = working; hold = m.hold })

-- these calls, one after another, from a fresh start in a version with a hold of H bytes, end in this memory
pub data Run (limit : ℕ) (version : RtrProtocolVersion) (H : ℕ) : List Call → Memory → Type 0 where
  started : (m : Memory) (live working : Rooms) →
      length m.hold ≡ H →
      start_said (Ok m.session) m.live m.working m.hold ≡ start_says limit version live working m.hold →
      Run limit version H [] m
  next : {calls : List Call} {call : Call} {m m' : Memory} → Run limit version H calls m → Step limit m call m' → Run limit version H (calls ++ call ∷ []) m'

-- the live table in memory: session, serial and intervals, and the records of the live room
abbrev pub live_in : Memory → Live
live_in m = record { info = m.session.table; records = contents m.session.live m.live }

-- calls one after another, from any memory
pub data Steps (limit : ℕ) (m : Memory) : List Call → Memory → Type 0 where
  none : Steps limit m [] m
  more : {calls : List Call} {call : Call} {m' m'' : Memory} → Steps limit m calls m' → Step limit m' call m'' → Steps limit m (calls ++ call ∷ []) m''

-- a reconnect is among calls
abbrev pub reconnects : List Call → Bool
reconnects [] = false
reconnects (feed piece ∷ calls) = reconnects calls
reconnects (ask kind out ∷ calls) = reconnects calls
reconnects (reconnect ∷ calls) = true
