-- A C host's run: calls one after another from a start that answered 0, over what the host lends, each as its contract in src/lib.rt promises. proofs/Coded.antt: the
-- library's calls are these steps. proofs/Runs.antt: such a run is a run of the receiver, so demand 3 holds of it. Between two calls the host writes nothing of the four memories, the hold's spare
-- bytes included. Read, encode, walk, notify and listing may stand anywhere in between: they are lent the session, the rooms and the hold to read only, or not at all. A start that is refused leaves them
-- (`refused-keeps-start`), and one that answers 0 begins a new run.
use Rattle.std.specs.Prelude.{ℕ, List, [], ◌∷◌, ◌++◌, ◌≡◌, length, get_or, Some}
use Rattle.rtr_receiver.specs.Promises.{record_limit}
use Rattle.rtr_models.specs.Codes.{version_found}
use Rattle.rtr_models.specs.declared.RtrProtocolVersion.{RtrProtocolVersion}
use Rattle.rtr_receiver.specs.Contents.{contents}
use Rattle.rtr_receiver.specs.History.{Live}
use Rattle.rtr_receiver.specs.Runs.{Call, Memory, Step, Run}
use Rattle.rtr_receiver.specs.declared.LoadKind.{LoadKind}
use Rattle.rtr_receiver.specs.declared.Session.{Session}
use Rattle.rtr_numbers.specs.Numbers.{table_number, table_or}
use Rattle.rtr_numbers.specs.Back.{session_of}
use Rattle.rtr_c.specs.Calls.{start_gives, start_c, ask_gives, full_ask_c, change_ask_c, feed_gives, feed_c, reconnect_gives, reconnect_c}

-- what a host lends between two calls: the session's numbers, both rooms and the hold
pub record CMemory : Type 0 where
  pub session : List ℕ
  pub live : List ℕ
  pub working : List ℕ
  pub hold : List ℕ

abbrev pub memory : List ℕ → List ℕ → List ℕ → List ℕ → CMemory
memory session live working hold = record { session = session; live = live; working = working; hold = hold }

-- the receiver's memory, where the numbers are this session's
abbrev pub memory_of : CMemory → Session → Memory
memory_of c s = record { session = s; live = c.live; working = c.working; hold = c.hold }

-- ---- What the contracts say of a call between two memories

-- the numbers are a session's again, and the receiver's own call leads from the one memory to the other. Beside what the call's first promise fixes (specs/Calls.antt) this says that the numbers read back, as which
-- session, and that the hold keeps its length; demand 3 goes by it alone.
pub record Led (c : CMemory) (s : Session) (call : Call) (c' : CMemory) : Type 0 where
  pub known : Session
  pub known_is : session_of c'.session ≡ Some known
  pub step : Step s.life.limit (memory_of c s) call (memory_of c' known)

-- wherever the numbers were a session's
abbrev pub LeadsOn : CMemory → Call → CMemory → Type 0
LeadsOn c call c' = (s : Session) → session_of c.session ≡ Some s → Led c s call c'

-- the version is one of the two, the numbers are a session's, and the receiver has begun in that version
pub record Begins (version : ℕ) (c : CMemory) : Type 0 where
  pub spoken : RtrProtocolVersion
  pub spoken-is : version_found version ≡ Some spoken
  pub known : Session
  pub known_is : session_of c.session ≡ Some known
  pub run : Run record_limit spoken (length c.hold) [] (memory_of c known)

-- ---- A run

-- a call that meets its contract leads from one memory to the next
pub data CStep (c : CMemory) : Call → CMemory → Type 0 where
  fed : {piece : List ℕ} (answer : ℕ) (session live working hold : List ℕ) (taken updates : ℕ) →
      feed_gives answer session live working hold taken updates ≡ feed_c c.session c.live c.working c.hold piece →
      LeadsOn c (Call.feed piece) (memory session live working hold) →
      CStep c (Call.feed piece) (memory session live working hold)
  asked_full : {out : List ℕ} (answer : ℕ) (session out' : List ℕ) →
      ask_gives answer session out' ≡ full_ask_c c.session c.live c.working c.hold out →
      LeadsOn c (Call.ask LoadKind.Full out) (memory session c.live c.working c.hold) →
      CStep c (Call.ask LoadKind.Full out) (memory session c.live c.working c.hold)
  asked_change : {out : List ℕ} (answer : ℕ) (session out' : List ℕ) →
      ask_gives answer session out' ≡ change_ask_c c.session c.live c.working c.hold out →
      LeadsOn c (Call.ask LoadKind.Change out) (memory session c.live c.working c.hold) →
      CStep c (Call.ask LoadKind.Change out) (memory session c.live c.working c.hold)
  connected : (answer : ℕ) (session working : List ℕ) →
      reconnect_gives answer session working ≡ reconnect_c c.session c.live c.working c.hold →
      LeadsOn c Call.reconnect (memory session c.live working c.hold) →
      CStep c Call.reconnect (memory session c.live working c.hold)

-- these calls, one after another, from a start that answered 0 to this version's number with a hold of H bytes, end in this memory
pub data CRun (version : ℕ) (H : ℕ) : List Call → CMemory → Type 0 where
  started : (c : CMemory) (session live working : List ℕ) →
      length c.hold ≡ H →
      start_gives 0 c.session c.live c.working ≡ start_c version session live working c.hold →
      Begins version c →
      CRun version H [] c
  next : {calls : List Call} {call : Call} {c c' : CMemory} → CRun version H calls c → CStep c call c' → CRun version H (calls ++ call ∷ []) c'

-- ---- The table that a host finds

-- number 6 says whether there is a table, 7 to 11 are its session, serial and intervals (zeros without one), and as many records of the live room as number 15 says are
-- its records
pub record Holds (c : CMemory) (t : Live) : Type 0 where
  pub known : get_or c.session 6 0 ≡ table_number t.info
  pub session : get_or c.session 7 0 ≡ (table_or t.info).session
  pub serial : get_or c.session 8 0 ≡ (table_or t.info).serial
  pub refresh : get_or c.session 9 0 ≡ (table_or t.info).refresh
  pub retry : get_or c.session 10 0 ≡ (table_or t.info).retry
  pub expire : get_or c.session 11 0 ≡ (table_or t.info).expire
  pub listed : contents (record { records = get_or c.session 15 0 }) c.live ≡ t.records
