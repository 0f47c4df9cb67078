-- The numbers of a session, and of a table, as a host without Rattle's types has them. A stop is told by document 01's number and values
-- ("Refusal numbers").
use Rattle.std.specs.Prelude.{ℕ, List, [], ◌∷◌, get_or, Option, Some, None}
use Rattle.rtr_models.specs.Codes.{version_number}
use Rattle.rtr_codec.specs.Read.{Verdict}
use Rattle.rtr_receiver.specs.Receiver.{Stage}
use Rattle.rtr_receiver.specs.Receiver.Stage.{idle, must_reset, asked_full, asked_change, loading, stopped}
use Rattle.rtr_receiver.specs.Promises.{Left, stage_of}
use Rattle.rtr_receiver.specs.declared.LoadKind.{LoadKind}
use Rattle.rtr_receiver.specs.declared.Table.{Table}
use Rattle.rtr_receiver.specs.declared.Life.{Life}
use Rattle.rtr_receiver.specs.declared.Counts.{Counts}
use Rattle.rtr_receiver.specs.declared.Session.{Session}

-- number 1: the phase; a load by its kind
abbrev pub stage_number : Stage → ℕ
stage_number idle = 0
stage_number must_reset = 1
stage_number asked_full = 2
stage_number asked_change = 3
stage_number (loading LoadKind.Full id) = 4
stage_number (loading LoadKind.Change id) = 5
stage_number (stopped number values) = 6

-- number 2: a load's session, or document 01's number of a stop
abbrev pub stage_detail : Stage → ℕ
stage_detail idle = 0
stage_detail must_reset = 0
stage_detail asked_full = 0
stage_detail asked_change = 0
stage_detail (loading kind id) = id
stage_detail (stopped number values) = number

-- numbers 3 to 5: a stop's values in document 01's order, zeros behind them
abbrev pub stage_value : ℕ → Stage → ℕ
stage_value i idle = 0
stage_value i must_reset = 0
stage_value i asked_full = 0
stage_value i asked_change = 0
stage_value i (loading kind id) = 0
stage_value i (stopped number values) = get_or values i 0

-- number 6: whether there is a table; numbers 7 to 11 are what it says, zeros without one
abbrev pub table_number : Option Table → ℕ
table_number None = 0
table_number (Some t) = 1

-- what a table says, or zeros
abbrev pub table_or : Option Table → Table
table_or None = record { session = 0; serial = 0; refresh = 0; retry = 0; expire = 0 }
table_or (Some t) = t

-- the five numbers of a table by itself
abbrev pub table_numbers_of : Table → List ℕ
table_numbers_of t = t.session ∷ t.serial ∷ t.refresh ∷ t.retry ∷ t.expire ∷ []

-- number 12: whether a Serial Notify is noted; numbers 13 and 14 are its session and serial, zeros without one
abbrev pub note_number : Option (ℕ × ℕ) → ℕ
note_number None = 0
note_number (Some (session, serial)) = 1

-- a note's session, or 0
abbrev pub note_session : Option (ℕ × ℕ) → ℕ
note_session None = 0
note_session (Some (session, serial)) = session

-- a note's serial, or 0
abbrev pub note_serial : Option (ℕ × ℕ) → ℕ
note_serial None = 0
note_serial (Some (session, serial)) = serial

-- how many numbers a session is
abbrev pub session_size : ℕ
session_size = 24

-- the 24 numbers of what a call leaves of a session; the last five are kept for what is to come, and are zeros
unfoldable pub numbers_of : Life → Stage → Option Table → Option (ℕ × ℕ) → Counts → Counts → ℕ → List ℕ
numbers_of life stage table note live working held =
    version_number life.version
    ∷ stage_number stage
    ∷ stage_detail stage
    ∷ stage_value 0 stage
    ∷ stage_value 1 stage
    ∷ stage_value 2 stage
    ∷ table_number table
    ∷ (table_or table).session
    ∷ (table_or table).serial
    ∷ (table_or table).refresh
    ∷ (table_or table).retry
    ∷ (table_or table).expire
    ∷ note_number note
    ∷ note_session note
    ∷ note_serial note
    ∷ live.records
    ∷ working.records
    ∷ held
    ∷ life.limit
    ∷ 0
    ∷ 0
    ∷ 0
    ∷ 0
    ∷ 0
    ∷ []

-- the numbers of a session record
abbrev pub session_numbers : Session → List ℕ
session_numbers s = numbers_of s.life (stage_of s.phase) s.table s.note s.live s.working s.held

-- the same of what a receiver's call leaves: `session_numbers s` is `left_numbers` of what s leaves
abbrev pub left_numbers : Left → List ℕ
left_numbers l = numbers_of l.life l.stage l.table l.note l.live_count l.working_count l.held_count

-- value i of a refusal, 0 where it has none
abbrev pub value_of : ℕ → Verdict → ℕ
value_of i (Verdict.accepted pdu consumed) = 0
value_of i (Verdict.refused number values) = get_or values i 0
