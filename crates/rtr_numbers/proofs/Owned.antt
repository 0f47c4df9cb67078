-- Whoever holds a session record holds numbers that fit their types: what owning a value of a Rattle type tells (`Is`), case by case.
-- Assumes nothing.
use Rattle.std.specs.Prelude.{Option, Some, None, ⊤, ℕ}
use mathlib.Core.List.{List, [], ◌∷◌}
use native.Mathlib.Omega.{arith}
use mir.Val.{Val}
use denote.Laws.{Is}
use denote.Enum.Declared as enum
use denote.Struct.Declared as struct
use denote.Struct.Tuple.{Tuple}
use denote.Builtin.{u16, u32}
use Rattle.rtr_codec.specs.contracts.RtrError as error-type
use Rattle.rtr_receiver.specs.contracts.Stop as stop-type
use Rattle.rtr_receiver.specs.contracts.Phase as phase-type
use Rattle.std.specs.contracts.option.Option.{the_row as option-of}
use Rattle.rtr_receiver.specs.contracts.Table as table-type
use Rattle.rtr_receiver.specs.contracts.Session as session-type
use Rattle.rtr_codec.specs.declared.RtrError.{RtrError}
use Rattle.rtr_codec.specs.declared.RtrError.TheVariants.{IncompletePdu, InvalidProtocolVersion, InvalidPduType, InvalidLength, RouterKeyInV0, InvalidPrefixLength, InvalidErrorCode, InvalidUtf8}
use Rattle.rtr_stream.specs.declared.StreamError.{StreamError}
use Rattle.rtr_receiver.specs.declared.Stop.{Stop}
use Rattle.rtr_receiver.specs.declared.Phase.{Phase}
use Rattle.rtr_receiver.specs.declared.Session.{Session}
use Rattle.rtr_numbers.specs.Ranges.{ErrorFits, StopFits, PhaseFits, TableFits, NoteFits, SessionFits}
use Rattle.rtr_receiver.specs.declared.Table.{Table}

error-owned : (e : RtrError) (vs : List Val) → Is (enum.row error-type.the_type) e vs → ErrorFits e
error-owned (IncompletePdu a n) vs h = tt
error-owned (InvalidPduType k) vs h = omega arith
error-owned (InvalidProtocolVersion k) vs h = omega arith
error-owned (InvalidErrorCode k) vs h = omega arith
error-owned (InvalidLength x y z) vs h = (omega arith, omega arith, omega arith)
error-owned (InvalidPrefixLength x y z) vs h = (omega arith, omega arith, omega arith)
error-owned InvalidUtf8 vs h = tt
error-owned RouterKeyInV0 vs h = tt

stop-owned : (s : Stop) (vs : List Val) → Is (enum.row stop-type.the_type) s vs → StopFits s
stop-owned (Stop.Stream (StreamError.Read e)) vs h = error-owned e _ h.1.1.1.1.0.1.1.1.1.0
stop-owned (Stop.Stream (StreamError.OverHold n)) vs h = omega arith
stop-owned Stop.OutOfTurn vs h = tt
stop-owned Stop.OtherVersion vs h = tt
stop-owned Stop.OtherSession vs h = tt
stop-owned Stop.NotIn vs h = tt
stop-owned Stop.AlreadyIn vs h = tt
stop-owned Stop.RoomFull vs h = tt
stop-owned (Stop.ErrorReport c) vs h = tt

phase-owned : (p : Phase) (vs : List Val) → Is (enum.row phase-type.the_type) p vs → PhaseFits p
phase-owned Phase.Idle vs h = tt
phase-owned Phase.MustReset vs h = tt
phase-owned Phase.AskedFull vs h = tt
phase-owned Phase.AskedChange vs h = tt
phase-owned (Phase.Loading kind session) vs h = omega arith
phase-owned (Phase.Stopped stop) vs h = stop-owned stop _ h.1.1.1.1.0

table-owned : (t : Option Table) (vs : List Val) → Is (option-of (struct.row table-type.the_type)) t vs → TableFits t
table-owned None vs h = tt
table-owned (Some t) vs h = (omega arith, omega arith, omega arith, omega arith, omega arith)

note-owned : (n : Option (ℕ × ℕ)) (vs : List Val) → Is (option-of (Tuple (u16 ∷ u32 ∷ []))) n vs → NoteFits n
note-owned None vs h = tt
note-owned (Some (session, serial)) vs h = (omega arith, omega arith)

pub session-owned : (s : Session) (vs : List Val) → Is (struct.row session-type.the_type) s vs → SessionFits s
session-owned s vs h =
    record {
      phase = phase-owned s.phase _ h.1.1.1.0;
      table = table-owned s.table _ h.1.1.1.1.0;
      note = note-owned s.note _ h.1.1.1.1.1.0;
    }
