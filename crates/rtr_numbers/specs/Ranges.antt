-- What a value of a Rattle type always has: each number fits its type (8, 16 or 32 bits; a `usize` has the 64 bits that a number here has).
-- Such values come back from their numbers: proofs/Laws.antt.
use Rattle.std.specs.Prelude.{ℕ, ◌<◌, Option, Some, None}
use Rattle.rtr_codec.specs.declared.RtrError.{RtrError}
use Rattle.rtr_codec.specs.declared.RtrError.TheVariants.{IncompletePdu, InvalidProtocolVersion, InvalidPduType, InvalidLength, RouterKeyInV0, InvalidPrefixLength, InvalidErrorCode, InvalidUtf8}
use Rattle.rtr_stream.specs.declared.StreamError.{StreamError}
use Rattle.rtr_receiver.specs.declared.Stop.{Stop}
use Rattle.rtr_receiver.specs.declared.Phase.{Phase}
use Rattle.rtr_receiver.specs.declared.Session.{Session}
use Rattle.rtr_receiver.specs.declared.Table.{Table}

-- numbers of 8, 16 and 32 bits
abbrev pub Fits8 : ℕ → Type 0
Fits8 n = n < 256

-- of 16 bits
abbrev pub Fits16 : ℕ → Type 0
Fits16 n = n < 65536

-- of 32 bits
abbrev pub Fits32 : ℕ → Type 0
Fits32 n = n < 4294967296

-- a refusal's values
abbrev pub ErrorFits : RtrError → Type 0
ErrorFits (IncompletePdu available needed) = Unit
ErrorFits (InvalidPduType type) = Fits8 type
ErrorFits (InvalidProtocolVersion version) = Fits8 version
ErrorFits (InvalidErrorCode code) = Fits16 code
ErrorFits (InvalidLength expected actual type) = Fits32 expected × Fits32 actual × Fits8 type
ErrorFits (InvalidPrefixLength length max limit) = Fits8 length × Fits8 max × Fits8 limit
ErrorFits InvalidUtf8 = Unit
ErrorFits RouterKeyInV0 = Unit

-- a stop's values
abbrev pub StopFits : Stop → Type 0
StopFits (Stop.Stream (StreamError.Read error)) = ErrorFits error
StopFits (Stop.Stream (StreamError.OverHold length)) = Fits32 length
StopFits Stop.OutOfTurn = Unit
StopFits Stop.OtherVersion = Unit
StopFits Stop.OtherSession = Unit
StopFits Stop.NotIn = Unit
StopFits Stop.AlreadyIn = Unit
StopFits Stop.RoomFull = Unit
StopFits (Stop.ErrorReport code) = Unit

-- a load's session, a stop's values
abbrev pub PhaseFits : Phase → Type 0
PhaseFits Phase.Idle = Unit
PhaseFits Phase.MustReset = Unit
PhaseFits Phase.AskedFull = Unit
PhaseFits Phase.AskedChange = Unit
PhaseFits (Phase.Loading kind session) = Fits16 session
PhaseFits (Phase.Stopped stop) = StopFits stop

-- a table's session, serial and intervals
abbrev pub TableFits : Option Table → Type 0
TableFits None = Unit
TableFits (Some t) = Fits16 t.session × Fits32 t.serial × Fits32 t.refresh × Fits32 t.retry × Fits32 t.expire

-- a note's session and serial
abbrev pub NoteFits : Option (ℕ × ℕ) → Type 0
NoteFits None = Unit
NoteFits (Some (session, serial)) = Fits16 session × Fits32 serial

-- a session record whose numbers fit
pub record SessionFits (s : Session) : Type 0 where
  pub phase : PhaseFits s.phase
  pub table : TableFits s.table
  pub note : NoteFits s.note
