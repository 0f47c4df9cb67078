-- What is read back from numbers. A first guess takes each number at its place, by its remainder where it is too large, and any unknown
-- number as some case; the guess stands exactly where its own numbers are those given.
use Rattle.std.specs.Prelude.{ℕ, ◌+◌, ◌%◌, Bool, true, false, cond, ◌&&◌, List, [], ◌∷◌, eqb, get_or, Option, Some, None}
use Rattle.rtr_models.specs.Codes.{code_found}
use Rattle.rtr_models.specs.declared.RtrProtocolVersion.{RtrProtocolVersion}
use Rattle.rtr_models.specs.declared.RtrProtocolVersion.TheVariants.{V0, V1}
use Rattle.rtr_models.specs.declared.RtrErrorCode.{RtrErrorCode}
use Rattle.rtr_models.specs.declared.RtrErrorCode.TheVariants.{CorruptData}
use Rattle.rtr_codec.specs.declared.RtrError.{RtrError}
use Rattle.rtr_codec.specs.declared.RtrError.TheVariants.{IncompletePdu, InvalidProtocolVersion, InvalidPduType, InvalidLength, RouterKeyInV0, InvalidPrefixLength, InvalidErrorCode, InvalidUtf8}
use Rattle.rtr_stream.specs.declared.StreamError.{StreamError}
use Rattle.rtr_receiver.specs.declared.LoadKind.{LoadKind}
use Rattle.rtr_receiver.specs.declared.Stop.{Stop}
use Rattle.rtr_receiver.specs.declared.Phase.{Phase}
use Rattle.rtr_receiver.specs.declared.Table.{Table}
use Rattle.rtr_receiver.specs.declared.Session.{Session}
use Rattle.rtr_numbers.specs.Numbers.{session_numbers, table_numbers_of}

-- two lists are the same, number by number
unfoldable pub alike : List ℕ → List ℕ → Bool
alike [] [] = true
alike [] (y ∷ ys) = false
alike (x ∷ xs) [] = false
alike (x ∷ xs) (y ∷ ys) = eqb x y && alike xs ys

-- the session whose numbers these are: what `session_of` of src/lib.rt gives
unfoldable pub session_if : Session → List ℕ → Option Session
session_if s n = cond (alike (session_numbers s) n) (Some s) None

-- the table whose numbers these are: what `table_of` of src/lib.rt gives
unfoldable pub table_if : Table → List ℕ → Option Table
table_if t n = cond (alike (table_numbers_of t) n) (Some t) None

-- ---- The guesses

-- a number that fits 8, 16 or 32 bits is its own remainder
abbrev pub low8 : ℕ → ℕ
low8 n = n % 256

-- of 16 bits
abbrev pub low16 : ℕ → ℕ
low16 n = n % 65536

-- of 32 bits
abbrev pub low32 : ℕ → ℕ
low32 n = n % 4294967296

-- version 0, or else version 1
abbrev pub loose_version : ℕ → RtrProtocolVersion
loose_version n = cond (eqb n 0) V0 V1

-- the code of a number, or else the first
abbrev pub code_or : Option RtrErrorCode → RtrErrorCode
code_or (Some code) = code
code_or None = CorruptData

-- the code of a number's 16 bits, or else the first
abbrev pub loose_code : ℕ → RtrErrorCode
loose_code n = code_or (code_found (low16 n))

-- the refusal of a number from 1 to 7, or else 8's
unfoldable pub loose_error : ℕ → ℕ → ℕ → ℕ → RtrError
loose_error number a b c =
    cond (eqb number 1) (IncompletePdu a b)
    (cond (eqb number 2) (InvalidProtocolVersion (low8 a))
    (cond (eqb number 3) (InvalidPduType (low8 a))
    (cond (eqb number 4) (InvalidLength (low32 a) (low32 b) (low8 c))
    (cond (eqb number 5) RouterKeyInV0
    (cond (eqb number 6) (InvalidPrefixLength (low8 a) (low8 b) (low8 c))
    (cond (eqb number 7) (InvalidErrorCode (low16 a)) InvalidUtf8))))))

-- the stop of a number from 12 to 19, or else a read's refusal
unfoldable pub loose_stop : ℕ → ℕ → ℕ → ℕ → Stop
loose_stop number a b c =
    cond (eqb number 12) (Stop.Stream (StreamError.OverHold (low32 a)))
    (cond (eqb number 13) Stop.OutOfTurn
    (cond (eqb number 14) Stop.OtherVersion
    (cond (eqb number 15) Stop.OtherSession
    (cond (eqb number 16) Stop.NotIn
    (cond (eqb number 17) Stop.AlreadyIn
    (cond (eqb number 18) Stop.RoomFull
    (cond (eqb number 19) (Stop.ErrorReport (loose_code a)) (Stop.Stream (StreamError.Read (loose_error number a b c))))))))))

-- the phase of a number from 0 to 5, or else a stop
unfoldable pub loose_phase : List ℕ → Phase
loose_phase n =
    cond (eqb (get_or n 1 0) 0) Phase.Idle
    (cond (eqb (get_or n 1 0) 1) Phase.MustReset
    (cond (eqb (get_or n 1 0) 2) Phase.AskedFull
    (cond (eqb (get_or n 1 0) 3) Phase.AskedChange
    (cond (eqb (get_or n 1 0) 4) (Phase.Loading LoadKind.Full (low16 (get_or n 2 0)))
    (cond (eqb (get_or n 1 0) 5) (Phase.Loading LoadKind.Change (low16 (get_or n 2 0)))
    (Phase.Stopped (loose_stop (get_or n 2 0) (get_or n 3 0) (get_or n 4 0) (get_or n 5 0))))))))

-- a table of five numbers from a place on
abbrev pub low_table : List ℕ → ℕ → Table
low_table n from =
    record {
      session = low16 (get_or n from 0);
      serial = low32 (get_or n (from + 1) 0);
      refresh = low32 (get_or n (from + 2) 0);
      retry = low32 (get_or n (from + 3) 0);
      expire = low32 (get_or n (from + 4) 0);
    }

-- no table where number 6 is 0, else one of the numbers behind it
unfoldable pub loose_table : List ℕ → Option Table
loose_table n = cond (eqb (get_or n 6 0) 0) None (Some (low_table n 7))

-- no note where number 12 is 0, else one of the two numbers behind it
unfoldable pub loose_note : List ℕ → Option (ℕ × ℕ)
loose_note n = cond (eqb (get_or n 12 0) 0) None (Some ((low16 (get_or n 13 0)), (low32 (get_or n 14 0))))

-- each part from its numbers
unfoldable pub loose_session : List ℕ → Session
loose_session n =
    record {
      life = record { version = loose_version (get_or n 0 0); limit = get_or n 18 0 };
      phase = loose_phase n;
      table = loose_table n;
      note = loose_note n;
      live = record { records = get_or n 15 0 };
      working = record { records = get_or n 16 0 };
      held = get_or n 17 0;
    }

-- ---- What is found

-- the session that has these numbers: the guess, where its numbers are these
abbrev pub session_of : List ℕ → Option Session
session_of n = session_if (loose_session n) n

-- the table that says these numbers and no more
abbrev pub table_found : List ℕ → Option Table
table_found n = table_if (low_table n 0) n
