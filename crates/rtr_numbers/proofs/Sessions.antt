-- A session whose numbers fit is guessed from its numbers, and a guess always fits. Assumes nothing.
use Rattle.std.specs.Prelude.{Option, Some, None, ⊤}
use Prim.Native.Nat.{ℕ, ◌%◌}
use mathlib.Core.List.{List}
use mathlib.Core.Path.{◌≡◌, refl, ap}
use native.Mathlib.Omega.{arith}
use lib.Dec.{eqb}
use lib.ListN.{get_or}
use Rattle.rtr_models.specs.declared.RtrErrorCode.{RtrErrorCode}
use Rattle.rtr_codec.specs.declared.RtrError.TheVariants.{IncompletePdu, InvalidProtocolVersion, InvalidPduType, InvalidLength, RouterKeyInV0, InvalidPrefixLength, InvalidErrorCode, InvalidUtf8}
use Rattle.rtr_stream.specs.declared.StreamError.{StreamError}
use Rattle.rtr_receiver.specs.Promises.{stage_of}
use Rattle.rtr_receiver.specs.declared.LoadKind.{LoadKind}
use Rattle.rtr_receiver.specs.declared.Stop.{Stop}
use Rattle.rtr_receiver.specs.declared.Phase.{Phase}
use Rattle.rtr_receiver.specs.declared.Life.{Life}
use Rattle.rtr_receiver.specs.declared.Counts.{Counts}
use Rattle.rtr_receiver.specs.declared.Session.{Session}
use Rattle.rtr_numbers.specs.Numbers.{numbers_of, session_numbers}
use Rattle.rtr_numbers.specs.Back.{loose_error, loose_stop, loose_phase, loose_table, loose_note, loose_session}
use Rattle.rtr_numbers.proofs.Guesses.{version-back, code-back, either_way}
use Rattle.rtr_numbers.proofs.Tables.{low-back}
use Rattle.rtr_numbers.specs.Ranges.{ErrorFits, StopFits, PhaseFits, TableFits, NoteFits, SessionFits}
use Rattle.rtr_receiver.specs.declared.Table.{Table}

-- ---- Back from numbers

module _ (life : Life) (t : Option Table) (note : Option (ℕ × ℕ)) (live working : Counts) (held : ℕ) where
  stop-back : (s : Stop) → StopFits s → loose_phase (numbers_of life (stage_of (Phase.Stopped s)) t note live working held) ≡ Phase.Stopped s
  unfolding numbers_of loose_phase loose_stop loose_error
  stop-back (Stop.Stream (StreamError.Read (IncompletePdu a n))) h = refl
  stop-back (Stop.Stream (StreamError.Read (InvalidPduType k))) h = let e : k % 256 ≡ k = omega arith in cc
  stop-back (Stop.Stream (StreamError.Read (InvalidProtocolVersion k))) h = let e : k % 256 ≡ k = omega arith in cc
  stop-back (Stop.Stream (StreamError.Read (InvalidErrorCode k))) h = let e : k % 65536 ≡ k = omega arith in cc
  stop-back (Stop.Stream (StreamError.Read (InvalidLength x y z))) h =
      let e : x % 4294967296 ≡ x = omega arith in
      let f : y % 4294967296 ≡ y = omega arith in
      let g : z % 256 ≡ z = omega arith in
      cc
  stop-back (Stop.Stream (StreamError.Read (InvalidPrefixLength x y z))) h =
      let e : x % 256 ≡ x = omega arith in
      let f : y % 256 ≡ y = omega arith in
      let g : z % 256 ≡ z = omega arith in
      cc
  stop-back (Stop.Stream (StreamError.Read InvalidUtf8)) h = refl
  stop-back (Stop.Stream (StreamError.Read RouterKeyInV0)) h = refl
  stop-back (Stop.Stream (StreamError.OverHold n)) h = let e : n % 4294967296 ≡ n = omega arith in cc
  stop-back Stop.OutOfTurn h = refl
  stop-back Stop.OtherVersion h = refl
  stop-back Stop.OtherSession h = refl
  stop-back Stop.NotIn h = refl
  stop-back Stop.AlreadyIn h = refl
  stop-back Stop.RoomFull h = refl
  stop-back (Stop.ErrorReport c) h = ap (λ (x : RtrErrorCode). Phase.Stopped (Stop.ErrorReport x)) (code-back c)

  phase-back : (p : Phase) → PhaseFits p → loose_phase (numbers_of life (stage_of p) t note live working held) ≡ p
  unfolding numbers_of loose_phase
  phase-back Phase.Idle h = refl
  phase-back Phase.MustReset h = refl
  phase-back Phase.AskedFull h = refl
  phase-back Phase.AskedChange h = refl
  phase-back (Phase.Loading LoadKind.Full id) h = let e : id % 65536 ≡ id = omega arith in cc
  phase-back (Phase.Loading LoadKind.Change id) h = let e : id % 65536 ≡ id = omega arith in cc
  phase-back (Phase.Stopped stop) h = stop-back stop h

module _ (life : Life) (p : Phase) (live working : Counts) (held : ℕ) where
  table-back : (t : Option Table) (note : Option (ℕ × ℕ)) → TableFits t → loose_table (numbers_of life (stage_of p) t note live working held) ≡ t
  unfolding numbers_of loose_table
  table-back None last h = refl
  table-back (Some t) last h =
      ap Some (low-back t (record { session = omega arith; serial = omega arith; refresh = omega arith; retry = omega arith; expire = omega arith }))

  note-back : (t : Option Table) (note : Option (ℕ × ℕ)) → NoteFits note → loose_note (numbers_of life (stage_of p) t note live working held) ≡ note
  unfolding numbers_of loose_note
  note-back t None h = refl
  note-back t (Some (session, serial)) h =
      let a : session % 65536 ≡ session = omega arith in
      let b : serial % 4294967296 ≡ serial = omega arith in
      cc

pub session-back : (s : Session) → SessionFits s → loose_session (session_numbers s) ≡ s
unfolding loose_session numbers_of
session-back s h =
    let version = version-back s.life.version in
    let phase = phase-back s.life s.table s.note s.live s.working s.held s.phase h.phase in
    let table = table-back s.life s.phase s.live s.working s.held s.table s.note h.table in
    let note = note-back s.life s.phase s.live s.working s.held s.table s.note h.note in
    λ i. record { life = record { version = version i; limit = s.life.limit }; phase = phase i; table = table i; note = note i; live = s.live; working = s.working; held = s.held }

-- ---- A guess fits

error-fits : (k a b c : ℕ) → ErrorFits (loose_error k a b c)
unfolding loose_error
error-fits k a b c =
    either_way ErrorFits (eqb k 1) _ _ tt
    (either_way ErrorFits (eqb k 2) _ _ (omega arith)
    (either_way ErrorFits (eqb k 3) _ _ (omega arith)
    (either_way ErrorFits (eqb k 4) _ _ (omega arith, omega arith, omega arith)
    (either_way ErrorFits (eqb k 5) _ _ tt
    (either_way ErrorFits (eqb k 6) _ _ (omega arith, omega arith, omega arith) (either_way ErrorFits (eqb k 7) _ _ (omega arith) tt))))))

stop-fits : (k a b c : ℕ) → StopFits (loose_stop k a b c)
unfolding loose_stop
stop-fits k a b c =
    either_way StopFits (eqb k 12) _ _ (omega arith)
    (either_way StopFits (eqb k 13) _ _ tt
    (either_way StopFits (eqb k 14) _ _ tt
    (either_way StopFits (eqb k 15) _ _ tt
    (either_way StopFits (eqb k 16) _ _ tt
    (either_way StopFits (eqb k 17) _ _ tt
    (either_way StopFits (eqb k 18) _ _ tt (either_way StopFits (eqb k 19) _ _ tt (error-fits k a b c))))))))

phase-fits : (n : List ℕ) → PhaseFits (loose_phase n)
unfolding loose_phase
phase-fits n =
    let k = get_or n 1 0 in
    either_way PhaseFits (eqb k 0) _ _ tt
    (either_way PhaseFits (eqb k 1) _ _ tt
    (either_way PhaseFits (eqb k 2) _ _ tt
    (either_way PhaseFits (eqb k 3) _ _ tt
    (either_way PhaseFits (eqb k 4) _ _ (omega arith)
    (either_way PhaseFits (eqb k 5) _ _ (omega arith) (stop-fits (get_or n 2 0) (get_or n 3 0) (get_or n 4 0) (get_or n 5 0)))))))

table_fits : (n : List ℕ) → TableFits (loose_table n)
unfolding loose_table
table_fits n = either_way TableFits (eqb (get_or n 6 0) 0) _ _ tt (omega arith, omega arith, omega arith, omega arith, omega arith)

note-fits : (n : List ℕ) → NoteFits (loose_note n)
unfolding loose_note
note-fits n = either_way NoteFits (eqb (get_or n 12 0) 0) _ _ tt (omega arith, omega arith)

pub session-fits : (n : List ℕ) → SessionFits (loose_session n)
unfolding loose_session
session-fits n = record { phase = phase-fits n; table = table_fits n; note = note-fits n }
