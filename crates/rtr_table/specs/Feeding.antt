-- What the program does with the receiver: a start, a full ask, and then feeds of the pieces that were read, as calls of one run (rtr_receiver's
-- Runs), up to a read of nothing or a stop. What the pieces are is the input's: no contract can say what was read.
use Rattle.std.specs.Prelude.{ℕ, ◌*◌, ◌≤◌, ◌<◌, Bool, true, false, List, [], ◌∷◌, ◌++◌, ◌≡◌, length, take, Result, Ok, Err, ⊤}
use Rattle.rtr_models.specs.declared.RtrProtocolVersion.TheVariants.{V1}
use Rattle.rtr_receiver.specs.Contents.{Rooms}
use Rattle.rtr_receiver.specs.Promises.{FedAs, record_limit}
use Rattle.rtr_receiver.specs.Runs.{Call, Memory, Run}
use Rattle.rtr_receiver.specs.declared.Done.{Done}
use Rattle.rtr_receiver.specs.declared.Fed.{Fed}
use Rattle.rtr_receiver.specs.declared.LoadKind.{LoadKind}
use Rattle.rtr_receiver.specs.declared.Session.{Session}
use Rattle.rtr_receiver.specs.declared.FeedError.{FeedError}
use Rattle.rtr_receiver.specs.declared.NotAReceiver.{NotAReceiver}
use Rattle.rtr_table.specs.declared.Ended.{Ended}

abbrev pub memory : Session → Rooms → Rooms → List ℕ → Memory
memory s live working hold = record { session = s; live = live; working = working; hold = hold }

-- the receiver takes more after this answer
abbrev pub goes_on : Result ⊤ FeedError → Bool
goes_on (Ok tt) = true
goes_on (Err (FeedError.Stopped stop)) = false
goes_on (Err FeedError.NotAReceiver) = false

-- a feed of a piece, as `feed` promises it, with what it answered
abbrev pub FedWith : Memory → List ℕ → Done → Memory → Type 0
FedWith m piece done m' =
    let r : Fed = record { session = m'.session; done = done } in
    FedAs m.session.life.limit m.session m.live m.working m.hold piece r m'.live m'.working m'.hold

-- a turn with the n bytes that a read left at the front of the buffer, and whether there is to be another. Where there are none, nothing is fed and
-- the input is over. Else those bytes are fed, all and no others, and the answer alone says whether there is to be another turn
pub data Turn (m : Memory) (buffer : List ℕ) (n : ℕ) (m' : Memory) (more : Bool) : Type 0 where
  over : n ≡ 0 → m ≡ m' → more ≡ false → Turn m buffer n m' more
  heard : (done : Done) → 0 < n → n ≤ length buffer → FedWith m (take n buffer) done m' → more ≡ goes_on done.answer → Turn m buffer n m' more

-- turns one after another, each of which was to have another behind it, and the pieces that they fed
pub data Turns (m : Memory) : List (List ℕ) → Memory → Type 0 where
  none : Turns m [] m
  next : {pieces : List (List ℕ)} {m' m'' : Memory} (buffer : List ℕ) (n : ℕ) →
      Turns m pieces m' →
      0 < n →
      Turn m' buffer n m'' true →
      Turns m (pieces ++ take n buffer ∷ []) m''

-- the turns that the loop may take
abbrev pub most_turns : ℕ
most_turns = 18446744073709551615

-- the whole input, of whose last read this many bytes came: none, and all before were fed; or some, which were fed too, and the receiver takes no
-- more; or as many pieces were fed as the loop has turns
pub data Input (m : Memory) (last : ℕ) (m' : Memory) : List (List ℕ) → Type 0 where
  over : {pieces : List (List ℕ)} → Turns m pieces m' → last ≡ 0 → Input m last m' pieces
  stopped : {pieces : List (List ℕ)} {m₁ : Memory} (buffer : List ℕ) →
      Turns m pieces m₁ →
      0 < last →
      Turn m₁ buffer last m' false →
      Input m last m' (pieces ++ take last buffer ∷ [])
  turns_used : {pieces : List (List ℕ)} → Turns m pieces m' → length pieces ≡ most_turns → Input m last m' pieces

-- for some pieces: what they are is the input's
abbrev pub HeardAll : Memory → ℕ → Memory → Type 0
HeardAll m last m' = (pieces : List (List ℕ)) × Input m last m' pieces

-- the whole of it, in version 1: a full ask with this room for its query, and then the input. A start is refused only where the memory is not of
-- the size
abbrev pub Ends : Result Ended NotAReceiver → List ℕ → Rooms → Rooms → List ℕ → Type 0
Ends (Ok e) query live working hold =
    (asked : Memory) × Run record_limit V1 (length hold) (Call.ask LoadKind.Full query ∷ []) asked × HeardAll asked e.last (memory e.session live working hold)
Ends (Err refusal) query live working hold = length live ≡ 6 * record_limit → length working ≡ 6 * record_limit → 8 ≤ length hold → ⊥
