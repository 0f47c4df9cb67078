-- A caller of `search`: it hands in pieces, one after another, searches each until more is wanted, and notes the PDUs with their bytes. Each call meets its promise, and
-- what a call leaves of the hold past the held count is anything.
use Rattle.std.specs.Prelude.{ℕ, List, [], ◌∷◌, ◌++◌, ◌≡◌, length, take, Ok, Err, Some, None}
use Rattle.rtr_models.specs.declared.RtrPdu.{RtrPdu}
use Rattle.rtr_codec.specs.Read.{Verdict}
use Rattle.rtr_stream.specs.Stream.{Found, State}
use Rattle.rtr_stream.specs.Search.{search, search_said, stream_refusal, bytes_of}
use Rattle.rtr_stream.specs.declared.StreamError.{StreamError}
use Rattle.rtr_stream.specs.declared.Lies.{Lies}
use Rattle.rtr_stream.specs.declared.Searched.{Searched}
use Rattle.rtr_stream.specs.declared.SearchError.{SearchError}

-- between two pieces: the hold with the count held; or a stop
pub data Between : Type 0 where
  goes_on : List ℕ → ℕ → Between
  ended : ℕ → List ℕ → Between

-- a call at a place: it meets its promise, in a hold of the same size
pub record Called (piece : List ℕ) (at : ℕ) (hold : List ℕ) (held : ℕ) (r : Searched) (hold' : List ℕ) : Type 0 where
  pub size : length hold' ≡ length hold
  pub promise : search_said r hold' piece ≡ search hold held piece at

-- a piece from a place on: the PDUs found in it, in order, and what is then
pub data Through (piece : List ℕ) : ℕ → List ℕ → ℕ → List Found → Between → Type 0 where
  more : {at : ℕ} {hold : List ℕ} {held : ℕ} (r : Searched) (hold' : List ℕ) →
      Called piece at hold held r hold' →
      r.answer ≡ Ok None →
      Through piece at hold held [] (goes_on hold' r.stream.held)
  found : {at : ℕ} {hold : List ℕ} {held : ℕ} {pdus : List Found} {end : Between} (r : Searched) (hold' : List ℕ) (pdu : RtrPdu) (lies : Lies) →
      Called piece at hold held r hold' →
      r.answer ≡ Ok (Some (pdu, lies)) →
      Through piece r.next hold' r.stream.held pdus end →
      Through piece at hold held (record { pdu = pdu; bytes = bytes_of lies hold' piece } ∷ pdus) end
  stop : {at : ℕ} {hold : List ℕ} {held : ℕ} (r : Searched) (hold' : List ℕ) (error : StreamError) (number : ℕ) (values : List ℕ) →
      Called piece at hold held r hold' →
      r.answer ≡ Err (SearchError.Refused error) →
      stream_refusal error ≡ Verdict.refused number values →
      Through piece at hold held [] (ended number values)

-- what a caller has between two pieces, as the stream's state
abbrev pub state_of : Between → State
state_of (goes_on hold held) = State.holding (take held hold)
state_of (ended number values) = State.stopped number values

-- pieces, one after another, until they are through or a stop
pub data Pieces : List ℕ → ℕ → List (List ℕ) → List Found → Between → Type 0 where
  none : {hold : List ℕ} {held : ℕ} → Pieces hold held [] [] (goes_on hold held)
  next : {hold hold' piece : List ℕ} {held held' : ℕ} {pieces : List (List ℕ)} {pdus later : List Found} {end : Between} →
      Through piece 0 hold held pdus (goes_on hold' held') →
      Pieces hold' held' pieces later end →
      Pieces hold held (piece ∷ pieces) (pdus ++ later) end
  over : {hold piece : List ℕ} {held : ℕ} {pieces : List (List ℕ)} {pdus : List Found} {number : ℕ} {values : List ℕ} →
      Through piece 0 hold held pdus (ended number values) →
      Pieces hold held (piece ∷ pieces) pdus (ended number values)
