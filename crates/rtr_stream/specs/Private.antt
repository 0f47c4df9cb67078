-- What the private functions of src/lib.rt promise each other; no public promise rests on this page.
use Rattle.std.specs.Prelude.{ℕ, ◌≤◌, ◌<◌, true, List, ◌≡◌, length, take, drop, Option, Some, None, Result, Ok, Err, ⊤}
use Rattle.rtr_codec.specs.Reading.{in_use}
use Rattle.rtr_codec.specs.Read.{read}
use Rattle.rtr_stream.specs.Stream.{Heard, longest, heard_of, length_in, judge}
use Rattle.rtr_stream.specs.Stream.Heard.{waits}
use Rattle.rtr_stream.specs.Search.{Search, over, search_from, is_stream, outcome_of, stream_refusal, search_said}
use Rattle.rtr_stream.specs.declared.Turn.{Turn}
use Rattle.rtr_models.specs.declared.RtrPdu.{RtrPdu}
use Rattle.rtr_stream.specs.declared.SearchError.{SearchError}
use Rattle.rtr_stream.specs.declared.Lies.{Lies}
use Rattle.rtr_stream.specs.declared.StreamError.{StreamError}

-- a length is in range and fits the hold, or its refusal is the definition's
abbrev pub LengthTested : ℕ → ℕ → ℕ → Result ⊤ StreamError → Type 0
LengthTested H n type (Ok tt) = (8 ≤ n) × (n ≤ longest) × (n ≤ H)
LengthTested H n type (Err error) = (next : Heard) → length_in H n type next ≡ heard_of (stream_refusal error)

-- what a search from here comes to
abbrev pub search_here : List ℕ → ℕ → List ℕ → ℕ → Search
search_here hold held piece at = search_from in_use (length hold) at (take held hold) (drop at piece)

-- one turn: the search is over, as the definition has it, or goes on from further in the piece to the same end
abbrev pub TurnedTo : List ℕ → ℕ → List ℕ → ℕ → ℕ → ℕ → List ℕ → Option (Result (Option (RtrPdu × Lies)) SearchError) → Type 0
TurnedTo hold held piece at held' next hold' (Some answer) =
    search_said (record { stream = record { held = held' }; next = next; answer = answer }) hold' piece ≡ outcome_of held at (search_here hold held piece at)
TurnedTo hold held piece at held' next hold' None =
    (is_stream hold' held' ≡ true)
    × (0 < held)
    × (0 < held')
    × (at < next)
    × (next ≤ length piece)
    × (search_here hold' held' piece next ≡ search_here hold held piece at)

abbrev pub Turned : List ℕ → ℕ → List ℕ → ℕ → Turn → List ℕ → Type 0
Turned hold held piece at t hold' = TurnedTo hold held piece at t.held t.next hold' t.then

-- the hold's first bytes, judged: over by what they come to, at this place
abbrev pub JudgedTo : List ℕ → ℕ → Option (Result (Option (RtrPdu × Lies)) SearchError) → ℕ → ℕ → Heard → Type 0
JudgedTo hold n (Some answer) held next heard =
    (piece : List ℕ) (at : ℕ) (before : ℕ) (go : Search) →
    0 < before →
    search_said (record { stream = record { held = held }; next = next; answer = answer }) hold piece ≡ outcome_of before at (over next (take n hold) heard go)
JudgedTo hold n None held next heard = (heard ≡ waits) × (held ≡ n)

-- `whole` bytes are read
abbrev pub ReadHere : List ℕ → ℕ → ℕ → Turn → Type 0
ReadHere hold n next t = JudgedTo hold n t.then t.held t.next (heard_of (read in_use (take n hold))) × (t.next ≡ next)

-- 8 bytes are judged
abbrev pub HeaderHere : List ℕ → ℕ → Turn → Type 0
HeaderHere hold next t = JudgedTo hold 8 t.then t.held t.next (judge in_use (length hold) (take 8 hold)) × (t.next ≡ next)
