-- One search through a piece: to the next PDU, a refusal, or the piece's end. What `search` of src/lib.rt promises.
use Rattle.std.specs.Prelude.{ℕ, ◌+◌, Bool, true, false, cond, ◌&&◌, List, [], ◌∷◌, ◌++◌, length, take, drop, leb, eqb, Result, Ok, Err, Option, Some, None}
use Rattle.rtr_models.specs.declared.RtrPdu.{RtrPdu}
use Rattle.rtr_codec.specs.Reading.{Reading, in_use}
use Rattle.rtr_codec.specs.Read.{Verdict}
use Rattle.rtr_codec.specs.Answers.{refusal}
use Rattle.rtr_stream.specs.Stream.{Heard, judge}
use Rattle.rtr_stream.specs.Stream.Heard.{waits, whole, refused}
use Rattle.rtr_stream.specs.declared.StreamError.{StreamError}
use Rattle.rtr_stream.specs.declared.Lies.{Lies}
use Rattle.rtr_stream.specs.declared.Searched.{Searched}
use Rattle.rtr_stream.specs.declared.SearchError.{SearchError}

-- how a search breaks off: with a PDU and its bytes, with a refusal's number and values, or with the wish for more
pub data End : Type 0 where
  found : RtrPdu → List ℕ → End
  stop : ℕ → List ℕ → End
  more : End

-- the end, the place to go on from, and the bytes then held
pub record Search : Type 0 where
  pub end : End
  pub next : ℕ
  pub held : List ℕ

-- bytes in hand that wait go on; else the search is over and nothing is held
abbrev pub over : ℕ → List ℕ → Heard → Search → Search
over next s waits go = go
over next s (whole pdu) go = record { end = found pdu s; next = next; held = [] }
over next s (refused number values) go = record { end = stop number values; next = next; held = [] }

-- from a place, with bytes held, through what is left of the piece
unfoldable pub search_from : Reading → ℕ → ℕ → List ℕ → List ℕ → Search
search_from R H at s [] = record { end = more; next = at; held = s }
search_from R H at s (b ∷ rest) =
    over (at + 1) (s ++ (b ∷ [])) (judge R H (s ++ (b ∷ []))) (search_from R H (at + 1) (s ++ (b ∷ [])) rest)

-- the bytes wait: they make neither a PDU nor a refusal
abbrev pub is_waits : Heard → Bool
is_waits waits = true
is_waits (whole pdu) = false
is_waits (refused number values) = false

-- a hold of 8 bytes or more, no more held than it has, and what is held waits
unfoldable pub is_stream : List ℕ → ℕ → Bool
is_stream hold held = leb 8 (length hold) && (leb held (length hold) && is_waits (judge in_use (length hold) (take held hold)))

-- where a PDU's bytes lie: in the piece where nothing was held, else in the hold
abbrev pub lying : ℕ → ℕ → ℕ → Lies
lying held at n = cond (eqb held 0) (Lies.InPiece (record { start = at; len = n })) (Lies.InHold (record { start = 0; len = n }))

-- what a call says: the end, with where a PDU's bytes lie; or 22, and the whole hold as it was
pub data Says : Type 0 where
  pdu_at : RtrPdu → Lies → List ℕ → Says
  stops : ℕ → List ℕ → Says
  wants_more : Says
  refused_call : ℕ → List ℕ → Says

-- what it leaves: the place, the count of bytes held, and those bytes; the hold past them is left open
pub record Outcome : Type 0 where
  pub says : Says
  pub next : ℕ
  pub count : ℕ
  pub held : List ℕ

abbrev pub says_of : ℕ → ℕ → End → Says
says_of held at (found pdu bytes) = pdu_at pdu (lying held at (length bytes)) bytes
says_of held at (stop number values) = stops number values
says_of held at more = wants_more

abbrev pub outcome_of : ℕ → ℕ → Search → Outcome
outcome_of held at r = record { says = says_of held at r.end; next = r.next; count = length r.held; held = r.held }

-- the whole promise: 22 where it is no stream, else the search from the place; a place past the piece has nothing left of it
unfoldable pub search : List ℕ → ℕ → List ℕ → ℕ → Outcome
search hold held piece at =
    cond (is_stream hold held)
    (outcome_of held at (search_from in_use (length hold) at (take held hold) (drop at piece)))
    (record { says = refused_call 22 hold; next = at; count = held; held = take held hold })

-- document 01's number and values of a stream's refusal
abbrev pub stream_refusal : StreamError → Verdict
stream_refusal (StreamError.Read error) = refusal error
stream_refusal (StreamError.OverHold length) = Verdict.refused 12 (length ∷ [])

-- (a refusal is never an acceptance: the first case does not arise)
abbrev pub stops_by : Verdict → Says
stops_by (Verdict.accepted pdu consumed) = wants_more
stops_by (Verdict.refused number values) = stops number values

-- the bytes of a PDU, from where it lies
abbrev pub bytes_of : Lies → List ℕ → List ℕ → List ℕ
bytes_of (Lies.InPiece place) hold piece = take place.len (drop place.start piece)
bytes_of (Lies.InHold place) hold piece = take place.len (drop place.start hold)

-- what the code's answer says, given the hold that it leaves
abbrev pub said_by : Result (Option (RtrPdu × Lies)) SearchError → List ℕ → List ℕ → Says
said_by (Ok (Some (pdu, lies))) hold piece = pdu_at pdu lies (bytes_of lies hold piece)
said_by (Err (SearchError.Refused error)) hold piece = stops_by (stream_refusal error)
said_by (Ok None) hold piece = wants_more
said_by (Err SearchError.NotAStream) hold piece = refused_call 22 hold

-- and the whole of what a call leaves
abbrev pub search_said : Searched → List ℕ → List ℕ → Outcome
search_said r hold piece =
    record { says = said_by r.answer hold piece; next = r.next; count = r.stream.held; held = take r.stream.held hold }
