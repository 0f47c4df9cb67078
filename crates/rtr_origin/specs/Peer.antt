-- A whole peer at once: document 02, request Two. What the list's call says, and what it leaves in the list of states. A route's place has what the single
-- question (Promises) gives for it: there is no second definition of a state. What is said, and the output that is left, are those of encoding (Writing and Encoded of rtr_encode):
-- `unless` refuses where a test fails, and `out_after` keeps the list on a refusal, else puts the states before what stood behind them.
use Rattle.std.specs.Prelude.{ℕ, zero, suc, ◌/◌, ◌%◌, ◌&&◌, List, [], ◌∷◌, leb, eqb, length, take, drop, Option, Some, None, Result, Ok, Err}
use Rattle.rtr_encode.specs.Encode.{Writing, Encoded, unless, out_after}
use Rattle.rtr_encode.specs.Encode.Writing.{written, refused}
use Rattle.rtr_receiver.specs.Contents.{Rooms}
use Rattle.rtr_receiver.specs.History.{has_table}
use Rattle.rtr_receiver.specs.Promises.{is_receiver}
use Rattle.rtr_receiver.specs.declared.Session.{Session}
use Rattle.rtr_origin.specs.Origin.{state_number}
use Rattle.rtr_origin.specs.Numbers.{route_of}
use Rattle.rtr_origin.specs.Promises.{RouteSays, validate_says}
use Rattle.rtr_origin.specs.declared.Route.{Route}
use Rattle.rtr_origin.specs.declared.peer.PeerError.{PeerError}
use Rattle.rtr_origin.specs.declared.peer.PeerError.TheVariants.{OutOfShape, NoTable, StatesShort}

-- ---- the states

-- what a question says, as a number: the state's, or the refusal's
abbrev pub says_number : RouteSays → ℕ
says_number (RouteSays.state s) = state_number s
says_number (RouteSays.refused number) = number

-- what stands in a route's place: what the single question says of it, and 23 where six numbers are no route's
abbrev pub place_of : (Route → RouteSays) → Option Route → ℕ
place_of ask (Some q) = says_number (ask q)
place_of ask None = 23

-- the states of the first so many routes of a list, six numbers each, in order
unfoldable pub states_from : (Route → RouteSays) → ℕ → List ℕ → List ℕ
states_from ask zero routes = []
states_from ask (suc n) routes = place_of ask (route_of (take 6 routes)) ∷ states_from ask n (drop 6 routes)

-- how many routes a list has
abbrev pub route_count : List ℕ → ℕ
route_count routes = length routes / 6

-- the states of a whole list
abbrev pub states_of : (Route → RouteSays) → List ℕ → List ℕ
states_of ask routes = states_from ask (route_count routes) routes

-- ---- the call

-- what it says where so many states are lent: 22 without receiver shape or for a list not in sixes, then 21, then 9 with how many states are needed; else how many routes there were
unfoldable pub peer_says : ℕ → Session → Rooms → Rooms → List ℕ → List ℕ → ℕ → Writing
peer_says limit s live working hold routes lent =
    unless (is_receiver limit s live working hold && eqb (length routes % 6) 0) 22 []
    (unless (has_table s.table) 21 []
    (unless (leb (route_count routes) lent) 9 (route_count routes ∷ []) (written (route_count routes))))

-- that, and the list that it leaves: every route's state, and behind them what stood there; or, refused, all as it was
unfoldable pub peer_leaves : ℕ → Session → Rooms → Rooms → List ℕ → List ℕ → List ℕ → Encoded
peer_leaves limit s live working hold routes states =
    record {
      says = peer_says limit s live working hold routes (length states);
      out = out_after (peer_says limit s live working hold routes (length states)) (states_of (validate_says limit s live working hold) routes) states;
    }

-- document 02's number and values of a refusal
abbrev pub peer_refusal : PeerError → Writing
peer_refusal OutOfShape = refused 22 []
peer_refusal NoTable = refused 21 []
peer_refusal (StatesShort needed) = refused 9 (needed ∷ [])

-- what the code's answer says
abbrev pub peer_said : Result ℕ PeerError → Writing
peer_said (Ok n) = written n
peer_said (Err error) = peer_refusal error

-- an answer and the list that it leaves
abbrev pub peer_gives : Result ℕ PeerError → List ℕ → Encoded
peer_gives answer states = record { says = peer_said answer; out = states }
