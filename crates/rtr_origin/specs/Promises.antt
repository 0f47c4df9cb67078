-- What the two calls promise: document 02, request One. 22 first, then 21, then 23; no data go with them, and nothing is written.
use Rattle.std.specs.Prelude.{ℕ, cond, List, leb, Result, Ok, Err}
use Rattle.rtr_receiver.specs.Contents.{Rooms, contents}
use Rattle.rtr_receiver.specs.History.{has_table}
use Rattle.rtr_receiver.specs.Promises.{is_receiver}
use Rattle.rtr_receiver.specs.declared.Session.{Session}
use Rattle.rtr_origin.specs.Origin.{longest_in, state_of}
use Rattle.rtr_origin.specs.declared.Route.{Route}
use Rattle.rtr_origin.specs.declared.RouteState.{RouteState}
use Rattle.rtr_origin.specs.declared.ValidateError.{ValidateError}
use Rattle.rtr_origin.specs.declared.ValidateError.TheVariants.{NotAReceiver, NoTable, TooLong}

-- a state, or a refusal by a number
pub data RouteSays : Type 0 where
  state : RouteState → RouteSays
  refused : ℕ → RouteSays

-- the whole receiver shape, a table (one without records is one), a length within the family's; the live table answers, in every phase
unfoldable pub validate_says : ℕ → Session → Rooms → Rooms → List ℕ → Route → RouteSays
validate_says limit s live working hold q =
    cond (is_receiver limit s live working hold)
    (cond (has_table s.table)
    (cond (leb q.length (longest_in q.prefix)) (state (state_of q (contents s.live live))) (refused 23))
    (refused 21))
    (refused 22)

-- document 02's number of a refusal
abbrev pub route_refusal : ValidateError → ℕ
route_refusal NotAReceiver = 22
route_refusal NoTable = 21
route_refusal TooLong = 23

-- what the code's answer says
abbrev pub route_said : Result RouteState ValidateError → RouteSays
route_said (Ok s) = state s
route_said (Err error) = refused (route_refusal error)
