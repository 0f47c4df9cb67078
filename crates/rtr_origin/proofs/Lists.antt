-- The states of a list of routes: as many as there are routes, one more for each further route, and the same for two ways of asking that agree on every route in range. By induction over the
-- routes. Assumes nothing.
use Rattle.std.specs.Prelude.{Option, Some, None, Result, Ok, Err}
use Prim.Native.Nat.{ℕ, zero, suc, ◌+◌, ◌*◌, ◌≤◌, ◌<◌}
use mathlib.Core.Bool.{cond}
use mathlib.Core.List.{List, [], ◌∷◌, ◌++◌}
use mathlib.Core.Path.{◌≡◌, refl, sym, ap, ◌∙◌}
use native.Mathlib.Omega.{arith}
use native.Mathlib.Numerals.{add-one}
use lib.Dec.{eqb}
use lib.ListN.{length, get_or, take, drop, set}
use lib.Seq.{take_at, drop_at, drop-drop}
use Rattle.rtr_base.specs.Over.{over}
use Rattle.rtr_base.proofs.Overs.{set-over, next}
use Rattle.rtr_encode.specs.Encode.{Writing}
use Rattle.rtr_encode.specs.Encode.Writing.{written, refused}
use Rattle.rtr_room.specs.declared.Record.{Record}
use Rattle.rtr_origin.specs.Origin.{longest_in, state_of, state_number}
use Rattle.rtr_origin.specs.Numbers.{route_of}
use Rattle.rtr_origin.specs.Promises.{RouteSays}
use Rattle.rtr_origin.specs.Peer.{says_number, place_of, states_from, peer_said}
use Rattle.rtr_origin.specs.Survey.{state_by}
use Rattle.rtr_origin.specs.declared.Route.{Route}
use Rattle.rtr_origin.specs.declared.RouteState.{RouteState}
use Rattle.rtr_origin.specs.declared.peer.PeerError.{PeerError}
use Rattle.rtr_origin.proofs.Numbers.{numbers-of-route}

-- the six numbers of route i
abbrev pub six_at : List ℕ → ℕ → List ℕ
six_at routes i = take 6 (drop (6 * i) routes)

-- the first six of what is left behind i routes are route i's, and the rest is what is left behind one route more
pub six_taken : (routes rest six more : List ℕ) (i : ℕ) → rest ≡ drop (6 * i) routes → rest ≡ six ++ more → length six ≡ 6 → (six ≡ six_at routes i) × (more ≡ drop (6 * (i + 1)) routes)
six_taken routes rest six more i left parts long =
    let further : 6 * i + 6 ≡ 6 * (i + 1) = omega arith in (
      sym (take_at six more 6 long) ∙ ap (take 6) (sym parts ∙ left),
      sym (drop_at six more 6 long) ∙ ap (drop 6) (sym parts ∙ left) ∙ drop-drop 6 (6 * i) routes ∙ ap (λ (k : ℕ). drop k routes) further,
    )

-- what the code puts in a place
module _ (t : List Record) (six : List ℕ) (f : Option Route) (found : f ≡ route_of six) where
  pub place-known : (q : Route) (s : RouteState) (n : ℕ) → f ≡ Some q → s ≡ state_of q t → n ≡ state_number s → n ≡ place_of (state_by t) (route_of six)
  place-known q s n e is numbered = numbered ∙ ap state_number is ∙ ap (place_of (state_by t)) (sym e ∙ found)

  pub place-unknown : f ≡ None → 23 ≡ place_of (state_by t) (route_of six)
  place-unknown e = ap (place_of (state_by t)) (sym e ∙ found)

pub states-length : (ask : Route → RouteSays) (n : ℕ) (routes : List ℕ) → length (states_from ask n routes) ≡ n
unfolding states_from
states-length ask zero routes = refl
states-length ask (suc n) routes = ap suc (states-length ask n (drop 6 routes))

pub states-none : (ask : Route → RouteSays) (routes : List ℕ) → states_from ask 0 routes ≡ []
unfolding states_from
states-none ask routes = refl

-- one route more
pub states-next : (ask : Route → RouteSays) (n : ℕ) (routes : List ℕ) → states_from ask (suc n) routes ≡ states_from ask n routes ++ place_of ask (route_of (six_at routes n)) ∷ []
unfolding states_from
states-next ask zero routes = refl
states-next ask (suc n) routes =
    let further : 6 + 6 * n ≡ 6 * suc n = omega arith in
    ap (λ (l : List ℕ). place_of ask (route_of (take 6 routes)) ∷ l)
    (states-next ask n (drop 6 routes)
    ∙ ap (λ (l : List ℕ). states_from ask n (drop 6 routes) ++ place_of ask (route_of (take 6 l)) ∷ []) (drop-drop (6 * n) 6 routes ∙ ap (λ (k : ℕ). drop k routes) further))

-- where the first i places are filled and the next one is set, one more is
pub filled_next : (ask : Route → RouteSays) (routes o cur : List ℕ) (i place : ℕ) (six : List ℕ) →
    cur ≡ over o 0 (states_from ask i routes) → i < length cur → six ≡ six_at routes i → place ≡ place_of ask (route_of six) → set cur i place ≡ over o 0 (states_from ask (i + 1) routes)
filled_next ask routes o cur i place six filled inside six-is placed =
    next o cur (set cur i place) (states_from ask i routes) (place ∷ []) i filled (states-length ask i routes) (set-over cur i place inside)
    ∙ ap (λ (l : List ℕ). over o 0 l) (ap (λ (n : ℕ). states_from ask i routes ++ n ∷ []) (placed ∙ ap (λ (l : List ℕ). place_of ask (route_of l)) six-is) ∙ sym (ap (λ (k : ℕ). states_from ask k routes) (add-one i) ∙ states-next ask i routes))

-- two ways of asking that agree on every route in range fill a place alike
module _ (ask other : Route → RouteSays) (alike : (q : Route) → q.length ≤ longest_in q.prefix → ask q ≡ other q) where
  place-alike : (six : List ℕ) → place_of ask (route_of six) ≡ place_of other (route_of six)
  place-alike six = go (route_of six) refl
    where
      go : (f : Option Route) → route_of six ≡ f → place_of ask f ≡ place_of other f
      go (Some q) e = ap says_number (alike q (numbers-of-route six q e).1)
      go None e = refl

  pub states-alike : (n : ℕ) (routes : List ℕ) → states_from ask n routes ≡ states_from other n routes
  unfolding states_from
  states-alike zero routes = refl
  states-alike (suc n) routes = λ i. place-alike (take 6 routes) i ∷ states-alike n (drop 6 routes) i

-- ---- an answer from what it says

pub peer_of : Writing → Result ℕ PeerError
peer_of (written n) = Ok n
peer_of (refused k values) =
    Err (cond (eqb k 22) PeerError.OutOfShape (cond (eqb k 21) PeerError.NoTable (PeerError.StatesShort (get_or values 0 0))))

pub peer-back : (r : Result ℕ PeerError) → peer_of (peer_said r) ≡ r
unfolding peer_of
peer-back (Ok n) = refl
peer-back (Err PeerError.OutOfShape) = refl
peer-back (Err PeerError.NoTable) = refl
peer-back (Err (PeerError.StatesShort needed)) = refl
