-- From what rtr_origin promises of a question and of a list to what the calls from C promise: six numbers that are no route's are refused as a route that is too long is. Assumes nothing.
use Rattle.std.specs.Prelude.{Option, Some, None, Result, Ok, Err}
use Prim.Native.Nat.{ℕ}
use mathlib.Core.Bool.{Bool, true, false, cond}
use mathlib.Core.List.{List}
use mathlib.Core.Path.{◌≡◌, refl, sym, ap, ◌∙◌}
use native.Mathlib.Omega.{arith}
use borrow.Author.Tests.{eq-eqb, ne_eqb}
use lib.ListN.{length}
use Rattle.rtr_receiver.specs.History.{has_table}
use Rattle.rtr_receiver.specs.Promises.{is_receiver}
use Rattle.rtr_receiver.specs.declared.Session.{Session}
use Rattle.rtr_numbers.specs.Back.{session_of}
use Rattle.rtr_origin.specs.Promises.{route_refusal, validate_says, route_said}
use Rattle.rtr_encode.specs.Answers.{number_of}
use Rattle.rtr_origin.specs.Numbers.{route_of}
use Rattle.rtr_origin.specs.Peer.{peer_said, peer_gives, peer_leaves}
use Rattle.rtr_origin.specs.declared.Route.{Route}
use Rattle.rtr_origin.proofs.Shaped as origin
use Rattle.rtr_c.specs.Calls.{validate_gives, validate_left, validate_found, validate_c, amount_of, encode_gives, encode_left, validate_all_found, validate_all_c}
use Rattle.rtr_c.specs.Private.{answer_number, validate_state, asked_route}
use Rattle.rtr_receiver.specs.declared.Table.{Table}
use Rattle.rtr_origin.specs.declared.ValidateError.{ValidateError}
use Rattle.rtr_origin.specs.declared.RouteState.{RouteState}
use Rattle.rtr_origin.specs.declared.PeerError.{PeerError}

-- the numbers of the code's answer are those of what it says
said_of : (a : Result RouteState ValidateError) → validate_gives (answer_number route_refusal a) (validate_state a) ≡ validate_left (route_said a)
said_of (Ok s) = refl
said_of (Err error) = refl

module _ (live working hold : List ℕ) where
  -- a question of the route that stands for numbers that are none says 22, 21, 23 in this order
  unrouted : (s : Session) → validate_left (validate_says s.life.limit s live working hold (asked_route None)) ≡ validate_found (Some s) None live working hold
  unrouted s = by_shape (is_receiver s.life.limit s live working hold) refl
    where
      q : Route
      q = asked_route None

      by-table : is_receiver s.life.limit s live working hold ≡ true → (t : Option Table) → s.table ≡ t
          → validate_left (validate_says s.life.limit s live working hold q) ≡ cond (has_table t) (validate_gives 23 0) (validate_gives 21 0)
      by-table e None h = ap validate_left (origin.untabled-validate s.life.limit s live working hold q e h)
      by-table e (Some i) h = ap validate_left (origin.too-long-validate s.life.limit s live working hold q e (ap has_table h) (omega arith))

      by_shape : (b : Bool) → is_receiver s.life.limit s live working hold ≡ b
          → validate_left (validate_says s.life.limit s live working hold q) ≡ cond b (cond (has_table s.table) (validate_gives 23 0) (validate_gives 21 0)) (validate_gives 22 0)
      by_shape true e = by-table e s.table refl
      by_shape false e = ap validate_left (origin.shapeless-validate s.life.limit s live working hold q e)

  asked : (s : Session) (f : Option Route) → validate_left (validate_says s.life.limit s live working hold (asked_route f)) ≡ validate_found (Some s) f live working hold
  asked s (Some q) = refl
  asked s None = unrouted s

  pub validate-not-six : (n route : List ℕ) → (length route ≡ 6 → ⊥) → validate_gives 22 0 ≡ validate_c n live working hold route
  unfolding validate_c
  validate-not-six n route h = rw (ne_eqb (length route) 6 h)

  module _ (n route : List ℕ) (size : length route ≡ 6) (found : Option Session) (f : found ≡ session_of n) where
    pub validate-known : (s : Session) (r : Option Route) (q : Route) (answer : Result RouteState ValidateError) (number state : ℕ) →
        found ≡ Some s →
        r ≡ route_of route →
        q ≡ asked_route r →
        route_said answer ≡ validate_says s.life.limit s live working hold q →
        number ≡ answer_number route_refusal answer →
        state ≡ validate_state answer →
        validate_gives number state ≡ validate_c n live working hold route
    unfolding validate_c
    validate-known s r q answer number state told routed asks said named counted =
        (λ i. validate_gives (named i) (counted i))
        ∙ said_of answer
        ∙ ap validate_left said
        ∙ ap (λ (x : Route). validate_left (validate_says s.life.limit s live working hold x)) asks
        ∙ asked s r
        ∙ (λ i. validate_found ((sym told ∙ f) i) (routed i) live working hold)
        ∙ sym (ap (λ (b : Bool). cond b (validate_found (session_of n) (route_of route) live working hold) (validate_gives 22 0)) (eq-eqb (length route) 6 size))

    pub validate-unknown : found ≡ None → validate_gives 22 0 ≡ validate_c n live working hold route
    unfolding validate_c
    validate-unknown told =
        ap (λ (x : Option Session). validate_found x (route_of route) live working hold) (sym told ∙ f)
        ∙ sym (ap (λ (b : Bool). cond b (validate_found (session_of n) (route_of route) live working hold) (validate_gives 22 0)) (eq-eqb (length route) 6 size))

  -- ---- a list
  module _ (n routes states : List ℕ) (found : Option Session) (f : found ≡ session_of n) where
    pub all_known : (s : Session) (answer : Result ℕ PeerError) (number amount : ℕ) (left : List ℕ) →
        found ≡ Some s →
        peer_gives answer left ≡ peer_leaves s.life.limit s live working hold routes states →
        number ≡ number_of (peer_said answer) →
        amount ≡ amount_of (peer_said answer) →
        encode_gives number amount left ≡ validate_all_c n live working hold routes states
    unfolding validate_all_c
    all_known s answer number amount left told said named counted =
        (λ i. encode_gives (named i) (counted i) left)
        ∙ ap encode_left said
        ∙ ap (λ (x : Option Session). validate_all_found x live working hold routes states) (sym told ∙ f)

    pub all-unknown : found ≡ None → encode_gives 22 0 states ≡ validate_all_c n live working hold routes states
    unfolding validate_all_c
    all-unknown told = ap (λ (x : Option Session). validate_all_found x live working hold routes states) (sym told ∙ f)
