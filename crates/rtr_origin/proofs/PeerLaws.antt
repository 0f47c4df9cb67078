-- What is said of a whole peer (document 02, request Two): each state is what the single question gives, what stands behind the states stays, a refusal keeps them all, a peer cut in two lists gives the
-- same states, and each refusal is given for its reason alone. Of the definition first, then of the call. Assumes nothing.
use Rattle.std.specs.Prelude.{Option, Some, None, Result, Ok, Err}
use Prim.Native.Nat.{ℕ, zero, suc, ◌+◌, ◌*◌, ◌%◌, ◌≤◌, ◌<◌}
use mathlib.Core.Bool.{Bool, true, false}
use mathlib.Core.List.{List, [], ◌∷◌, ◌++◌}
use mathlib.Core.Logic.{◌↔◌, ◌⊎◌, inl, inr, ⊎_elim}
use mathlib.Core.Path.{◌≡◌, refl, sym, ap, ◌∙◌}
use native.Mathlib.Omega.{arith}
use lib.Dec.{leb}
use lib.ListN.{length, get_or, take, drop, length-append, length-drop, get_or-append}
use lib.Seq.{drop-drop, drop_at, take_at, take-append-le, drop-append-le}
use borrow.Author.Tests.{leb-true, leb-false}
use contract.Lifetimes.{Lfts}
use borrow.Fn.World.{ArgsD}
use Rattle.rtr_encode.specs.Encode.{Writing, Encoded}
use Rattle.rtr_encode.specs.Encode.Writing.{written, refused}
use Rattle.rtr_receiver.specs.Contents.{Rooms, contents}
use Rattle.rtr_receiver.specs.History.{has_table}
use Rattle.rtr_receiver.specs.Promises.{is_receiver}
use Rattle.rtr_receiver.specs.declared.Session.{Session}
use Rattle.rtr_origin.specs.Origin.{longest_in, state_of, state_number}
use Rattle.rtr_origin.specs.Numbers.{numbers_of, route_of}
use Rattle.rtr_origin.specs.Promises.{RouteSays, validate_says, route_said}
use Rattle.rtr_origin.specs.Peer.{says_number, place_of, states_from, states_of, route_count, peer_leaves, peer_refusal, peer_said}
use Rattle.rtr_origin.specs.declared.Route.{Route}
use Rattle.rtr_origin.specs.declared.RouteState.{RouteState}
use Rattle.rtr_origin.specs.declared.peer.PeerError.{PeerError}
use Rattle.rtr_origin.specs.declared.peer.PeerError.TheVariants.{OutOfShape, NoTable, StatesShort}
use Rattle.rtr_origin.proofs.Numbers.{numbers-of-route, route-of-numbers, too-long-unknown}
use Rattle.rtr_origin.proofs.Shaped.{shaped-validate, too-long-validate}
use Rattle.rtr_origin.proofs.PeerAnswers.{Answerable, PeerCase, peer-cases, shapeless-list, not-in-sixes, untabled-list, short-list, answered-list}
use Rattle.rtr_origin.proofs.Lists.{six_at, states-length, peer_of, peer-back}
use Rattle.rtr_origin.proofs.peer.validate_all.Reads as reads
use Rattle.rtr_origin.specs.contracts.peer.validate_all.{signature}
use Rattle.rtr_origin.proofs.validate.Reads as question
use Rattle.rtr_origin.specs.contracts.validate.{signature as question-signature}
use Rattle.rtr_origin.specs.declared.ValidateError.{ValidateError}

-- ---- the states of a list

module _ (ask : Route → RouteSays) where
  -- the state in place i is that of the six numbers from 6 * i on
  pub state-at : (n : ℕ) (routes : List ℕ) (i d : ℕ) → i < n → get_or (states_from ask n routes) i d ≡ place_of ask (route_of (six_at routes i))
  unfolding states_from
  state-at zero routes i d l = absurd (omega arith)
  state-at (suc n) routes zero d l = refl
  state-at (suc n) routes (suc i) d l = state-at n (drop 6 routes) i d (omega arith)
      ∙ (let further : 6 + 6 * i ≡ 6 * suc i = omega arith in
      ap (λ (l : List ℕ). place_of ask (route_of (take 6 l))) (drop-drop (6 * i) 6 routes ∙ ap (λ (k : ℕ). drop k routes) further))

  joined-from : (n m : ℕ) (a b : List ℕ) → length a ≡ 6 * n → states_from ask (m + n) (a ++ b) ≡ states_from ask n a ++ states_from ask m b
  unfolding states_from
  joined-from zero m [] b e = let none : m + 0 ≡ m = omega arith in ap (λ (k : ℕ). states_from ask k b) none
  joined-from zero m (x ∷ a) b e = absurd (omega arith)
  joined-from (suc n) m a b e =
      let six : 6 ≤ length a = omega (arith, e) in
      let rest : length (drop 6 a) ≡ 6 * n = length-drop 6 a ∙ omega (arith, e) in
      let more : m + suc n ≡ suc (m + n) = omega arith in
      ap (λ (k : ℕ). states_from ask k (a ++ b)) more
      ∙ (λ i. place_of ask (route_of (take-append-le 6 a b six i)) ∷ (ap (states_from ask (m + n)) (drop-append-le 6 a b six) ∙ joined-from n m (drop 6 a) b rest) i)

  -- a peer cut in two lists gives the same states
  pub list-joins : (a b : List ℕ) → length a % 6 ≡ 0 → states_of ask (a ++ b) ≡ states_of ask a ++ states_of ask b
  list-joins a b e =
      let count : route_count (a ++ b) ≡ route_count b + route_count a = omega (arith, e, length-append a b) in
      ap (λ (n : ℕ). states_from ask n (a ++ b)) count ∙ joined-from (route_count a) (route_count b) a b (omega (arith, e))

-- ---- what is said, and why

module _ (limit : ℕ) (s : Session) (live working : Rooms) (hold routes states : List ℕ) where
  abbrev left : Encoded
  left = peer_leaves limit s live working hold routes states

  abbrev Case : Encoded → Type 0
  Case = PeerCase limit s live working hold routes states

  cases : Case left
  cases = peer-cases limit s live working hold routes states

  unlike : {k n : ℕ} {values : List ℕ} → refused k values ≡ written n → ⊥
  unlike e = let z : ◌≡◌ {A = ℕ} 0 1 = cc in omega arith

  other : (k n : ℕ) {v w : List ℕ} → (k ≡ n → ⊥) → refused k v ≡ refused n w → ⊥
  other k n d e = d (cc)

  -- answered exactly where nothing stands in the way, and then so many as there are routes
  pub answered-exactly : (n : ℕ) → left.says ≡ written n ↔ (Answerable limit s live working hold routes states × (n ≡ route_count routes))
  answered-exactly n = (
    go cases,
    λ h. let a = h.0 in sym (ap (λ (x : Encoded). x.says) (answered-list limit s live working hold routes states a.shape a.sixes a.table a.fits)) ∙ ap written (sym h.1),
  )
    where
      go : {l : Encoded} → Case l → l.says ≡ written n → Answerable limit s live working hold routes states × (n ≡ route_count routes)
      go (PeerCase.answered a) e = (a, cc)
      go (PeerCase.shapeless p) e = absurd (unlike e)
      go (PeerCase.not_sixes p q) e = absurd (unlike e)
      go (PeerCase.untabled p q t) e = absurd (unlike e)
      go (PeerCase.short p q t l) e = absurd (unlike e)

  -- 22 exactly without receiver shape, or where the numbers are not in sixes
  pub list-22-exactly : left.says ≡ refused 22 [] ↔ ((is_receiver limit s live working hold ≡ false) ⊎ (length routes % 6 ≡ 0 → ⊥))
  list-22-exactly = (go cases, ⊎_elim without not-six)
    where
      go : {l : Encoded} → Case l → l.says ≡ refused 22 [] → (is_receiver limit s live working hold ≡ false) ⊎ (length routes % 6 ≡ 0 → ⊥)
      go (PeerCase.shapeless p) e = inl p
      go (PeerCase.not_sixes p q) e = inr q
      go (PeerCase.untabled p q t) e = absurd (other 21 22 (λ i. omega arith) e)
      go (PeerCase.short p q t l) e = absurd (other 9 22 (λ i. omega arith) e)
      go (PeerCase.answered a) e = absurd (unlike (sym e))

      without : is_receiver limit s live working hold ≡ false → left.says ≡ refused 22 []
      without p = sym (ap (λ (x : Encoded). x.says) (shapeless-list limit s live working hold routes states p))

      not-six : (length routes % 6 ≡ 0 → ⊥) → left.says ≡ refused 22 []
      not-six h = by (is_receiver limit s live working hold) refl
        where
          by : (b : Bool) → is_receiver limit s live working hold ≡ b → left.says ≡ refused 22 []
          by true e = sym (ap (λ (x : Encoded). x.says) (not-in-sixes limit s live working hold routes states e h))
          by false e = sym (ap (λ (x : Encoded). x.says) (shapeless-list limit s live working hold routes states e))

  -- then 21 exactly without a table
  pub list-21-exactly : left.says ≡ refused 21 [] ↔ ((is_receiver limit s live working hold ≡ true) × (length routes % 6 ≡ 0) × (s.table ≡ None))
  list-21-exactly = (go cases, λ h. sym (ap (λ (x : Encoded). x.says) (untabled-list limit s live working hold routes states h.0 h.1 h.2)))
    where
      go : {l : Encoded} → Case l → l.says ≡ refused 21 [] → (is_receiver limit s live working hold ≡ true) × (length routes % 6 ≡ 0) × (s.table ≡ None)
      go (PeerCase.untabled p q t) e = (p, q, t)
      go (PeerCase.shapeless p) e = absurd (other 22 21 (λ i. omega arith) e)
      go (PeerCase.not_sixes p q) e = absurd (other 22 21 (λ i. omega arith) e)
      go (PeerCase.short p q t l) e = absurd (other 9 21 (λ i. omega arith) e)
      go (PeerCase.answered a) e = absurd (unlike (sym e))

  -- then 9 exactly where there are fewer states than routes, with how many routes there are
  pub list-9-exactly : (values : List ℕ) → left.says ≡ refused 9 values
      ↔ ((is_receiver limit s live working hold ≡ true) × (length routes % 6 ≡ 0) × (has_table s.table ≡ true) × (length states < route_count routes) × (values ≡ route_count routes ∷ []))
  list-9-exactly values = (
    go cases,
    λ h. sym (ap (λ (x : Encoded). x.says) (short-list limit s live working hold routes states h.0 h.1 h.2 h.3)) ∙ ap (refused 9) (sym h.4),
  )
    where
      go : {l : Encoded} → Case l → l.says ≡ refused 9 values →
          (is_receiver limit s live working hold ≡ true) × (length routes % 6 ≡ 0) × (has_table s.table ≡ true) × (length states < route_count routes) × (values ≡ route_count routes ∷ [])
      go (PeerCase.short p q t l) e = (p, q, t, l, cc)
      go (PeerCase.shapeless p) e = absurd (other 22 9 (λ i. omega arith) e)
      go (PeerCase.not_sixes p q) e = absurd (other 22 9 (λ i. omega arith) e)
      go (PeerCase.untabled p q t) e = absurd (other 21 9 (λ i. omega arith) e)
      go (PeerCase.answered a) e = absurd (unlike (sym e))

  -- ---- what is left

  -- a refusal keeps every state that stood there
  pub refused-keeps-states : (k : ℕ) (values : List ℕ) → left.says ≡ refused k values → left.out ≡ states
  refused-keeps-states k values = go cases
    where
      go : {l : Encoded} → Case l → l.says ≡ refused k values → l.out ≡ states
      go (PeerCase.shapeless p) e = refl
      go (PeerCase.not_sixes p q) e = refl
      go (PeerCase.untabled p q t) e = refl
      go (PeerCase.short p q t l) e = refl
      go (PeerCase.answered a) e = absurd (unlike (sym e))

  module _ (n : ℕ) (e : left.says ≡ written n) where
    pub answered-leaves : left.out ≡ states_of (validate_says limit s live working hold) routes ++ drop n states
    answered-leaves =
        let w = (answered-exactly n).0 e in
        let a = w.0 in
        sym (ap (λ (x : Encoded). x.out) (answered-list limit s live working hold routes states a.shape a.sixes a.table a.fits))
        ∙ ap (λ (m : ℕ). states_of (validate_says limit s live working hold) routes ++ drop m states) (sym w.1)

    many : length (states_of (validate_says limit s live working hold) routes) ≡ n
    many = states-length (validate_says limit s live working hold) (route_count routes) routes ∙ sym ((answered-exactly n).0 e).1

    fit : n ≤ length states
    fit = omega (arith, ((answered-exactly n).0 e).0.fits, ((answered-exactly n).0 e).1)

    -- each state is what the single question gives for that route; 23 where the six numbers are no route
    pub each-is-the-question : (i d : ℕ) → i < n → get_or left.out i d ≡ place_of (validate_says limit s live working hold) (route_of (six_at routes i))
    each-is-the-question i d l =
        ap (λ (o : List ℕ). get_or o i d) answered-leaves
        ∙ get_or-append (states_of (validate_says limit s live working hold) routes) (drop n states) d i (omega (arith, many))
        ∙ state-at (validate_says limit s live working hold) (route_count routes) routes i d (omega (arith, ((answered-exactly n).0 e).1))

    -- what stands behind them stays
    pub rest-stays : drop n left.out ≡ drop n states
    rest-stays = ap (drop n) answered-leaves ∙ drop_at (states_of (validate_says limit s live working hold) routes) (drop n states) n many

    long : length left.out ≡ length states
    long = ap length answered-leaves ∙ length-append (states_of (validate_says limit s live working hold) routes) (drop n states) ∙ omega (arith, many, length-drop n states, fit)

  -- and the list is as long as it was
  pub list-keeps-length : length left.out ≡ length states
  list-keeps-length = go left.says refl
    where
      go : (w : Writing) → left.says ≡ w → length left.out ≡ length states
      go (written n) e = long n e
      go (refused k values) e = ap length (refused-keeps-states k values e)

  -- the front is the list's states
  pub front-is : (n : ℕ) → left.says ≡ written n → take n left.out ≡ states_of (validate_says limit s live working hold) routes
  front-is n e = ap (take n) (answered-leaves n e) ∙ take_at (states_of (validate_says limit s live working hold) routes) (drop n states) n (many n e)

-- ---- the call

-- answers that say the same are the same
same_answer : (r r' : Result ℕ PeerError) → peer_said r ≡ peer_said r' → r ≡ r'
same_answer r r' e = sym (peer-back r) ∙ ap peer_of e ∙ peer-back r'

-- a refusal has a number
numbered : (error : PeerError) → (k : ℕ) × (values : List ℕ) × (peer_refusal error ≡ refused k values)
numbered OutOfShape = (22, [], refl)
numbered NoTable = (21, [], refl)
numbered (StatesShort needed) = (9, needed ∷ [], refl)

module _ (κs : Lfts 5) (a : ArgsD signature κs) where
  abbrev session : Session
  session = a.0

  abbrev live_in : List ℕ
  live_in = a.1.0.now

  abbrev working-in : List ℕ
  working-in = a.1.1.0.now

  abbrev hold-in : List ℕ
  hold-in = a.1.1.1.0.now

  abbrev routes-in : List ℕ
  routes-in = a.1.1.1.1.0.now

  abbrev states-in : List ℕ
  states-in = a.1.1.1.1.1.0.now

  -- the single question in this memory
  abbrev asks : Route → RouteSays
  asks = validate_says session.life.limit session live_in working-in hold-in

  abbrev shaped : Bool
  shaped = is_receiver session.life.limit session live_in working-in hold-in

  abbrev leaves : Encoded
  leaves = peer_leaves session.life.limit session live_in working-in hold-in routes-in states-in

  module _ (r : Result ℕ PeerError) (s : _) (p : reads.Post κs a r s) where
    abbrev states-out : List ℕ
    states-out = s.1.1.1.1.1.0.now

    says : peer_said r ≡ leaves.says
    says = ap (λ (x : Encoded). x.says) p

    -- an answer is given exactly where the definition says so
    given : (r' : Result ℕ PeerError) → (r ≡ r') ↔ (leaves.says ≡ peer_said r')
    given r' = (λ e. sym says ∙ ap peer_said e, λ e. same_answer r r' (says ∙ e))

    -- answered exactly where nothing stands in the way, with the number of routes, those with 23 counted
    pub call-answered-exactly : (n : ℕ) → (r ≡ Ok n) ↔ (Answerable session.life.limit session live_in working-in hold-in routes-in states-in × (6 * n ≡ length routes-in))
    call-answered-exactly n = (
      (λ e. let w = (answered-exactly session.life.limit session live_in working-in hold-in routes-in states-in n).0 ((given (Ok n)).0 e) in (w.0, omega (arith, w.1, w.0.sixes))),
      λ h. (given (Ok n)).1 ((answered-exactly session.life.limit session live_in working-in hold-in routes-in states-in n).1 (h.0, omega (arith, h.1))),
    )

    -- out of shape exactly without receiver shape, or where the numbers are not in sixes
    pub call-22-exactly : (r ≡ Err OutOfShape) ↔ ((shaped ≡ false) ⊎ (length routes-in % 6 ≡ 0 → ⊥))
    call-22-exactly = (
      (λ e. (list-22-exactly session.life.limit session live_in working-in hold-in routes-in states-in).0 ((given (Err OutOfShape)).0 e)),
      λ h. (given (Err OutOfShape)).1 ((list-22-exactly session.life.limit session live_in working-in hold-in routes-in states-in).1 h),
    )

    -- then no table exactly without one
    pub call-21-exactly : (r ≡ Err NoTable) ↔ ((shaped ≡ true) × (length routes-in % 6 ≡ 0) × (session.table ≡ None))
    call-21-exactly = (
      (λ e. (list-21-exactly session.life.limit session live_in working-in hold-in routes-in states-in).0 ((given (Err NoTable)).0 e)),
      λ h. (given (Err NoTable)).1 ((list-21-exactly session.life.limit session live_in working-in hold-in routes-in states-in).1 h),
    )

    -- then too short exactly where there are fewer states than routes, with how many routes there are
    pub call-9-exactly : (k : ℕ) → (r ≡ Err (StatesShort k))
        ↔ ((shaped ≡ true) × (length routes-in % 6 ≡ 0) × (has_table session.table ≡ true) × (length states-in < k) × (6 * k ≡ length routes-in))
    call-9-exactly k = (
      (λ e.
          let w = (list-9-exactly session.life.limit session live_in working-in hold-in routes-in states-in (k ∷ [])).0 ((given (Err (StatesShort k))).0 e) in
          let many : k ≡ route_count routes-in = ap (λ (l : List ℕ). get_or l 0 0) w.4 in
          (w.0, w.1, w.2, omega (arith, w.3, many), omega (arith, many, w.1))),
      λ h.
          let many : k ≡ route_count routes-in = omega (arith, h.4) in
          (given (Err (StatesShort k))).1 ((list-9-exactly session.life.limit session live_in working-in hold-in routes-in states-in (k ∷ [])).1 (h.0, h.1, h.2, omega (arith, h.3, many), ap (λ (n : ℕ). n ∷ []) many)),
    )

    -- the list of states is as long as it was
    pub call-keeps-length : length states-out ≡ length states-in
    call-keeps-length = ap (λ (x : Encoded). length x.out) p ∙ list-keeps-length session.life.limit session live_in working-in hold-in routes-in states-in

    -- a refused call keeps every state that stood there
    pub refused-call-keeps : (error : PeerError) → r ≡ Err error → states-out ≡ states-in
    refused-call-keeps error e =
        let w = numbered error in
        ap (λ (x : Encoded). x.out) p
        ∙ refused-keeps-states session.life.limit session live_in working-in hold-in routes-in states-in w.0 w.1 ((given (Err error)).0 e ∙ w.2)

    module _ (n : ℕ) (e : r ≡ Ok n) where
      said : leaves.says ≡ written n
      said = (given (Ok n)).0 e

      -- an answered one leaves what stands behind the states
      pub answered-call-rest : drop n states-out ≡ drop n states-in
      answered-call-rest = ap (λ (x : Encoded). drop n x.out) p ∙ rest-stays session.life.limit session live_in working-in hold-in routes-in states-in n said

      -- and its front is the list's states
      pub answered-call-front : take n states-out ≡ states_of asks routes-in
      answered-call-front = ap (λ (x : Encoded). take n x.out) p ∙ front-is session.life.limit session live_in working-in hold-in routes-in states-in n said

      module _ (i d : ℕ) (l : i < n) where
        place : get_or states-out i d ≡ place_of asks (route_of (six_at routes-in i))
        place = ap (λ (x : Encoded). get_or x.out i d) p ∙ each-is-the-question session.life.limit session live_in working-in hold-in routes-in states-in n said i d l

        answerable : Answerable session.life.limit session live_in working-in hold-in routes-in states-in
        answerable = ((call-answered-exactly n).0 e).0

        -- in range a route's place has a state, so 23 stands exactly where six numbers are no route
        low : (q : Route) → q.length ≤ longest_in q.prefix → place_of asks (Some q) ≡ 23 → ⊥
        low q short w = small (state_of q (contents session.live live_in)) (sym (ap says_number (shaped-validate session.life.limit session live_in working-in hold-in q answerable.shape answerable.table short)) ∙ w)
          where
            small : (x : RouteState) → state_number x ≡ 23 → ⊥
            small RouteState.NotFound h = omega arith
            small RouteState.Valid h = omega arith
            small RouteState.Invalid h = omega arith

        pub call-23-exactly : (get_or states-out i d ≡ 23) ↔ (route_of (six_at routes-in i) ≡ None)
        call-23-exactly = (λ w. go (route_of (six_at routes-in i)) refl (sym place ∙ w), λ f. place ∙ ap (place_of asks) f)
          where
            go : (f : Option Route) → route_of (six_at routes-in i) ≡ f → place_of asks f ≡ 23 → route_of (six_at routes-in i) ≡ None
            go None f w = f
            go (Some q) f w = absurd (low q (numbers-of-route (six_at routes-in i) q f).1 w)

        -- where they are a route's numbers, be it too long, the place has the number of what `validate` answers when it is asked of that route in the same memory
        pub each-is-the-call : (q : Route) → six_at routes-in i ≡ numbers_of q → q.length < 65536 →
            (κs' : Lfts 3) (a' : ArgsD question-signature κs') (answer : Result RouteState ValidateError) (s' : _) → question.Post κs' a' answer s' →
            a'.0 ≡ session → a'.1.0.now ≡ live_in → a'.1.1.0.now ≡ working-in → a'.1.1.1.0.now ≡ hold-in → a'.1.1.1.1.0 ≡ q →
            get_or states-out i d ≡ says_number (route_said answer)
        each-is-the-call q numbers byte κs' a' answer s' p' e0 e1 e2 e3 e4 =
            place ∙ ap (λ (m : List ℕ). place_of asks (route_of m)) numbers ∙ by_length (leb q.length (longest_in q.prefix)) refl
            ∙ ap says_number (sym (p' ∙ (λ k. validate_says (e0 k).life.limit (e0 k) (e1 k) (e2 k) (e3 k) (e4 k))))
          where
            by_length : (b : Bool) → leb q.length (longest_in q.prefix) ≡ b → place_of asks (route_of (numbers_of q)) ≡ says_number (asks q)
            by_length true h = ap (place_of asks) (route-of-numbers q (leb-true _ _ h))
            by_length false h =
                let over = leb-false q.length (longest_in q.prefix) h in
                ap (place_of asks) (too-long-unknown q byte over)
                ∙ sym (ap says_number (too-long-validate session.life.limit session live_in working-in hold-in q answerable.shape answerable.table over))

-- a peer cut in two lists: what two calls leave, one behind the other, is what one call leaves of both
pub calls-join : (κs : Lfts 5) (a : ArgsD signature κs) (r : Result ℕ PeerError) (s : _) → reads.Post κs a r s → (n : ℕ) → r ≡ Ok n →
    (κs' : Lfts 5) (a' : ArgsD signature κs') (r' : Result ℕ PeerError) (s' : _) → reads.Post κs' a' r' s' → (n' : ℕ) → r' ≡ Ok n' →
    (κs'' : Lfts 5) (a'' : ArgsD signature κs'') (r'' : Result ℕ PeerError) (s'' : _) → reads.Post κs'' a'' r'' s'' → (n'' : ℕ) → r'' ≡ Ok n'' →
    asks κs a ≡ asks κs'' a'' → asks κs' a' ≡ asks κs'' a'' → routes-in κs'' a'' ≡ routes-in κs a ++ routes-in κs' a' →
    take n'' s''.1.1.1.1.1.0.now ≡ take n s.1.1.1.1.1.0.now ++ take n' s'.1.1.1.1.1.0.now
calls-join κs a r s p n e κs' a' r' s' p' n' e' κs'' a'' r'' s'' p'' n'' e'' same same' joined =
    answered-call-front κs'' a'' r'' s'' p'' n'' e''
    ∙ ap (states_of (asks κs'' a'')) joined
    ∙ list-joins (asks κs'' a'') (routes-in κs a) (routes-in κs' a') ((call-answered-exactly κs a r s p n).0 e).0.sixes
    ∙ (λ k. states_of (sym same k) (routes-in κs a) ++ states_of (sym same' k) (routes-in κs' a'))
    ∙ (λ k. sym (answered-call-front κs a r s p n e) k ++ sym (answered-call-front κs' a' r' s' p' n' e') k)
