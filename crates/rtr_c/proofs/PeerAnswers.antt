-- validate_all by its answer (specs/Answers.antt), and each state beside what hingemoss_validate says of that route alone. By what is found, and by the laws of rtr_origin. Assumes nothing.
use Rattle.std.specs.Prelude.{Option, Some, None}
use Prim.Native.Nat.{ℕ, ◌+◌, ◌*◌, ◌%◌, ◌≤◌, ◌<◌}
use mathlib.Core.Bool.{Bool, true, false, cond, true≢false}
use mathlib.Core.List.{List, [], ◌++◌}
use mathlib.Core.Path.{◌≡◌, refl, sym, ap, ◌∙◌, subst}
use native.Mathlib.Omega.{arith}
use borrow.Author.Tests.{eqb-true, eq-eqb}
use lib.Dec.{eqb}
use lib.ListN.{length, get_or, take, drop, length-take, length-drop, get_or-append}
use lib.Seq.{take_at}
use contract.Lifetimes.{Lfts}
use borrow.Fn.World.{ArgsD}
use Rattle.rtr_receiver.specs.History.{has_table}
use Rattle.rtr_receiver.specs.Promises.{is_receiver}
use Rattle.rtr_receiver.specs.declared.Session.{Session}
use Rattle.rtr_receiver.proofs.Shape.{shape-exactly}
use Rattle.rtr_numbers.specs.Back.{session_of}
use Rattle.rtr_encode.specs.Encode.{Encoded}
use Rattle.rtr_origin.specs.Numbers.{route_of}
use Rattle.rtr_origin.specs.Promises.{RouteSays, validate_says}
use Rattle.rtr_origin.specs.Peer.{says_number, place_of, states_of, route_count}
use Rattle.rtr_origin.proofs.Lists.{six_at, states-length}
use Rattle.rtr_origin.proofs.PeerLaws.{state-at, list-joins}
use Rattle.rtr_origin.proofs.PeerAnswers.{PeerCase, peer-cases}
use Rattle.rtr_c.specs.Calls.{EncodeLeft, encode_gives, encode_left, ValidateLeft, validate_gives, validate_left, validate_found, validate_c, validate_all_found, validate_all_c}
use Rattle.rtr_c.specs.Answers.{AskableAll, ValidateAllAnswers}
use Rattle.rtr_c.specs.contracts.hingemoss_validate_all.{signature as all-signature}
use Rattle.rtr_c.proofs.hingemoss_validate_all.Reads as all-reads
use Rattle.rtr_c.specs.contracts.hingemoss_validate.{signature as question-signature}
use Rattle.rtr_c.proofs.hingemoss_validate.Reads as question-reads
use Rattle.rtr_origin.specs.declared.Route.{Route}

-- one route's answer as a byte: the state, or the refusal
abbrev pub byte_of : ValidateLeft → ℕ
byte_of left = cond (eqb left.answer 0) left.state left.answer

-- the states of a list by what was found in the session's numbers
abbrev states_by : Option Session → List ℕ → List ℕ → List ℕ → List ℕ → List ℕ
states_by (Some s) live working hold routes = states_of (validate_says s.life.limit s live working hold) routes
states_by None live working hold routes = []

joined_by : (f : Option Session) (live working hold a b : List ℕ) → length a % 6 ≡ 0 → states_by f live working hold (a ++ b) ≡ states_by f live working hold a ++ states_by f live working hold b
joined_by (Some s) live working hold a b e = list-joins (validate_says s.life.limit s live working hold) a b e
joined_by None live working hold a b e = refl

module _ (session live working hold routes states : List ℕ) where
  abbrev Answers : EncodeLeft → Type 0
  Answers = ValidateAllAnswers session live working hold routes states

  askable : (s : Session) → session_of session ≡ Some s → is_receiver s.life.limit s live working hold ≡ true → length routes % 6 ≡ 0 → AskableAll session live working hold routes s
  askable s k e six = record { known = k; sixes = six; no-reason = λ reason. true≢false (sym e ∙ (shape-exactly s.life.limit s live working hold).1 reason) }

  -- the call is one of these, whatever it is lent
  pub validate-all-answers : Answers (validate_all_c session live working hold routes states)
  unfolding validate_all_c
  validate-all-answers = by-found (session_of session) refl
    where
      by-case : (s : Session) → session_of session ≡ Some s → {left : Encoded} → PeerCase s.life.limit s live working hold routes states left → Answers (encode_left left)
      by-case s k (PeerCase.shapeless e) = ValidateAllAnswers.shapeless s k ((shape-exactly s.life.limit s live working hold).0 e)
      by-case s k (PeerCase.not_sixes e h) = ValidateAllAnswers.not_sixes s k h
      by-case s k (PeerCase.untabled e six t) = ValidateAllAnswers.untabled s (askable s k e six) t
      by-case s k (PeerCase.short e six t l) = ValidateAllAnswers.short s (askable s k e six) t l
      by-case s k (PeerCase.answered a) = ValidateAllAnswers.answered s (askable s k a.shape a.sixes) a.table a.fits

      by-found : (x : Option Session) → session_of session ≡ x → Answers (validate_all_found x live working hold routes states)
      by-found (Some s) k = by-case s k (peer-cases s.life.limit s live working hold routes states)
      by-found None k = ValidateAllAnswers.unknown k

  -- a call that does not answer 0 leaves every state that stood there
  pub refused-keeps-validate-all : ((validate_all_c session live working hold routes states).answer ≡ 0 → ⊥) → (validate_all_c session live working hold routes states).out ≡ states
  refused-keeps-validate-all = go validate-all-answers
    where
      go : {left : EncodeLeft} → Answers left → (left.answer ≡ 0 → ⊥) → left.out ≡ states
      go (ValidateAllAnswers.unknown u) refuses = refl
      go (ValidateAllAnswers.shapeless s k reason) refuses = refl
      go (ValidateAllAnswers.not_sixes s k h) refuses = refl
      go (ValidateAllAnswers.untabled s a t) refuses = refl
      go (ValidateAllAnswers.short s a t l) refuses = refl
      go (ValidateAllAnswers.answered s a t l) refuses = absurd (refuses refl)

  -- a session in memory of receiver shape, lent routes in sixes, is never refused by 22
  pub shaped-validate-all : (s : Session) → AskableAll session live working hold routes s → (validate_all_c session live working hold routes states).answer ≡ 22 → ⊥
  shaped-validate-all s a = go validate-all-answers
    where
      differ : None ≡ Some s → ⊥
      differ e = let z : ◌≡◌ {A = ℕ} 0 1 = cc in omega arith

      go : {left : EncodeLeft} → Answers left → left.answer ≡ 22 → ⊥
      go (ValidateAllAnswers.unknown u) e = differ (sym u ∙ a.known)
      go (ValidateAllAnswers.shapeless o k reason) e = let z : Some o ≡ Some s = sym k ∙ a.known in let same : o ≡ s = cc in a.no-reason (rw same at reason)
      go (ValidateAllAnswers.not_sixes o k h) e = h a.sixes
      go (ValidateAllAnswers.untabled o k t) e = omega (arith, e)
      go (ValidateAllAnswers.short o k t l) e = omega (arith, e)
      go (ValidateAllAnswers.answered o k t l) e = omega (arith, e)

  -- ---- each state

  -- what stands in place i of an answered list is what `hingemoss_validate` answers of the six numbers there, in the same memory
  pub c-each-is-the-question : (validate_all_c session live working hold routes states).answer ≡ 0 → (i d : ℕ) → i < (validate_all_c session live working hold routes states).written →
      get_or (validate_all_c session live working hold routes states).out i d ≡ byte_of (validate_c session live working hold (six_at routes i))
  unfolding validate_c
  c-each-is-the-question = go validate-all-answers
    where
      said : (x : RouteSays) → says_number x ≡ byte_of (validate_left x)
      said (RouteSays.state x) = refl
      said (RouteSays.refused k) = zero_or (eqb k 0) refl
        where
          zero_or : (b : Bool) → eqb k 0 ≡ b → k ≡ cond b 0 k
          zero_or true e = eqb-true k 0 e
          zero_or false e = refl

      shape : (s : Session) → AskableAll session live working hold routes s → (b : Bool) → is_receiver s.life.limit s live working hold ≡ b → is_receiver s.life.limit s live working hold ≡ true
      shape s a true e = e
      shape s a false e = absurd (a.no-reason ((shape-exactly s.life.limit s live working hold).0 e))

      one : (s : Session) → is_receiver s.life.limit s live working hold ≡ true → has_table s.table ≡ true → (f : Option Route) →
          place_of (validate_says s.life.limit s live working hold) f ≡ byte_of (validate_found (Some s) f live working hold)
      one s e t (Some q) = said (validate_says s.life.limit s live working hold q)
      one s e t None = rw (e, t)

      six-long : (i : ℕ) → 6 * i + 6 ≤ length routes → length (six_at routes i) ≡ 6
      six-long i h = simp (length-take, length-drop) (omega arith)

      alone : (s : Session) → AskableAll session live working hold routes s → has_table s.table ≡ true → (i : ℕ) → i < route_count routes →
          place_of (validate_says s.life.limit s live working hold) (route_of (six_at routes i)) ≡ byte_of (validate_c session live working hold (six_at routes i))
      alone s a t i l =
          one s (shape s a (is_receiver s.life.limit s live working hold) refl) t (route_of (six_at routes i))
          ∙ sym (λ k. byte_of (cond (eq-eqb (length (six_at routes i)) 6 (six-long i (omega arith)) k) (validate_found (a.known k) (route_of (six_at routes i)) live working hold) (validate_gives 22 0)))

      go : {left : EncodeLeft} → Answers left → left.answer ≡ 0 → (i d : ℕ) → i < left.written → get_or left.out i d ≡ byte_of (validate_c session live working hold (six_at routes i))
      go (ValidateAllAnswers.unknown u) e i d l = absurd (omega (arith, e))
      go (ValidateAllAnswers.shapeless s k reason) e i d l = absurd (omega (arith, e))
      go (ValidateAllAnswers.not_sixes s k h) e i d l = absurd (omega (arith, e))
      go (ValidateAllAnswers.untabled s a t) e i d l = absurd (omega (arith, e))
      go (ValidateAllAnswers.short s a t m) e i d l = absurd (omega (arith, e))
      go (ValidateAllAnswers.answered s a t m) e i d l =
          let ask = validate_says s.life.limit s live working hold in
          get_or-append (states_of ask routes) (drop (route_count routes) states) d i (omega (arith, states-length ask (route_count routes) routes))
          ∙ state-at ask (route_count routes) routes i d l
          ∙ alone s a t i l

  -- the front of an answered list is its states
  front-is : (validate_all_c session live working hold routes states).answer ≡ 0 →
      (length routes % 6 ≡ 0)
      × (take (validate_all_c session live working hold routes states).written (validate_all_c session live working hold routes states).out ≡ states_by (session_of session) live working hold routes)
  front-is = go validate-all-answers
    where
      go : {left : EncodeLeft} → Answers left → left.answer ≡ 0 → (length routes % 6 ≡ 0) × (take left.written left.out ≡ states_by (session_of session) live working hold routes)
      go (ValidateAllAnswers.unknown u) e = absurd (omega (arith, e))
      go (ValidateAllAnswers.shapeless s k reason) e = absurd (omega (arith, e))
      go (ValidateAllAnswers.not_sixes s k h) e = absurd (omega (arith, e))
      go (ValidateAllAnswers.untabled s a t) e = absurd (omega (arith, e))
      go (ValidateAllAnswers.short s a t m) e = absurd (omega (arith, e))
      go (ValidateAllAnswers.answered s a t m) e =
          let ask = validate_says s.life.limit s live working hold in (
            a.sixes,
            take_at (states_of ask routes) (drop (route_count routes) states) (route_count routes) (states-length ask (route_count routes) routes)
                ∙ sym (ap (λ (f : Option Session). states_by f live working hold routes) a.known),
          )

-- ---- The calls

pub validate-all-call-answers : (κs : _) (a : _) (r : _) (s : _) → all-reads.Post κs a r s →
    ValidateAllAnswers a.0.now a.1.0.now a.1.1.0.now a.1.1.1.0.now a.1.1.1.1.0.now a.1.1.1.1.1.0.now (encode_gives r s.1.1.1.1.1.1.0.now s.1.1.1.1.1.0.now)
validate-all-call-answers κs a r s p =
    subst (ValidateAllAnswers a.0.now a.1.0.now a.1.1.0.now a.1.1.1.0.now a.1.1.1.1.0.now a.1.1.1.1.1.0.now) (sym p)
    (validate-all-answers a.0.now a.1.0.now a.1.1.0.now a.1.1.1.0.now a.1.1.1.1.0.now a.1.1.1.1.1.0.now)

-- an answer that is not 0 leaves every state that stood there
pub refused-call-keeps-states : (κs : _) (a : _) (r : _) (s : _) → all-reads.Post κs a r s → (r ≡ 0 → ⊥) → s.1.1.1.1.1.0.now ≡ a.1.1.1.1.1.0.now
refused-call-keeps-states κs a r s p refuses =
    ap (λ (x : EncodeLeft). x.out) p
    ∙ refused-keeps-validate-all a.0.now a.1.0.now a.1.1.0.now a.1.1.1.0.now a.1.1.1.1.0.now a.1.1.1.1.1.0.now
    (λ e. refuses (ap (λ (x : EncodeLeft). x.answer) p ∙ e))

-- place i of an answered list has what `hingemoss_validate` answers, and writes as the state, when it is handed those six numbers and the same memory
pub c-each-is-the-call : (κs : Lfts 7) (a : ArgsD all-signature κs) (r : _) (s : _) → all-reads.Post κs a r s → r ≡ 0 →
    (κs' : Lfts 6) (a' : ArgsD question-signature κs') (r' : _) (s' : _) → question-reads.Post κs' a' r' s' →
    a'.0.now ≡ a.0.now → a'.1.0.now ≡ a.1.0.now → a'.1.1.0.now ≡ a.1.1.0.now → a'.1.1.1.0.now ≡ a.1.1.1.0.now →
    (i d : ℕ) → i < s.1.1.1.1.1.1.0.now → a'.1.1.1.1.0.now ≡ six_at a.1.1.1.1.0.now i →
    get_or s.1.1.1.1.1.0.now i d ≡ byte_of (validate_gives r' s'.1.1.1.1.1.0.now)
c-each-is-the-call κs a r s p e κs' a' r' s' p' e0 e1 e2 e3 i d l e4 =
    ap (λ (x : EncodeLeft). get_or x.out i d) p
    ∙ c-each-is-the-question a.0.now a.1.0.now a.1.1.0.now a.1.1.1.0.now a.1.1.1.1.0.now a.1.1.1.1.1.0.now (sym (ap (λ (x : EncodeLeft). x.answer) p) ∙ e) i d
    (omega (arith, l, ap (λ (x : EncodeLeft). x.written) p))
    ∙ ap byte_of (sym (p' ∙ (λ k. validate_c (e0 k) (e1 k) (e2 k) (e3 k) (e4 k))))

-- a peer cut in two lists: what two calls leave, one behind the other, is what one call leaves of both
pub c-calls-join : (κs : Lfts 7) (a : ArgsD all-signature κs) (r : _) (s : _) → all-reads.Post κs a r s → r ≡ 0 →
    (κs' : Lfts 7) (a' : ArgsD all-signature κs') (r' : _) (s' : _) → all-reads.Post κs' a' r' s' → r' ≡ 0 →
    (κs'' : Lfts 7) (a'' : ArgsD all-signature κs'') (r'' : _) (s'' : _) → all-reads.Post κs'' a'' r'' s'' → r'' ≡ 0 →
    a.0.now ≡ a''.0.now → a.1.0.now ≡ a''.1.0.now → a.1.1.0.now ≡ a''.1.1.0.now → a.1.1.1.0.now ≡ a''.1.1.1.0.now →
    a'.0.now ≡ a''.0.now → a'.1.0.now ≡ a''.1.0.now → a'.1.1.0.now ≡ a''.1.1.0.now → a'.1.1.1.0.now ≡ a''.1.1.1.0.now →
    a''.1.1.1.1.0.now ≡ a.1.1.1.1.0.now ++ a'.1.1.1.1.0.now →
    take s''.1.1.1.1.1.1.0.now s''.1.1.1.1.1.0.now ≡ take s.1.1.1.1.1.1.0.now s.1.1.1.1.1.0.now ++ take s'.1.1.1.1.1.1.0.now s'.1.1.1.1.1.0.now
c-calls-join κs a r s p e κs' a' r' s' p' e' κs'' a'' r'' s'' p'' e'' m0 m1 m2 m3 n0 n1 n2 n3 joined =
    let one = call-front κs a r s p e in
    let two = call-front κs' a' r' s' p' e' in
    (call-front κs'' a'' r'' s'' p'' e'').1
    ∙ ap (states_by (session_of a''.0.now) a''.1.0.now a''.1.1.0.now a''.1.1.1.0.now) joined
    ∙ joined_by (session_of a''.0.now) a''.1.0.now a''.1.1.0.now a''.1.1.1.0.now a.1.1.1.1.0.now a'.1.1.1.1.0.now one.0
    ∙ (λ k. states_by (session_of (sym m0 k)) (sym m1 k) (sym m2 k) (sym m3 k) a.1.1.1.1.0.now ++ states_by (session_of (sym n0 k)) (sym n1 k) (sym n2 k) (sym n3 k) a'.1.1.1.1.0.now)
    ∙ (λ k. sym one.1 k ++ sym two.1 k)
  where
    call-front : (κs : Lfts 7) (a : ArgsD all-signature κs) (r : _) (s : _) → all-reads.Post κs a r s → r ≡ 0 →
        (length a.1.1.1.1.0.now % 6 ≡ 0)
        × (take s.1.1.1.1.1.1.0.now s.1.1.1.1.1.0.now ≡ states_by (session_of a.0.now) a.1.0.now a.1.1.0.now a.1.1.1.0.now a.1.1.1.1.0.now)
    call-front κs a r s p e =
        let w = front-is a.0.now a.1.0.now a.1.1.0.now a.1.1.1.0.now a.1.1.1.1.0.now a.1.1.1.1.1.0.now (sym (ap (λ (x : EncodeLeft). x.answer) p) ∙ e) in
        (w.0, ap (λ (x : EncodeLeft). take x.written x.out) p ∙ w.1)
