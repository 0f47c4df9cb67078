-- Numbers that are no session's, and lent memory without receiver shape, are refused by 22, and then nothing changes. By the answer alone: a start, an ask or a
-- reconnect that does not answer 0 changes nothing, and neither does a feed that answers 22. When a start answers 0 (`c-start-exactly`); and 22 is for nothing else (`shaped-..`). Assumes nothing.
use Rattle.std.specs.Prelude.{Option, Some, None}
use Prim.Native.Nat.{ℕ, ◌*◌, ◌≤◌}
use mathlib.Core.Bool.{Bool, true, false, cond}
use mathlib.Core.List.{List}
use mathlib.Core.Logic.{◌↔◌}
use mathlib.Core.Path.{◌≡◌, refl, sym, ap, ◌∙◌}
use native.Mathlib.Omega.{arith}
use borrow.Author.Tests.{leb-true, leb-false, eqb-true, eq-eqb}
use lib.Dec.{eqb, leb}
use lib.ListN.{length}
use Rattle.rtr_models.specs.Codes.{version_found}
use Rattle.rtr_models.specs.declared.RtrProtocolVersion.{RtrProtocolVersion}
use Rattle.rtr_encode.specs.Encode.{Writing, Encoded}
use Rattle.rtr_encode.specs.Answers.{number_of}
use Rattle.rtr_room.specs.Room.{records}
use Rattle.rtr_listing.specs.Listing.{listing}
use Rattle.rtr_listing.specs.Promises.{puts, is_listed}
use Rattle.rtr_listing.proofs.Laws.{written_is, short-is, refused-is, listed-is, receiver-is-listed}
use Rattle.rtr_receiver.specs.Promises.{Ending, FeedSays, StartSays, AskSays, ReconnectSays, NotifySays, is_receiver, leaves, feed_says, start_says, full_ask_says, change_ask_says, record_limit}
use Rattle.rtr_receiver.proofs.Laws as receiver
use Rattle.rtr_receiver.proofs.Shaped as shaped
use Rattle.rtr_receiver.specs.declared.Session.{Session}
use Rattle.rtr_numbers.specs.Numbers.{left_numbers, session_size}
use Rattle.rtr_numbers.specs.Back.{session_of}
use Rattle.rtr_pdu_numbers.specs.Back.{pdu_of}
use Rattle.rtr_numbers.proofs.Laws.{numbers-of-session}
use Rattle.rtr_origin.specs.Numbers.{route_of}
use Rattle.rtr_origin.proofs.Shaped as origin
use Rattle.rtr_origin.proofs.PeerAnswers as peers
use Rattle.rtr_c.specs.Calls.{start_gives, start_left, start_found, start_c, ask_gives, ask_left, ask_found, full_ask_c, change_ask_c, feed_gives, feed_left, feed_found, feed_c, reconnect_gives, reconnect_left, reconnect_found, reconnect_c, notify_gives, notify_left, notify_found, notify_c, encode_gives, encode_left, encode_found, encode_c, listing_found, listing_c, validate_gives, validate_left, validate_found, validate_c, validate_all_found, validate_all_c}
use Rattle.rtr_models.specs.declared.RtrPdu.{RtrPdu}
use Rattle.rtr_origin.specs.declared.Route.{Route}

-- numbers that are no session's
module _ (n live working hold : List ℕ) (none : session_of n ≡ None) where
  pub unknown-keeps-full-ask : (out : List ℕ) → full_ask_c n live working hold out ≡ ask_gives 22 n out
  unfolding full_ask_c
  unknown-keeps-full-ask out = ap (λ (x : Option Session). ask_found (λ (s : Session). full_ask_says s.life.limit s live working hold out) x n out) none

  pub unknown-keeps-change-ask : (out : List ℕ) → change_ask_c n live working hold out ≡ ask_gives 22 n out
  unfolding change_ask_c
  unknown-keeps-change-ask out = ap (λ (x : Option Session). ask_found (λ (s : Session). change_ask_says s.life.limit s live working hold out) x n out) none

  pub unknown-keeps-feed : (piece : List ℕ) → feed_c n live working hold piece ≡ feed_gives 22 n live working hold 0 0
  unfolding feed_c
  unknown-keeps-feed piece = ap (λ (x : Option Session). feed_found x n live working hold piece) none

  pub unknown-keeps-reconnect : reconnect_c n live working hold ≡ reconnect_gives 22 n working
  unfolding reconnect_c
  unknown-keeps-reconnect = ap (λ (x : Option Session). reconnect_found x n live working hold) none

  pub unknown-notify : notify_c n live working hold ≡ notify_gives 22 0
  unfolding notify_c
  unknown-notify = ap (λ (x : Option Session). notify_found x live working hold) none

  pub unknown-keeps-listing : (out : List ℕ) → listing_c n live out ≡ encode_gives 22 0 out
  unfolding listing_c
  unknown-keeps-listing out = ap (λ (x : Option Session). listing_found x live out) none

  pub unknown-keeps-validate-all : (routes states : List ℕ) → validate_all_c n live working hold routes states ≡ encode_gives 22 0 states
  unfolding validate_all_c
  unknown-keeps-validate-all routes states = ap (λ (x : Option Session). validate_all_found x live working hold routes states) none

  pub unknown-validate : (route : List ℕ) → validate_c n live working hold route ≡ validate_gives 22 0
  unfolding validate_c
  unknown-validate route = ap (λ (x : Option Session). cond (eqb (length route) 6) (validate_found x (route_of route) live working hold) (validate_gives 22 0)) none ∙ either (eqb (length route) 6)
    where
      either : (b : Bool) → cond b (validate_gives 22 0) (validate_gives 22 0) ≡ validate_gives 22 0
      either true = refl
      either false = refl

-- numbers that are no PDU's
pub unknown-keeps-output : (n payload out : List ℕ) → pdu_of n ≡ None → encode_c n payload out ≡ encode_gives 22 0 out
unfolding encode_c
unknown-keeps-output n payload out none = ap (λ (x : Option (RtrPdu × ℕ)). encode_found x payload out) none

-- a session in memory that is of no receiver's shape
pub shapeless-keeps-feed : (n live working hold piece : List ℕ) (s : Session) → session_of n ≡ Some s → is_receiver s.life.limit s live working hold ≡ false
    → feed_c n live working hold piece ≡ feed_gives 22 n live working hold 0 0
unfolding feed_c
shapeless-keeps-feed n live working hold piece s known e =
    ap (λ (x : Option Session). feed_found x n live working hold piece) known
    ∙ ap feed_left (receiver.refused-keeps-feed s.life.limit s live working hold piece e)
    ∙ ap (λ (k : List ℕ). record { answer = 22; session = k; live = live; working = working; held = hold; taken = 0; updates = 0 }) (sym (numbers-of-session n s known))

module _ (n live working hold : List ℕ) (s : Session) (known : session_of n ≡ Some s) (e : is_receiver s.life.limit s live working hold ≡ false) where
  pub shapeless-keeps-full-ask : (out : List ℕ) → full_ask_c n live working hold out ≡ ask_gives 22 n out
  unfolding full_ask_c
  shapeless-keeps-full-ask out =
      ap (λ (x : Option Session). ask_found (λ (t : Session). full_ask_says t.life.limit t live working hold out) x n out) known
      ∙ ap ask_left (shaped.shapeless-full-ask s.life.limit s live working hold e out)
      ∙ ap (λ (k : List ℕ). ask_gives 22 k out) (sym (numbers-of-session n s known))

  pub shapeless-keeps-change-ask : (out : List ℕ) → change_ask_c n live working hold out ≡ ask_gives 22 n out
  unfolding change_ask_c
  shapeless-keeps-change-ask out =
      ap (λ (x : Option Session). ask_found (λ (t : Session). change_ask_says t.life.limit t live working hold out) x n out) known
      ∙ ap ask_left (shaped.shapeless-change-ask s.life.limit s live working hold e out)
      ∙ ap (λ (k : List ℕ). ask_gives 22 k out) (sym (numbers-of-session n s known))

  pub shapeless-keeps-reconnect : reconnect_c n live working hold ≡ reconnect_gives 22 n working
  unfolding reconnect_c
  shapeless-keeps-reconnect =
      ap (λ (x : Option Session). reconnect_found x n live working hold) known
      ∙ ap reconnect_left (shaped.shapeless-reconnect s.life.limit s live working hold e)
      ∙ ap (λ (k : List ℕ). reconnect_gives 22 k working) (sym (numbers-of-session n s known))

  pub shapeless-notify : notify_c n live working hold ≡ notify_gives 22 0
  unfolding notify_c
  shapeless-notify = ap (λ (x : Option Session). notify_found x live working hold) known ∙ ap notify_left (shaped.shapeless-notify s.life.limit s live working hold e)

  pub shapeless-keeps-validate-all : (routes states : List ℕ) → validate_all_c n live working hold routes states ≡ encode_gives 22 0 states
  unfolding validate_all_c
  shapeless-keeps-validate-all routes states =
      ap (λ (x : Option Session). validate_all_found x live working hold routes states) known ∙ sym (ap encode_left (peers.shapeless-list s.life.limit s live working hold routes states e))

  pub shapeless-validate : (route : List ℕ) → validate_c n live working hold route ≡ validate_gives 22 0
  unfolding validate_c
  shapeless-validate route =
      ap (λ (x : Option Session). cond (eqb (length route) 6) (validate_found x (route_of route) live working hold) (validate_gives 22 0)) known
      ∙ either (eqb (length route) 6) (by-route (route_of route))
    where
      by-route : (f : Option Route) → validate_found (Some s) f live working hold ≡ validate_gives 22 0
      by-route (Some q) = ap validate_left (origin.shapeless-validate s.life.limit s live working hold q e)
      by-route None = rw e

      either : (b : Bool) → validate_found (Some s) (route_of route) live working hold ≡ validate_gives 22 0
          → cond b (validate_found (Some s) (route_of route) live working hold) (validate_gives 22 0) ≡ validate_gives 22 0
      either true h = h
      either false h = refl

-- a listing asks less of memory: the live room's rules, and a table where it has records
pub shapeless-keeps-listing : (n live out : List ℕ) (s : Session) → session_of n ≡ Some s → is_listed s.life.limit s live ≡ false → listing_c n live out ≡ encode_gives 22 0 out
unfolding listing_c
shapeless-keeps-listing n live out s known e =
    ap (λ (x : Option Session). listing_found x live out) known ∙ ap encode_left (refused-is s.life.limit s live out e)

-- ---- By the answer alone

-- a start that does not answer 0 answers 22 and leaves the numbers and both rooms
pub refused-keeps-start : (version : ℕ) (n live working hold : List ℕ) → ((start_c version n live working hold).answer ≡ 0 → ⊥) → start_c version n live working hold ≡ start_gives 22 n live working
unfolding start_c
refused-keeps-start version n live working hold = by_length (eqb (length n) session_size)
  where
    started : (v : _) (x : StartSays) → start_says record_limit v live working hold ≡ x → ((start_left x n).answer ≡ 0 → ⊥) → start_left x n ≡ start_gives 22 n live working
    started v (StartSays.started left) q refuses = absurd (refuses refl)
    started v (StartSays.refused_start k l w) q refuses =
        let kept = receiver.refused-keeps-start record_limit v live working hold l w k q in
        λ i. start_gives (kept.2 i) n (kept.0 i) (kept.1 i)

    by-version : (x : Option RtrProtocolVersion) → ((start_found x n live working hold).answer ≡ 0 → ⊥) → start_found x n live working hold ≡ start_gives 22 n live working
    by-version (Some v) refuses = started v (start_says record_limit v live working hold) refl refuses
    by-version None refuses = refl

    by_length : (b : Bool) → ((cond b (start_found (version_found version) n live working hold) (start_gives 22 n live working)).answer ≡ 0 → ⊥) → cond b (start_found (version_found version) n live working hold) (start_gives 22 n live working) ≡ start_gives 22 n live working
    by_length true refuses = by-version (version_found version) refuses
    by_length false refuses = refl

-- a start answers 0 exactly where there are as many numbers as a session has, the version's number is known, both rooms are 6 * record_limit long and the hold has 8 bytes or more
pub c-start-exactly : (version : ℕ) (n live working hold : List ℕ) →
    ((start_c version n live working hold).answer ≡ 0)
    ↔ ((length n ≡ session_size) × ((v : RtrProtocolVersion) × (version_found version ≡ Some v)) × (length live ≡ 6 * record_limit) × (length working ≡ 6 * record_limit) × (8 ≤ length hold))
unfolding start_c
c-start-exactly version n live working hold = (by_length (eqb (length n) session_size) refl, back)
  where
    Needs : Type 0
    Needs = (length n ≡ session_size) × ((v : RtrProtocolVersion) × (version_found version ≡ Some v)) × (length live ≡ 6 * record_limit) × (length working ≡ 6 * record_limit) × (8 ≤ length hold)

    by-says : length n ≡ session_size → (v : RtrProtocolVersion) → version_found version ≡ Some v → (x : StartSays) → start_says record_limit v live working hold ≡ x → (start_left x n).answer ≡ 0 → Needs
    by-says size v e (StartSays.started left) q z = let has = (receiver.start-exactly record_limit v live working hold left).0 q in (size, (v, e), has.1, has.2, has.3)
    by-says size v e (StartSays.refused_start k l w) q z = absurd (omega (arith, z, (receiver.refused-keeps-start record_limit v live working hold l w k q).2))

    by-version : length n ≡ session_size → (x : Option RtrProtocolVersion) → version_found version ≡ x → (start_found x n live working hold).answer ≡ 0 → Needs
    by-version size (Some v) e z = by-says size v e (start_says record_limit v live working hold) refl z
    by-version size None e z = absurd (omega arith)

    by_length : (b : Bool) → eqb (length n) session_size ≡ b → (cond b (start_found (version_found version) n live working hold) (start_gives 22 n live working)).answer ≡ 0 → Needs
    by_length true size z = by-version (eqb-true (length n) session_size size) (version_found version) refl z
    by_length false size z = absurd (omega arith)

    back : Needs → (start_c version n live working hold).answer ≡ 0
    back h =
        (λ i. (cond (eq-eqb (length n) session_size h.0 i) (start_found (h.1.1 i) n live working hold) (start_gives 22 n live working)).answer)
        ∙ ap (λ (x : StartSays). (start_left x n).answer) ((receiver.start-exactly record_limit h.1.0 live working hold _).1 (refl, h.2, h.3, h.4, refl))

-- an ask that does not answer 0 leaves the numbers and the output: by 22, 20 or 9, a change ask by 21 too
module _ (n live working hold out : List ℕ) (ask : Session → AskSays) (law : (s : Session) (k : ℕ) (x : List ℕ) → (ask s).says ≡ Writing.refused k x → ((ask s).out ≡ out) × ((ask s).left ≡ leaves s live working hold)) where
  refused-ask : (x : Option Session) → session_of n ≡ x → ((ask_found ask x n out).answer ≡ 0 → ⊥) → ask_found ask x n out ≡ ask_gives (ask_found ask x n out).answer n out
  refused-ask None e refuses = refl
  refused-ask (Some s) e refuses = go (ask s).says refl
    where
      go : (w : Writing) → (ask s).says ≡ w → ask_left (ask s) ≡ ask_gives (number_of (ask s).says) n out
      go (Writing.written k) q = absurd (refuses (ap number_of q))
      go (Writing.refused k x) q =
          let kept = law s k x q in
          let same = ap left_numbers kept.1 ∙ sym (numbers-of-session n s e) in
          λ i. ask_gives (number_of (ask s).says) (same i) (kept.0 i)

module _ (n live working hold : List ℕ) where
  pub refused-keeps-full-ask : (out : List ℕ) → ((full_ask_c n live working hold out).answer ≡ 0 → ⊥) → full_ask_c n live working hold out ≡ ask_gives (full_ask_c n live working hold out).answer n out
  unfolding full_ask_c
  refused-keeps-full-ask out =
      refused-ask n live working hold out (λ (s : Session). full_ask_says s.life.limit s live working hold out) (λ s k x q. receiver.refused-keeps-full s.life.limit s live working hold out k x q) (session_of n) refl

  pub refused-keeps-change-ask : (out : List ℕ) → ((change_ask_c n live working hold out).answer ≡ 0 → ⊥) → change_ask_c n live working hold out ≡ ask_gives (change_ask_c n live working hold out).answer n out
  unfolding change_ask_c
  refused-keeps-change-ask out =
      refused-ask n live working hold out (λ (s : Session). change_ask_says s.life.limit s live working hold out) (λ s k x q. receiver.refused-keeps-change s.life.limit s live working hold out k x q) (session_of n) refl

  -- a reconnect that does not answer 0 answers 22 and leaves the numbers and the working room
  pub refused-keeps-reconnect : ((reconnect_c n live working hold).answer ≡ 0 → ⊥) → reconnect_c n live working hold ≡ reconnect_gives 22 n working
  unfolding reconnect_c
  refused-keeps-reconnect refuses = go (session_of n) refl
    where
      by : (s : Session) → session_of n ≡ Some s → (b : Bool) → is_receiver s.life.limit s live working hold ≡ b → reconnect_c n live working hold ≡ reconnect_gives 22 n working
      by s e false t = shapeless-keeps-reconnect n live working hold s e t
      by s e true t = absurd (refuses (ap (λ (x : Option Session). (reconnect_found x n live working hold).answer) e ∙ ap (λ (r : ReconnectSays). r.number) (shaped.shaped-reconnect s.life.limit s live working hold t)))

      go : (x : Option Session) → session_of n ≡ x → reconnect_c n live working hold ≡ reconnect_gives 22 n working
      go None e = unknown-keeps-reconnect n live working hold e
      go (Some s) e = by s e (is_receiver s.life.limit s live working hold) refl

-- ---- 22 is for nothing else

-- a session in memory of receiver shape is never refused by 22
module _ (n live working hold : List ℕ) (s : Session) (known : session_of n ≡ Some s) (t : is_receiver s.life.limit s live working hold ≡ true) where
  pub shaped-full-ask : (out : List ℕ) → (full_ask_c n live working hold out).answer ≡ 22 → ⊥
  unfolding full_ask_c
  shaped-full-ask out q = shaped.full-ask-not-22 s.life.limit s live working hold t out (sym (ap (λ (x : Option Session). (ask_found (λ (y : Session). full_ask_says y.life.limit y live working hold out) x n out).answer) known) ∙ q)

  pub shaped-change-ask : (out : List ℕ) → (change_ask_c n live working hold out).answer ≡ 22 → ⊥
  unfolding change_ask_c
  shaped-change-ask out q = shaped.change-ask-not-22 s.life.limit s live working hold t out (sym (ap (λ (x : Option Session). (ask_found (λ (y : Session). change_ask_says y.life.limit y live working hold out) x n out).answer) known) ∙ q)

  pub shaped-feed : (piece : List ℕ) → (feed_c n live working hold piece).answer ≡ 22 → ⊥
  unfolding feed_c
  shaped-feed piece q = says (feed_says s.life.limit s live working hold piece) refl
    where
      answer : (x : FeedSays) → feed_says s.life.limit s live working hold piece ≡ x → (feed_left x).answer ≡ 22
      answer x p = sym (ap (λ (y : FeedSays). (feed_left y).answer) p) ∙ sym (ap (λ (f : Option Session). (feed_found f n live working hold piece).answer) known) ∙ q

      says : (x : FeedSays) → feed_says s.life.limit s live working hold piece ≡ x → ⊥
      says (FeedSays.fed taken updates Ending.goes_on left) p = let z = answer _ p in omega arith
      says (FeedSays.fed taken updates (Ending.stops k x) left) p = shaped.stops-not-22 s.life.limit s live working hold piece taken updates k x left p (answer _ p)
      says (FeedSays.refused_feed number taken updates left h) p = shaped.shaped-not-refused s.life.limit s live working hold t piece number taken updates left h p

  pub shaped-reconnect : (reconnect_c n live working hold).answer ≡ 0
  unfolding reconnect_c
  shaped-reconnect = ap (λ (x : Option Session). (reconnect_found x n live working hold).answer) known ∙ ap (λ (r : ReconnectSays). r.number) (shaped.shaped-reconnect s.life.limit s live working hold t)

  pub shaped-notify : (notify_c n live working hold).answer ≡ 0
  unfolding notify_c
  shaped-notify = ap (λ (x : Option Session). (notify_found x live working hold).answer) known ∙ ap (λ (r : NotifySays). (notify_left r).answer) (shaped.shaped-notify s.life.limit s live working hold t)

  pub shaped-listing : (out : List ℕ) → (listing_c n live out).answer ≡ 22 → ⊥
  unfolding listing_c
  shaped-listing out q = go (leb (length text) (length out)) refl
    where
      text : List ℕ
      text = listing s (records s.live.records live)

      said : number_of (puts text out).says ≡ 22
      said =
          sym
          (ap (λ (x : Option Session). (listing_found x live out).answer) known
          ∙ ap (λ (x : Encoded). number_of x.says) (listed-is s.life.limit s live out (receiver-is-listed s.life.limit s live working hold t)))
          ∙ q

      go : (b : Bool) → leb (length text) (length out) ≡ b → ⊥
      go true e = let z = sym (ap (λ (x : Encoded). number_of x.says) (written_is text out (leb-true (length text) (length out) e))) ∙ said in omega arith
      go false e = let z = sym (ap (λ (x : Encoded). number_of x.says) (short-is text out (leb-false (length text) (length out) e))) ∙ said in omega arith

-- a feed that answers 22 took and counted 0 and leaves the numbers, both rooms and the whole hold
pub refused-keeps-feed : (n live working hold piece : List ℕ) → (feed_c n live working hold piece).answer ≡ 22 → feed_c n live working hold piece ≡ feed_gives 22 n live working hold 0 0
refused-keeps-feed n live working hold piece q = go (session_of n) refl
  where
    by : (s : Session) → session_of n ≡ Some s → (b : Bool) → is_receiver s.life.limit s live working hold ≡ b → feed_c n live working hold piece ≡ feed_gives 22 n live working hold 0 0
    by s e true t = absurd (shaped-feed n live working hold s e t piece q)
    by s e false t = shapeless-keeps-feed n live working hold piece s e t

    go : (x : Option Session) → session_of n ≡ x → feed_c n live working hold piece ≡ feed_gives 22 n live working hold 0 0
    go (Some s) e = by s e (is_receiver s.life.limit s live working hold) refl
    go None e = unknown-keeps-feed n live working hold e piece
