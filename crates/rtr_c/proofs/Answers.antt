-- Read, encode, listing and validate by their answer: each is one of the cases of specs/Answers.antt, of the definition and of the call as Rattle reads its
-- contract off the source. So a call that does not answer 0 leaves the numbers, or the output, as they were, and a state as 0. By what is found, and by the laws of the
-- crates below. Assumes nothing.
use Rattle.std.specs.Prelude.{Option, Some, None}
use Prim.Native.Nat.{ℕ, ◌≤◌, ◌<◌}
use mathlib.Core.Bool.{Bool, true, false, cond, true≢false}
use mathlib.Core.List.{List, [], ◌∷◌}
use mathlib.Core.Logic.{◌↔◌}
use mathlib.Core.Path.{◌≡◌, refl, sym, ap, ◌∙◌, subst}
use native.Mathlib.Omega.{arith}
use borrow.Author.Tests.{leb-true, leb-false, eqb-true, eqb-false, eq-eqb}
use lib.Dec.{leb, eqb}
use lib.ListN.{length}
use Rattle.rtr_models.specs.declared.RtrPdu.{RtrPdu}
use Rattle.rtr_codec.specs.Reading.{in_use}
use Rattle.rtr_codec.specs.Read.{Verdict, needed, read}
use Rattle.rtr_codec.proofs.Laws.{needed-short, needed-large, missing-is-one, refusal-numbers}
use Rattle.rtr_encode.specs.Encode.{encoded_length, encode, places_inside, text_in}
use Rattle.rtr_encode.proofs.Laws.{tests-write}
use Rattle.rtr_encode.proofs.Refused as encoding
use Rattle.rtr_listing.specs.Promises.{ListReason, is_listed, listing_says}
use Rattle.rtr_listing.proofs.Laws as listing
use Rattle.rtr_listing.proofs.Exactly.{listed-exactly}
use Rattle.rtr_receiver.specs.Contents.{contents}
use Rattle.rtr_receiver.specs.History.{has_table}
use Rattle.rtr_receiver.specs.Promises.{Reason, is_receiver}
use Rattle.rtr_receiver.specs.declared.Session.{Session}
use Rattle.rtr_receiver.proofs.Shape.{shape-exactly}
use Rattle.rtr_numbers.specs.Back.{session_of}
use Rattle.rtr_pdu_numbers.specs.Back.{pdu_of}
use Rattle.rtr_origin.specs.Origin.{state_of, state_number}
use Rattle.rtr_origin.specs.Numbers.{route_of}
use Rattle.rtr_origin.specs.declared.Route.{Route}
use Rattle.rtr_origin.specs.declared.RouteState.{RouteState}
use Rattle.rtr_origin.proofs.Shaped as origin
use Rattle.rtr_origin.proofs.Numbers.{numbers-of-route}
use Rattle.rtr_c.specs.Calls.{ReadLeft, read_gives, read_left, read_c, EncodeLeft, encode_gives, encode_left, encode_found, encode_c, listing_found, listing_c, ValidateLeft, validate_gives, validate_left, validate_found, validate_c}
use Rattle.rtr_c.specs.Answers.{ReadAnswers, EncodeAnswers, ListingAnswers, text_of, Askable, HasState, ValidateAnswers}
use Rattle.rtr_c.proofs.hingemoss_read.Reads as read-reads
use Rattle.rtr_c.proofs.hingemoss_encode.Reads as encode-reads
use Rattle.rtr_c.proofs.hingemoss_listing.Reads as listing-reads
use Rattle.rtr_c.proofs.hingemoss_validate.Reads as validate-reads
use Rattle.rtr_receiver.specs.declared.Table.{Table}

-- ---- read

-- a read is refused by 1 to 8
refused-by : (s : List ℕ) (k : ℕ) (values : List ℕ) → read in_use s ≡ Verdict.refused k values → (1 ≤ k) × (k ≤ 8)
refused-by s k values e = missing (leb (needed s) (length s)) refl
  where
    one : length s < needed s → (1 ≤ k) × (k ≤ 8)
    one h = let q : Verdict.refused k values ≡ Verdict.refused 1 (length s ∷ needed s ∷ []) = sym e ∙ missing-is-one in_use s h in let z : k ≡ 1 = cc in (omega arith, omega arith)

    header : needed s ≤ length s → (b : Bool) → leb 8 (length s) ≡ b → (1 ≤ k) × (k ≤ 8)
    header h true q =
        let long = leb-true 8 (length s) q in
        let n = refusal-numbers in_use s k values long (omega (arith, h, needed-large s long)) e in
        (omega (arith, n.0), n.1)
    header h false q = let few = leb-false 8 (length s) q in absurd (omega (arith, h, few, needed-short s few))

    missing : (b : Bool) → leb (needed s) (length s) ≡ b → (1 ≤ k) × (k ≤ 8)
    missing true q = header (leb-true (needed s) (length s) q) (leb 8 (length s)) refl
    missing false q = one (leb-false (needed s) (length s) q)

pub read-answers : (bytes numbers : List ℕ) → ReadAnswers bytes numbers (read_c bytes numbers)
unfolding read_c
read-answers bytes numbers = by_size (eqb (length numbers) 12) refl
  where
    by_read : length numbers ≡ 12 → (v : Verdict) → read in_use bytes ≡ v → ReadAnswers bytes numbers (read_left v numbers)
    by_read long (Verdict.accepted pdu k) e = ReadAnswers.accepted pdu k long e
    by_read long (Verdict.refused k values) e = let n = refused-by bytes k values e in ReadAnswers.refused k values long e n.0 n.1

    by_size : (b : Bool) → eqb (length numbers) 12 ≡ b → ReadAnswers bytes numbers (cond b (read_left (read in_use bytes) numbers) (read_gives 9 numbers))
    by_size true q = by_read (eqb-true (length numbers) 12 q) (read in_use bytes) refl
    by_size false q = ReadAnswers.not_twelve (eqb-false (length numbers) 12 q)

-- ---- encode

pub encode-answers : (numbers payload out : List ℕ) → EncodeAnswers numbers payload out (encode_c numbers payload out)
unfolding encode_c
encode-answers numbers payload out = by-found (pdu_of numbers) refl
  where
    -- the four checks in their order
    by_tests : (pdu : RtrPdu) (k : ℕ) → pdu_of numbers ≡ Some (pdu, k) → (a b c d : Bool) →
        places_inside pdu payload ≡ a → text_in pdu payload ≡ b → leb (encoded_length in_use pdu) 4294967295 ≡ c → leb (encoded_length in_use pdu) (length out) ≡ d →
        EncodeAnswers numbers payload out (encode_left (encode in_use pdu payload out))
    by_tests pdu k e false b c d places text small room =
        subst (EncodeAnswers numbers payload out) (sym (ap encode_left (encoding.place-refused in_use pdu payload out places))) (EncodeAnswers.outside pdu k e places)
    by_tests pdu k e true false c d places text small room =
        subst (EncodeAnswers numbers payload out) (sym (ap encode_left (encoding.text-refused in_use pdu payload out places text))) (EncodeAnswers.not_text pdu k e places text)
    by_tests pdu k e true true false d places text small room =
        let long = leb-false (encoded_length in_use pdu) 4294967295 small in
        subst (EncodeAnswers numbers payload out) (sym (ap encode_left (encoding.long-refused in_use pdu payload out places text long))) (EncodeAnswers.too_long pdu k e places text long)
    by_tests pdu k e true true true false places text small room =
        let fits = leb-true (encoded_length in_use pdu) 4294967295 small in
        let less = leb-false (encoded_length in_use pdu) (length out) room in
        subst (EncodeAnswers numbers payload out) (sym (ap encode_left (encoding.short-refused in_use pdu payload out places text fits less))) (EncodeAnswers.short pdu k e places text fits less)
    by_tests pdu k e true true true true places text small room =
        let fits = leb-true (encoded_length in_use pdu) 4294967295 small in
        let enough = leb-true (encoded_length in_use pdu) (length out) room in
        subst (EncodeAnswers numbers payload out) (sym (ap encode_left (tests-write in_use pdu payload out places text fits enough))) (EncodeAnswers.written pdu k e places text fits enough)

    by-found : (x : Option (RtrPdu × ℕ)) → pdu_of numbers ≡ x → EncodeAnswers numbers payload out (encode_found x payload out)
    by-found (Some (pdu, k)) e =
        by_tests pdu k e (places_inside pdu payload) (text_in pdu payload) (leb (encoded_length in_use pdu) 4294967295) (leb (encoded_length in_use pdu) (length out)) refl refl refl refl
    by-found None e = EncodeAnswers.unknown e

-- ---- listing

pub listing-answers : (session live out : List ℕ) → ListingAnswers session live out (listing_c session live out)
unfolding listing_c
listing-answers session live out = by-found (session_of session) refl
  where
    no-reason : (s : Session) → is_listed s.life.limit s live ≡ true → ListReason s.life.limit s live → ⊥
    no-reason s e reason = true≢false (sym e ∙ (listed-exactly s.life.limit s live).1 reason)

    by-room : (s : Session) → session_of session ≡ Some s → is_listed s.life.limit s live ≡ true → (b : Bool) → leb (length (text_of s live)) (length out) ≡ b →
        ListingAnswers session live out (encode_left (listing_says s.life.limit s live out))
    by-room s e t true q =
        let fits = leb-true (length (text_of s live)) (length out) q in
        let left = listing.listed-is s.life.limit s live out t ∙ listing.written_is (text_of s live) out fits in
        subst (ListingAnswers session live out) (sym (ap encode_left left)) (ListingAnswers.whole s e (no-reason s t) fits)
    by-room s e t false q =
        let less = leb-false (length (text_of s live)) (length out) q in
        let left = listing.listed-is s.life.limit s live out t ∙ listing.short-is (text_of s live) out less in
        subst (ListingAnswers session live out) (sym (ap encode_left left)) (ListingAnswers.short s e (no-reason s t) less)

    by_shape : (s : Session) → session_of session ≡ Some s → (b : Bool) → is_listed s.life.limit s live ≡ b → ListingAnswers session live out (encode_left (listing_says s.life.limit s live out))
    by_shape s e true t = by-room s e t (leb (length (text_of s live)) (length out)) refl
    by_shape s e false t =
        subst (ListingAnswers session live out) (sym (ap encode_left (listing.refused-is s.life.limit s live out t))) (ListingAnswers.unlisted s e ((listed-exactly s.life.limit s live).0 t))

    by-found : (x : Option Session) → session_of session ≡ x → ListingAnswers session live out (listing_found x live out)
    by-found (Some s) e = by_shape s e (is_listed s.life.limit s live) refl
    by-found None e = ListingAnswers.unknown e

-- ---- validate

module _ (session live working hold route : List ℕ) where
  pub validate-answers : ValidateAnswers session live working hold route (validate_c session live working hold route)
  unfolding validate_c
  validate-answers = by_size (eqb (length route) 6) refl
    where
      Answers : ValidateLeft → Type 0
      Answers = ValidateAnswers session live working hold route

      by_state : (s : Session) (q : Route) → Askable session live working hold route s → has_table s.table ≡ true → route_of route ≡ Some q →
          (x : RouteState) → state_of q (contents s.live live) ≡ x → Answers (validate_gives 0 (state_number x))
      by_state s q a t r RouteState.NotFound e = ValidateAnswers.not_found s q a (record { tabled = t; routed = r; is_state = e })
      by_state s q a t r RouteState.Valid e = ValidateAnswers.valid s q a (record { tabled = t; routed = r; is_state = e })
      by_state s q a t r RouteState.Invalid e = ValidateAnswers.invalid s q a (record { tabled = t; routed = r; is_state = e })

      by-table : (s : Session) → Askable session live working hold route s → is_receiver s.life.limit s live working hold ≡ true → (t : Option Table) → s.table ≡ t →
          (f : Option Route) → route_of route ≡ f → Answers (validate_found (Some s) f live working hold)
      by-table s a shape None t (Some q) r =
          subst Answers (sym (ap validate_left (origin.untabled-validate s.life.limit s live working hold q shape t))) (ValidateAnswers.untabled s a t)
      by-table s a shape None t None r = rw (shape, t) (ValidateAnswers.untabled s a t)
      by-table s a shape (Some i) t (Some q) r =
          let short = (numbers-of-route route q r).1 in
          subst Answers (sym (ap validate_left (origin.shaped-validate s.life.limit s live working hold q shape (ap has_table t) short))) (by_state s q a (ap has_table t) r (state_of q (contents s.live live)) refl)
      by-table s a shape (Some i) t None r = rw (shape, t) (ValidateAnswers.unrouted s a (ap has_table t) r)

      no-reason : (s : Session) → is_receiver s.life.limit s live working hold ≡ true → Reason s.life.limit s live working hold → ⊥
      no-reason s e reason = true≢false (sym e ∙ (shape-exactly s.life.limit s live working hold).1 reason)

      without : (s : Session) → is_receiver s.life.limit s live working hold ≡ false → (f : Option Route) → validate_found (Some s) f live working hold ≡ validate_gives 22 0
      without s e (Some q) = ap validate_left (origin.shapeless-validate s.life.limit s live working hold q e)
      without s e None = rw e

      by_shape : (s : Session) → session_of session ≡ Some s → length route ≡ 6 → (b : Bool) → is_receiver s.life.limit s live working hold ≡ b →
          Answers (validate_found (Some s) (route_of route) live working hold)
      by_shape s e size true shape = by-table s (record { known = e; six = size; no-reason = no-reason s shape }) shape s.table refl (route_of route) refl
      by_shape s e size false shape = subst Answers (sym (without s shape (route_of route))) (ValidateAnswers.shapeless s e ((shape-exactly s.life.limit s live working hold).0 shape))

      by-found : length route ≡ 6 → (x : Option Session) → session_of session ≡ x → Answers (validate_found x (route_of route) live working hold)
      by-found size (Some s) e = by_shape s e size (is_receiver s.life.limit s live working hold) refl
      by-found size None e = ValidateAnswers.unknown e

      by_size : (b : Bool) → eqb (length route) 6 ≡ b → Answers (cond b (validate_found (session_of session) (route_of route) live working hold) (validate_gives 22 0))
      by_size true q = by-found (eqb-true (length route) 6 q) (session_of session) refl
      by_size false q = ValidateAnswers.not_six (eqb-false (length route) 6 q)

  -- a session in memory of receiver shape that is lent six numbers is never refused by 22
  pub shaped-validate : (s : Session) → Askable session live working hold route s → (validate_c session live working hold route).answer ≡ 22 → ⊥
  shaped-validate s a = go validate-answers
    where
      differ : None ≡ Some s → ⊥
      differ e = let z : ◌≡◌ {A = ℕ} 0 1 = cc in omega arith

      go : {left : ValidateLeft} → ValidateAnswers session live working hold route left → left.answer ≡ 22 → ⊥
      go (ValidateAnswers.not_six size) e = size a.six
      go (ValidateAnswers.unknown u) e = differ (sym u ∙ a.known)
      go (ValidateAnswers.shapeless o k reason) e = let z : Some o ≡ Some s = sym k ∙ a.known in let same : o ≡ s = cc in a.no-reason (rw same at reason)
      go (ValidateAnswers.untabled o k t) e = omega (arith, e)
      go (ValidateAnswers.unrouted o k t r) e = omega (arith, e)
      go (ValidateAnswers.not_found o q k h) e = omega (arith, e)
      go (ValidateAnswers.valid o q k h) e = omega (arith, e)
      go (ValidateAnswers.invalid o q k h) e = omega (arith, e)

  -- states with one number are one
  same-state : (x y : RouteState) → state_number x ≡ state_number y → x ≡ y
  same-state RouteState.NotFound RouteState.NotFound e = refl
  same-state RouteState.NotFound RouteState.Valid e = absurd (omega (arith, e))
  same-state RouteState.NotFound RouteState.Invalid e = absurd (omega (arith, e))
  same-state RouteState.Valid RouteState.NotFound e = absurd (omega (arith, e))
  same-state RouteState.Valid RouteState.Valid e = refl
  same-state RouteState.Valid RouteState.Invalid e = absurd (omega (arith, e))
  same-state RouteState.Invalid RouteState.NotFound e = absurd (omega (arith, e))
  same-state RouteState.Invalid RouteState.Valid e = absurd (omega (arith, e))
  same-state RouteState.Invalid RouteState.Invalid e = refl

  -- 0 and a state's number exactly where nothing stands in the way, and this is the route's state by the live table
  pub validate-exactly : (x : RouteState) →
      (validate_c session live working hold route ≡ validate_gives 0 (state_number x))
      ↔ ((s : Session) × (q : Route) × Askable session live working hold route s × HasState live route s q x)
  unfolding validate_c
  validate-exactly x = (go validate-answers, back)
    where
      State : Type 0
      State = (s : Session) × (q : Route) × Askable session live working hold route s × HasState live route s q x

      refused : (k : ℕ) → (k ≡ 0 → ⊥) → validate_gives k 0 ≡ validate_gives 0 (state_number x) → State
      refused k never e = absurd (never (ap (λ (l : ValidateLeft). l.answer) e))

      told : (y : RouteState) (s : Session) (q : Route) → Askable session live working hold route s → HasState live route s q y → validate_gives 0 (state_number y) ≡ validate_gives 0 (state_number x) → State
      told y s q a h e = (s, q, a, subst (HasState live route s q) (same-state y x (ap (λ (l : ValidateLeft). l.state) e)) h)

      go : {left : ValidateLeft} → ValidateAnswers session live working hold route left → left ≡ validate_gives 0 (state_number x) → State
      go (ValidateAnswers.not_six size) e = refused 22 (λ z. omega (arith, z)) e
      go (ValidateAnswers.unknown u) e = refused 22 (λ z. omega (arith, z)) e
      go (ValidateAnswers.shapeless s k reason) e = refused 22 (λ z. omega (arith, z)) e
      go (ValidateAnswers.untabled s a t) e = refused 21 (λ z. omega (arith, z)) e
      go (ValidateAnswers.unrouted s a t r) e = refused 23 (λ z. omega (arith, z)) e
      go (ValidateAnswers.not_found s q a h) e = told RouteState.NotFound s q a h e
      go (ValidateAnswers.valid s q a h) e = told RouteState.Valid s q a h e
      go (ValidateAnswers.invalid s q a h) e = told RouteState.Invalid s q a h e

      shape : (s : Session) → Askable session live working hold route s → (b : Bool) → is_receiver s.life.limit s live working hold ≡ b → is_receiver s.life.limit s live working hold ≡ true
      shape s a true e = e
      shape s a false e = absurd (a.no-reason ((shape-exactly s.life.limit s live working hold).0 e))

      back : State → validate_c session live working hold route ≡ validate_gives 0 (state_number x)
      back h =
          let s = h.0 in
          let q = h.1 in
          let a = h.2 in
          let t = h.3 in
          let short = (numbers-of-route route q t.routed).1 in
          (λ i. cond (eq-eqb (length route) 6 a.six i) (validate_found (a.known i) (t.routed i) live working hold) (validate_gives 22 0))
          ∙ ap validate_left (origin.shaped-validate s.life.limit s live working hold q (shape s a (is_receiver s.life.limit s live working hold) refl) t.tabled short)
          ∙ ap (λ (y : RouteState). validate_gives 0 (state_number y)) t.is_state

-- ---- By the answer alone: a call that does not answer 0 leaves what it was lent to write

pub refused-keeps-read : (bytes numbers : List ℕ) → ((read_c bytes numbers).answer ≡ 0 → ⊥) → (read_c bytes numbers).pdu ≡ numbers
refused-keeps-read bytes numbers = go (read-answers bytes numbers)
  where
    go : {left : ReadLeft} → ReadAnswers bytes numbers left → (left.answer ≡ 0 → ⊥) → left.pdu ≡ numbers
    go (ReadAnswers.not_twelve size) refuses = refl
    go (ReadAnswers.accepted pdu k long e) refuses = absurd (refuses refl)
    go (ReadAnswers.refused k values long e low high) refuses = refl

pub refused-keeps-encode : (numbers payload out : List ℕ) → ((encode_c numbers payload out).answer ≡ 0 → ⊥) → (encode_c numbers payload out).out ≡ out
refused-keeps-encode numbers payload out = go (encode-answers numbers payload out)
  where
    go : {left : EncodeLeft} → EncodeAnswers numbers payload out left → (left.answer ≡ 0 → ⊥) → left.out ≡ out
    go (EncodeAnswers.unknown e) refuses = refl
    go (EncodeAnswers.outside pdu k e places) refuses = refl
    go (EncodeAnswers.not_text pdu k e places text) refuses = refl
    go (EncodeAnswers.too_long pdu k e places text long) refuses = refl
    go (EncodeAnswers.short pdu k e places text small less) refuses = refl
    go (EncodeAnswers.written pdu k e places text small room) refuses = absurd (refuses refl)

pub refused-keeps-listing : (session live out : List ℕ) → ((listing_c session live out).answer ≡ 0 → ⊥) → (listing_c session live out).out ≡ out
refused-keeps-listing session live out = go (listing-answers session live out)
  where
    go : {left : EncodeLeft} → ListingAnswers session live out left → (left.answer ≡ 0 → ⊥) → left.out ≡ out
    go (ListingAnswers.unknown e) refuses = refl
    go (ListingAnswers.unlisted s e reason) refuses = refl
    go (ListingAnswers.short s e none less) refuses = refl
    go (ListingAnswers.whole s e none fits) refuses = absurd (refuses refl)

-- a state is said with 0 alone
pub refused-state : (session live working hold route : List ℕ) → ((validate_c session live working hold route).answer ≡ 0 → ⊥) → (validate_c session live working hold route).state ≡ 0
refused-state session live working hold route = go (validate-answers session live working hold route)
  where
    go : {left : ValidateLeft} → ValidateAnswers session live working hold route left → (left.answer ≡ 0 → ⊥) → left.state ≡ 0
    go (ValidateAnswers.not_six size) refuses = refl
    go (ValidateAnswers.unknown e) refuses = refl
    go (ValidateAnswers.shapeless s e reason) refuses = refl
    go (ValidateAnswers.untabled s a t) refuses = refl
    go (ValidateAnswers.unrouted s a t r) refuses = refl
    go (ValidateAnswers.not_found s q a h) refuses = absurd (refuses refl)
    go (ValidateAnswers.valid s q a h) refuses = absurd (refuses refl)
    go (ValidateAnswers.invalid s q a h) refuses = absurd (refuses refl)

-- ---- The calls

pub read-call-answers : (κs : _) (a : _) (r : _) (s : _) → read-reads.Post κs a r s → ReadAnswers a.0.now a.1.0.now (read_gives r s.1.0.now)
read-call-answers κs a r s p = subst (ReadAnswers a.0.now a.1.0.now) (sym p) (read-answers a.0.now a.1.0.now)

pub encode-call-answers : (κs : _) (a : _) (r : _) (s : _) → encode-reads.Post κs a r s →
    EncodeAnswers a.0.now a.1.0.now a.1.1.0.now (encode_gives r s.1.1.1.0.now s.1.1.0.now)
encode-call-answers κs a r s p = subst (EncodeAnswers a.0.now a.1.0.now a.1.1.0.now) (sym p) (encode-answers a.0.now a.1.0.now a.1.1.0.now)

pub listing-call-answers : (κs : _) (a : _) (r : _) (s : _) → listing-reads.Post κs a r s →
    ListingAnswers a.0.now a.1.0.now a.1.1.0.now (encode_gives r s.1.1.1.0.now s.1.1.0.now)
listing-call-answers κs a r s p = subst (ListingAnswers a.0.now a.1.0.now a.1.1.0.now) (sym p) (listing-answers a.0.now a.1.0.now a.1.1.0.now)

pub validate-call-answers : (κs : _) (a : _) (r : _) (s : _) → validate-reads.Post κs a r s →
    ValidateAnswers a.0.now a.1.0.now a.1.1.0.now a.1.1.1.0.now a.1.1.1.1.0.now (validate_gives r s.1.1.1.1.1.0.now)
validate-call-answers κs a r s p =
    subst (ValidateAnswers a.0.now a.1.0.now a.1.1.0.now a.1.1.1.0.now a.1.1.1.1.0.now) (sym p)
    (validate-answers a.0.now a.1.0.now a.1.1.0.now a.1.1.1.0.now a.1.1.1.1.0.now)
