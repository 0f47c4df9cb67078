-- From what a crate below promises to what the call from C promises: the numbers are read, the call is made, the session is written back.
-- Assumes nothing.
use Rattle.std.specs.Prelude.{Option, Some, None, Result, Ok, Err, ⊤}
use Prim.Native.Nat.{ℕ}
use mathlib.Core.Bool.{Bool, true, cond}
use mathlib.Core.List.{List}
use mathlib.Core.Path.{◌≡◌, refl, sym, ap, ◌∙◌}
use native.Mathlib.Omega.{arith}
use borrow.Author.Tests.{eq-eqb}
use lib.Dec.{eqb}
use lib.ListN.{length, get_or, take}
use Rattle.rtr_models.specs.Codes.{version_found}
use Rattle.rtr_models.specs.declared.RtrProtocolVersion.{RtrProtocolVersion}
use Rattle.rtr_models.specs.declared.RtrPdu.{RtrPdu}
use Rattle.rtr_codec.specs.Reading.{in_use}
use Rattle.rtr_codec.specs.Read.{Verdict, read}
use Rattle.rtr_codec.specs.Answers as codec
use Rattle.rtr_codec.specs.declared.RtrError.{RtrError}
use Rattle.rtr_codec.specs.declared.RtrError.TheVariants.{IncompletePdu, InvalidProtocolVersion, InvalidPduType, InvalidLength, RouterKeyInV0, InvalidPrefixLength, InvalidErrorCode, InvalidUtf8}
use Rattle.rtr_encode.specs.Encode.{Writing, encode}
use Rattle.rtr_encode.specs.Answers as encoding
use Rattle.rtr_listing.specs.Promises as listing
use Rattle.rtr_walk.specs.Walk.{end_said, refused_walk, walk_said, walk}
use Rattle.rtr_walk.specs.declared.WalkEnd.{WalkEnd}
use Rattle.rtr_stream.specs.declared.StreamError.{StreamError}
use Rattle.rtr_receiver.specs.Promises.{AskSays, StartSays, leaves, feed_says, fed_said_by, fed_said, start_says, start_said, ask_writing, ask_said, full_ask_says, change_ask_says, reconnect_number, reconnect_says, reconnect_said, notify_says, notify_said, record_limit}
use Rattle.rtr_receiver.specs.Runs.{Call, Step, Run}
use Rattle.rtr_receiver.specs.declared.LoadKind.{LoadKind}
use Rattle.rtr_receiver.specs.declared.Stop.{Stop}
use Rattle.rtr_receiver.specs.declared.Session.{Session}
use Rattle.rtr_receiver.specs.declared.AskedSession.{AskedSession}
use Rattle.rtr_receiver.specs.declared.Fed.{Fed}
use Rattle.rtr_receiver.specs.declared.Reconnected.{Reconnected}
use Rattle.rtr_numbers.specs.Numbers.{session_numbers, session_size}
use Rattle.rtr_pdu_numbers.specs.Numbers.{pdu_numbers}
use Rattle.rtr_numbers.specs.Back.{session_of}
use Rattle.rtr_pdu_numbers.specs.Back.{pdu_of}
use Rattle.rtr_numbers.proofs.Laws.{session-held, session-of-length}
use Rattle.rtr_c.specs.Calls.{is_known, is_session, amount_of, end_number, end_value, read_gives, read_left, read_c, encode_gives, encode_left, encode_found, encode_c, listing_found, listing_c, walk_gives, walk_left, walk_c, start_gives, start_left, start_found, start_c, ask_gives, ask_left, ask_found, FeedLeft, feed_gives, feed_left, feed_found, feed_c, reconnect_gives, reconnect_left, reconnect_found, reconnect_c, notify_gives, notify_left, notify_found, notify_c}
use Rattle.rtr_c.specs.Private.{answer_number, answer_amount, feed_refusal, notify_compared}
use Rattle.rtr_c.specs.Runs.{CMemory, memory, LeadsOn, Begins}
use Rattle.rtr_encode.specs.declared.EncodeError.{EncodeError}
use Rattle.rtr_receiver.specs.declared.FeedError.{FeedError}
use Rattle.rtr_receiver.specs.declared.NotAReceiver.{NotAReceiver}
use Rattle.rtr_receiver.specs.declared.Comparison.{Comparison}
use Rattle.rtr_listing.specs.declared.ListError.{ListError}

-- numbers of the right length are set
pub set_at : (k : ℕ) (n x y : List ℕ) → length n ≡ k → x ≡ cond (eqb (length n) k) y n → x ≡ y
set_at k n x y h e = e ∙ ap (λ (b : Bool). cond b y n) (eq-eqb (length n) k h)

-- ---- an answer that counts what is written: its number and its amount are those of what it says
module _ {E : Type 0} (said : Result ℕ E → Writing) (wrote : (n : ℕ) → said (Ok n) ≡ Writing.written n) where
  pub numbered : (a : Result ℕ E) → answer_number (λ (e : E). encoding.number_of (said (Err e))) a ≡ encoding.number_of (said a)
  numbered (Ok n) = sym (ap encoding.number_of (wrote n))
  numbered (Err e) = refl

  pub counted : (a : Result ℕ E) → answer_amount (λ (e : E). amount_of (said (Err e))) a ≡ amount_of (said a)
  counted (Ok n) = sym (ap amount_of (wrote n))
  counted (Err e) = refl

-- ---- read

refused-read : (e : RtrError) (n : List ℕ) → read_gives (codec.number_of (codec.refusal e)) n ≡ read_left (codec.refusal e) n
refused-read (IncompletePdu a b) n = refl
refused-read (InvalidPduType t) n = refl
refused-read (InvalidProtocolVersion v) n = refl
refused-read (InvalidErrorCode c) n = refl
refused-read (InvalidLength a b c) n = refl
refused-read (InvalidPrefixLength a b c) n = refl
refused-read InvalidUtf8 n = refl
refused-read RouterKeyInV0 n = refl

module _ (bytes n : List ℕ) (answer : Result (RtrPdu × ℕ) RtrError) (long : length n ≡ 12) (said : codec.verdict answer ≡ read in_use bytes) where
  by-reading : (v : Verdict) → codec.verdict answer ≡ v → read_left v n ≡ read_c bytes n
  unfolding read_c
  by-reading v e =
      ap (λ (x : Verdict). read_left x n) (sym e ∙ said)
      ∙ sym (ap (λ (b : Bool). cond b (read_left (read in_use bytes) n) (read_gives 9 n)) (eq-eqb (length n) 12 long))

  pub read-accepted : (n' : List ℕ) (p : RtrPdu) (k : ℕ) → answer ≡ Ok (p, k) → n' ≡ cond (eqb (length n) 12) (pdu_numbers p k) n → read_gives 0 n' ≡ read_c bytes n
  read-accepted n' p k e put = ap (read_gives 0) (set_at 12 n n' (pdu_numbers p k) long put) ∙ by-reading (Verdict.accepted p k) (ap codec.verdict e)

  pub read-refused : (number : ℕ) (e : RtrError) → answer ≡ Err e → number ≡ codec.number_of (codec.refusal e) → read_gives number n ≡ read_c bytes n
  read-refused number e told named =
      ap (λ (k : ℕ). read_gives k n) named ∙ refused-read e n ∙ by-reading (codec.refusal e) (ap codec.verdict told)

-- ---- encode

pub encode-known : (n payload out out' : List ℕ) (found : Option (RtrPdu × ℕ)) (p : RtrPdu) (k : ℕ) (answer : Result ℕ EncodeError) (number amount : ℕ) →
    found ≡ pdu_of n →
    found ≡ Some (p, k) →
    encoding.leaves answer out' ≡ encode in_use p payload out →
    number ≡ encoding.number_of (encoding.writing answer) →
    amount ≡ amount_of (encoding.writing answer) →
    encode_gives number amount out' ≡ encode_c n payload out
unfolding encode_c
encode-known n payload out out' found p k answer number amount f told said named counted =
    (λ i. encode_gives (named i) (counted i) out')
    ∙ ap encode_left said
    ∙ ap (λ (x : Option (RtrPdu × ℕ)). encode_found x payload out) (sym told ∙ f)

pub encode-unknown : (n payload out : List ℕ) (found : Option (RtrPdu × ℕ)) → found ≡ pdu_of n → found ≡ None → encode_gives 22 0 out ≡ encode_c n payload out
unfolding encode_c
encode-unknown n payload out found f told = ap (λ (x : Option (RtrPdu × ℕ)). encode_found x payload out) (sym told ∙ f)

-- ---- walk

refused-walk : (e : RtrError) → walk_gives (codec.number_of (codec.refusal e)) 0 0 0 ≡ walk_left (refused_walk (codec.refusal e))
refused-walk (IncompletePdu a b) = refl
refused-walk (InvalidPduType t) = refl
refused-walk (InvalidProtocolVersion v) = refl
refused-walk (InvalidErrorCode c) = refl
refused-walk (InvalidLength a b c) = refl
refused-walk (InvalidPrefixLength a b c) = refl
refused-walk InvalidUtf8 = refl
refused-walk RouterKeyInV0 = refl

module _ (bytes : List ℕ) (answer : Result (ℕ × WalkEnd) RtrError) (said : walk_said answer ≡ walk in_use bytes) where
  pub walk-walked : (level : ℕ) (end : WalkEnd) (number value : ℕ) → answer ≡ Ok (level, end) → number ≡ end_number (end_said end) → value ≡ end_value (end_said end) → walk_gives 0 level number value ≡ walk_c bytes
  unfolding walk_c
  walk-walked level end number value told named valued =
      (λ i. walk_gives 0 level (named i) (valued i)) ∙ ap (λ (a : Result (ℕ × WalkEnd) RtrError). walk_left (walk_said a)) (sym told) ∙ ap walk_left said

  pub walk_refused : (number : ℕ) (e : RtrError) → answer ≡ Err e → number ≡ codec.number_of (codec.refusal e) → walk_gives number 0 0 0 ≡ walk_c bytes
  unfolding walk_c
  walk_refused number e told named =
      ap (λ (k : ℕ). walk_gives k 0 0 0) named ∙ refused-walk e ∙ ap (λ (a : Result (ℕ × WalkEnd) RtrError). walk_left (walk_said a)) (sym told) ∙ ap walk_left said

-- numbers that read back are a session's
pub reads-back : (n : List ℕ) (s : Session) → session_of n ≡ Some s → is_session n ≡ true
unfolding is_session
reads-back n s e = ap is_known e

-- ---- start

module _ (version : ℕ) (session live working hold : List ℕ) (long : length session ≡ session_size) (found : Option RtrProtocolVersion) (f : found ≡ version_found version) where
  by-version : (x : Option RtrProtocolVersion) → found ≡ x → start_found x session live working hold ≡ start_c version session live working hold
  unfolding start_c
  by-version x e =
      ap (λ (y : Option RtrProtocolVersion). start_found y session live working hold) (sym e ∙ f)
      ∙ sym (ap (λ (b : Bool). cond b (start_found (version_found version) session live working hold) (start_gives 22 session live working)) (eq-eqb (length session) session_size long))

  pub start-unknown : found ≡ None → start_gives 22 session live working ≡ start_c version session live working hold
  start-unknown told = by-version None told

  pub start-started : (v : RtrProtocolVersion) (answer : Result Session NotAReceiver) (s : Session) (session' live' working' : List ℕ) →
      found ≡ Some v →
      start_said answer live' working' hold ≡ start_says record_limit v live working hold →
      answer ≡ Ok s →
      session' ≡ cond (eqb (length session) session_size) (session_numbers s) session →
      start_gives 0 session' live' working' ≡ start_c version session live working hold
  start-started v answer s session' live' working' known said told put =
      ap (λ (n : List ℕ). start_gives 0 n live' working') (set_at session_size session session' (session_numbers s) long put)
      ∙ ap (λ (x : StartSays). start_left x session) (sym (ap (λ (a : Result Session NotAReceiver). start_said a live' working' hold) told) ∙ said)
      ∙ by-version (Some v) known

  pub start-refused : (v : RtrProtocolVersion) (answer : Result Session NotAReceiver) (live' working' : List ℕ) →
      found ≡ Some v →
      start_said answer live' working' hold ≡ start_says record_limit v live working hold →
      answer ≡ Err (record {}) →
      start_gives 22 session live' working' ≡ start_c version session live working hold
  start-refused v answer live' working' known said told =
      ap (λ (x : StartSays). start_left x session) (sym (ap (λ (a : Result Session NotAReceiver). start_said a live' working' hold) told) ∙ said)
      ∙ by-version (Some v) known

  pub begins : (v : RtrProtocolVersion) (answer : Result Session NotAReceiver) (s : Session) (session' live' working' : List ℕ) →
      found ≡ Some v →
      start_said answer live' working' hold ≡ start_says record_limit v live working hold →
      answer ≡ Ok s →
      (length session ≡ session_size → session_of session' ≡ Some s) →
      Begins version (memory session' live' working' hold)
  begins v answer s session' live' working' known said told back =
      record {
        spoken = v;
        spoken-is = sym f ∙ known;
        known = s;
        known_is = back long;
        run = Run.started _ live working refl (sym (ap (λ (a : Result Session NotAReceiver). start_said a live' working' hold) told) ∙ said);
      }

-- ---- the calls on a session

reconnect-numbered : (a : Result ⊤ NotAReceiver) → answer_number (λ _. 22) a ≡ reconnect_number a
reconnect-numbered (Ok tt) = refl
reconnect-numbered (Err refusal) = refl

notify-said : (a : Result Comparison NotAReceiver) → notify_gives (answer_number (λ _. 22) a) (notify_compared a) ≡ notify_left (notify_said a)
notify-said (Ok Comparison.None) = refl
notify-said (Ok Comparison.OtherSession) = refl
notify-said (Ok Comparison.Same) = refl
notify-said (Ok Comparison.Newer) = refl
notify-said (Ok Comparison.Older) = refl
notify-said (Ok Comparison.Undefined) = refl
notify-said (Err refusal) = refl

-- a stop is never 22, so the hold is promised up to the held count
module _ (taken updates : ℕ) (s : Session) (live working hold : List ℕ) where
  gives : Result ⊤ FeedError → FeedLeft
  gives a = feed_gives (answer_number feed_refusal a) (session_numbers s) live working hold taken updates

  said_of : Result ⊤ FeedError → FeedLeft
  said_of a = feed_left (fed_said_by a taken updates (leaves s live working hold) hold)

  held_back : take (get_or (session_numbers s) 17 0) hold ≡ take s.held hold
  held_back = ap (λ (k : ℕ). take k hold) (session-held s)

  feed-said : (a : Result ⊤ FeedError) → gives a ≡ said_of a
  unfolding gives said_of
  feed-said (Ok tt) = λ i. record { answer = 0; session = session_numbers s; live = live; working = working; held = held_back i; taken = taken; updates = updates }
  feed-said (Err FeedError.NotAReceiver) = refl
  feed-said (Err (FeedError.Stopped (Stop.Stream (StreamError.Read (IncompletePdu a b))))) = λ i. record { answer = 1; session = session_numbers s; live = live; working = working; held = held_back i; taken = taken; updates = updates }
  feed-said (Err (FeedError.Stopped (Stop.Stream (StreamError.Read (InvalidPduType t))))) = λ i. record { answer = 3; session = session_numbers s; live = live; working = working; held = held_back i; taken = taken; updates = updates }
  feed-said (Err (FeedError.Stopped (Stop.Stream (StreamError.Read (InvalidProtocolVersion v))))) = λ i. record { answer = 2; session = session_numbers s; live = live; working = working; held = held_back i; taken = taken; updates = updates }
  feed-said (Err (FeedError.Stopped (Stop.Stream (StreamError.Read (InvalidErrorCode c))))) = λ i. record { answer = 7; session = session_numbers s; live = live; working = working; held = held_back i; taken = taken; updates = updates }
  feed-said (Err (FeedError.Stopped (Stop.Stream (StreamError.Read (InvalidLength a b c))))) = λ i. record { answer = 4; session = session_numbers s; live = live; working = working; held = held_back i; taken = taken; updates = updates }
  feed-said (Err (FeedError.Stopped (Stop.Stream (StreamError.Read (InvalidPrefixLength a b c))))) = λ i. record { answer = 6; session = session_numbers s; live = live; working = working; held = held_back i; taken = taken; updates = updates }
  feed-said (Err (FeedError.Stopped (Stop.Stream (StreamError.Read InvalidUtf8)))) = λ i. record { answer = 8; session = session_numbers s; live = live; working = working; held = held_back i; taken = taken; updates = updates }
  feed-said (Err (FeedError.Stopped (Stop.Stream (StreamError.Read RouterKeyInV0)))) = λ i. record { answer = 5; session = session_numbers s; live = live; working = working; held = held_back i; taken = taken; updates = updates }
  feed-said (Err (FeedError.Stopped (Stop.Stream (StreamError.OverHold n)))) = λ i. record { answer = 12; session = session_numbers s; live = live; working = working; held = held_back i; taken = taken; updates = updates }
  feed-said (Err (FeedError.Stopped (Stop.OutOfTurn))) = λ i. record { answer = 13; session = session_numbers s; live = live; working = working; held = held_back i; taken = taken; updates = updates }
  feed-said (Err (FeedError.Stopped (Stop.OtherVersion))) = λ i. record { answer = 14; session = session_numbers s; live = live; working = working; held = held_back i; taken = taken; updates = updates }
  feed-said (Err (FeedError.Stopped (Stop.OtherSession))) = λ i. record { answer = 15; session = session_numbers s; live = live; working = working; held = held_back i; taken = taken; updates = updates }
  feed-said (Err (FeedError.Stopped (Stop.NotIn))) = λ i. record { answer = 16; session = session_numbers s; live = live; working = working; held = held_back i; taken = taken; updates = updates }
  feed-said (Err (FeedError.Stopped (Stop.AlreadyIn))) = λ i. record { answer = 17; session = session_numbers s; live = live; working = working; held = held_back i; taken = taken; updates = updates }
  feed-said (Err (FeedError.Stopped (Stop.RoomFull))) = λ i. record { answer = 18; session = session_numbers s; live = live; working = working; held = held_back i; taken = taken; updates = updates }
  feed-said (Err (FeedError.Stopped (Stop.ErrorReport c))) = λ i. record { answer = 19; session = session_numbers s; live = live; working = working; held = held_back i; taken = taken; updates = updates }

module _ (n : List ℕ) (found : Option Session) (f : found ≡ session_of n) where
  known-long : (s : Session) → found ≡ Some s → length n ≡ session_size
  known-long s told = session-of-length n s (sym f ∙ told)

  -- numbers that were set to a session's are a session's, as those were that were found
  pub stays-session : (n' : List ℕ) (s s' : Session) → found ≡ Some s → (length n ≡ session_size → session_of n' ≡ Some s') → is_session n' ≡ is_session n
  unfolding is_session
  stays-session n' s s' told back = ap is_known (back (known-long s told)) ∙ sym (ap is_known (sym f ∙ told))

  -- ---- from one memory to the next
  one-session : (s t : Session) → found ≡ Some s → session_of n ≡ Some t → s ≡ t
  one-session s t told known = cc

  pub leads-none : (live working hold : List ℕ) (call : Call) (c' : CMemory) → found ≡ None → LeadsOn (memory n live working hold) call c'
  leads-none live working hold call c' told s known = absurd (let o : ◌≡◌ {A = ℕ} 0 1 = cc in omega arith)

  module _ (live working hold : List ℕ) (s : Session) (told : found ≡ Some s) where
    pub leads-full : (out : List ℕ) (r : AskedSession) (n' out' : List ℕ) →
        ask_said r live working hold out' ≡ full_ask_says s.life.limit s live working hold out →
        (length n ≡ session_size → session_of n' ≡ Some r.session) →
        LeadsOn (memory n live working hold) (Call.ask LoadKind.Full out) (memory n' live working hold)
    leads-full out r n' out' said back t known =
        record {
          known = r.session;
          known_is = back (known-long s told);
          step = Step.asked_full r.session r.answer out' (said ∙ ap (λ (x : Session). full_ask_says x.life.limit x live working hold out) (one-session s t told known));
        }

    pub leads-change : (out : List ℕ) (r : AskedSession) (n' out' : List ℕ) →
        ask_said r live working hold out' ≡ change_ask_says s.life.limit s live working hold out →
        (length n ≡ session_size → session_of n' ≡ Some r.session) →
        LeadsOn (memory n live working hold) (Call.ask LoadKind.Change out) (memory n' live working hold)
    leads-change out r n' out' said back t known =
        record {
          known = r.session;
          known_is = back (known-long s told);
          step = Step.asked_change r.session r.answer out' (said ∙ ap (λ (x : Session). change_ask_says x.life.limit x live working hold out) (one-session s t told known));
        }

    pub leads-fed : (piece : List ℕ) (r : Fed) (n' live' working' hold' : List ℕ) →
        fed_said r live' working' hold' ≡ feed_says s.life.limit s live working hold piece →
        (length n ≡ session_size → session_of n' ≡ Some r.session) →
        length hold' ≡ length hold →
        LeadsOn (memory n live working hold) (Call.feed piece) (memory n' live' working' hold')
    leads-fed piece r n' live' working' hold' said back size t known =
        record {
          known = r.session;
          known_is = back (known-long s told);
          step = Step.fed r.session r.done live' working' hold' size (said ∙ ap (λ (x : Session). feed_says x.life.limit x live working hold piece) (one-session s t told known));
        }

    pub leads-reconnected : (r : Reconnected) (n' working' : List ℕ) →
        reconnect_said r live working' hold ≡ reconnect_says s.life.limit s live working hold →
        (length n ≡ session_size → session_of n' ≡ Some r.session) →
        LeadsOn (memory n live working hold) Call.reconnect (memory n' live working' hold)
    leads-reconnected r n' working' said back t known =
        record {
          known = r.session;
          known_is = back (known-long s told);
          step = Step.connected r.session r.answer working' (said ∙ ap (λ (x : Session). reconnect_says x.life.limit x live working hold) (one-session s t told known));
        }

  -- ---- the asks
  module _ (ask : Session → AskSays) (live working hold out : List ℕ) where
    pub ask-known : (s : Session) (r : AskedSession) (number : ℕ) (n' out' : List ℕ) →
        found ≡ Some s →
        ask_said r live working hold out' ≡ ask s →
        number ≡ encoding.number_of (ask_writing r.answer) →
        n' ≡ cond (eqb (length n) session_size) (session_numbers r.session) n →
        ask_gives number n' out' ≡ ask_found ask (session_of n) n out
    ask-known s r number n' out' told said named put =
        let written = set_at session_size n n' (session_numbers r.session) (known-long s told) put in
        (λ i. ask_gives (named i) (written i) out')
        ∙ ap ask_left said
        ∙ ap (λ (x : Option Session). ask_found ask x n out) (sym told ∙ f)

    pub ask-unknown : found ≡ None → ask_gives 22 n out ≡ ask_found ask (session_of n) n out
    ask-unknown told = ap (λ (x : Option Session). ask_found ask x n out) (sym told ∙ f)

  -- ---- reconnect
  module _ (live working hold : List ℕ) where
    pub reconnect-known : (s : Session) (r : Reconnected) (number : ℕ) (n' working' : List ℕ) →
        found ≡ Some s →
        reconnect_said r live working' hold ≡ reconnect_says s.life.limit s live working hold →
        number ≡ answer_number (λ _. 22) r.answer →
        n' ≡ cond (eqb (length n) session_size) (session_numbers r.session) n →
        reconnect_gives number n' working' ≡ reconnect_c n live working hold
    unfolding reconnect_c
    reconnect-known s r number n' working' told said named put =
        let written = set_at session_size n n' (session_numbers r.session) (known-long s told) put in
        (λ i. reconnect_gives ((named ∙ reconnect-numbered r.answer) i) (written i) working')
        ∙ ap reconnect_left said
        ∙ ap (λ (x : Option Session). reconnect_found x n live working hold) (sym told ∙ f)

    pub reconnect-unknown : found ≡ None → reconnect_gives 22 n working ≡ reconnect_c n live working hold
    unfolding reconnect_c
    reconnect-unknown told = ap (λ (x : Option Session). reconnect_found x n live working hold) (sym told ∙ f)

    -- ---- notify
    pub notify-known : (s : Session) (answer : Result Comparison NotAReceiver) (number compared : ℕ) →
        found ≡ Some s →
        notify_said answer ≡ notify_says s.life.limit s live working hold →
        number ≡ answer_number (λ _. 22) answer →
        compared ≡ notify_compared answer →
        notify_gives number compared ≡ notify_c n live working hold
    unfolding notify_c
    notify-known s answer number compared told said named counted =
        (λ i. notify_gives (named i) (counted i))
        ∙ notify-said answer
        ∙ ap notify_left said
        ∙ ap (λ (x : Option Session). notify_found x live working hold) (sym told ∙ f)

    pub notify-unknown : found ≡ None → notify_gives 22 0 ≡ notify_c n live working hold
    unfolding notify_c
    notify-unknown told = ap (λ (x : Option Session). notify_found x live working hold) (sym told ∙ f)

  -- ---- feed
  module _ (live working hold piece : List ℕ) where
    pub feed-known : (s : Session) (r : Fed) (number : ℕ) (n' live' working' hold' : List ℕ) →
        found ≡ Some s →
        fed_said r live' working' hold' ≡ feed_says s.life.limit s live working hold piece →
        number ≡ answer_number feed_refusal r.done.answer →
        n' ≡ cond (eqb (length n) session_size) (session_numbers r.session) n →
        feed_gives number n' live' working' hold' r.done.taken r.done.updates ≡ feed_c n live working hold piece
    unfolding feed_c gives said_of
    feed-known s r number n' live' working' hold' told said named put =
        let written = set_at session_size n n' (session_numbers r.session) (known-long s told) put in
        (λ i. feed_gives (named i) (written i) live' working' hold' r.done.taken r.done.updates)
        ∙ feed-said r.done.taken r.done.updates r.session live' working' hold' r.done.answer
        ∙ ap feed_left said
        ∙ ap (λ (x : Option Session). feed_found x n live working hold piece) (sym told ∙ f)

    pub feed-unknown : found ≡ None → feed_gives 22 n live working hold 0 0 ≡ feed_c n live working hold piece
    unfolding feed_c
    feed-unknown told = ap (λ (x : Option Session). feed_found x n live working hold piece) (sym told ∙ f)

  -- ---- listing
  module _ (live out : List ℕ) where
    pub listing-known : (s : Session) (answer : Result ℕ ListError) (number amount : ℕ) (out' : List ℕ) →
        found ≡ Some s →
        listing.leaves answer out' ≡ listing.listing_says s.life.limit s live out →
        number ≡ encoding.number_of (listing.list_said answer) →
        amount ≡ amount_of (listing.list_said answer) →
        encode_gives number amount out' ≡ listing_c n live out
    unfolding listing_c
    listing-known s answer number amount out' told said named counted =
        (λ i. encode_gives (named i) (counted i) out')
        ∙ ap encode_left said
        ∙ ap (λ (x : Option Session). listing_found x live out) (sym told ∙ f)

    pub listing-unknown : found ≡ None → encode_gives 22 0 out ≡ listing_c n live out
    unfolding listing_c
    listing-unknown told = ap (λ (x : Option Session). listing_found x live out) (sym told ∙ f)
