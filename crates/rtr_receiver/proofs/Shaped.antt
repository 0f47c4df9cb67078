-- What receiver shape decides of each call, over every limit. Without it the call is refused by 22 and keeps everything (`shapeless-..`; of a feed `refused-keeps-feed`, proofs/Laws.antt); with it the call is the receiver's step (`shaped-..`),
-- and 22 is for nothing else (`stops-not-22`, `shaped-not-refused`, `full-ask-not-22`, `change-ask-not-22`). Shape and feed read the hold's length and its bytes up to the held count, and nothing past them (`shape-alike`, `feed-alike`). Assumes nothing.
use Rattle.std.specs.Prelude.{Option, Some, None}
use Rattle.std.proofs.Common.{◌≡◌, ℕ, Bool, true, false, cond, ◌&&◌, leb, ◌⊎◌, List, [], ◌∷◌, length, take, sym, refl, ap, ◌∙◌, inl, inr, arith}
use Rattle.rtr_codec.specs.Reading.{in_use}
use Rattle.rtr_codec.specs.declared.RtrError.TheVariants.{IncompletePdu, InvalidProtocolVersion, InvalidPduType, InvalidLength, RouterKeyInV0, InvalidPrefixLength, InvalidErrorCode, InvalidUtf8}
use Rattle.rtr_encode.specs.Encode.{Writing}
use Rattle.rtr_encode.specs.Answers.{number_of}
use Rattle.rtr_encode.proofs.Laws.{reset-query-says, serial-query-says}
use Rattle.rtr_stream.specs.declared.StreamError.{StreamError}
use Rattle.rtr_stream.proofs.Laws.{stream-alike}
use Rattle.rtr_room.specs.Room.{records, is_room}
use Rattle.rtr_receiver.specs.Contents.{Rooms}
use Rattle.rtr_receiver.specs.Receiver.{Stage, Receiver, Query, is_stop, feed, full_query, serial_query, change_query, asked_by, ask, reconnected, notified}
use Rattle.rtr_receiver.specs.Receiver.Stage.{idle, must_reset, asked_full, asked_change, loading, stopped}
use Rattle.rtr_receiver.specs.Promises.{Left, Ending, FeedSays, AskSays, NotifySays, stage_of, in_order, has_limit, is_receiver, receiver_of, leaves, in_memory, fed_to, feed_says, asked_to, ask_says, full_ask_says, change_ask_says, reconnect_says, notify_says}
use Rattle.rtr_receiver.specs.declared.Stop.{Stop}
use Rattle.rtr_receiver.specs.declared.Phase.{Phase}
use Rattle.rtr_receiver.specs.declared.Session.{Session}
use Rattle.rtr_receiver.proofs.Kept.{stops_rightly}
use Rattle.rtr_receiver.proofs.Laws.{fed-means, stops-are, stop-repeats}
use Rattle.rtr_receiver.specs.declared.Table.{Table}

-- ---- Without receiver shape: 22, and everything is kept

module _ (limit : ℕ) (s : Session) (live working : Rooms) (hold : List ℕ) (e : is_receiver limit s live working hold ≡ false) where
  -- an ask's refusal by 22, with the output and the memory as they were
  abbrev refused_ask : List ℕ → AskSays
  refused_ask out = record { says = Writing.refused 22 []; out = out; left = leaves s live working hold }

  -- of whatever query
  shapeless-ask : (query_of : Receiver → Query) (out : List ℕ) → ask_says limit query_of s live working hold out ≡ refused_ask out
  shapeless-ask query_of out = simp e

  pub shapeless-full-ask : (out : List ℕ) → full_ask_says limit s live working hold out ≡ refused_ask out
  unfolding full_ask_says
  shapeless-full-ask out = shapeless-ask (λ r. full_query r.stage r) out

  pub shapeless-change-ask : (out : List ℕ) → change_ask_says limit s live working hold out ≡ refused_ask out
  unfolding change_ask_says
  shapeless-change-ask out = shapeless-ask (λ r. change_query r.stage r) out

  pub shapeless-reconnect : reconnect_says limit s live working hold ≡ record { number = 22; left = leaves s live working hold }
  unfolding reconnect_says
  shapeless-reconnect = simp e

  pub shapeless-notify : notify_says limit s live working hold ≡ NotifySays.refused_notify 22
  unfolding notify_says
  shapeless-notify = simp e

-- ---- With it: the receiver's step

module _ (limit : ℕ) (s : Session) (live working : Rooms) (hold : List ℕ) (e : is_receiver limit s live working hold ≡ true) where
  -- the receiver that asks
  abbrev here : Receiver
  here = receiver_of s live working hold

  pub shaped-feed : (piece : List ℕ) → feed_says limit s live working hold piece ≡ fed_to limit (feed limit (length hold) (receiver_of s live working hold) piece)
  unfolding feed_says
  shaped-feed piece = simp e

  -- by whatever query
  shaped-ask : (query_of : Receiver → Query) (out : List ℕ) → ask_says limit query_of s live working hold out ≡ asked_to limit (ask (query_of here) here out)
  shaped-ask query_of out = simp e

  pub shaped-full-ask : (out : List ℕ) → full_ask_says limit s live working hold out ≡ asked_to limit (ask (full_query (stage_of s.phase) here) here out)
  unfolding full_ask_says
  shaped-full-ask out = shaped-ask (λ r. full_query r.stage r) out

  pub shaped-change-ask : (out : List ℕ) → change_ask_says limit s live working hold out ≡ asked_to limit (ask (change_query (stage_of s.phase) here) here out)
  unfolding change_ask_says
  shaped-change-ask out = shaped-ask (λ r. change_query r.stage r) out

  pub shaped-reconnect : reconnect_says limit s live working hold ≡ record { number = 0; left = in_memory limit (reconnected here) }
  unfolding reconnect_says
  shaped-reconnect = simp e

  pub shaped-notify : notify_says limit s live working hold ≡ NotifySays.compares (notified s.table s.note)
  unfolding notify_says
  shaped-notify = simp e

-- ---- 22 is for nothing else

-- a session stops by 1, which never arises in a stream, or by 2 to 8 or 12 to 19
phase-stops : (p : Phase) → (stops_rightly (stage_of p) ≡ true) ⊎ ((x : List ℕ) × (stage_of p ≡ stopped 1 x))
phase-stops Phase.Idle = inl refl
phase-stops Phase.MustReset = inl refl
phase-stops Phase.AskedFull = inl refl
phase-stops Phase.AskedChange = inl refl
phase-stops (Phase.Loading kind session) = inl refl
phase-stops (Phase.Stopped (Stop.Stream (StreamError.Read (IncompletePdu a b)))) = inr (a ∷ b ∷ [], refl)
phase-stops (Phase.Stopped (Stop.Stream (StreamError.Read (InvalidPduType k)))) = inl refl
phase-stops (Phase.Stopped (Stop.Stream (StreamError.Read (InvalidProtocolVersion k)))) = inl refl
phase-stops (Phase.Stopped (Stop.Stream (StreamError.Read (InvalidErrorCode k)))) = inl refl
phase-stops (Phase.Stopped (Stop.Stream (StreamError.Read (InvalidLength a b c)))) = inl refl
phase-stops (Phase.Stopped (Stop.Stream (StreamError.Read (InvalidPrefixLength a b c)))) = inl refl
phase-stops (Phase.Stopped (Stop.Stream (StreamError.Read InvalidUtf8))) = inl refl
phase-stops (Phase.Stopped (Stop.Stream (StreamError.Read RouterKeyInV0))) = inl refl
phase-stops (Phase.Stopped (Stop.Stream (StreamError.OverHold k))) = inl refl
phase-stops (Phase.Stopped Stop.OutOfTurn) = inl refl
phase-stops (Phase.Stopped Stop.OtherVersion) = inl refl
phase-stops (Phase.Stopped Stop.OtherSession) = inl refl
phase-stops (Phase.Stopped Stop.NotIn) = inl refl
phase-stops (Phase.Stopped Stop.AlreadyIn) = inl refl
phase-stops (Phase.Stopped Stop.RoomFull) = inl refl
phase-stops (Phase.Stopped (Stop.ErrorReport c)) = inl refl

-- what an ask says is what its query's encoding says
asked-says : (w : Writing) (stage : Stage) (r : Receiver) (out : List ℕ) → (asked_by w stage r out).says ≡ w
asked-says (Writing.written k) stage r out = refl
asked-says (Writing.refused k x) stage r out = refl

-- which is written, or refused by 9
by-space : (b : Bool) (k : ℕ) → number_of (cond b (Writing.written k) (Writing.refused 9 (k ∷ []))) ≡ 22 → ⊥
by-space true k q = omega arith
by-space false k q = omega arith

-- neither query is refused by 22
module _ (r : Receiver) (out : List ℕ) where
  full-never-22 : (stage : Stage) → number_of (ask (full_query stage r) r out).says ≡ 22 → ⊥
  full-never-22 idle q = by-space (leb 8 (length out)) 8 (sym (ap number_of (asked-says _ asked_full r _ ∙ reset-query-says in_use r.version out)) ∙ q)
  full-never-22 must_reset q = by-space (leb 8 (length out)) 8 (sym (ap number_of (asked-says _ asked_full r _ ∙ reset-query-says in_use r.version out)) ∙ q)
  full-never-22 asked_full q = omega arith
  full-never-22 asked_change q = omega arith
  full-never-22 (loading kind session) q = omega arith
  full-never-22 (stopped k x) q = omega arith

  -- a change ask in Idle, by the table
  serial-never-22 : (table : Option Table) → number_of (ask (serial_query table r) r out).says ≡ 22 → ⊥
  serial-never-22 None q = omega arith
  serial-never-22 (Some t) q = by-space (leb 12 (length out)) 12 (sym (ap number_of (asked-says _ asked_change r _ ∙ serial-query-says in_use r.version t.session t.serial out)) ∙ q)

  change-never-22 : (stage : Stage) → number_of (ask (change_query stage r) r out).says ≡ 22 → ⊥
  change-never-22 idle q = serial-never-22 r.table q
  change-never-22 must_reset q = omega arith
  change-never-22 asked_full q = omega arith
  change-never-22 asked_change q = omega arith
  change-never-22 (loading kind session) q = omega arith
  change-never-22 (stopped k x) q = omega arith

module _ (limit : ℕ) (s : Session) (live working : Rooms) (hold : List ℕ) where
  -- no feed stops by 22
  pub stops-not-22 : (piece : List ℕ) (taken updates k : ℕ) (x : List ℕ) (left : Left) → feed_says limit s live working hold piece ≡ FeedSays.fed taken updates (Ending.stops k x) left → k ≡ 22 → ⊥
  stops-not-22 piece taken updates k x left e q = go (phase-stops s.phase)
    where
      go : (stops_rightly (stage_of s.phase) ≡ true) ⊎ ((y : List ℕ) × (stage_of s.phase ≡ stopped 1 y)) → ⊥
      go (inl t) =
          let z : true ≡ false = sym (stops-are limit s live working hold piece taken updates k x left t e) ∙ ap is_stop q in
          let o : ◌≡◌ {A = ℕ} 0 1 = cc in
          omega arith
      go (inr t) =
          let m = fed-means limit s live working hold piece taken updates (Ending.stops k x) left e in
          let again = stop-repeats limit s live working hold piece 1 t.0 m.shape t.1 in
          let one : k ≡ 1 = cc in
          omega arith

  module _ (e : is_receiver limit s live working hold ≡ true) where
    -- no feed of receiver shape is refused
    pub shaped-not-refused : (piece : List ℕ) (number taken updates : ℕ) (left : Left) (h : List ℕ) → feed_says limit s live working hold piece ≡ FeedSays.refused_feed number taken updates left h → ⊥
    shaped-not-refused piece number taken updates left h q =
        let fed = shaped-feed limit s live working hold e piece in
        let o : ◌≡◌ {A = ℕ} 0 1 = cc in
        omega arith

    -- no ask of receiver shape is refused by 22
    pub full-ask-not-22 : (out : List ℕ) → number_of (full_ask_says limit s live working hold out).says ≡ 22 → ⊥
    full-ask-not-22 out q = full-never-22 (receiver_of s live working hold) out (stage_of s.phase) (sym (ap (λ (a : AskSays). number_of a.says) (shaped-full-ask limit s live working hold e out)) ∙ q)

    pub change-ask-not-22 : (out : List ℕ) → number_of (change_ask_says limit s live working hold out).says ≡ 22 → ⊥
    change-ask-not-22 out q = change-never-22 (receiver_of s live working hold) out (stage_of s.phase) (sym (ap (λ (a : AskSays). number_of a.says) (shaped-change-ask limit s live working hold e out)) ∙ q)

-- ---- Holds of one length, with the same bytes held

module _ (limit : ℕ) (s : Session) (live working hold hold' : List ℕ) (size : length hold ≡ length hold') (same : take s.held hold ≡ take s.held hold') where
  -- shape goes by the stream's test
  pub shape-alike : is_receiver limit s live working hold ≡ is_receiver limit s live working hold'
  unfolding is_receiver
  shape-alike = ap (λ (b : Bool). has_limit limit s && (is_room limit s.live.records live && (is_room limit s.working.records working && (b && in_order s)))) (stream-alike hold hold' s.held size same)

  -- where there is receiver shape: a refused feed leaves the whole hold
  pub feed-alike : (piece : List ℕ) → is_receiver limit s live working hold ≡ true → feed_says limit s live working hold piece ≡ feed_says limit s live working hold' piece
  feed-alike piece e =
      shaped-feed limit s live working hold e piece
      ∙ (λ i. fed_to limit (feed limit (size i) (record { version = s.life.version; stage = stage_of s.phase; table = s.table; note = s.note; live = records s.live.records live; working = records s.working.records working; held = same i }) piece))
      ∙ sym (shaped-feed limit s live working hold' (sym shape-alike ∙ e) piece)
