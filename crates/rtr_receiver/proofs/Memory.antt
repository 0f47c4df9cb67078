-- A session record and lent memory of receiver shape are a receiver in memory: each room is the room of the records read from it, and as many are
-- read as the count says. Receiver shape is its five tests. A stop is always a refusal. Assumes nothing.
use Rattle.std.proofs.Common.{◌≡◌, ℕ, ◌*◌, ◌≤◌, Bool, true, false, not, ◌&&◌, eqb, List, length, sym, refl, ap, ◌∙◌, length-take-le, eq-eqb, eqb-true}
use borrow.Author.Tests.{not-true, not-false}
use Rattle.rtr_codec.specs.Read.{Verdict}
use Rattle.rtr_codec.specs.Answers.{refusal, number_of}
use Rattle.rtr_codec.proofs.Laws.{refusal_is}
use Rattle.rtr_codec.specs.declared.RtrError.{RtrError}
use Rattle.rtr_stream.specs.Search.{is_stream}
use Rattle.rtr_stream.specs.declared.StreamError.{StreamError}
use Rattle.rtr_stream.proofs.Laws.{stream-has}
use Rattle.rtr_room.specs.Table.{all_in_rule, ordered, is_table}
use Rattle.rtr_room.specs.Room.{room, records, is_room}
use Rattle.rtr_room.proofs.Laws.{rules-exactly, records-of-room, room-length}
use Rattle.rtr_room.proofs.Laws.Tests.{first_of, second-of, both, not-both, unless}
use Rattle.rtr_receiver.specs.Contents.{Rooms}
use Rattle.rtr_receiver.specs.Receiver.{Stage}
use Rattle.rtr_receiver.specs.Promises.{Left, stop_said, stage_of, receiver_of, in_order, is_limit, has_limit, is_receiver, leaves, in_memory}
use Rattle.rtr_receiver.specs.declared.Stop.{Stop}
use Rattle.rtr_receiver.specs.declared.Phase.{Phase}
use Rattle.rtr_receiver.specs.declared.Life.{Life}
use Rattle.rtr_receiver.specs.declared.Counts.{Counts}
use Rattle.rtr_receiver.specs.declared.Session.{Session}

-- ---- A test of the code, taken with `!`

pub fails : {r b : Bool} → r ≡ b → not r ≡ true → b ≡ false
fails {r} e h = sym e ∙ not-true r h

pub holds : {r b : Bool} → r ≡ b → not r ≡ false → b ≡ true
holds {r} e h = sym e ∙ not-false r h

-- ---- Rooms

-- numbers that keep the room rules are the room of their records, as many as counted, within the limit, in order and in rule
pub room-stands
    : (limit count : ℕ) (s : List ℕ) →
    is_room limit count s ≡ true →
    (s ≡ room limit (records count s))
    × (length (records count s) ≡ count)
    × (count ≤ limit)
    × (ordered (records count s) ≡ true)
    × (is_table (records count s) ≡ true)
room-stands limit count s e =
    let r = (rules-exactly limit count s).0 e in
    let same : records count s ≡ r.0 =
    ap (λ (n : ℕ). records n s) (sym r.2) ∙ ap (records (length r.0)) r.4 ∙ records-of-room limit r.0 in
    (r.4 ∙ ap (room limit) (sym same), ap length same ∙ r.2, r.3, ap ordered same ∙ second-of (all_in_rule r.0) _ r.1, ap is_table same ∙ r.1)

-- it has six numbers for each record of the limit, and no more records than the limit
pub room-size : (limit count : ℕ) (s : List ℕ) → is_room limit count s ≡ true → (length s ≡ 6 * limit) × (count ≤ limit)
room-size limit count s e =
    let r = (rules-exactly limit count s).0 e in
    (ap length r.4 ∙ room-length limit r.0 (rw r.2 r.3), r.3)

-- ---- What is left

-- a life and counts are their fields
pub with-limit : {a : Life} {n : ℕ} → a.limit ≡ n → a ≡ record { version = a.version; limit = n }
with-limit {a} e = λ i. record { version = a.version; limit = e i }

pub with-records : {a : Counts} {n : ℕ} → a.records ≡ n → a ≡ record { records = n }
with-records e = λ i. record { records = e i }

-- what is left is its ten fields
pub left-alike
    : {a b : Left} →
    a.life ≡ b.life →
    a.stage ≡ b.stage →
    a.table ≡ b.table →
    a.note ≡ b.note →
    a.live_count ≡ b.live_count →
    a.working_count ≡ b.working_count →
    a.held_count ≡ b.held_count →
    a.live ≡ b.live →
    a.working ≡ b.working →
    a.held ≡ b.held →
    a ≡ b
left-alike p0 p1 p2 p3 p4 p5 p6 p7 p8 p9 = λ i.
    record {
      life = p0 i;
      stage = p1 i;
      table = p2 i;
      note = p3 i;
      live_count = p4 i;
      working_count = p5 i;
      held_count = p6 i;
      live = p7 i;
      working = p8 i;
      held = p9 i;
    }

-- ---- Receiver shape

module _ (limit : ℕ) (s : Session) (live working : Rooms) (hold : List ℕ) where
  -- rooms that keep the rules and no more held than the hold has: what is left is the receiver's memory
  pub rooms-stand
      : s.life.limit ≡ limit →
      is_room limit s.live.records live ≡ true →
      is_room limit s.working.records working ≡ true →
      s.held ≤ length hold →
      leaves s live working hold ≡ in_memory limit (receiver_of s live working hold)
  rooms-stand k l w h =
      let a = room-stands limit s.live.records live l in
      let b = room-stands limit s.working.records working w in
      left-alike (with-limit k) refl refl refl (with-records (sym a.1)) (with-records (sym b.1)) (sym (length-take-le s.held hold h)) a.0 b.0 refl

  -- the session's limit is the one that is spoken of
  pub limit_is : has_limit limit s ≡ true → s.life.limit ≡ limit
  limit_is e = eqb-true s.life.limit limit (first_of (eqb s.life.limit limit) _ e)

  pub shape_of
      : is_receiver limit s live working hold ≡ true →
      (is_room limit s.live.records live ≡ true) × (is_room limit s.working.records working ≡ true) × (is_stream hold s.held ≡ true) × (in_order s ≡ true) × (has_limit limit s ≡ true)
  unfolding is_receiver
  shape_of e =
      let all = second-of (has_limit limit s) (is_room limit s.live.records live && (is_room limit s.working.records working && (is_stream hold s.held && in_order s))) e in
      let rest = second-of (is_room limit s.live.records live) (is_room limit s.working.records working && (is_stream hold s.held && in_order s)) all in
      let last = second-of (is_room limit s.working.records working) (is_stream hold s.held && in_order s) rest in (
        first_of (is_room limit s.live.records live) _ all,
        first_of (is_room limit s.working.records working) _ rest,
        first_of (is_stream hold s.held) (in_order s) last,
        second-of (is_stream hold s.held) (in_order s) last,
        first_of (has_limit limit s) _ e,
      )

  pub limit-of : is_receiver limit s live working hold ≡ true → s.life.limit ≡ limit
  limit-of e = limit_is (shape_of e).4

  pub shape_is
      : is_room limit s.live.records live ≡ true →
      is_room limit s.working.records working ≡ true →
      is_stream hold s.held ≡ true →
      in_order s ≡ true →
      has_limit limit s ≡ true →
      is_receiver limit s live working hold ≡ true
  unfolding is_receiver
  shape_is l w h o k = both _ _ k (both _ _ l (both _ _ w (both _ _ h o)))

  -- where one of the five fails
  pub not-shape-limit : has_limit limit s ≡ false → is_receiver limit s live working hold ≡ false
  not-shape-limit e = unless _ (λ t. not-both _ (shape_of t).4 e)

  pub not-shape-live : is_room limit s.live.records live ≡ false → is_receiver limit s live working hold ≡ false
  not-shape-live e = unless _ (λ t. not-both _ (shape_of t).0 e)

  pub not-shape-working : is_room limit s.working.records working ≡ false → is_receiver limit s live working hold ≡ false
  not-shape-working e = unless _ (λ t. not-both _ (shape_of t).1 e)

  pub not-shape-hold : is_stream hold s.held ≡ false → is_receiver limit s live working hold ≡ false
  not-shape-hold e = unless _ (λ t. not-both _ (shape_of t).2 e)

  pub not-shape-order : in_order s ≡ false → is_receiver limit s live working hold ≡ false
  not-shape-order e = unless _ (λ t. not-both _ (shape_of t).3 e)

  -- with the other four the working room decides
  pub shape-by-working
      : is_room limit s.live.records live ≡ true →
      is_stream hold s.held ≡ true →
      in_order s ≡ true →
      has_limit limit s ≡ true →
      is_receiver limit s live working hold ≡ is_room limit s.working.records working
  shape-by-working l h o k = go (is_room limit s.working.records working) refl
    where
      go : (b : Bool) → is_room limit s.working.records working ≡ b → is_receiver limit s live working hold ≡ b
      go true e = shape_is l e h o k
      go false e = not-shape-working e

  pub standing : is_receiver limit s live working hold ≡ true → leaves s live working hold ≡ in_memory limit (receiver_of s live working hold)
  standing e =
      let shape = shape_of e in
      rooms-stand (limit_is shape.4) shape.0 shape.1 (stream-has hold s.held shape.2).1

-- a session's own limit
pub own-limit : (s : Session) → is_limit s.life.limit ≡ true → has_limit s.life.limit s ≡ true
own-limit s e = both _ _ (eq-eqb s.life.limit s.life.limit refl) e

pub own-limit-fails : (s : Session) → is_limit s.life.limit ≡ false → has_limit s.life.limit s ≡ false
own-limit-fails s e = unless _ (λ t. not-both _ (second-of (eqb s.life.limit s.life.limit) _ t) e)

-- ---- Stops

-- a read's refusal is one
refused-by : (error : RtrError) → (number : ℕ) × (values : List ℕ) × (refusal error ≡ Verdict.refused number values)
refused-by error = (number_of (refusal error), (refusal_is error).0, (refusal_is error).1)

-- a stop has a number and values
pub stop-says : (stop : Stop) → (number : ℕ) × (values : List ℕ) × (stop_said stop ≡ Verdict.refused number values)
stop-says (Stop.Stream (StreamError.Read error)) = refused-by error
stop-says (Stop.Stream (StreamError.OverHold length)) = (_, _, refl)
stop-says Stop.OutOfTurn = (_, _, refl)
stop-says Stop.OtherVersion = (_, _, refl)
stop-says Stop.OtherSession = (_, _, refl)
stop-says Stop.NotIn = (_, _, refl)
stop-says Stop.AlreadyIn = (_, _, refl)
stop-says Stop.RoomFull = (_, _, refl)
stop-says (Stop.ErrorReport code) = (_, _, refl)

-- so Stopped is a stop
pub stopped-is : (stop : Stop) → (number : ℕ) × (values : List ℕ) × (stage_of (Phase.Stopped stop) ≡ Stage.stopped number values)
stopped-is stop = let r = stop-says stop in (r.0, r.1, rw r.2)
