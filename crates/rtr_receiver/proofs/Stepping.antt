-- What a step of a feed comes to, by what the search found. Assumes nothing.
use Rattle.std.specs.Prelude.{Ok, Err, Result, Option, Some, None}
use Rattle.std.proofs.Common.{◌≡◌, ℕ, ◌+◌, ◌-◌, ◌<◌, ◌≤◌, true, false, eqb, List, [], length, take, drop, replicate, sym, refl, ap, ◌∙◌, inr, arith, length-drop, drop-drop}
use lib.Seq.{take-nil}
use Rattle.rtr_models.specs.declared.RtrPdu.{RtrPdu}
use Rattle.rtr_codec.specs.Reading.{in_use}
use Rattle.rtr_codec.proofs.Rules.{LengthsInRule, accepted-in-rule}
use Rattle.rtr_stream.specs.Stream.{judge}
use Rattle.rtr_stream.specs.Search.{End, Search, Outcome, is_stream, search_from, search, says_of, outcome_of, stream_refusal, stops_by, said_by, search_said, bytes_of}
use Rattle.rtr_stream.specs.declared.StreamError.{StreamError}
use Rattle.rtr_stream.specs.declared.Lies.{Lies}
use Rattle.rtr_stream.specs.declared.Searched.{Searched}
use Rattle.rtr_stream.proofs.Told.{more-told, stop-told, pdu-told, never-told}
use Rattle.rtr_stream.proofs.Laws.{stream-has, stream-exactly, search_is, search-takes, search-moves, found-is-read, nothing-waits}
use Rattle.rtr_room.specs.Room.{room, records}
use Rattle.rtr_room.proofs.Laws.{empty-is}
use Rattle.rtr_receiver.specs.Contents.{Rooms}
use Rattle.rtr_receiver.specs.Receiver.{Stage, Receiver, Deed, holding, stop, listens, on_pdu, on_piece, feed}
use Rattle.rtr_receiver.specs.Receiver.Stage.{idle, must_reset, asked_full, asked_change, loading, stopped}
use Rattle.rtr_receiver.specs.Promises.{Ending, FeedSays, stop_said, stopped_by, stage_of, receiver_of, is_limit, is_receiver, ending_of, Left, leaves, in_memory, fed_to, feed_says, fed_said_by}
use Rattle.rtr_receiver.specs.Private.{Did, feed_here, SteppedTo, stopped_session, goes_on_in}
use Rattle.rtr_receiver.specs.declared.Stop.{Stop}
use Rattle.rtr_receiver.specs.declared.Phase.{Phase}
use Rattle.rtr_receiver.specs.declared.Session.{Session}
use Rattle.rtr_receiver.specs.declared.DeedDone.{DeedDone}
use Rattle.rtr_receiver.proofs.Feeds.{from, stopped-takes-none, fed-more, fed-pdu, fed-stop}
use Rattle.rtr_receiver.proofs.Good.{Good, pdu-good}
use Rattle.rtr_room.proofs.Laws.Tests.{second-of}
use Rattle.rtr_receiver.proofs.Steps.{Shape, shape_is, good_of, shape-of-good, stands-for, stopped-stage}
use Rattle.rtr_receiver.proofs.Memory.{room-stands, room-size, with-limit, with-records, left-alike, limit_is, standing, stop-says}
use Rattle.rtr_stream.specs.declared.SearchError.{SearchError}
use Rattle.rtr_receiver.specs.declared.FeedError.{FeedError}

-- a receiver that listens has no stop to tell
goes_on_lem : (stage : Stage) → listens stage ≡ true → ending_of stage ≡ Ending.goes_on
goes_on_lem idle e = refl
goes_on_lem must_reset e = refl
goes_on_lem asked_full e = refl
goes_on_lem asked_change e = refl
goes_on_lem (loading kind session) e = refl
goes_on_lem (stopped k x) e = absurd (let z : ◌≡◌ {A = ℕ} 0 1 = cc in omega arith)

module _ (limit : ℕ) (s : Session) (live working : Rooms) (hold piece : List ℕ) (at updates : ℕ) (shape : Shape limit s live working hold) (on : listens (stage_of s.phase) ≡ true) where
  abbrev here : Receiver
  here = receiver_of s live working hold

  abbrev pub ended : Search
  ended = search_from in_use (length hold) at (take s.held hold) (drop at piece)

  module _ (r : Searched) (hold' : List ℕ) (same : length hold' ≡ length hold) (e : search_said r hold' piece ≡ search hold s.held piece at) where
    outcome : search_said r hold' piece ≡ outcome_of s.held at ended
    outcome = e ∙ search_is hold piece s.held at shape.stream

    pub says_is : said_by r.answer hold' piece ≡ says_of s.held at ended.end
    says_is = ap (λ (o : Outcome). o.says) outcome

    pub next-is : r.next ≡ ended.next
    next-is = ap (λ (o : Outcome). o.next) outcome

    count-is : r.stream.held ≡ length ended.held
    count-is = ap (λ (o : Outcome). o.count) outcome

    held-is : take r.stream.held hold' ≡ ended.held
    held-is = ap (λ (o : Outcome). o.held) outcome

    limited : s.life ≡ record { version = s.life.version; limit = limit }
    limited = with-limit (limit_is limit s live working hold shape.limited)

    live-is : live ≡ room limit (records s.live.records live)
    live-is = (room-stands limit s.live.records live shape.live-room).0

    live-long : s.live.records ≡ length (records s.live.records live)
    live-long = sym (room-stands limit s.live.records live shape.live-room).1

    working-is : working ≡ room limit (records s.working.records working)
    working-is = (room-stands limit s.working.records working shape.working-room).0

    working-long : s.working.records ≡ length (records s.working.records working)
    working-long = sym (room-stands limit s.working.records working shape.working-room).1

    -- zeros all over are the empty working table
    zeros : replicate (length working) 0 ≡ room limit []
    zeros =
        ap (λ (n : ℕ). replicate n 0) (room-size limit s.working.records working shape.working-room).0 ∙ (empty-is limit).0

    pub step-more
        : r.answer ≡ Ok None →
        fed_said_by (Ok tt) r.next updates
        (leaves (record { life = s.life; phase = s.phase; table = s.table; note = s.note; live = s.live; working = s.working; held = r.stream.held }) live working hold')
        hold'
        ≡ fed_to limit (feed_here limit s live working hold piece at updates)
    step-more a =
        let end : ended.end ≡ End.more = more-told s.held at ended.end (sym (ap (λ (x : Result (Option (RtrPdu × Lies)) SearchError). said_by x hold' piece) a) ∙ says_is) in
        let fed : feed_here limit s live working hold piece at updates ≡ from (holding ended.held here) ended.next updates =
        fed-more limit (length hold) here updates on (drop at piece) at (take s.held hold) end in
        let on-goes : Ending.goes_on ≡ ending_of (stage_of s.phase) = sym (goes_on_lem (stage_of s.phase) on) in
        let left = left-alike {b = in_memory limit (holding ended.held here)} limited refl refl refl (with-records live-long) (with-records working-long) count-is live-is working-is held-is in
        (λ i. FeedSays.fed (next-is i) updates (on-goes i) (left i)) ∙ sym (ap (fed_to limit) fed)

    pub step-never : r.answer ≡ Err SearchError.NotAStream → ⊥
    step-never a = never-told s.held at hold' ended.end (sym (ap (λ (x : Result (Option (RtrPdu × Lies)) SearchError). said_by x hold' piece) a) ∙ says_is)

    pub step-stop
        : (error : StreamError) (t : Session) (working' : List ℕ) →
        r.answer ≡ Err (SearchError.Refused error) →
        t ≡ stopped_session s (Stop.Stream error) →
        working' ≡ replicate (length working) 0 →
        fed_said_by (Err (FeedError.Stopped (Stop.Stream error))) r.next updates (leaves t live working' hold') hold'
        ≡ fed_to limit (feed_here limit s live working hold piece at updates)
    step-stop error t working' a stopping emptied =
        let told = stop-says (Stop.Stream error) in
        let k : ℕ = told.0 in
        let x : List ℕ = told.1 in
        let end : ended.end ≡ End.stop k x =
        stop-told s.held at k x ended.end (sym (ap stops_by told.2) ∙ sym (ap (λ (y : Result (Option (RtrPdu × Lies)) SearchError). said_by y hold' piece) a) ∙ says_is) in
        let fed : feed_here limit s live working hold piece at updates ≡ from (stop k x here) ended.next updates =
        fed-stop limit (length hold) here updates on (drop at piece) at (take s.held hold) k x end in
        let stage : stopped_by (stream_refusal error) ≡ stopped k x = ap stopped_by told.2 in
        let left = left-alike {a = leaves (stopped_session s (Stop.Stream error)) live working' hold'} {b = in_memory limit (stop k x here)} limited stage refl refl (with-records live-long) refl refl live-is (emptied ∙ zeros) refl in
        ap (λ (y : Session). fed_said_by (Err (FeedError.Stopped (Stop.Stream error))) r.next updates (leaves y live working' hold') hold') stopping
        ∙ (λ i. FeedSays.fed (next-is i) updates (ending_of (stage i)) (left i))
        ∙ sym (ap (fed_to limit) fed)

    module _ (pdu : RtrPdu) (lies : Lies) (found : r.answer ≡ Ok (Some (pdu, lies))) where
      abbrev bytes : List ℕ
      bytes = bytes_of lies hold' piece

      end_is : ended.end ≡ End.found pdu bytes
      end_is = pdu-told s.held at pdu lies bytes ended.end (sym (ap (λ (x : Result (Option (RtrPdu × Lies)) SearchError). said_by x hold' piece) found) ∙ says_is)

      abbrev deed : Deed
      deed = on_pdu limit pdu (holding [] here)

      rest-is : at ≤ length piece → drop (ended.next - at) (drop at piece) ≡ drop r.next piece
      rest-is inside =
          let t = search-takes in_use (length hold) (drop at piece) at (take s.held hold) in
          let place : at + (ended.next - at) ≡ r.next = omega (arith, next-is, t.0) in
          drop-drop (ended.next - at) at piece ∙ ap (λ (n : ℕ). drop n piece) place

      in-rule : LengthsInRule pdu
      in-rule =
          accepted-in-rule in_use bytes pdu (length bytes)
          (found-is-read in_use (length hold) (drop at piece) at (take s.held hold) pdu bytes (stream-has hold s.held shape.stream).2 end_is)

      good : Good limit deed.then × (deed.updates ≤ 1)
      good =
          let g = good_of limit s live working hold shape in
          pdu-good limit pdu (holding [] here)
          (record {
            live = g.live;
            live-fits = g.live-fits;
            working = g.working;
            working-fits = g.working-fits;
            tabled = g.tabled;
            emptied = g.emptied;
            quiet = inr refl;
          })
          in-rule

      -- the feed from here is the feed from behind the PDU
      fed-on : at ≤ length piece → feed_here limit s live working hold piece at updates ≡ on_piece limit (length hold) (from deed.then r.next (updates + deed.updates)) (drop r.next piece)
      fed-on inside =
          fed-pdu limit (length hold) here updates on (drop at piece) at (take s.held hold) pdu bytes end_is
          ∙ ap (λ (n : ℕ). on_piece limit (length hold) (from deed.then n (updates + deed.updates)) (drop (ended.next - at) (drop at piece))) (sym next-is)
          ∙ ap (on_piece limit (length hold) (from deed.then r.next (updates + deed.updates))) (rest-is inside)

      -- an update takes a byte, so they are never more than the bytes
      pub step_counts : (d : DeedDone) (live' working' : List ℕ) → at ≤ length piece → updates ≤ at → Did limit d live' working' deed → updates + d.updates ≤ length piece
      step_counts d live' working' inside few did =
          let moved : at < ended.next =
          search-moves in_use (length hold) (drop at piece) at (take s.held hold) (λ m. let z : ◌≡◌ {A = ℕ} 0 1 = cc end_is in omega arith) in
          let takes = search-takes in_use (length hold) (drop at piece) at (take s.held hold) in
          omega (arith, did.1, good.1, takes.1, length-drop at piece)

      pub step-pdu
          : (d : DeedDone) (live' working' : List ℕ) →
          at ≤ length piece →
          updates ≤ at →
          Did limit d live' working' deed →
          SteppedTo limit (feed_here limit s live working hold piece at updates) piece at d.session r.next (updates + d.updates) live' working' hold' (goes_on_in d.session.phase)
      step-pdu d live' working' inside few did = go d.session.phase refl
        where
          held_none : deed.then.held ≡ []
          held_none = sym (ap (λ (x : Left). x.held) did.0) ∙ take-nil d.session.held

          held-zero : d.session.held ≡ 0
          held-zero = ap (λ (x : Left). x.held_count) did.0 ∙ ap length held_none

          left : leaves d.session live' working' hold' ≡ in_memory limit deed.then
          left =
              left-alike (ap (λ (x : Left). x.life) did.0) (ap (λ (x : Left). x.stage) did.0) (ap (λ (x : Left). x.table) did.0) (ap (λ (x : Left). x.note) did.0)
              (ap (λ (x : Left). x.live_count) did.0) (ap (λ (x : Left). x.working_count) did.0) (ap (λ (x : Left). x.held_count) did.0)
              (ap (λ (x : Left). x.live) did.0) (ap (λ (x : Left). x.working) did.0) (ap (λ (n : ℕ). take n hold') held-zero ∙ sym held_none)

          stage_is : stage_of d.session.phase ≡ deed.then.stage
          stage_is = ap (λ (x : Left). x.stage) left

          counted : updates + d.updates ≡ updates + deed.updates
          counted = ap (λ (n : ℕ). updates + n) did.1

          over : (why : Stop) → d.session.phase ≡ Phase.Stopped why → fed_said_by (Err (FeedError.Stopped why)) r.next (updates + d.updates) (leaves d.session live' working' hold') hold' ≡ fed_to limit (feed_here limit s live working hold piece at updates)
          over why e =
              let stage : stage_of (Phase.Stopped why) ≡ deed.then.stage = sym (ap stage_of e) ∙ stage_is in
              let deaf : listens deed.then.stage ≡ false = sym (ap listens (sym (stopped-stage why) ∙ stage)) in
              (λ i. FeedSays.fed r.next (counted i) (ending_of (stage i)) (left i))
              ∙ sym
              (ap (fed_to limit)
              (fed-on inside ∙ stopped-takes-none limit (length hold) (drop r.next piece) (from deed.then r.next (updates + deed.updates)) deaf))

          again : listens (stage_of d.session.phase) ≡ true →
              (is_receiver limit d.session live' working' hold' ≡ true)
              × (listens (stage_of d.session.phase) ≡ true)
              × (at < r.next)
              × (r.next ≤ length piece)
              × (updates + d.updates ≤ r.next)
              × (feed_here limit d.session live' working' hold' piece r.next (updates + d.updates) ≡ feed_here limit s live working hold piece at updates)
          again listening =
              let has = stream-has hold s.held shape.stream in
              let moved : at < ended.next =
              search-moves in_use (length hold) (drop at piece) at (take s.held hold)
              (λ m. let z : ◌≡◌ {A = ℕ} 0 1 = cc end_is in omega arith) in
              let takes = search-takes in_use (length hold) (drop at piece) at (take s.held hold) in
              let waits-now = ap (λ (n : ℕ). take n hold') held-zero in
              let stream : is_stream hold' d.session.held ≡ true =
              stream-exactly hold' d.session.held (omega (arith, has.0)) (omega (arith, held-zero))
              (ap (λ (x : List ℕ). judge in_use (length hold') x) waits-now ∙ nothing-waits in_use (length hold')) in (
                shape_is limit d.session live' working' hold' (shape-of-good limit d.session live' working' hold' (second-of (eqb s.life.limit limit) (is_limit limit) shape.limited) deed.then good.0 left stream),
                listening,
                omega (arith, next-is),
                omega (arith, next-is, takes.1, length-drop at piece),
                omega (arith, next-is, did.1, good.1),
                ap (λ (h : ℕ). on_piece limit h (from (receiver_of d.session live' working' hold') r.next (updates + d.updates)) (drop r.next piece)) same
                    ∙ ap (λ (x : Receiver). on_piece limit (length hold) (from x r.next (updates + d.updates)) (drop r.next piece)) (stands-for limit d.session live' working' hold' deed.then left)
                    ∙ ap (λ (n : ℕ). on_piece limit (length hold) (from deed.then r.next n) (drop r.next piece)) counted
                    ∙ sym (fed-on inside),
              )

          go : (ph : Phase) → d.session.phase ≡ ph → SteppedTo limit (feed_here limit s live working hold piece at updates) piece at d.session r.next (updates + d.updates) live' working' hold' (goes_on_in ph)
          go Phase.Idle e = again (ap (λ (p : Phase). listens (stage_of p)) e)
          go Phase.MustReset e = again (ap (λ (p : Phase). listens (stage_of p)) e)
          go Phase.AskedFull e = again (ap (λ (p : Phase). listens (stage_of p)) e)
          go Phase.AskedChange e = again (ap (λ (p : Phase). listens (stage_of p)) e)
          go (Phase.Loading kind session) e = again (ap (λ (p : Phase). listens (stage_of p)) e)
          go (Phase.Stopped why) e = over why e

-- ---- the whole feed

module _ (limit : ℕ) (s : Session) (live working : Rooms) (hold piece : List ℕ) where
  pub feed-refused : is_receiver limit s live working hold ≡ false → FeedSays.refused_feed 22 0 0 (leaves s live working hold) hold ≡ feed_says limit s live working hold piece
  unfolding feed_says
  feed-refused e = simp e

  pub feed-taken : is_receiver limit s live working hold ≡ true → fed_to limit (feed_here limit s live working hold piece 0 0) ≡ feed_says limit s live working hold piece
  unfolding feed_says feed
  feed-taken e = simp e

  -- a stop fed again
  pub feed-stopped
      : (why : Stop) →
      s.phase ≡ Phase.Stopped why →
      is_receiver limit s live working hold ≡ true →
      FeedSays.fed 0 0 (ending_of (stopped_by (stop_said why))) (leaves s live working hold) ≡ feed_says limit s live working hold piece
  feed-stopped why e shape =
      let stage : stage_of (Phase.Stopped why) ≡ stage_of s.phase = sym (ap stage_of e) in
      let deaf : listens (stage_of s.phase) ≡ false = sym (ap listens (sym (stopped-stage why) ∙ stage)) in
      (λ i. FeedSays.fed 0 0 (ending_of (stage i)) (standing limit s live working hold shape i))
      ∙ sym (ap (fed_to limit) (stopped-takes-none limit (length hold) piece (from (receiver_of s live working hold) 0 0) deaf))
      ∙ feed-taken shape

-- any phase but Stopped
pub other-listens : (p : Phase) → ((stop : Stop) → p ≡ Phase.Stopped stop → ⊥) → listens (stage_of p) ≡ true
other-listens Phase.Idle h = refl
other-listens Phase.MustReset h = refl
other-listens Phase.AskedFull h = refl
other-listens Phase.AskedChange h = refl
other-listens (Phase.Loading kind session) h = refl
other-listens (Phase.Stopped why) h = absurd (h why refl)
