-- A receiver goes the way that the history's page says: at each of its states there is the place on that page where the connection stands (`At`), and each PDU does what the page says of it, and counts an
-- update exactly where the page finishes one (`Follows`). So each byte, ask and reconnect leads from receiver and place to receiver and place (`Leads`): the updates that finish between make the new live table, are
-- as many as a feed counts (`Counts`), and come before those still to come. Assumes nothing.
use Rattle.std.specs.Prelude.{Option, Some, None}
use Rattle.std.proofs.Common.{◌≡◌, ℕ, ◌+◌, Bool, true, false, cond, eqb, leb, List, [], ◌∷◌, ◌++◌, length, sym, refl, ap, ◌∙◌, subst, append_assoc, append-nil, arith, length-append}
use mathlib.Core.Bool.{false≢true}
use Rattle.rtr_models.specs.Values.{announces, type_of}
use Rattle.rtr_models.specs.declared.RtrProtocolVersion.{RtrProtocolVersion}
use Rattle.rtr_models.specs.declared.RtrEndOfData.{RtrEndOfData}
use Rattle.rtr_models.specs.declared.RtrPduType.{RtrPduType}
use Rattle.rtr_models.specs.declared.RtrPdu.{RtrPdu}
use Rattle.rtr_models.specs.declared.RtrPdu.TheVariants.{SerialNotify, SerialQuery, ResetQuery, CacheResponse, IPv4Prefix, IPv6Prefix, EndOfData, CacheReset, RouterKey, ErrorReport}
use Rattle.rtr_codec.specs.Reading.{in_use}
use Rattle.rtr_encode.specs.Encode.{Writing, encode}
use Rattle.rtr_encode.proofs.Laws.{reset-query-says, serial-query-says}
use Rattle.rtr_stream.specs.Stream.{Heard, judge}
use Rattle.rtr_room.specs.Table.{Change, enter, leave, ipv4_record, ipv6_record}
use Rattle.rtr_room.specs.declared.Record.{Record}
use Rattle.rtr_receiver.specs.Receiver.{Stage, Receiver, Deed, Feed, is_due, kind_in, session_in, no_update, holding, stop, start_load, on_change_response, on_cache_response, changed_to, on_record, finish, on_end_of_data, deed_of, on_kind, on_pdu, heard, listens, on_byte, on_piece, in_stage, Query, reset_query, full_query, serial_query, change_query, asked_by, ask, reconnected}
use Rattle.rtr_receiver.specs.History.{Event, Changed, Update, Live, Item, Place, Next, applied, kept, with_all, base, updated, with_updates, items_by, items, on_ask, of_session, is_due_at, kind_at, on_response, taken_in, on_prefix, end_says, on_end, on_told, of_version, on_pdu_at, unless_lost, on_item, Outcome, after, or_finished, outcome}
use Rattle.rtr_receiver.specs.History.Next.{goes, finishes}
use Rattle.rtr_receiver.specs.Runs.{bytes}
use Rattle.rtr_receiver.specs.declared.LoadKind.{LoadKind}
use Rattle.rtr_receiver.specs.declared.Table.{Table}
use Rattle.rtr_receiver.proofs.Feeds.{from}
use Rattle.rtr_receiver.proofs.Kept.{pdu-keeps, told-drops}

-- the live table of a receiver
abbrev pub live_of : Receiver → Live
live_of r = record { info = r.table; records = r.live }

-- one record more
pub with-one-more : (limit : ℕ) (cs : List Changed) (t : List Record) (c : Changed) → with_all limit t (cs ++ c ∷ []) ≡ kept (with_all limit t cs) (applied limit (with_all limit t cs) c.announced c.what)
unfolding with_all
with-one-more limit [] t c = refl
with-one-more limit (x ∷ cs) t c = with-one-more limit cs (kept t (applied limit t x.announced x.what)) c

module _ (limit H : ℕ) where
  -- the place where a receiver's connection stands; a load's working table is what its records make
  pub data At (r : Receiver) : Place → Type 0 where
    at-idle : r.stage ≡ Stage.idle → At r Place.idle
    at-reset : r.stage ≡ Stage.must_reset → At r Place.must_reset
    at-full : r.stage ≡ Stage.asked_full → At r (Place.asked LoadKind.Full)
    at-change : r.stage ≡ Stage.asked_change → At r (Place.asked LoadKind.Change)
    at_load : {kind : LoadKind} {session : ℕ} {cs : List Changed} → r.stage ≡ Stage.loading kind session → r.working ≡ with_all limit (base kind r.live) cs → At r (Place.loading kind session cs)
    at-lost : {number : ℕ} {values : List ℕ} → r.stage ≡ Stage.stopped number values → At r (Place.lost number values)

  -- what an item makes of a receiver, and the updates that it counts, are what the page says
  data Follows (r : Receiver) (d : Deed) : Next → Type 0 where
    onward : {p : Place} → At d.then p → live_of d.then ≡ live_of r → d.updates ≡ 0 → Follows r d (goes p)
    done : {u : Update} → d.then.stage ≡ Stage.idle → live_of d.then ≡ updated limit (live_of r) u → d.updates ≡ 1 → Follows r d (finishes u)

  stopped-lost : (number : ℕ) (values : List ℕ) (r : Receiver) → Follows r (no_update (stop number values r)) (goes (Place.lost number values))
  stopped-lost number values r = onward (at-lost refl) refl refl

  never : (r : Receiver) {A : Type 0} → listens r.stage ≡ true → listens r.stage ≡ false → A
  never r on off = absurd (let z : true ≡ false = sym on ∙ off in let o : ◌≡◌ {A = ℕ} 0 1 = cc in omega arith)

  -- ---- PDUs, by what they are

  -- the two tables of turns agree
  due-alike : (type : RtrPduType) (r : Receiver) (p : Place) → listens r.stage ≡ true → At r p → is_due type r.stage ≡ is_due_at type p
  due-alike type r Place.idle on (at-idle e) = ap (is_due type) e
  due-alike type r Place.must_reset on (at-reset e) = ap (is_due type) e
  due-alike type r (Place.asked LoadKind.Full) on (at-full e) = ap (is_due type) e
  due-alike type r (Place.asked LoadKind.Change) on (at-change e) = ap (is_due type) e
  due-alike type r (Place.loading kind session cs) on (at_load e w) = ap (is_due type) e
  due-alike type r (Place.lost number values) on (at-lost e) = ap (is_due type) e

  response-follows : (session : ℕ) (r : Receiver) (p : Place) → is_due_at RtrPduType.CacheResponse p ≡ true → At r p → Follows r (no_update (on_cache_response (kind_in r.stage) session r)) (goes (on_response r.table (kind_at p) session))
  unfolding with_all
  response-follows session r Place.idle due a = absurd (false≢true due)
  response-follows session r Place.must_reset due a = absurd (false≢true due)
  response-follows session r (Place.loading kind id cs) due a = absurd (false≢true due)
  response-follows session r (Place.asked LoadKind.Full) due (at-full e) =
      subst (λ (s : Stage). Follows r (no_update (on_cache_response (kind_in s) session r)) (goes (Place.loading LoadKind.Full session []))) (sym e) (onward (at_load refl refl) refl refl)
  response-follows session r (Place.asked LoadKind.Change) due (at-change e) =
      subst (λ (s : Stage). Follows r (no_update (on_cache_response (kind_in s) session r)) (goes (cond (of_session r.table session) (Place.loading LoadKind.Change session []) (Place.lost 15 [])))) (sym e) (table r.table refl)
    where
      table : (t : Option Table) → r.table ≡ t → Follows r (no_update (on_change_response t session r)) (goes (cond (of_session t session) (Place.loading LoadKind.Change session []) (Place.lost 15 [])))
      table None q = stopped-lost 15 [] r
      table (Some t) q = go (eqb session t.session)
        where
          go : (b : Bool) → Follows r (no_update (cond b (start_load LoadKind.Change session r.live r) (stop 15 [] r))) (goes (cond b (Place.loading LoadKind.Change session []) (Place.lost 15 [])))
          go true = onward (at_load refl refl) refl refl
          go false = stopped-lost 15 [] r
  response-follows session r (Place.lost number values) due a = absurd (false≢true due)

  -- a record in a load
  record-taken : (announced : Bool) (x : Record) (r : Receiver) (kind : LoadKind) (session : ℕ) (cs : List Changed) (c : Change) →
      r.stage ≡ Stage.loading kind session →
      applied limit (with_all limit (base kind r.live) cs) announced x ≡ c →
      Follows r (no_update (changed_to c r)) (goes (taken_in kind session cs announced x c))
  record-taken announced x r kind session cs (Change.changed t) e q =
      onward (at_load e (sym (with-one-more limit cs (base kind r.live) (record { announced = announced; what = x }) ∙ ap (kept (with_all limit (base kind r.live) cs)) q))) refl refl
  record-taken announced x r kind session cs (Change.refused number) e q = stopped-lost number [] r

  record-follows : (announced : Bool) (x : Record) (r : Receiver) (p : Place) → is_due_at RtrPduType.IPv4Prefix p ≡ true → At r p → Follows r (no_update (on_record limit announced x r)) (goes (on_prefix limit r.live p announced x))
  record-follows announced x r Place.idle due a = absurd (false≢true due)
  record-follows announced x r Place.must_reset due a = absurd (false≢true due)
  record-follows announced x r (Place.asked LoadKind.Full) due a = absurd (false≢true due)
  record-follows announced x r (Place.asked LoadKind.Change) due a = absurd (false≢true due)
  record-follows true x r (Place.loading kind session cs) due (at_load e w) =
      subst (λ (t : List Record). Follows r (no_update (changed_to (enter limit x t) r)) (goes (on_prefix limit r.live (Place.loading kind session cs) true x))) (sym w)
      (record-taken true x r kind session cs (enter limit x (with_all limit (base kind r.live) cs)) e refl)
  record-follows false x r (Place.loading kind session cs) due (at_load e w) =
      subst (λ (t : List Record). Follows r (no_update (changed_to (leave x t) r)) (goes (on_prefix limit r.live (Place.loading kind session cs) false x))) (sym w)
      (record-taken false x r kind session cs (leave x (with_all limit (base kind r.live) cs)) e refl)
  record-follows announced x r (Place.lost number values) due a = absurd (false≢true due)

  -- prefixes of both families are due at the same places
  prefixes-alike : (p : Place) → is_due_at RtrPduType.IPv6Prefix p ≡ is_due_at RtrPduType.IPv4Prefix p
  prefixes-alike Place.idle = refl
  prefixes-alike Place.must_reset = refl
  prefixes-alike (Place.asked LoadKind.Full) = refl
  prefixes-alike (Place.asked LoadKind.Change) = refl
  prefixes-alike (Place.loading kind session cs) = refl
  prefixes-alike (Place.lost number values) = refl

  end-follows : (q : RtrEndOfData) (r : Receiver) (p : Place) → is_due_at RtrPduType.EndOfData p ≡ true → At r p → Follows r (on_end_of_data (session_in r.stage) q r) (on_end p q.session_id (end_says q))
  end-follows q r Place.idle due a = absurd (false≢true due)
  end-follows q r Place.must_reset due a = absurd (false≢true due)
  end-follows q r (Place.asked LoadKind.Full) due a = absurd (false≢true due)
  end-follows q r (Place.asked LoadKind.Change) due a = absurd (false≢true due)
  end-follows q r (Place.loading kind session cs) due (at_load e w) =
      subst (λ (s : Stage). Follows r (on_end_of_data (session_in s) q r) (on_end (Place.loading kind session cs) q.session_id (end_says q))) (sym e) (go (eqb q.session_id session))
    where
      go : (b : Bool) →
          Follows r (cond b (record { then = finish q r; updates = 1 }) (no_update (stop 15 [] r)))
          (cond b (finishes (record { kind = kind; records = cs; end = end_says q })) (goes (Place.lost 15 [])))
      go true = done refl (λ i. record { info = Some (end_says q); records = w i }) refl
      go false = stopped-lost 15 [] r
  end-follows q r (Place.lost number values) due a = absurd (false≢true due)

  -- a receiver that keeps its phase and tables stays where it is
  stays : (r r' : Receiver) (p : Place) → r'.stage ≡ r.stage → r'.working ≡ r.working → r'.live ≡ r.live → At r p → At r' p
  stays r r' Place.idle s w l (at-idle e) = at-idle (s ∙ e)
  stays r r' Place.must_reset s w l (at-reset e) = at-reset (s ∙ e)
  stays r r' (Place.asked LoadKind.Full) s w l (at-full e) = at-full (s ∙ e)
  stays r r' (Place.asked LoadKind.Change) s w l (at-change e) = at-change (s ∙ e)
  stays r r' (Place.loading kind session cs) s w l (at_load e q) = at_load (s ∙ e) (w ∙ q ∙ ap (λ (t : List Record). with_all limit (base kind t) cs) (sym l))
  stays r r' (Place.lost number values) s w l (at-lost e) = at-lost (s ∙ e)

  -- what a PDU does where it is due
  deed-follows : (pdu : RtrPdu) (r : Receiver) (p : Place) → is_due_at (type_of pdu) p ≡ true → At r p → Follows r (deed_of limit pdu r) (on_told limit (live_of r) p pdu)
  unfolding deed_of
  deed-follows (SerialNotify q) r p due a = onward (stays r _ p refl refl refl a) refl refl
  deed-follows (SerialQuery q) r p due a = onward a refl refl
  deed-follows (ResetQuery q) r p due a = onward a refl refl
  deed-follows (CacheResponse q) r p due a = response-follows _ r p due a
  deed-follows (IPv4Prefix q) r p due a = record-follows (announces q.flags) (ipv4_record q.prefix_length q.max_length q.prefix q.asn) r p due a
  deed-follows (IPv6Prefix q) r p due a =
      record-follows (announces q.flags) (ipv6_record q.prefix_length q.max_length q.prefix.w0 q.prefix.w1 q.prefix.w2 q.prefix.w3 q.asn) r p (sym (prefixes-alike p) ∙ due) a
  deed-follows (EndOfData q) r p due a = end-follows q r p due a
  deed-follows (CacheReset q) r p due a = onward (at-reset refl) refl refl
  deed-follows (RouterKey q) r p due a = onward a refl refl
  deed-follows (ErrorReport q) r p due a = stopped-lost 19 _ r

  -- the version, then the turn
  tests-follow : (d : Deed) (n : Next) (r : Receiver) (version due : Bool) →
      (due ≡ true → Follows r d n) →
      Follows r (cond version (cond due d (no_update (stop 13 [] r))) (no_update (stop 14 [] r))) (cond version (cond due n (goes (Place.lost 13 []))) (goes (Place.lost 14 [])))
  tests-follow d n r true true f = f refl
  tests-follow d n r true false f = stopped-lost 13 [] r
  tests-follow d n r false due f = stopped-lost 14 [] r

  -- of a PDU that is no Error Report
  turn-follows : (pdu : RtrPdu) (r : Receiver) (p : Place) →
      listens r.stage ≡ true →
      At r p →
      Follows r
      (cond (of_version r.version pdu) (cond (is_due (type_of pdu) r.stage) (deed_of limit pdu r) (no_update (stop 13 [] r))) (no_update (stop 14 [] r)))
      (cond (of_version r.version pdu) (cond (is_due_at (type_of pdu) p) (on_told limit (live_of r) p pdu) (goes (Place.lost 13 []))) (goes (Place.lost 14 [])))
  turn-follows pdu r p on a =
      subst
      (λ (b : Bool). Follows r
      (cond (of_version r.version pdu) (cond b (deed_of limit pdu r) (no_update (stop 13 [] r))) (no_update (stop 14 [] r)))
      (cond (of_version r.version pdu) (cond (is_due_at (type_of pdu) p) (on_told limit (live_of r) p pdu) (goes (Place.lost 13 []))) (goes (Place.lost 14 []))))
      (sym (due-alike (type_of pdu) r p on a))
      (tests-follow (deed_of limit pdu r) (on_told limit (live_of r) p pdu) r (of_version r.version pdu) (is_due_at (type_of pdu) p) (λ e. deed-follows pdu r p e a))

  -- a connection that is not lost goes by what comes
  not-lost : (r : Receiver) (p : Place) (n : Next) → listens r.stage ≡ true → At r p → unless_lost p n ≡ n
  not-lost r Place.idle n on a = refl
  not-lost r Place.must_reset n on a = refl
  not-lost r (Place.asked kind) n on a = refl
  not-lost r (Place.loading kind session cs) n on a = refl
  not-lost r (Place.lost number values) n on (at-lost e) = never r on (ap listens e)

  told-follows : (pdu : RtrPdu) (r : Receiver) (p : Place) → listens r.stage ≡ true → At r p → Follows r (on_pdu limit pdu r) (on_pdu_at limit r.version (live_of r) p pdu)
  unfolding on_pdu on_kind deed_of
  told-follows (SerialNotify q) r p on a = turn-follows (SerialNotify q) r p on a
  told-follows (SerialQuery q) r p on a = turn-follows (SerialQuery q) r p on a
  told-follows (ResetQuery q) r p on a = turn-follows (ResetQuery q) r p on a
  told-follows (CacheResponse q) r p on a = turn-follows (CacheResponse q) r p on a
  told-follows (IPv4Prefix q) r p on a = turn-follows (IPv4Prefix q) r p on a
  told-follows (IPv6Prefix q) r p on a = turn-follows (IPv6Prefix q) r p on a
  told-follows (EndOfData q) r p on a = turn-follows (EndOfData q) r p on a
  told-follows (CacheReset q) r p on a = turn-follows (CacheReset q) r p on a
  told-follows (RouterKey q) r p on a = turn-follows (RouterKey q) r p on a
  told-follows (ErrorReport q) r p on a = stopped-lost 19 _ r

  pdu-follows : (pdu : RtrPdu) (r : Receiver) (p : Place) → listens r.stage ≡ true → At r p → Follows r (on_pdu limit pdu r) (on_item limit r.version (live_of r) p (Item.told pdu))
  pdu-follows pdu r p on a = subst (Follows r (on_pdu limit pdu r)) (sym (not-lost r p (on_pdu_at limit r.version (live_of r) p pdu) on a)) (told-follows pdu r p on a)

  -- ---- What is still to come

  -- what a receiver's future comes to, by the page
  abbrev pub future : Receiver → Place → List Event → Outcome
  future r p es = outcome limit r.version (live_of r) p (items H r.held es)

  -- events lead from a receiver and its place to another: with the updates that finish between, which make its table, and before those still to come
  pub record Leads (r : Receiver) (p : Place) (es : List Event) (r' : Receiver) : Type 0 where
    pub place : Place
    pub at : At r' place
    pub between : List Update
    pub table : live_of r' ≡ with_updates limit (live_of r) between
    pub to-come : (later : List Event) → future r p (es ++ later) ≡ after between (future r' place later)

  with_none : (live : Live) → live ≡ with_updates limit live []
  unfolding with_updates
  with_none live = refl

  pub with-more : (us vs : List Update) (live : Live) → with_updates limit (with_updates limit live us) vs ≡ with_updates limit live (us ++ vs)
  unfolding with_updates
  with-more [] vs live = refl
  with-more (u ∷ us) vs live = with-more us vs (updated limit live u)

  -- where none finishes
  abbrev quietly : {r r' : Receiver} {p : Place} {es : List Event} (p' : Place) → At r' p' → live_of r' ≡ live_of r → ((later : List Event) → future r p (es ++ later) ≡ future r' p' later) → Leads r p es r'
  quietly {r} {r'} {p} {es} p' a e f = record { place = p'; at = a; between = []; table = e ∙ with_none (live_of r); to-come = f }

  -- one way after another
  abbrev pub onward-by : {r r' r'' : Receiver} {p : Place} {es es' : List Event} (one : Leads r p es r') → Leads r' one.place es' r'' → Leads r p (es ++ es') r''
  onward-by {r} {r'} {r''} {p} {es} {es'} one two =
      record {
        place = two.place;
        at = two.at;
        between = one.between ++ two.between;
        table = two.table ∙ ap (λ (l : Live). with_updates limit l two.between) one.table ∙ with-more one.between two.between (live_of r);
        to-come = λ later.
            ap (future r p) (append_assoc es es' later)
            ∙ one.to-come (es' ++ later)
            ∙ ap (after one.between) (two.to-come later)
            ∙ (λ i. record { updates = sym (append_assoc one.between two.between (future r'' two.place later).updates) i; place = (future r'' two.place later).place });
      }

  -- where nothing comes after
  pub all-between : {r r' : Receiver} {p : Place} {es : List Event} (one : Leads r p es r') → (future r p es).updates ≡ one.between
  unfolding items outcome
  all-between {r} {r'} {p} {es} one = ap (λ (es' : List Event). (future r p es').updates) (sym (append-nil es)) ∙ ap (λ (o : Outcome). o.updates) (one.to-come []) ∙ append-nil one.between

  pub ends_there : {r r' : Receiver} {p : Place} {es : List Event} (one : Leads r p es r') → (future r p es).place ≡ one.place
  unfolding items outcome
  ends_there {r} {r'} {p} {es} one = ap (λ (es' : List Event). (future r p es').place) (sym (append-nil es)) ∙ ap (λ (o : Outcome). o.place) (one.to-come [])

  -- a lost connection does not listen, whatever it holds
  module _ (v : RtrProtocolVersion) (live : Live) (number : ℕ) (values : List ℕ) where
    abbrev still : List Item → Outcome
    still is = outcome limit v live (Place.lost number values) is

    lost-forgets : (es : List Event) (s s' : List ℕ) → still (items H s es) ≡ still (items H s' es)
    unfolding outcome items
    lost-forgets [] s s' = refl
    lost-forgets (Event.byte b ∷ es) s s' =
        drops (s ++ b ∷ []) (lost-forgets es (s ++ b ∷ []) []) (judge in_use H (s ++ b ∷ []))
        ∙ sym (drops (s' ++ b ∷ []) (lost-forgets es (s' ++ b ∷ []) []) (judge in_use H (s' ++ b ∷ [])))
      where
        drops : (t : List ℕ) → still (items H t es) ≡ still (items H [] es) → (h : Heard) → still (items_by t h (λ held. items H held es)) ≡ still (items H [] es)
        drops t later Heard.waits = later
        drops t later (Heard.whole pdu) = refl
        drops t later (Heard.refused k x) = refl
    lost-forgets (Event.ask kind room ∷ es) s s' = lost-forgets es s s'
    lost-forgets (Event.reconnect ∷ es) s s' = refl

    lost-byte : (s : List ℕ) (b : ℕ) (es : List Event) → still (items H s (Event.byte b ∷ es)) ≡ still (items H s es)
    unfolding outcome items
    lost-byte s b es = go (judge in_use H (s ++ b ∷ []))
      where
        go : (h : Heard) → still (items_by (s ++ b ∷ []) h (λ held. items H held es)) ≡ still (items H s es)
        go Heard.waits = lost-forgets es (s ++ b ∷ []) s
        go (Heard.whole pdu) = lost-forgets es [] s
        go (Heard.refused k x) = lost-forgets es [] s

  -- a receiver that does not listen stands at a lost connection, and a byte more leaves it there
  deaf-byte : (r : Receiver) (p : Place) (b : ℕ) → listens r.stage ≡ false → At r p → (later : List Event) → future r p (Event.byte b ∷ later) ≡ future r p later
  deaf-byte r Place.idle b off (at-idle e) later = never r (ap listens e) off
  deaf-byte r Place.must_reset b off (at-reset e) later = never r (ap listens e) off
  deaf-byte r (Place.asked LoadKind.Full) b off (at-full e) later = never r (ap listens e) off
  deaf-byte r (Place.asked LoadKind.Change) b off (at-change e) later = never r (ap listens e) off
  deaf-byte r (Place.loading kind session cs) b off (at_load e w) later = never r (ap listens e) off
  deaf-byte r (Place.lost number values) b off (at-lost e) later = lost-byte r.version (live_of r) number values r.held b later

  -- an item that was followed: the update that it finishes, if it does, and where it leads
  follow-on : (r : Receiver) (d : Deed) (n : Next) →
      Follows r d n →
      (us : List Update)
      × (p : Place)
      × At d.then p
      × (d.updates ≡ length us)
      × (live_of d.then ≡ with_updates limit (live_of r) us)
      × ((is : List Item) → or_finished limit (live_of r) n (λ l p'. outcome limit r.version l p' is) ≡ after us (outcome limit r.version (live_of d.then) p is))
  unfolding with_updates
  follow-on r d (goes p) (onward a e c) = ([], p, a, c, e, λ is. ap (λ (l : Live). outcome limit r.version l p is) (sym e))
  follow-on r d (finishes u) (done st e c) = (u ∷ [], Place.idle, at-idle st, c, e, λ is. ap (λ (l : Live). after (u ∷ []) (outcome limit r.version l Place.idle is)) (sym e))

  -- a feed, with u updates counted before it, leads on and counts those that finish in it
  abbrev pub Counts : Receiver → Place → List Event → ℕ → Feed → Type 0
  Counts r p es u f = (way : Leads r p es f.receiver) × (f.updates ≡ u + length way.between)

  -- a byte
  pub byte-follows : (r : Receiver) (p : Place) (b k u : ℕ) → At r p → Counts r p (Event.byte b ∷ []) u (on_byte limit H (from r k u) b)
  unfolding on_byte items outcome
  byte-follows r p b k u a = go (listens r.stage) refl
    where
      s : List ℕ
      s = r.held ++ b ∷ []

      judged : (h : Heard) → judge in_use H s ≡ h → (later : List Event) → future r p (Event.byte b ∷ later) ≡ outcome limit r.version (live_of r) p (items_by s h (λ hand. items H hand later))
      judged h j later = ap (λ (x : Heard). outcome limit r.version (live_of r) p (items_by s x (λ hand. items H hand later))) j

      by : (h : Heard) → listens r.stage ≡ true → judge in_use H s ≡ h → Counts r p (Event.byte b ∷ []) u (heard limit (k + 1) u r s h)
      by Heard.waits on j = (quietly p (stays r (holding s r) p refl refl refl a) refl (judged Heard.waits j), omega arith)
      by (Heard.whole pdu) on j =
          let here : Receiver = holding [] r in
          let deed : Deed = on_pdu limit pdu here in
          let g = follow-on here deed (on_item limit r.version (live_of r) p (Item.told pdu)) (pdu-follows pdu here p on (stays r here p refl refl refl a)) in (
            record {
              place = g.1;
              at = g.2;
              between = g.0;
              table = g.4;
              to-come = λ later.
                  judged (Heard.whole pdu) j later
                  ∙ g.5 (items H [] later)
                  ∙ (λ i. after g.0 (outcome limit (sym (pdu-keeps limit pdu here).version i) (live_of deed.then) g.1 (items H (sym (told-drops limit pdu r) i) later)));
            },
            ap (λ (n : ℕ). u + n) g.3,
          )
      by (Heard.refused number values) on j = (
        quietly (Place.lost number values) (at-lost refl) refl
            (λ later. judged (Heard.refused number values) j later ∙ ap (λ (n : Next). or_finished limit (live_of r) n (λ l p'. outcome limit r.version l p' (items H [] later))) (not-lost r p (goes (Place.lost number values)) on a)),
        omega arith,
      )

      go : (t : Bool) → listens r.stage ≡ t → Counts r p (Event.byte b ∷ []) u (cond t (heard limit (k + 1) u r s (judge in_use H s)) (from r k u))
      go true e = by (judge in_use H s) e refl
      go false e = (quietly p a refl (deaf-byte r p b e a), omega arith)

  -- a piece
  pub piece-follows : (piece : List ℕ) (r : Receiver) (p : Place) (k u : ℕ) → At r p → Counts r p (bytes piece) u (on_piece limit H (from r k u) piece)
  unfolding on_piece
  piece-follows [] r p k u a = (quietly p a refl (λ later. refl), omega arith)
  piece-follows (b ∷ piece) r p k u a =
      let f = on_byte limit H (from r k u) b in
      let one = byte-follows r p b k u a in
      let rest = piece-follows piece f.receiver one.0.place f.taken f.updates one.0.at in
      (onward-by one.0 rest.0, omega (arith, one.1, rest.1, length-append one.0.between rest.0.between))

  -- ---- Asks and reconnects

  -- an ask leads on, and no update finishes by it
  abbrev pub Quietly : Receiver → Place → List Event → Receiver → Type 0
  Quietly r p es r' = (way : Leads r p es r') × (way.between ≡ [])

  abbrev Asks : Receiver → Place → LoadKind → ℕ → Receiver → Type 0
  Asks r p kind room r' = Quietly r p (Event.ask kind room ∷ []) r'

  -- a query is written where there is room for it
  written-if : (b : Bool) (n : ℕ) (stage : Stage) (r : Receiver) (out : List ℕ) → (asked_by (cond b (Writing.written n) (Writing.refused 9 (n ∷ []))) stage r out).receiver ≡ cond b (in_stage stage r) r
  written-if true n stage r out = refl
  written-if false n stage r out = refl

  pub full_is : (r : Receiver) (out : List ℕ) → (ask (reset_query r) r out).receiver ≡ cond (leb 8 (length out)) (in_stage Stage.asked_full r) r
  full_is r out =
      let e = encode in_use (ResetQuery (record { version = r.version })) [] out in
      ap (λ (w : Writing). (asked_by w Stage.asked_full r e.out).receiver) (reset-query-says in_use r.version out)
      ∙ written-if (leb 8 (length out)) 8 Stage.asked_full r e.out

  pub change-is : (r : Receiver) (t : Table) (out : List ℕ) → (ask (serial_query (Some t) r) r out).receiver ≡ cond (leb 12 (length out)) (in_stage Stage.asked_change r) r
  change-is r t out =
      let e = encode in_use (SerialQuery (record { version = r.version; session_id = t.session; serial_number = t.serial })) [] out in
      ap (λ (w : Writing). (asked_by w Stage.asked_change r e.out).receiver) (serial-query-says in_use r.version t.session t.serial out)
      ∙ written-if (leb 12 (length out)) 12 Stage.asked_change r e.out

  -- an ask that is refused leaves the receiver and its place
  unasked : (r r' : Receiver) (p : Place) (kind : LoadKind) (room : ℕ) → r' ≡ r → on_ask r.table p kind room ≡ p → At r p → Asks r p kind room r'
  unfolding items outcome
  unasked r r' p kind room e q a = subst (Asks r p kind room) (sym e) (quietly p a refl (λ es. ap (λ (x : Place). future r x es) q), refl)

  -- one that is in turn leads to its phase, where there is room for the query
  asked-if : (b : Bool) (r r' : Receiver) (p p' : Place) (kind : LoadKind) (room : ℕ) (stage : Stage) →
      r' ≡ cond b (in_stage stage r) r →
      on_ask r.table p kind room ≡ cond b p' p →
      At (in_stage stage r) p' →
      At r p →
      Asks r p kind room r'
  unfolding items outcome
  asked-if true r r' p p' kind room stage e q a' a = subst (Asks r p kind room) (sym e) (quietly p' a' refl (λ es. ap (λ (x : Place). future r x es) q), refl)
  asked-if false r r' p p' kind room stage e q a' a = unasked r r' p kind room e q a

  -- the phase decides
  asking : (query : Stage → Query) (r : Receiver) (out : List ℕ) {s : Stage} → r.stage ≡ s → (ask (query r.stage) r out).receiver ≡ (ask (query s) r out).receiver
  asking query r out e = ap (λ (s : Stage). (ask (query s) r out).receiver) e

  pub full-follows : (r : Receiver) (p : Place) (out : List ℕ) → At r p → Asks r p LoadKind.Full (length out) (ask (full_query r.stage r) r out).receiver
  full-follows r p out (at-idle e) =
      asked-if (leb 8 (length out)) r _ p (Place.asked LoadKind.Full) LoadKind.Full _ Stage.asked_full (asking (λ s. full_query s r) r out e ∙ full_is r out) refl (at-full refl) (at-idle e)
  full-follows r p out (at-reset e) =
      asked-if (leb 8 (length out)) r _ p (Place.asked LoadKind.Full) LoadKind.Full _ Stage.asked_full (asking (λ s. full_query s r) r out e ∙ full_is r out) refl (at-full refl) (at-reset e)
  full-follows r p out (at-full e) = unasked r _ p LoadKind.Full _ (asking (λ s. full_query s r) r out e) refl (at-full e)
  full-follows r p out (at-change e) = unasked r _ p LoadKind.Full _ (asking (λ s. full_query s r) r out e) refl (at-change e)
  full-follows r p out (at_load e w) = unasked r _ p LoadKind.Full _ (asking (λ s. full_query s r) r out e) refl (at_load e w)
  full-follows r p out (at-lost e) = unasked r _ p LoadKind.Full _ (asking (λ s. full_query s r) r out e) refl (at-lost e)

  pub change-follows : (r : Receiver) (p : Place) (out : List ℕ) → At r p → Asks r p LoadKind.Change (length out) (ask (change_query r.stage r) r out).receiver
  change-follows r p out (at-idle e) = subst (Asks r p LoadKind.Change (length out)) (sym (asking (λ s. change_query s r) r out e)) (table r.table refl)
    where
      table : (t : Option Table) → r.table ≡ t → Asks r Place.idle LoadKind.Change (length out) (ask (serial_query t r) r out).receiver
      table None q = unasked r _ Place.idle LoadKind.Change _ refl (ap (λ (x : Option Table). on_ask x Place.idle LoadKind.Change (length out)) q) (at-idle e)
      table (Some t) q =
          asked-if (leb 12 (length out)) r _ Place.idle (Place.asked LoadKind.Change) LoadKind.Change _ Stage.asked_change (change-is r t out)
          (ap (λ (x : Option Table). on_ask x Place.idle LoadKind.Change (length out)) q) (at-change refl) (at-idle e)
  change-follows r p out (at-reset e) = unasked r _ p LoadKind.Change _ (asking (λ s. change_query s r) r out e) refl (at-reset e)
  change-follows r p out (at-full e) = unasked r _ p LoadKind.Change _ (asking (λ s. change_query s r) r out e) refl (at-full e)
  change-follows r p out (at-change e) = unasked r _ p LoadKind.Change _ (asking (λ s. change_query s r) r out e) refl (at-change e)
  change-follows r p out (at_load e w) = unasked r _ p LoadKind.Change _ (asking (λ s. change_query s r) r out e) refl (at_load e w)
  change-follows r p out (at-lost e) = unasked r _ p LoadKind.Change _ (asking (λ s. change_query s r) r out e) refl (at-lost e)

  pub reconnect-follows : (r : Receiver) (p : Place) → Quietly r p (Event.reconnect ∷ []) (reconnected r)
  unfolding items outcome
  reconnect-follows r p = (quietly Place.idle (at-idle refl) refl (λ es. refl), refl)
