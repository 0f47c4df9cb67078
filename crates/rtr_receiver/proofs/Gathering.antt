-- The run step: what one announced prefix does to the feed from its first byte on, and what several do, one after another. Assumes nothing.
use Rattle.std.proofs.lemmas.Option.{some_pair_parts}
use Rattle.std.specs.Prelude.{Some, Result, Ok, Err, None}
use Rattle.std.proofs.Common.{◌≡◌, ℕ, ◌+◌, ◌<◌, ◌≤◌, Bool, true, false, cond, not, ◌||◌, eqb, leb, List, [], length, take, drop, sym, refl, ap, ◌∙◌, subst, ap₂, ⊎_elim, arith, length-drop, take-append-drop, length-take-le, drop-drop, eqb-true, leb-true}
use mathlib.Core.Bool.{false≢true}
use Rattle.rtr_models.specs.Codes.{version_number}
use Rattle.rtr_models.specs.Values.{announces, type_of, version_of}
use Rattle.rtr_models.specs.declared.RtrProtocolVersion.{RtrProtocolVersion}
use Rattle.rtr_models.specs.declared.RtrProtocolVersion.TheVariants.{V0, V1}
use Rattle.rtr_models.specs.declared.RtrPdu.{RtrPdu}
use Rattle.rtr_models.specs.declared.RtrPdu.TheVariants.{SerialNotify, SerialQuery, ResetQuery, CacheResponse, IPv4Prefix, IPv6Prefix, EndOfData, CacheReset, RouterKey, ErrorReport}
use Rattle.rtr_codec.specs.Reading.{in_use}
use Rattle.rtr_codec.specs.Read.{Verdict, read, header_length}
use Rattle.rtr_codec.proofs.Laws.{read-consumes, read-needs-only-consumed}
use Rattle.rtr_codec.proofs.Rules.{accepted-in-rule}
use Rattle.rtr_room.specs.Table.{Apart, Change, enter, in_rule, insert, ipv4_record, ipv6_record, is_in, join, rank}
use Rattle.rtr_room.specs.Room.{Found, Outcome, Said, entered, is_room, limit_of, look_up, merged, merge_said, outcome_of, records, room}
use Rattle.rtr_room.proofs.Laws.{apart-insert, apart_none, changed-is, enter-applies, enter-changes, enter-keeps, enter-refused-keeps, join-insert, join-length, join-membership, join-none, join-table, look-up-is, merge-is, records-length, records-none, records-of-room, refused-is, rules-exactly}
use Rattle.rtr_room.proofs.Laws.Tests.{first_of, second-of, both}
use Rattle.rtr_room.specs.declared.Record.{Record}
use Rattle.rtr_receiver.specs.Contents.{Contents, Rooms}
use Rattle.rtr_receiver.specs.Receiver.{Stage, Deed, is_due, listens, changed_to, on_pdu, on_piece, no_update}
use Rattle.rtr_receiver.specs.Promises.{cleared, in_order, is_loading, is_stopped, receiver_of, stage_of, tabled}
use Rattle.rtr_receiver.specs.Private.{carried_by, feed_here, may_gather, Gathers, AnnouncedAt, GatheredOne, GatheredTo, StepAsks, SteppedTo, TakenTo}
use Rattle.rtr_receiver.specs.declared.LoadKind.{LoadKind}
use Rattle.rtr_receiver.specs.declared.Phase.{Phase}
use Rattle.rtr_receiver.specs.declared.Session.{Session}
use Rattle.rtr_receiver.proofs.Memory.{room-size, room-stands}
use Rattle.rtr_receiver.proofs.Deeds.{enter-on}
use Rattle.rtr_receiver.proofs.Feeds.{from}
use Rattle.rtr_receiver.proofs.Good.{entry-in-rule}
use Rattle.rtr_receiver.proofs.Steps.{shape_of, shape_is}
use Rattle.rtr_receiver.proofs.Whole.{IsPdu, Prefixes, pdu-fed, on-prefix}
use Rattle.rtr_room.specs.declared.NotARoom.{NotARoom}

-- versions of one number are one
same_version : (a b : RtrProtocolVersion) → eqb (version_number a) (version_number b) ≡ true → a ≡ b
same_version V0 V0 e = refl
same_version V1 V1 e = refl
same_version V0 V1 e = absurd (false≢true e)
same_version V1 V0 e = absurd (false≢true e)

-- what is announced or withdrawn, under another name
named-so : (pdu : RtrPdu) (a b : Bool) (x y : Record) → a ≡ b → x ≡ y → Prefixes pdu a x → Prefixes pdu b y
named-so pdu a b x y e f h = subst (λ (z : Record). Prefixes pdu b z) f (subst (λ (c : Bool). Prefixes pdu c x) e h)

-- a PDU that carries an announced entry is a prefix of either family, and due in a load
announces-entry : (pdu : RtrPdu) (x : Record) → carried_by pdu ≡ Some (true, x) → Prefixes pdu true x × ((kind : LoadKind) (session : ℕ) → is_due (type_of pdu) (Stage.loading kind session) ≡ true)
unfolding carried_by
announces-entry (IPv4Prefix p) x e =
    let is : announces p.flags ≡ true = (some_pair_parts _ _ _ _ e).0 in
    let same : ipv4_record p.prefix_length p.max_length p.prefix p.asn ≡ x = (some_pair_parts _ _ _ _ e).1 in
    (named-so (IPv4Prefix p) _ true _ x is same (Prefixes.ipv4 p), λ kind session. refl)
announces-entry (IPv6Prefix p) x e =
    let is : announces p.flags ≡ true = (some_pair_parts _ _ _ _ e).0 in
    let same : ipv6_record p.prefix_length p.max_length p.prefix.w0 p.prefix.w1 p.prefix.w2 p.prefix.w3 p.asn ≡ x = (some_pair_parts _ _ _ _ e).1 in
    (named-so (IPv6Prefix p) _ true _ x is same (Prefixes.ipv6 p), λ kind session. refl)
announces-entry (SerialNotify p) x e = absurd (let z : ◌≡◌ {A = ℕ} 0 1 = cc in omega arith)
announces-entry (SerialQuery p) x e = absurd (let z : ◌≡◌ {A = ℕ} 0 1 = cc in omega arith)
announces-entry (ResetQuery p) x e = absurd (let z : ◌≡◌ {A = ℕ} 0 1 = cc in omega arith)
announces-entry (CacheResponse p) x e = absurd (let z : ◌≡◌ {A = ℕ} 0 1 = cc in omega arith)
announces-entry (EndOfData p) x e = absurd (let z : ◌≡◌ {A = ℕ} 0 1 = cc in omega arith)
announces-entry (CacheReset p) x e = absurd (let z : ◌≡◌ {A = ℕ} 0 1 = cc in omega arith)
announces-entry (RouterKey p) x e = absurd (let z : ◌≡◌ {A = ℕ} 0 1 = cc in omega arith)
announces-entry (ErrorReport p) x e = absurd (let z : ◌≡◌ {A = ℕ} 0 1 = cc in omega arith)

module _ (version : RtrProtocolVersion) (piece : List ℕ) (at : ℕ) (pdu : RtrPdu) (consumed : ℕ) (x : Record) (inside : at ≤ length piece)
    (reads : read in_use (drop at piece) ≡ Verdict.accepted pdu consumed) (few : consumed ≤ 32)
    (spoken : eqb (version_number (version_of pdu)) (version_number version) ≡ true) (carries : carried_by pdu ≡ Some (true, x)) where
  -- what is left of the piece: the PDU's bytes, and what is behind them
  consumes : (consumed ≡ header_length (drop at piece)) × (8 ≤ consumed) × (consumed ≤ length (drop at piece))
  consumes = read-consumes in_use (drop at piece) pdu consumed reads

  size : length (take consumed (drop at piece)) ≡ consumed
  size = length-take-le consumed (drop at piece) consumes.2

  is-pdu : (H : ℕ) → 32 ≤ H → IsPdu H (take consumed (drop at piece)) pdu
  is-pdu H wide =
      record {
        most = omega (arith, size, few);
        fits = omega (arith, size, few, wide);
        reads =
            read-needs-only-consumed in_use (drop at piece) consumed consumes.1 (omega (arith, consumes.0)) consumes.2
            ∙ reads
            ∙ ap (Verdict.accepted pdu) (sym size);
      }

  gathers : (limit : ℕ) (t : Contents) → is_in x t ≡ false → length t < limit → Gathers limit version piece at (at + consumed) t (insert x t)
  gathers limit t new space H updates kind session r wide of-version loads none holds =
      let entry = announces-entry pdu x carries in
      let done : on_pdu limit pdu r ≡ no_update (changed_to (Change.changed (insert x t)) r) =
      on-prefix limit pdu true x r entry.0 (same_version (version_of pdu) version spoken ∙ sym of-version) (ap (is_due (type_of pdu)) loads ∙ entry.1 kind session)
      ∙ ap (λ (u : Contents). no_update (changed_to (enter limit x u) r)) holds
      ∙ ap (λ (c : Change). no_update (changed_to c r)) (enter-applies limit x t new space) in
      ap (on_piece limit H (from r at updates)) (sym (take-append-drop consumed (drop at piece)))
      ∙ pdu-fed H limit r at updates (take consumed (drop at piece)) (drop consumed (drop at piece)) pdu (ap listens loads) none (is-pdu H wide)
      ∙ ap (λ (d : Deed). on_piece limit H (from d.then (at + length (take consumed (drop at piece))) (updates + d.updates)) (drop consumed (drop at piece))) done
      ∙ ap (λ (n : ℕ). on_piece limit H (from (changed_to (Change.changed (insert x t)) r) (at + n) (updates + 0)) (drop consumed (drop at piece))) size
      ∙ ap (λ (n : ℕ). on_piece limit H (from (changed_to (Change.changed (insert x t)) r) (at + consumed) n) (drop consumed (drop at piece))) nothing-more
      ∙ ap (on_piece limit H (from (changed_to (Change.changed (insert x t)) r) (at + consumed) updates)) (drop-drop consumed at piece)
    where
      nothing-more : updates + 0 ≡ updates
      nothing-more = omega arith

  pub entry-announced : AnnouncedAt version piece at (Some (x, (at + consumed)))
  entry-announced = (
    omega (arith, consumes.1),
    omega (arith, consumes.2, length-drop at piece),
    entry-in-rule pdu true x (accepted-in-rule in_use (drop at piece) pdu consumed reads) carries,
    gathers,
  )

-- pieces that gather one behind the other gather together
pub gathers-on : (limit : ℕ) (version : RtrProtocolVersion) (piece : List ℕ) (at next end : ℕ) (t u v : Contents) → Gathers limit version piece at next t u → Gathers limit version piece next end u v
    → Gathers limit version piece at end t v
gathers-on limit version piece at next end t u v first then H updates kind session r wide of-version loads none holds =
    first H updates kind session r wide of-version loads none holds ∙ then H updates kind session (changed_to (Change.changed u) r) wide of-version loads none refl

-- no bytes gather nothing
pub gathers-none : (limit : ℕ) (version : RtrProtocolVersion) (piece : List ℕ) (at : ℕ) (t : Contents) → Gathers limit version piece at at t t
gathers-none limit version piece at t H updates kind session r wide of-version loads none holds =
    ap (λ (u : Contents). on_piece limit H (from (changed_to (Change.changed u) r) at updates) (drop at piece)) holds

-- ---- The tail

-- a record that the working room misses is not in its table
pub missing-not-in : (limit count at : ℕ) (working : Rooms) (x : Record) → is_room limit count working ≡ true → Found.missing_at at ≡ look_up working count x → is_in x (records count working) ≡ false
missing-not-in limit count at working x ruled e =
    let m = room-stands limit count working ruled in
    let t : Contents = records count working in
    go (is_in x t) refl
    (e ∙ ap₂ (λ (s : List ℕ) (n : ℕ). look_up s n x) m.0 (sym m.1) ∙ look-up-is limit x t m.3 (omega (arith, m.1, m.2)))
  where
    go : (b : Bool) → is_in x (records count working) ≡ b →
        Found.missing_at at ≡ cond (is_in x (records count working)) (Found.stands_at (rank x (records count working))) (Found.missing_at (rank x (records count working))) → is_in x (records count working) ≡ false
    go false q f = q
    go true q f =
        let no : Found.missing_at at ≡ Found.stands_at (rank x (records count working)) =
        f ∙ ap (λ (c : Bool). cond c (Found.stands_at (rank x (records count working))) (Found.missing_at (rank x (records count working)))) q in
        absurd (let z : ◌≡◌ {A = ℕ} 0 1 = cc in omega arith)

-- one that entered the tail was not in it, and the tail is the room of one more
pub entered-tail : (k n m : ℕ) (tail tail' : Rooms) (x : Record) → is_room k n tail ≡ true → in_rule x ≡ true → ◌≡◌ {A = Outcome} (record { says = Said.counted m; left = tail' }) (entered tail n x)
    → (is_room k (n + 1) tail' ≡ true) × (records (n + 1) tail' ≡ insert x (records n tail)) × (is_in x (records n tail) ≡ false)
entered-tail k n m tail tail' x ruled rule e = go (enter k x (records n tail)) refl (e ∙ enter-on k n tail x ruled)
  where
    go : (c : Change) → enter k x (records n tail) ≡ c → ◌≡◌ {A = Outcome} (record { says = Said.counted m; left = tail' }) (outcome_of k (records n tail) c)
        → (is_room k (n + 1) tail' ≡ true) × (records (n + 1) tail' ≡ insert x (records n tail)) × (is_in x (records n tail) ≡ false)
    go (Change.changed t) q came =
        let stands = room-stands k n tail ruled in
        let is = enter-changes k x (records n tail) t q in
        let kept = enter-keeps k x (records n tail) t stands.4 rule q in
        let left : tail' ≡ room k t = ap (λ (o : Outcome). o.left) (came ∙ changed-is k (records n tail) t) in
        let long : n + 1 ≡ length t = omega (arith, kept.1, stands.1) in (
          (rules-exactly k (n + 1) tail').1 (t, kept.0, sym long, omega (arith, long, kept.2), left),
          ap₂ records long left ∙ records-of-room k t ∙ sym is.2,
          is.0,
        )
    go (Change.refused number) q came =
        let said : Said.counted m ≡ Said.refused_by number = ap (λ (o : Outcome). o.says) (came ∙ refused-is k number (records n tail)) in
        absurd (let z : ◌≡◌ {A = ℕ} 0 1 = cc in omega arith)

-- one that did not leaves the tail
pub refused-tail : (n k : ℕ) (tail tail' : Rooms) (x : Record) → ◌≡◌ {A = Outcome} (record { says = Said.refused_by k; left = tail' }) (entered tail n x) → tail' ≡ tail
refused-tail n k tail tail' x e = ap (λ (o : Outcome). o.left) e ∙ enter-refused-keeps n k tail x (sym (ap (λ (o : Outcome). o.says) e))

module _ (limit k : ℕ) (version : RtrProtocolVersion) (piece : List ℕ) (at : ℕ) (t : Contents) where
  -- before the first there is nothing in the tail
  pub gathered_none : (tail : Rooms) → length t ≤ limit → is_room k 0 tail ≡ true → at ≤ length piece → GatheredTo limit k version piece at t tail 0 at
  gathered_none tail few ruled inside =
      let empty : records 0 tail ≡ [] = records-none tail in
      record {
        ruled = ruled;
        apart = subst (Apart t) (sym empty) (apart_none t);
        within = omega (arith, few);
        onward = omega arith;
        inside = inside;
        none = λ e. refl;
        gathered = subst (Gathers limit version piece at at t) (sym (ap (join t) empty ∙ join-none t)) (gathers-none limit version piece at t);
      }

  -- one more
  pub gathered-more : (tail tail' : Rooms) (n next after : ℕ) (x : Record) → GatheredTo limit k version piece at t tail n next → length t + n < limit → next < after → after ≤ length piece
      → is_room k (n + 1) tail' ≡ true → records (n + 1) tail' ≡ insert x (records n tail) → is_in x t ≡ false → is_in x (records n tail) ≡ false
      → ((u : Contents) → is_in x u ≡ false → length u < limit → Gathers limit version piece next after u (insert x u)) → GatheredTo limit k version piece at t tail' (n + 1) after
  gathered-more tail tail' n next after x g space further inside ruled one new fresh step =
      let u : Contents = join t (records n tail) in
      let not_in : is_in x u ≡ false = join-membership t (records n tail) x ∙ ap₂ ◌||◌ new fresh in
      let long : length u ≡ length t + n = join-length t (records n tail) ∙ ap (λ (m : ℕ). length t + m) (records-length n tail) in
      let joined : insert x u ≡ join t (records (n + 1) tail') = sym (join-insert x t (records n tail)) ∙ ap (join t) (sym one) in
      record {
        ruled = ruled;
        apart = subst (Apart t) (sym one) (apart-insert x t (records n tail) g.apart new);
        within = omega (arith, space);
        onward = omega (arith, g.onward, further);
        inside = inside;
        none = λ e. absurd (omega (arith, e, g.onward, further));
        gathered =
            gathers-on limit version piece at next after t u (join t (records (n + 1) tail')) g.gathered
            (subst (Gathers limit version piece next after u) joined (step u not_in (omega (arith, long, space))));
      }

module _ (limit k : ℕ) (version : RtrProtocolVersion) (piece : List ℕ) (at : ℕ) (working : Rooms) (count : ℕ) (tail tail' : Rooms) (n next after : ℕ)
    (g : GatheredTo limit k version piece at (records count working) tail n next) (one : GatheredOne version working count piece next n tail tail' after) where
  -- one was taken
  pub gathered-on : (after ≡ next → ⊥) → count + n < limit → limit_of tail ≡ k → GatheredTo limit k version piece at (records count working) tail' (n + 1) after
  gathered-on moved space size =
      ⊎_elim (λ z. absurd (moved z.0))
      (λ z.
      gathered-more limit k version piece at (records count working) tail tail' n next after z.0 g (omega (arith, space, records-length count working)) z.1 z.2
      (ap (λ (m : ℕ). is_room m (n + 1) tail') (sym size) ∙ z.3) z.4 z.5 z.6 (z.7 limit))
      one

-- ---- The run

-- a room says its own limit
pub own-size : (limit count : ℕ) (working : Rooms) → is_room limit count working ≡ true → limit_of working ≡ limit
own-size limit count working ruled = omega (arith, (room-size limit count working ruled).0)

-- no run: the room as it was
pub taken_none : (limit : ℕ) (version : RtrProtocolVersion) (piece : List ℕ) (at count : ℕ) (working : Rooms) → is_room limit count working ≡ true → at ≤ length piece
    → TakenTo limit version piece at count working count at working
taken_none limit version piece at count working ruled inside =
    record { ruled = ruled; onward = omega arith; inside = inside; none = λ e. (refl, refl); gathered = gathers-none limit version piece at (records count working) }

module _ (limit k : ℕ) (version : RtrProtocolVersion) (piece : List ℕ) (at count : ℕ) (working : Rooms) (ruled : is_room limit count working ≡ true) (tail : Rooms) (n next : ℕ)
    (g : GatheredTo limit k version piece at (records count working) tail n next) (working' : Rooms) where
  t : Contents
  t = records count working

  u : Contents
  u = records n tail

  -- merging comes to the room of both tables
  merges : merged working count tail n ≡ record { says = Said.counted (count + n); left = room limit (join (records count working) (records n tail)) }
  merges =
      let r = room-stands limit count working ruled in
      let s = room-stands k n tail g.ruled in
      (λ i. merged (r.0 i) (sym r.1 i) (s.0 i) (sym s.1 i))
      ∙ merge-is limit k (records count working) (records n tail) r.3 s.3 (omega (arith, r.1, s.1, g.within)) (omega (arith, s.1, s.2))
      ∙ ap (λ (m : ℕ). record { says = Said.counted m; left = room limit (join (records count working) (records n tail)) }) (λ i. r.1 i + s.1 i)

  pub merged-run : (a : Result ℕ NotARoom) (m : ℕ) → ◌≡◌ {A = Outcome} (record { says = merge_said a; left = working' }) (merged working count tail n) → a ≡ Ok m
      → TakenTo limit version piece at count working m next working'
  unfolding t u
  merged-run a m e is =
      let r = room-stands limit count working ruled in
      let s = room-stands k n tail g.ruled in
      let came : ◌≡◌ {A = Outcome} (record { says = Said.counted m; left = working' }) (record { says = Said.counted (count + n); left = room limit (join t u) }) =
      ap (λ (x : Result ℕ NotARoom). record { says = merge_said x; left = working' }) (sym is) ∙ e ∙ merges in
      let says : Said.counted m ≡ Said.counted (count + n) = ap (λ (o : Outcome). o.says) came in
      let total : m ≡ count + n = cc in
      let left : working' ≡ room limit (join t u) = ap (λ (o : Outcome). o.left) came in
      let long : length (join t u) ≡ m = omega (arith, join-length t u, r.1, s.1, total) in
      let holds : records m working' ≡ join t u = ap₂ records (sym long) left ∙ records-of-room limit (join t u) in
      record {
        ruled = (rules-exactly limit m working').1 (join t u, join-table t u r.4 s.4 g.apart, long, omega (arith, total, g.within, r.1), left);
        onward = g.onward;
        inside = g.inside;
        none = λ z.
            let none : n ≡ 0 = g.none z in
            let empty : u ≡ [] = ap (λ (c : ℕ). records c tail) none ∙ records-none tail in
            (left ∙ ap (λ (v : Contents). room limit (join t v)) empty ∙ ap (room limit) (join-none t) ∙ sym r.0, omega (arith, total, none));
        gathered = subst (Gathers limit version piece at next t) (sym holds) g.gathered;
      }

  pub always-merged : (a : Result ℕ NotARoom) → ◌≡◌ {A = Outcome} (record { says = merge_said a; left = working' }) (merged working count tail n) → a ≡ Err (record {}) → ⊥
  always-merged a e is =
      let says : Said.refused_by 22 ≡ Said.counted (count + n) = ap (λ (o : Outcome). o.says) (ap (λ (x : Result ℕ NotARoom). record { says = merge_said x; left = working' }) (sym is) ∙ e ∙ merges) in
      let z : ◌≡◌ {A = ℕ} 0 1 = cc in omega arith

-- ---- The step

-- a load says its kind and session
load_of : (p : Phase) → is_loading p ≡ true → (kind : LoadKind) × ((session : ℕ) × (stage_of p ≡ Stage.loading kind session))
load_of (Phase.Loading kind session) e = (kind, (session, refl))
load_of Phase.Idle e = absurd (false≢true e)
load_of Phase.MustReset e = absurd (false≢true e)
load_of Phase.AskedFull e = absurd (false≢true e)
load_of Phase.AskedChange e = absurd (false≢true e)
load_of (Phase.Stopped stop) e = absurd (false≢true e)

module _ (limit : ℕ) (s : Session) (live working : Rooms) (hold piece : List ℕ) (at updates : ℕ) (ready : StepAsks limit s live working hold piece at updates) where
  -- the working room is one of its own size
  pub own_room : is_room (limit_of working) s.working.records working ≡ true
  own_room =
      let ruled = (shape_of limit s live working hold ready.0).working-room in
      ap (λ (m : ℕ). is_room m s.working.records working) (own-size limit s.working.records working ruled) ∙ ruled

  module _ (may : may_gather s (length hold) ≡ true) (count next : ℕ) (working' : Rooms)
      (taken : TakenTo (limit_of working) s.life.version piece at s.working.records working count next working') where
    -- what was tested before a run is looked for
    none-held : s.held ≡ 0
    none-held = eqb-true s.held 0 (first_of (eqb s.held 0) _ may)

    wide : 32 ≤ length hold
    wide = leb-true 32 (length hold) (first_of (leb 32 (length hold)) _ (second-of (eqb s.held 0) _ may))

    loads : is_loading s.phase ≡ true
    loads = second-of (leb 32 (length hold)) _ (second-of (eqb s.held 0) _ may)

    -- a run is a step that goes on
    pub run-steps : (t : Session) → t ≡ record { life = s.life; phase = s.phase; table = s.table; note = s.note; live = s.live; working = record { records = count }; held = s.held } → at < next
        → SteppedTo limit (feed_here limit s live working hold piece at updates) piece at t next updates live working' hold None
    run-steps t is further =
        let shape = shape_of limit s live working hold ready.0 in
        let size = own-size limit s.working.records working shape.working-room in
        let load = load_of s.phase loads in
        let ruled : is_room limit count working' ≡ true = ap (λ (m : ℕ). is_room m count working') (sym size) ∙ taken.ruled in
        let quiet = second-of (is_loading s.phase || eqb s.working.records 0) _ (second-of (tabled s) (cleared s) shape.order) in
        let done : Session = record { life = s.life; phase = s.phase; table = s.table; note = s.note; live = s.live; working = record { records = count }; held = s.held } in
        let order : in_order done ≡ true =
        both (tabled done) (cleared done) (first_of (tabled s) (cleared s) shape.order)
        (both (is_loading s.phase || eqb count 0) (not (is_stopped s.phase) || eqb s.held 0) (ap (λ (b : Bool). b || eqb count 0) loads) quiet) in
        subst (λ (x : Session). SteppedTo limit (feed_here limit s live working hold piece at updates) piece at x next updates live working' hold None) (sym is) (
          shape_is limit done live working' hold (record { live-room = shape.live-room; working-room = ruled; stream = shape.stream; order = order; limited = shape.limited }),
          ready.1,
          further,
          taken.inside,
          omega (arith, ready.3, further),
          sym
              (subst (λ (m : ℕ). Gathers m s.life.version piece at next (records s.working.records working) (records count working')) size taken.gathered (length hold) updates load.0 load.1.0
              (receiver_of s live working hold) wide refl load.1.1 (ap (λ (m : ℕ). take m hold) none-held) refl),
        )

    -- where nothing was taken, one PDU is looked at in the same room
    pub as_before : next ≤ at → working ≡ working'
    as_before e = sym (taken.none (omega (arith, e, taken.onward))).0
