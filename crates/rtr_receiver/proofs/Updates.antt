-- Two laws of every update that finishes in a history, by History's page alone. Each of its records applied to the table that the ones before it made, the first to nothing or to the table before the update
-- (`records-applied`): no record of a finished update was refused. And in version 0 it has the default intervals (`version-zero-defaults`, of the live table of a run `version-zero-table`). Both by what holds at
-- each place of a connection and of each item (`each`). Assumes nothing.
use Rattle.std.specs.Prelude.{Option, Some, None}
use Rattle.std.proofs.Common.{◌≡◌, ℕ, Bool, true, false, cond, ◌&&◌, eqb, leb, List, [], ◌∷◌, ◌++◌, sym, refl, ap, ◌∙◌, subst, arith}
use Rattle.rtr_models.specs.Codes.{type_number, version_number}
use Rattle.rtr_models.specs.Values.{announces, seconds_or, type_of}
use Rattle.rtr_models.specs.declared.RtrProtocolVersion.{RtrProtocolVersion}
use Rattle.rtr_models.specs.declared.RtrProtocolVersion.TheVariants.{V0, V1}
use Rattle.rtr_models.specs.declared.RtrEndOfData.{RtrEndOfData}
use Rattle.rtr_models.specs.declared.RtrPdu.{RtrPdu}
use Rattle.rtr_models.specs.declared.RtrPdu.TheVariants.{SerialNotify, SerialQuery, ResetQuery, CacheResponse, IPv4Prefix, IPv6Prefix, EndOfData, CacheReset, RouterKey, ErrorReport}
use Rattle.rtr_codec.specs.Reading.{in_use}
use Rattle.rtr_codec.specs.Read.{read}
use Rattle.rtr_codec.specs.Read.Verdict.{accepted}
use Rattle.rtr_codec.specs.Stands.{EndStands}
use Rattle.rtr_codec.proofs.Exactly.{stands_read}
use Rattle.rtr_stream.specs.Stream.{Heard, judge}
use Rattle.rtr_stream.proofs.Laws.{whole-is-read}
use Rattle.rtr_room.specs.Table.{Change, ipv4_record, ipv6_record}
use Rattle.rtr_receiver.specs.Contents.{Contents, Entry}
use Rattle.rtr_receiver.specs.History.{Event, Changed, Update, Live, Item, Place, Next, no_table, applied, kept, with_all, base, updated, with_updates, table_of, items_by, items, has_table, on_ask, of_session, is_due_at, kind_at, session_at, records_at, on_response, taken_in, on_prefix, end_says, on_told, of_version, on_pdu_at, unless_lost, on_item, or_finished, outcome, finished}
use Rattle.rtr_receiver.specs.History.Next.{goes, finishes}
use Rattle.rtr_receiver.specs.Runs.{Call, Memory, Run, history_of}
use Rattle.rtr_receiver.specs.declared.LoadKind.{LoadKind}
use Rattle.rtr_receiver.specs.declared.Table.{Table}
use Rattle.rtr_receiver.proofs.Runs.{history}

-- ---- What holds at each place and of each item holds of each update

module _ (limit : ℕ) (v : RtrProtocolVersion) (P : Live → Place → Type 0) (Q : Live → Update → Type 0) (I : Item → Type 0) where
  -- where an item leads, or the update that it finishes
  abbrev Fine : Live → Next → Type 0
  Fine live (goes p) = P live p
  Fine live (finishes u) = Q live u

  -- each update, beside the table before it
  abbrev Each : Live → List Update → Type 0
  Each live [] = Unit {0}
  Each live (u ∷ us) = Q live u × Each (updated limit live u) us

  abbrev All : List Item → Type 0
  All [] = Unit {0}
  All (i ∷ is) = I i × All is

  abbrev Onward : Type 0
  Onward = (live : Live) (p : Place) (i : Item) → I i → P live p → Fine live (on_item limit v live p i)

  each : ((live : Live) → P live Place.idle) → Onward → (is : List Item) (live : Live) (p : Place) → All is → P live p → Each live (outcome limit v live p is).updates
  unfolding outcome
  each idle step [] live p all a = tt
  each idle step (i ∷ is) live p all a = go (λ l q. each idle step is l q all.1) (on_item limit v live p i) (step live p i all.0 a)
    where
      go : ((l : Live) (q : Place) → P l q → Each l (outcome limit v l q is).updates) → (n : Next) → Fine live n → Each live (or_finished limit live n (λ l q. outcome limit v l q is)).updates
      go rest (goes q) f = rest live q f
      go rest (finishes u) f = (f, rest (updated limit live u) Place.idle (idle (updated limit live u)))

  -- a lost connection stays lost
  still-lost : (live : Live) (p : Place) (n : Next) → ((number : ℕ) (values : List ℕ) → P live (Place.lost number values)) → Fine live n → Fine live (unless_lost p n)
  still-lost live Place.idle n lost x = x
  still-lost live Place.must_reset n lost x = x
  still-lost live (Place.asked kind) n lost x = x
  still-lost live (Place.loading kind session cs) n lost x = x
  still-lost live (Place.lost number values) n lost x = lost number values

  -- by a test
  fine-if : (live : Live) (b : Bool) (n n' : Next) → (b ≡ true → Fine live n) → Fine live n' → Fine live (cond b n n')
  fine-if live true n n' x y = x refl
  fine-if live false n n' x y = y

  -- one among them
  one_of : (before : List Update) (u : Update) (later : List Update) (live : Live) → Each live (before ++ u ∷ later) → Q (with_updates limit live before) u
  unfolding with_updates
  one_of [] u later live all = all.0
  one_of (b ∷ before) u later live all = one_of before u later (updated limit live b) all.1

-- ---- Every record applied

-- each record applies to what the ones before it made
abbrev pub Apply : ℕ → Contents → List Changed → Type 0
Apply limit t [] = Unit {0}
Apply limit t (c ∷ cs) = (t' : Contents) × (applied limit t c.announced c.what ≡ Change.changed t') × Apply limit t' cs

module _ (limit : ℕ) where
  -- one record more
  apply-more : (cs : List Changed) (t : Contents) (c : Changed) (t' : Contents) → Apply limit t cs → applied limit (with_all limit t cs) c.announced c.what ≡ Change.changed t' → Apply limit t (cs ++ c ∷ [])
  unfolding with_all
  apply-more [] t c t' a e = (t', e, tt)
  apply-more (x ∷ cs) t c t' a e =
      (a.0, a.1, apply-more cs a.0 c t' a.2 (ap (λ (k : Change). applied limit (with_all limit (kept t k) cs) c.announced c.what) (sym a.1) ∙ e))

  -- at a place: the load's records so far
  abbrev Applying : Live → Place → Type 0
  Applying live p = Apply limit (base (kind_at p) live.records) (records_at p)

  -- and of an update
  abbrev Applied : Live → Update → Type 0
  Applied live u = Apply limit (base u.kind live.records) u.records

  abbrev AnyItem : Item → Type 0
  AnyItem i = Unit {0}

  abbrev Well : Live → Next → Type 0
  Well live n = Fine limit V1 Applying Applied AnyItem live n

  either : (live : Live) (b : Bool) (n n' : Next) → Well live n → Well live n' → Well live (cond b n n')
  either live b n n' x y = fine-if limit V1 Applying Applied AnyItem live b n n' (λ _. x) y

  either-place : (live : Live) (b : Bool) (p p' : Place) → Applying live p → Applying live p' → Applying live (cond b p p')
  either-place live true p p' x y = x
  either-place live false p p' x y = y

  ask-applies : (live : Live) (p : Place) (kind : LoadKind) (space : ℕ) → Applying live p → Applying live (on_ask live.info p kind space)
  ask-applies live Place.idle LoadKind.Full space a = either-place live (leb 8 space) (Place.asked LoadKind.Full) Place.idle tt tt
  ask-applies live Place.idle LoadKind.Change space a = either-place live (has_table live.info && leb 12 space) (Place.asked LoadKind.Change) Place.idle tt tt
  ask-applies live Place.must_reset LoadKind.Full space a = either-place live (leb 8 space) (Place.asked LoadKind.Full) Place.must_reset tt tt
  ask-applies live Place.must_reset LoadKind.Change space a = tt
  ask-applies live (Place.asked k) kind space a = tt
  ask-applies live (Place.loading k session cs) kind space a = a
  ask-applies live (Place.lost number values) kind space a = tt

  prefix-applies : (live : Live) (p : Place) (announced : Bool) (r : Entry) → Applying live p → Applying live (on_prefix limit live.records p announced r)
  prefix-applies live p announced r a = go (applied limit (with_all limit (base (kind_at p) live.records) (records_at p)) announced r) refl
    where
      go : (c : Change) → applied limit (with_all limit (base (kind_at p) live.records) (records_at p)) announced r ≡ c → Applying live (taken_in (kind_at p) (session_at p) (records_at p) announced r c)
      go (Change.changed t) e = apply-more (records_at p) (base (kind_at p) live.records) (record { announced = announced; what = r }) t a e
      go (Change.refused number) e = tt

  response-applies : (live : Live) (kind : LoadKind) (session : ℕ) → Applying live (on_response live.info kind session)
  response-applies live LoadKind.Full session = tt
  response-applies live LoadKind.Change session = either-place live (of_session live.info session) (Place.loading LoadKind.Change session []) (Place.lost 15 []) tt tt

  told-applies : (live : Live) (p : Place) (pdu : RtrPdu) → Applying live p → Well live (on_told limit live p pdu)
  told-applies live p (SerialNotify q) a = a
  told-applies live p (SerialQuery q) a = a
  told-applies live p (ResetQuery q) a = a
  told-applies live p (CacheResponse q) a = response-applies live (kind_at p) q.session_id
  told-applies live p (IPv4Prefix q) a = prefix-applies live p (announces q.flags) (ipv4_record q.prefix_length q.max_length q.prefix q.asn) a
  told-applies live p (IPv6Prefix q) a =
      prefix-applies live p (announces q.flags) (ipv6_record q.prefix_length q.max_length q.prefix.w0 q.prefix.w1 q.prefix.w2 q.prefix.w3 q.asn) a
  told-applies live p (EndOfData q) a =
      either live (eqb q.session_id (session_at p)) (finishes (record { kind = kind_at p; records = records_at p; end = end_says q })) (goes (Place.lost 15 [])) a tt
  told-applies live p (CacheReset q) a = tt
  told-applies live p (RouterKey q) a = a
  told-applies live p (ErrorReport q) a = tt

  module _ (v : RtrProtocolVersion) where
    pdu-applies : (live : Live) (p : Place) (pdu : RtrPdu) → Applying live p → Well live (on_pdu_at limit v live p pdu)
    pdu-applies live p pdu a =
        let n : Next = on_told limit live p pdu in
        let told = told-applies live p pdu a in
        let due : Next = cond (is_due_at (type_of pdu) p) n (goes (Place.lost 13 [])) in
        either live (eqb (type_number (type_of pdu)) 10) n (cond (of_version v pdu) due (goes (Place.lost 14 []))) told
        (either live (of_version v pdu) due (goes (Place.lost 14 [])) (either live (is_due_at (type_of pdu) p) n (goes (Place.lost 13 [])) told tt) tt)

    item-applies : (live : Live) (p : Place) (i : Item) → AnyItem i → Applying live p → Well live (on_item limit v live p i)
    item-applies live p (Item.asks kind space) any a = ask-applies live p kind space a
    item-applies live p (Item.told pdu) any a = still-lost limit V1 Applying Applied AnyItem live p (on_pdu_at limit v live p pdu) (λ _ _. tt) (pdu-applies live p pdu a)
    item-applies live p (Item.refusal number values) any a = still-lost limit V1 Applying Applied AnyItem live p (goes (Place.lost number values)) (λ _ _. tt) tt
    item-applies live p Item.anew any a = tt

    any-items : (is : List Item) → All limit v Applying Applied AnyItem is
    any-items [] = tt
    any-items (i ∷ is) = (tt, any-items is)

    -- of each finished update every record applied, one after another, to what it began from: nothing, or the table that the updates before it made
    pub records-applied : (H : ℕ) (es : List Event) (before : List Update) (u : Update) (later : List Update) →
        finished limit H v es ≡ before ++ u ∷ later →
        Apply limit (base u.kind (table_of limit before).records) u.records
    records-applied H es before u later e =
        one_of limit v Applying Applied AnyItem before u later no_table
        (subst (Each limit v Applying Applied AnyItem no_table) e
        (each limit v Applying Applied AnyItem (λ live. tt) item-applies (items H [] es) no_table Place.idle (any-items (items H [] es)) tt))

-- ---- Version 0 has the default intervals

abbrev pub Defaults : Table → Type 0
Defaults t = (t.refresh ≡ 3600) × (t.retry ≡ 600) × (t.expire ≡ 7200)

-- a PDU that was read
abbrev WasRead : Item → Type 0
WasRead (Item.asks kind space) = Unit {0}
WasRead (Item.told pdu) = (s : List ℕ) × (n : ℕ) × (read in_use s ≡ accepted pdu n)
WasRead (Item.refusal number values) = Unit {0}
WasRead Item.anew = Unit {0}

module _ (limit H : ℕ) where
  abbrev AnyPlace : Live → Place → Type 0
  AnyPlace live p = Unit {0}

  abbrev OfDefaults : Live → Update → Type 0
  OfDefaults live u = Defaults u.end

  abbrev Zero : Live → Next → Type 0
  Zero live n = Fine limit V0 AnyPlace OfDefaults WasRead live n

  -- all that is told was read
  all_read : (es : List Event) (s : List ℕ) → All limit V0 AnyPlace OfDefaults WasRead (items H s es)
  unfolding items
  all_read [] s = tt
  all_read (Event.byte b ∷ es) s = go (λ hand. all_read es hand) (judge in_use H (s ++ b ∷ [])) refl
    where
      go : ((hand : List ℕ) → All limit V0 AnyPlace OfDefaults WasRead (items H hand es)) → (h : Heard) → judge in_use H (s ++ b ∷ []) ≡ h → All limit V0 AnyPlace OfDefaults WasRead (items_by (s ++ b ∷ []) h (λ hand. items H hand es))
      go rest Heard.waits j = rest (s ++ b ∷ [])
      go rest (Heard.whole pdu) j = let w = whole-is-read in_use H (s ++ b ∷ []) pdu j in ((s ++ b ∷ [], w.0, w.1), rest [])
      go rest (Heard.refused number values) j = (tt, rest [])
  all_read (Event.ask kind space ∷ es) s = (tt, all_read es s)
  all_read (Event.reconnect ∷ es) s = (tt, all_read es [])

  -- an End of Data that was read in version 0 has no interval
  end-defaults : (q : RtrEndOfData) (s : List ℕ) (w : RtrProtocolVersion) → eqb (version_number w) 0 ≡ true → EndStands w q s → Defaults (end_says q)
  end-defaults q s V0 e k = (ap (seconds_or 3600) (sym k.3), ap (seconds_or 600) (sym k.4), ap (seconds_or 7200) (sym k.5))
  end-defaults q s V1 e k = absurd (let z : ◌≡◌ {A = ℕ} 0 1 = cc in omega arith)

  zero-either : (live : Live) (b : Bool) (n n' : Next) → (b ≡ true → Zero live n) → Zero live n' → Zero live (cond b n n')
  zero-either = fine-if limit V0 AnyPlace OfDefaults WasRead

  -- the version, then the turn
  zero_turn : (live : Live) (p : Place) (pdu : RtrPdu) → (of_version V0 pdu ≡ true → Zero live (on_told limit live p pdu)) →
      Zero live (cond (of_version V0 pdu) (cond (is_due_at (type_of pdu) p) (on_told limit live p pdu) (goes (Place.lost 13 []))) (goes (Place.lost 14 [])))
  zero_turn live p pdu told =
      let n : Next = on_told limit live p pdu in
      zero-either live (of_version V0 pdu) (cond (is_due_at (type_of pdu) p) n (goes (Place.lost 13 []))) (goes (Place.lost 14 []))
      (λ e. zero-either live (is_due_at (type_of pdu) p) n (goes (Place.lost 13 [])) (λ d. told e) tt) tt

  zero-told : (live : Live) (p : Place) (pdu : RtrPdu) → WasRead (Item.told pdu) → Zero live (on_pdu_at limit V0 live p pdu)
  zero-told live p (SerialNotify q) w = zero_turn live p (SerialNotify q) (λ e. tt)
  zero-told live p (SerialQuery q) w = zero_turn live p (SerialQuery q) (λ e. tt)
  zero-told live p (ResetQuery q) w = zero_turn live p (ResetQuery q) (λ e. tt)
  zero-told live p (CacheResponse q) w = zero_turn live p (CacheResponse q) (λ e. tt)
  zero-told live p (IPv4Prefix q) w = zero_turn live p (IPv4Prefix q) (λ e. tt)
  zero-told live p (IPv6Prefix q) w = zero_turn live p (IPv6Prefix q) (λ e. tt)
  zero-told live p (EndOfData q) w =
      zero_turn live p (EndOfData q)
      (λ e. zero-either live (eqb q.session_id (session_at p)) (finishes (record { kind = kind_at p; records = records_at p; end = end_says q })) (goes (Place.lost 15 [])) (λ same. end-defaults q w.0 q.version e (stands_read in_use w.0 (EndOfData q) w.1 w.2).kind) tt)
  zero-told live p (CacheReset q) w = zero_turn live p (CacheReset q) (λ e. tt)
  zero-told live p (RouterKey q) w = zero_turn live p (RouterKey q) (λ e. tt)
  zero-told live p (ErrorReport q) w = tt

  zero-item : (live : Live) (p : Place) (i : Item) → WasRead i → AnyPlace live p → Zero live (on_item limit V0 live p i)
  zero-item live p (Item.asks kind space) w a = tt
  zero-item live p (Item.told pdu) w a = still-lost limit V0 AnyPlace OfDefaults WasRead live p (on_pdu_at limit V0 live p pdu) (λ _ _. tt) (zero-told live p pdu w)
  zero-item live p (Item.refusal number values) w a = still-lost limit V0 AnyPlace OfDefaults WasRead live p (goes (Place.lost number values)) (λ _ _. tt) tt
  zero-item live p Item.anew w a = tt

  zero-each : (es : List Event) → Each limit V0 AnyPlace OfDefaults WasRead no_table (finished limit H V0 es)
  zero-each es = each limit V0 AnyPlace OfDefaults WasRead (λ live. tt) zero-item (items H [] es) no_table Place.idle (all_read es []) tt

  -- each update that finishes in version 0 has the defaults
  pub version-zero-defaults : (es : List Event) (before : List Update) (u : Update) (later : List Update) → finished limit H V0 es ≡ before ++ u ∷ later → Defaults u.end
  version-zero-defaults es before u later e =
      one_of limit V0 AnyPlace OfDefaults WasRead before u later no_table (subst (Each limit V0 AnyPlace OfDefaults WasRead no_table) e (zero-each es))

  -- so has the live table of a run
  abbrev TableDefaults : Option Table → Type 0
  TableDefaults None = Unit {0}
  TableDefaults (Some t) = Defaults t

  last-defaults : (us : List Update) (live : Live) → TableDefaults live.info → Each limit V0 AnyPlace OfDefaults WasRead live us → TableDefaults (with_updates limit live us).info
  unfolding with_updates
  last-defaults [] live d all = d
  last-defaults (u ∷ us) live d all = last-defaults us (updated limit live u) all.0 all.1

  pub version-zero-table : (calls : List Call) (m : Memory) (t : Table) → Run limit V0 H calls m → m.session.table ≡ Some t → Defaults t
  version-zero-table calls m t run e =
      subst TableDefaults (sym (ap (λ (l : Live). l.info) (history limit H V0 calls m run)) ∙ e) (last-defaults (finished limit H V0 (history_of calls)) no_table tt (zero-each (history_of calls)))
