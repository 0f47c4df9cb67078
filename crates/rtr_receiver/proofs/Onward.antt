-- Going on from where a run stands: what its history comes to with more events behind it (`history-goes-on`), and what feeds one after another leave in memory (`steps-fed`). Assumes nothing.
use Rattle.std.proofs.Common.{◌≡◌, ℕ, Bool, true, cond, List, [], ◌∷◌, ◌++◌, length, take, sym, refl, ap, ◌∙◌, subst, append_assoc, eq-eqb}
use Rattle.rtr_models.specs.Codes.{version_number}
use Rattle.rtr_models.specs.Values.{version_of}
use Rattle.rtr_models.specs.declared.RtrCacheResponse.{RtrCacheResponse}
use Rattle.rtr_models.specs.declared.RtrEndOfData.{RtrEndOfData}
use Rattle.rtr_models.specs.declared.RtrPdu.{RtrPdu}
use Rattle.rtr_models.specs.declared.RtrPdu.TheVariants.{CacheResponse, EndOfData}
use Rattle.rtr_models.specs.declared.RtrProtocolVersion.{RtrProtocolVersion}
use Rattle.rtr_stream.proofs.Laws.{joined}
use Rattle.rtr_room.specs.Table.{Change}
use Rattle.rtr_receiver.specs.Contents.{Contents, Entry}
use Rattle.rtr_receiver.specs.Receiver.{Receiver, feed, feed_all}
use Rattle.rtr_receiver.specs.History.{Event, Changed, Update, Live, Item, Place, Next, no_table, applied, with_all, base, updated, with_updates, table_of, items, on_response, taken_in, end_says, on_item, Outcome, after, or_finished, outcome, finished, stands_after}
use Rattle.rtr_receiver.specs.Promises.{is_receiver, receiver_of, in_memory}
use Rattle.rtr_receiver.specs.Receives.{stage_at}
use Rattle.rtr_receiver.specs.Runs.{Call, Memory, Steps, Run, bytes, feeds, history_of, left_in, live_in}
use Rattle.rtr_receiver.specs.declared.LoadKind.{LoadKind}
use Rattle.rtr_receiver.proofs.Histories.{live_of, with-more, all-between, ends_there}
use Rattle.rtr_receiver.proofs.Runs as runs
use Rattle.rtr_receiver.proofs.Runs.{Stands, run_along, is-receiver, step-stands}
use Rattle.rtr_receiver.proofs.Laws.{stands-in-shape, version-for-life}
use Rattle.rtr_receiver.proofs.Whole.{Prefixes}

-- ---- Items, one after another

module _ (limit : ℕ) (v : RtrProtocolVersion) (live : Live) (place : Place) where
  pub outcome-none : outcome limit v live place [] ≡ record { updates = []; place = place }
  unfolding outcome
  outcome-none = refl

  pub outcome-next : (i : Item) (is : List Item) → outcome limit v live place (i ∷ is) ≡ or_finished limit live (on_item limit v live place i) (λ live' place'. outcome limit v live' place' is)
  unfolding outcome
  outcome-next i is = refl

-- what the PDUs of a load come to, where they are due and of the connection's version

-- of the version, in turn: both tests before it hold
in-turn : (limit : ℕ) (live : Live) (b : Bool) (n m : Next) (rest : Live → Place → Outcome) → b ≡ true → or_finished limit live (cond b n m) rest ≡ or_finished limit live n rest
in-turn limit live b n m rest e = ap (λ (x : Bool). or_finished limit live (cond x n m) rest) e

module _ (limit : ℕ) (v : RtrProtocolVersion) (live : Live) (is : List Item) where
  abbrev onwards : Live → Place → Outcome
  onwards live' place' = outcome limit v live' place' is

  -- a Cache Response begins the load
  pub told-response : (kind : LoadKind) (p : RtrCacheResponse) → p.version ≡ v
      → outcome limit v live (Place.asked kind) (Item.told (CacheResponse p) ∷ is) ≡ outcome limit v live (on_response live.info kind p.session_id) is
  unfolding outcome
  told-response LoadKind.Full p e = in-turn limit live _ _ _ onwards (eq-eqb (version_number p.version) (version_number v) (ap version_number e))
  told-response LoadKind.Change p e = in-turn limit live _ _ _ onwards (eq-eqb (version_number p.version) (version_number v) (ap version_number e))

  -- a prefix that applies is one record more
  pub told-prefix : (kind : LoadKind) (session : ℕ) (cs : List Changed) (pdu : RtrPdu) (announced : Bool) (x : Entry) (t t' : Contents) →
      Prefixes pdu announced x →
      version_of pdu ≡ v →
      with_all limit (base kind live.records) cs ≡ t →
      applied limit t announced x ≡ Change.changed t' →
      outcome limit v live (Place.loading kind session cs) (Item.told pdu ∷ is) ≡ outcome limit v live (Place.loading kind session (cs ++ record { announced = announced; what = x } ∷ [])) is
  unfolding outcome
  told-prefix kind session cs pdu announced x t t' (Prefixes.ipv4 p) e so_far applies =
      in-turn limit live _ _ _ onwards (eq-eqb (version_number p.version) (version_number v) (ap version_number e))
      ∙ ap (λ (c : Change). onwards live (taken_in kind session cs announced x c)) (ap (λ (u : Contents). applied limit u announced x) so_far ∙ applies)
  told-prefix kind session cs pdu announced x t t' (Prefixes.ipv6 p) e so_far applies =
      in-turn limit live _ _ _ onwards (eq-eqb (version_number p.version) (version_number v) (ap version_number e))
      ∙ ap (λ (c : Change). onwards live (taken_in kind session cs announced x c)) (ap (λ (u : Contents). applied limit u announced x) so_far ∙ applies)

  -- an End of Data of the load's session finishes the update
  pub told-end : (kind : LoadKind) (session : ℕ) (cs : List Changed) (p : RtrEndOfData) → p.version ≡ v → p.session_id ≡ session
      → outcome limit v live (Place.loading kind session cs) (Item.told (EndOfData p) ∷ is)
      ≡ after (record { kind = kind; records = cs; end = end_says p } ∷ []) (outcome limit v (updated limit live (record { kind = kind; records = cs; end = end_says p })) Place.idle is)
  unfolding outcome
  told-end kind session cs p e same =
      in-turn limit live _ _ _ onwards (eq-eqb (version_number p.version) (version_number v) (ap version_number e))
      ∙ in-turn limit live _ _ _ onwards (eq-eqb p.session_id session same)

-- no events come to nothing, whatever is in hand
pub items-none : (H : ℕ) (s : List ℕ) → items H s [] ≡ []
unfolding items
items-none H s = refl

-- an ask is an item of its own, and leaves what is in hand
pub items-asked : (H : ℕ) (s : List ℕ) (kind : LoadKind) (space : ℕ) (es : List Event) → items H s (Event.ask kind space ∷ es) ≡ Item.asks kind space ∷ items H s es
unfolding items
items-asked H s kind space es = refl

-- ---- Events, one after another

pub history-asked : (kind : LoadKind) (out : List ℕ) (calls : List Call) → history_of (Call.ask kind out ∷ calls) ≡ Event.ask kind (length out) ∷ history_of calls
unfolding history_of
history-asked kind out calls = refl

pub bytes-join : (s t : List ℕ) → bytes (s ++ t) ≡ bytes s ++ bytes t
bytes-join [] t = refl
bytes-join (b ∷ s) t = ap (λ (es : List Event). Event.byte b ∷ es) (bytes-join s t)

history-join : (calls more : List Call) → history_of (calls ++ more) ≡ history_of calls ++ history_of more
unfolding history_of
history-join [] more = refl
history-join (Call.feed piece ∷ calls) more = ap (λ (es : List Event). bytes piece ++ es) (history-join calls more) ∙ sym (append_assoc (bytes piece) (history_of calls) (history_of more))
history-join (Call.ask kind out ∷ calls) more = ap (λ (es : List Event). Event.ask kind (length out) ∷ es) (history-join calls more)
history-join (Call.reconnect ∷ calls) more = ap (λ (es : List Event). Event.reconnect ∷ es) (history-join calls more)

pub history-of-feeds : (pieces : List (List ℕ)) → history_of (feeds pieces) ≡ bytes (joined pieces)
unfolding history_of
history-of-feeds [] = refl
history-of-feeds (piece ∷ pieces) = ap (λ (es : List Event). bytes piece ++ es) (history-of-feeds pieces) ∙ sym (bytes-join piece (joined pieces))

-- calls and then feeds: the bytes come behind, and their cuts are forgotten
pub history-with-feeds : (calls : List Call) (pieces : List (List ℕ)) → history_of (calls ++ feeds pieces) ≡ history_of calls ++ bytes (joined pieces)
history-with-feeds calls pieces = history-join calls (feeds pieces) ∙ ap (λ (es : List Event). history_of calls ++ es) (history-of-feeds pieces)

-- ---- Updates, one after another

-- the table with one more update
pub table-with : (limit : ℕ) (us : List Update) (u : Update) → table_of limit (us ++ u ∷ []) ≡ updated limit (table_of limit us) u
unfolding with_updates
table-with limit us u = sym (with-more limit 0 us (u ∷ []) no_table)

-- ---- Along a run

-- a place with the phase of an ask is that ask's
pub asked-at : (kind : LoadKind) (p : Place) → stage_at p ≡ stage_at (Place.asked kind) → p ≡ Place.asked kind
asked-at LoadKind.Full Place.idle e = cc
asked-at LoadKind.Full Place.must_reset e = cc
asked-at LoadKind.Full (Place.asked LoadKind.Full) e = refl
asked-at LoadKind.Full (Place.asked LoadKind.Change) e = cc
asked-at LoadKind.Full (Place.loading kind session cs) e = cc
asked-at LoadKind.Full (Place.lost number values) e = cc
asked-at LoadKind.Change Place.idle e = cc
asked-at LoadKind.Change Place.must_reset e = cc
asked-at LoadKind.Change (Place.asked LoadKind.Full) e = cc
asked-at LoadKind.Change (Place.asked LoadKind.Change) e = refl
asked-at LoadKind.Change (Place.loading kind session cs) e = cc
asked-at LoadKind.Change (Place.lost number values) e = cc

-- with more events behind it a history comes to what it came to, and then to what these come to from where its connection stands, with the live table and the held bytes that are in memory
pub history-goes-on : (limit H : ℕ) (v : RtrProtocolVersion) (calls : List Call) (m : Memory) → Run limit v H calls m → (later : List Event)
    → outcome limit v no_table Place.idle (items H [] (history_of calls ++ later))
    ≡ after (finished limit H v (history_of calls)) (outcome limit v (live_in m) (stands_after limit H v (history_of calls)) (items H (take m.session.held m.hold) later))
history-goes-on limit H v calls m run later =
    let along = run_along limit H v calls m run in
    let same : along.receiver ≡ receiver_of m.session m.live m.working m.hold = sym (is-receiver limit H along.stands) in
    along.way.to-come later
    ∙ (λ i. after (sym (all-between limit H along.way) i) (outcome limit (same i).version (live_of (same i)) (sym (ends_there limit H along.way) i) (items H (same i).held later)))
    ∙ ap (λ (x : RtrProtocolVersion). after (finished limit H v (history_of calls)) (outcome limit x (live_in m) (stands_after limit H v (history_of calls)) (items H (take m.session.held m.hold) later)))
    (version-for-life limit H v calls m run)

-- ---- From any memory of receiver shape

module _ (limit H : ℕ) where
  -- the receiver after calls
  abbrev after_all : List Call → Receiver → Receiver
  after_all [] r = r
  after_all (call ∷ calls) r = after_all calls (runs.after limit H call r)

  after_last : (calls : List Call) (call : Call) (r : Receiver) → runs.after limit H call (after_all calls r) ≡ after_all (calls ++ call ∷ []) r
  after_last [] call r = refl
  after_last (c ∷ calls) call r = after_last calls call (runs.after limit H c r)

  steps-stand : (m : Memory) (calls : List Call) (m' : Memory) (r : Receiver) → Stands limit H m r → Steps limit m calls m' → Stands limit H m' (after_all calls r)
  steps-stand m calls m' r st Steps.none = st
  steps-stand m calls m'' r st (Steps.more {calls = before} {call = call} {m' = m'} steps step) =
      subst (Stands limit H m'') (after_last before call r) (step-stands limit H call m' m'' (after_all before r) (steps-stand m before m' r st steps) step)

  after-feeds : (pieces : List (List ℕ)) (r : Receiver) → after_all (feeds pieces) r ≡ (feed_all limit H r pieces).receiver
  unfolding feed_all feed
  after-feeds [] r = refl
  after-feeds (piece ∷ pieces) r = after-feeds pieces (runs.after limit H (Call.feed piece) r)

-- feeds one after another leave the receiver that is fed these pieces
pub steps-fed : (limit : ℕ) (m m' : Memory) (pieces : List (List ℕ)) → is_receiver limit m.session m.live m.working m.hold ≡ true → Steps limit m (feeds pieces) m'
    → left_in m' ≡ in_memory limit (feed_all limit (length m.hold) (receiver_of m.session m.live m.working m.hold) pieces).receiver
steps-fed limit m m' pieces e steps =
    let r : Receiver = receiver_of m.session m.live m.working m.hold in
    let H : ℕ = length m.hold in
    (steps-stand limit H m (feeds pieces) m' r (stands-in-shape limit m e) steps).left ∙ ap (in_memory limit) (after-feeds limit H pieces r)
