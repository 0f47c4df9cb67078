-- Small histories with their updates, places and tables computed, for the reader of specs/History.antt; the bytes are those of document 01's listing.
-- Assumes nothing.
use Rattle.std.specs.Prelude.{None, Option, Some}
use Rattle.std.proofs.Common.{◌≡◌, ℕ, ◌≤◌, true, false, List, [], ◌∷◌, ◌++◌, length, take, refl, ap, ◌∙◌, arith}
use Rattle.rtr_models.specs.declared.RtrPdu.{RtrPdu}
use Rattle.rtr_models.specs.declared.RtrProtocolVersion.TheVariants.{V0, V1}
use Rattle.rtr_codec.specs.Reading.{in_use}
use Rattle.rtr_codec.specs.Read.{Verdict, read}
use Rattle.rtr_codec.proofs.Samples.{response_bytes, prefix_bytes, end_bytes, response_pdu, prefix_pdu, end_pdu, response-read, announced-read, withdrawn-read, end_read, later-end-read, other-end-read}
use Rattle.rtr_room.specs.Table.{Change, ipv4_record, leave}
use Rattle.rtr_room.specs.declared.Record.{Record}
use Rattle.rtr_room.proofs.Laws.{enter-first, leave-first, leave-empty}
use Rattle.rtr_receiver.specs.History.{Event, Update, Live, Item, Place, no_table, kept, with_all, with_updates, table_of, items, taken_in, Outcome, after, outcome, finished}
use Rattle.rtr_receiver.specs.Receiver.{Notified, notified}
use Rattle.rtr_receiver.specs.Runs.{bytes}
use Rattle.rtr_receiver.specs.declared.LoadKind.{LoadKind}
use Rattle.rtr_receiver.specs.declared.Table.{Table}
use Rattle.rtr_receiver.proofs.Whole.{told-by, cut_off}

-- ---- Histories, in version 1, with any record limit of 1 or more and any hold of 24 bytes or more

-- 192.0.2.0/24, max 24, AS 64496
abbrev prefix : Record
prefix = ipv4_record 24 24 3221225984 64496

-- what the End of Data of a serial says
abbrev said : ℕ → Table
said serial = record { session = 4660; serial = serial; refresh = 3600; retry = 600; expire = 7200 }

abbrev full_ask : List Event → List Event
full_ask es = Event.ask LoadKind.Full 8 ∷ es

abbrev change_ask : List Event → List Event
change_ask es = Event.ask LoadKind.Change 12 ∷ es

abbrev response : List Event → List Event
response es = bytes response_bytes ++ es

abbrev announced : List Event → List Event
announced es = bytes (prefix_bytes 1) ++ es

abbrev withdrawn : List Event → List Event
withdrawn es = bytes (prefix_bytes 0) ++ es

abbrev ended : ℕ → List Event → List Event
ended serial es = bytes (end_bytes 0x12 0x34 serial) ++ es

-- a full load of that prefix, and the update that it finishes
abbrev load : List Event → List Event
load es = full_ask (response (announced (ended 7 es)))

abbrev loaded : Update
loaded = record { kind = LoadKind.Full; records = record { announced = true; what = prefix } ∷ []; end = said 7 }

-- the change that withdraws it
abbrev emptied : Update
emptied = record { kind = LoadKind.Change; records = record { announced = false; what = prefix } ∷ []; end = said 8 }

module _ (limit H : ℕ) (some : 1 ≤ limit) (size : 24 ≤ H) where
  heard : (s : List ℕ) (pdu : RtrPdu) → length s ≤ 24 → read in_use s ≡ Verdict.accepted pdu (length s) → (es : List Event) → items H [] (bytes s ++ es) ≡ Item.told pdu ∷ items H [] es
  heard s pdu few e es = told-by H s pdu (record { most = omega arith; fits = omega arith; reads = e }) es

  -- ---- what the bytes come to

  response-items : (es : List Event) → items H [] (response es) ≡ Item.told response_pdu ∷ items H [] es
  response-items es = heard response_bytes response_pdu (omega arith) response-read es

  announced-items : (es : List Event) → items H [] (announced es) ≡ Item.told (prefix_pdu 1) ∷ items H [] es
  announced-items es = heard (prefix_bytes 1) (prefix_pdu 1) (omega arith) announced-read es

  withdrawn-items : (es : List Event) → items H [] (withdrawn es) ≡ Item.told (prefix_pdu 0) ∷ items H [] es
  withdrawn-items es = heard (prefix_bytes 0) (prefix_pdu 0) (omega arith) withdrawn-read es

  ended-items : (es : List Event) → items H [] (ended 7 es) ≡ Item.told (end_pdu 4660 7) ∷ items H [] es
  ended-items es = heard (end_bytes 0x12 0x34 7) (end_pdu 4660 7) (omega arith) end_read es

  later-ended-items : (es : List Event) → items H [] (ended 8 es) ≡ Item.told (end_pdu 4660 8) ∷ items H [] es
  later-ended-items es = heard (end_bytes 0x12 0x34 8) (end_pdu 4660 8) (omega arith) later-end-read es

  -- ---- a load so far, with what is still to come

  -- what a history comes to
  abbrev comes : List Event → Outcome
  comes es = outcome limit V1 no_table Place.idle (items H [] es)

  -- in a load that was told the prefix
  abbrev told : List Item → Outcome
  told is = outcome limit V1 no_table (Place.loading LoadKind.Full 4660 (record { announced = true; what = prefix } ∷ [])) is

  -- asked, answered and told one prefix
  began : (es : List Event) → comes (full_ask (response (announced es))) ≡ told (items H [] es)
  unfolding items outcome with_all
  began es =
      ap (outcome limit V1 no_table (Place.asked LoadKind.Full)) (response-items (announced es))
      ∙ ap (outcome limit V1 no_table (Place.loading LoadKind.Full 4660 [])) (announced-items es)
      ∙ ap (λ (c : Change). outcome limit V1 no_table (taken_in LoadKind.Full 4660 [] true prefix c) (items H [] es)) (enter-first limit prefix some)

  -- the table after the load
  abbrev first : Live
  first = record { info = Some (said 7); records = prefix ∷ [] }

  loaded-is : with_updates limit no_table (loaded ∷ []) ≡ first
  unfolding with_updates with_all
  loaded-is = ap (λ (c : Change). record { info = Some (said 7); records = kept [] c }) (enter-first limit prefix some)

  after-load : (es : List Event) → comes (load es) ≡ after (loaded ∷ []) (outcome limit V1 first Place.idle (items H [] es))
  unfolding outcome with_updates
  after-load es =
      began (ended 7 es)
      ∙ ap told (ended-items es)
      ∙ ap (λ (l : Live). after (loaded ∷ []) (outcome limit V1 l Place.idle (items H [] es))) loaded-is

  -- 1. the load alone: one update, the connection idle, and the table of document 01's listing
  pub listing : comes (load []) ≡ record { updates = loaded ∷ []; place = Place.idle }
  unfolding items outcome
  listing = after-load []

  pub listing-table : table_of limit (finished limit H V1 (load [])) ≡ record { info = Some (said 7); records = prefix ∷ [] }
  listing-table = ap (λ (o : Outcome). table_of limit o.updates) listing ∙ loaded-is

  -- 2. without its last byte: no update, no table, and the load goes on
  pub listing-cut :
      comes (full_ask (response (announced (bytes (take 23 (end_bytes 0x12 0x34 7))))))
      ≡ record { updates = []; place = Place.loading LoadKind.Full 4660 (record { announced = true; what = prefix } ∷ []) }
  unfolding outcome
  listing-cut =
      began (bytes (take 23 (end_bytes 0x12 0x34 7)))
      ∙ ap told (cut_off H (take 23 (end_bytes 0x12 0x34 7)) (0x20 ∷ []) (end_pdu 4660 7) (omega arith) (record { most = omega arith; fits = omega arith; reads = end_read }))

  -- 3. with another session in its End of Data: none either, and the connection is lost by 15
  pub other-session : comes (full_ask (response (announced (bytes (end_bytes 0x12 0x35 7) ++ [])))) ≡ record { updates = []; place = Place.lost 15 [] }
  unfolding items outcome
  other-session =
      began (bytes (end_bytes 0x12 0x35 7) ++ [])
      ∙ ap told (heard (end_bytes 0x12 0x35 7) (end_pdu 4661 7) (omega arith) other-end-read [])

  -- ---- a change after it

  -- in a change that withdrew the prefix
  abbrev withdrew : List Item → Outcome
  withdrew is = after (loaded ∷ []) (outcome limit V1 first (Place.loading LoadKind.Change 4660 (record { announced = false; what = prefix } ∷ [])) is)

  -- where its next record leads
  abbrev again : Change → List Item → Outcome
  again c is = after (loaded ∷ []) (outcome limit V1 first (taken_in LoadKind.Change 4660 (record { announced = false; what = prefix } ∷ []) false prefix c) is)

  -- asked, answered, and the prefix withdrawn
  changing : (es : List Event) → comes (load (change_ask (response (withdrawn es)))) ≡ withdrew (items H [] es)
  unfolding items outcome with_all
  changing es =
      after-load (change_ask (response (withdrawn es)))
      ∙ ap (after (loaded ∷ []))
      (ap (outcome limit V1 first (Place.asked LoadKind.Change)) (response-items (withdrawn es))
      ∙ ap (outcome limit V1 first (Place.loading LoadKind.Change 4660 [])) (withdrawn-items es)
      ∙ ap (λ (c : Change). outcome limit V1 first (taken_in LoadKind.Change 4660 [] false prefix c) (items H [] es)) (leave-first prefix []))

  -- 4. a change that withdraws the prefix: two updates, and an empty table of serial 8
  pub change : comes (load (change_ask (response (withdrawn (ended 8 []))))) ≡ record { updates = loaded ∷ emptied ∷ []; place = Place.idle }
  unfolding items outcome
  change = changing (ended 8 []) ∙ ap withdrew (later-ended-items [])

  pub change-table : table_of limit (finished limit H V1 (load (change_ask (response (withdrawn (ended 8 [])))))) ≡ record { info = Some (said 8); records = [] }
  unfolding with_updates with_all
  change-table =
      ap (λ (o : Outcome). table_of limit o.updates) change
      ∙ ap (λ (l : Live). with_updates limit l (emptied ∷ [])) loaded-is
      ∙ ap (λ (c : Change). record { info = Some (said 8); records = kept (prefix ∷ []) c }) (leave-first prefix [])

  -- 5. a change that is refused half-way (the prefix withdrawn twice): the table stays the load's and the connection is lost by 16, though an End of Data follows
  pub refused-change : comes (load (change_ask (response (withdrawn (withdrawn (ended 8 [])))))) ≡ record { updates = loaded ∷ []; place = Place.lost 16 [] }
  unfolding items outcome with_all
  refused-change =
      changing (withdrawn (ended 8 []))
      ∙ ap withdrew (withdrawn-items (ended 8 []))
      ∙ ap (λ (c : Change). again (leave prefix (kept (prefix ∷ []) c)) (items H [] (ended 8 []))) (leave-first prefix [])
      ∙ ap (λ (c : Change). again c (items H [] (ended 8 []))) (leave-empty prefix)
      ∙ ap (again (Change.refused 16)) (later-ended-items [])

-- 6. in version 0 an End of Data has no intervals: the update has the defaults (document 01, "Modules": 3600, 600 and 7200)
abbrev version_zero : List Item
version_zero =
    Item.asks LoadKind.Full 8
    ∷ Item.told (RtrPdu.CacheResponse (record { version = V0; session_id = 4660 }))
    ∷ Item.told
    (RtrPdu.EndOfData
    (record { version = V0; session_id = 4660; serial_number = 7; refresh_interval = None; retry_interval = None; expire_interval = None }))
    ∷ []

pub version-zero : (limit : ℕ) → outcome limit V0 no_table Place.idle version_zero ≡ record { updates = record { kind = LoadKind.Full; records = []; end = said 7 } ∷ []; place = Place.idle }
unfolding outcome
version-zero limit = refl

-- document 01's edges of the notify comparison: a serial just past the largest is newer, one halfway round is undefined
abbrev tabled : ℕ → Option Table
tabled serial = Some (record { session = 0; serial = serial; refresh = 0; retry = 0; expire = 0 })

pub past-the-largest : notified (tabled 4294967295) (Some (0, 0)) ≡ Notified.newer
past-the-largest = refl

pub halfway-round : notified (tabled 0) (Some (0, 2147483648)) ≡ Notified.undefined
halfway-round = refl
