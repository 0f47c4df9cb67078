-- A run in a history: by History's page exactly one update finishes by it, the changes of the run under what its End of Data said, and the table that it makes is the second one
-- (`run-finishes`, `run-finished`). So rtr-table's listing of a full run of version 1 is the table's own (`full-run-listed`). Assumes nothing.
use Rattle.std.specs.Prelude.{Option, Some}
use Prim.Native.Nat.{ℕ, ◌≤◌}
use mathlib.Core.Bool.{Bool, cond}
use mathlib.Core.List.{List, [], ◌∷◌, ◌++◌, map, map-append, append_assoc, append-nil}
use mathlib.Core.Path.{◌≡◌, refl, sym, ap, ◌∙◌}
use borrow.Author.Tests.{eq-eqb, le-leb}
use lib.ListN.{length}
use Rattle.rtr_models.specs.declared.RtrProtocolVersion.{RtrProtocolVersion}
use Rattle.rtr_models.specs.declared.RtrProtocolVersion.TheVariants.{V1}
use Rattle.rtr_stream.proofs.Laws.{joined}
use Rattle.rtr_room.specs.declared.Record.{Record}
use Rattle.rtr_receiver.specs.Contents.{Contents}
use Rattle.rtr_receiver.specs.History.{Event, Changed, Update, Live, Item, Place, no_table, with_all, base, updated, table_of, items, of_session, on_response, Outcome, after, outcome, finished, stands_after}
use Rattle.rtr_receiver.specs.Promises.{receiver_of}
use Rattle.rtr_receiver.specs.Runs.{Call, Memory, Run, bytes, feeds, history_of, live_in}
use Rattle.rtr_receiver.specs.declared.LoadKind.{LoadKind}
use Rattle.rtr_receiver.specs.declared.Table.{Table}
use Rattle.rtr_receiver.proofs.Laws.{with-all-none, with-all-last}
use Rattle.rtr_receiver.proofs.Runs.{history, table-of-none}
use Rattle.rtr_receiver.proofs.Receives.{stop-from-history}
use Rattle.rtr_receiver.proofs.Onward.{outcome-none, outcome-next, items-none, items-asked, told-response, told-prefix, told-end, history-asked, history-of-feeds, history-with-feeds, table-with, asked-at, history-goes-on}
use Rattle.rtr_listing.specs.Listing.{head_lines, all_lines}
use Rattle.rtr_listing.proofs.Laws.{head-lines-are}
use Rattle.rtr_listing.proofs.Printed.{printed, printed_after, stop_line, lost_by}
use Rattle.rtr_changes.specs.Changes.{changes, Applies}
use Rattle.rtr_changes.proofs.Laws.{changes-apply, with-all-changes}
use Rattle.rtr_cache.specs.Cache.{sent_response, sent_prefix, end_of, sent_end, run_pdus, run_bytes}
use Rattle.rtr_cache.specs.Serves.{sent_as, Servable, Holds, Ready, update_of, NoLonger}
use Rattle.rtr_cache.proofs.Sent.{AllSay}
use Rattle.rtr_cache.proofs.Reading.{run-says, run-in-run, told-all}
use Rattle.rtr_cache.proofs.Serves.{end-says}

-- a Cache Response of the run's session begins the load
load-begins : (live : Live) (kind : LoadKind) (first : List Record) (session : ℕ) → Holds kind first session live → on_response live.info kind session ≡ Place.loading kind session []
load-begins live LoadKind.Full first session holds = refl
load-begins live LoadKind.Change first session holds =
    let t : Table = holds.1.0 in
    ap (λ (info : Option Table). cond (of_session info session) (Place.loading LoadKind.Change session []) (Place.lost 15 [])) holds.1.1
    ∙ ap (λ (b : Bool). cond b (Place.loading LoadKind.Change session []) (Place.lost 15 [])) (eq-eqb session t.session (sym holds.1.2))

-- what it begins from is what the run begins from
from_first : (live : Live) (kind : LoadKind) (first : List Record) (session : ℕ) → Holds kind first session live → base kind live.records ≡ base kind first
from_first live LoadKind.Full first session holds = refl
from_first live LoadKind.Change first session holds = holds.0

module _ (limit : ℕ) (kind : LoadKind) (v : RtrProtocolVersion) (live : Live) where
  -- changes, each of which applies where it stands, behind others
  told-prefixes : (session : ℕ) (before cs : List Changed) (t u : Contents) (is : List Item) → with_all limit (base kind live.records) before ≡ t → Applies limit t cs u → AllSay v cs
      → outcome limit v live (Place.loading kind session before) (map Item.told (map (sent_prefix v) cs) ++ is) ≡ outcome limit v live (Place.loading kind session (before ++ cs)) is
  told-prefixes session before cs t u is so_far Applies.done says = ap (λ (x : List Changed). outcome limit v live (Place.loading kind session x) is) (sym (append-nil before))
  told-prefixes session before (c ∷ cs) t u is so_far (Applies.step {t' = t'} e more) says =
      told-prefix limit v live (map Item.told (map (sent_prefix v) cs) ++ is) kind session before (sent_prefix v c) c.announced c.what t t' says.0.prefixes says.0.version so_far e
      ∙ told-prefixes session (before ++ c ∷ []) cs t' u is (with-all-last limit (base kind live.records) t t' before c so_far e) more says.1
      ∙ ap (λ (x : List Changed). outcome limit v live (Place.loading kind session x) is) (append_assoc before (c ∷ []) cs)

-- the PDUs of a run finish its update, from a connection that asked for it
pdus-finish : (limit : ℕ) (kind : LoadKind) (v : RtrProtocolVersion) (end : Table) (first second : List Record) (live : Live) (is : List Item) →
    Servable kind end first second →
    length second ≤ limit →
    Holds kind first end.session live →
    outcome limit v live (Place.asked kind) (map Item.told (run_pdus kind v end first second) ++ is)
    ≡ after (update_of kind v end first second ∷ []) (outcome limit v (updated limit live (update_of kind v end first second)) Place.idle is)
unfolding run_pdus
pdus-finish limit kind v end first second live is parts within holds =
    let session : ℕ = end.session in
    let cs : List Changed = changes (base kind first) second in
    let prefixes : List Item = map Item.told (map (sent_prefix v) cs) in
    let last : Item = Item.told (sent_end v end) in
    let split : map Item.told (map (sent_prefix v) cs ++ sent_end v end ∷ []) ++ is ≡ prefixes ++ (last ∷ is) =
    ap (λ (x : List Item). x ++ is) (map-append Item.told (map (sent_prefix v) cs) (sent_end v end ∷ [])) ∙ append_assoc prefixes (last ∷ []) is in
    let way = changes-apply limit (base kind first) second parts.first-table parts.second-table within in
    ap (λ (x : List Item). outcome limit v live (Place.asked kind) (Item.told (sent_response v session) ∷ x)) split
    ∙ told-response limit v live (prefixes ++ (last ∷ is)) kind (record { version = v; session_id = session }) refl
    ∙ ap (λ (p : Place). outcome limit v live p (prefixes ++ (last ∷ is))) (load-begins live kind first session holds)
    ∙ told-prefixes limit kind v live session [] cs (base kind first) second (last ∷ is) (with-all-none limit (base kind live.records) ∙ from_first live kind first session holds) way (run-says kind v end first second parts)
    ∙ told-end limit v live is kind session cs (end_of v end) refl refl
    ∙ ap (λ (x : Table). after (record { kind = kind; records = cs; end = x } ∷ []) (outcome limit v (updated limit live (record { kind = kind; records = cs; end = x })) Place.idle is)) (end-says v end)

-- the update makes the second table, under what was sent
pub update-makes : (limit : ℕ) (kind : LoadKind) (v : RtrProtocolVersion) (end : Table) (first second : List Record) (live : Live) →
    Servable kind end first second →
    length second ≤ limit →
    Holds kind first end.session live →
    updated limit live (update_of kind v end first second) ≡ record { info = Some (sent_as v end); records = second }
update-makes limit kind v end first second live parts within holds =
    ap (λ (t : Contents). record { info = Some (sent_as v end); records = t })
    (ap (λ (t : Contents). with_all limit t (changes (base kind first) second)) (from_first live kind first end.session holds)
    ∙ with-all-changes limit (base kind first) second parts.first-table parts.second-table within)

-- the bytes of a run, wherever a connection that asked for it stands with nothing in hand: exactly its update finishes, and the connection is idle
pub run-finishes : (limit H : ℕ) (kind : LoadKind) (v : RtrProtocolVersion) (end : Table) (first second : List Record) (live : Live) (later : List Event) →
    Servable kind end first second →
    length second ≤ limit →
    NoLonger H (run_pdus kind v end first second) →
    Holds kind first end.session live →
    outcome limit v live (Place.asked kind) (items H [] (bytes (run_bytes kind v end first second) ++ later))
    ≡ after (update_of kind v end first second ∷ []) (outcome limit v (record { info = Some (sent_as v end); records = second }) Place.idle (items H [] later))
unfolding run_bytes
run-finishes limit H kind v end first second live later parts within fits holds =
    ap (outcome limit v live (Place.asked kind)) (told-all H (run_pdus kind v end first second) later (run-in-run kind v end first second parts) fits)
    ∙ pdus-finish limit kind v end first second live (items H [] later) parts within holds
    ∙ ap (λ (l : Live). after (update_of kind v end first second ∷ []) (outcome limit v l Place.idle (items H [] later))) (update-makes limit kind v end first second live parts within holds)

-- a history that ends with it, by itself
none-later : (limit H : ℕ) (v : RtrProtocolVersion) (live : Live) (us : List Update) → after us (outcome limit v live Place.idle (items H [] [])) ≡ record { updates = us; place = Place.idle }
none-later limit H v live us =
    ap (λ (is : List Item). after us (outcome limit v live Place.idle is)) (items-none H [])
    ∙ ap (after us) (outcome-none limit v live Place.idle)
    ∙ ap (λ (x : List Update). record { updates = x; place = Place.idle }) (append-nil us)

-- calls one after another that leave a receiver ready, and then feeds of the pieces: that update has finished besides those before, no other; it has made the second table; and
-- the connection is idle
pub run-finished : (limit H : ℕ) (kind : LoadKind) (v : RtrProtocolVersion) (end : Table) (first second : List Record) (calls : List Call) (m : Memory) (pieces : List (List ℕ)) →
    Servable kind end first second →
    length second ≤ limit →
    NoLonger H (run_pdus kind v end first second) →
    Run limit v H calls m →
    Ready kind v end.session first (receiver_of m.session m.live m.working m.hold) →
    joined pieces ≡ run_bytes kind v end first second →
    (finished limit H v (history_of (calls ++ feeds pieces)) ≡ finished limit H v (history_of calls) ++ update_of kind v end first second ∷ [])
    × (table_of limit (finished limit H v (history_of (calls ++ feeds pieces))) ≡ record { info = Some (sent_as v end); records = second })
    × (stands_after limit H v (history_of (calls ++ feeds pieces)) ≡ Place.idle)
run-finished limit H kind v end first second calls m pieces parts within fits run ready cut =
    let u : Update = update_of kind v end first second in
    let before : List Update = finished limit H v (history_of calls) in
    let events : history_of (calls ++ feeds pieces) ≡ history_of calls ++ (bytes (run_bytes kind v end first second) ++ []) =
    history-with-feeds calls pieces ∙ ap (λ (s : List ℕ). history_of calls ++ bytes s) cut ∙ ap (λ (es : List Event). history_of calls ++ es) (sym (append-nil (bytes (run_bytes kind v end first second)))) in
    let place : stands_after limit H v (history_of calls) ≡ Place.asked kind = asked-at kind (stands_after limit H v (history_of calls)) (sym (stop-from-history limit H v calls m run) ∙ ready.asked) in
    let all : outcome limit v no_table Place.idle (items H [] (history_of (calls ++ feeds pieces))) ≡ after before (record { updates = u ∷ []; place = Place.idle }) =
    ap (λ (es : List Event). outcome limit v no_table Place.idle (items H [] es)) events
    ∙ history-goes-on limit H v calls m run (bytes (run_bytes kind v end first second) ++ [])
    ∙ (λ i. after before (outcome limit v (live_in m) (place i) (items H (ready.nothing-held i) (bytes (run_bytes kind v end first second) ++ []))))
    ∙ ap (after before) (run-finishes limit H kind v end first second (live_in m) [] parts within fits ready.holds ∙ none-later limit H v _ (u ∷ [])) in
    let updates : finished limit H v (history_of (calls ++ feeds pieces)) ≡ before ++ u ∷ [] = ap (λ (o : Outcome). o.updates) all in
    let table : table_of limit (finished limit H v (history_of (calls ++ feeds pieces))) ≡ record { info = Some (sent_as v end); records = second } =
    ap (table_of limit) updates
    ∙ table-with limit before u
    ∙ ap (λ (l : Live). updated limit l u) (sym (history limit H v calls m run))
    ∙ update-makes limit kind v end first second (live_in m) parts within ready.holds in
    (updates, table, ap (λ (o : Outcome). o.place) all)

-- ---- rtr-table's listing of a full run of version 1: one full ask from a fresh start, with space for its query, and the run in any pieces (rtr_table's `program-prints-history`
-- has that what is printed is `printed_after`
-- of that history). It is the listing of the table under the numbers that were sent
pub full-run-listed : (limit H : ℕ) (end : Table) (second : List Record) (query : List ℕ) (pieces : List (List ℕ)) →
    Servable LoadKind.Full end [] second →
    length second ≤ limit →
    NoLonger H (run_pdus LoadKind.Full V1 end [] second) →
    8 ≤ length query →
    joined pieces ≡ run_bytes LoadKind.Full V1 end [] second →
    printed_after limit H V1 (history_of (Call.ask LoadKind.Full query ∷ feeds pieces))
    ≡ head_lines (record { stopped = 0; table = Some end; count = length second }) ++ all_lines second
full-run-listed limit H end second query pieces parts within fits space cut =
    let u : Update = update_of LoadKind.Full V1 end [] second in
    let run : List ℕ = run_bytes LoadKind.Full V1 end [] second in
    let known : Live = record { info = Some end; records = second } in
    let events : history_of (Call.ask LoadKind.Full query ∷ feeds pieces) ≡ Event.ask LoadKind.Full (length query) ∷ (bytes run ++ []) =
    history-asked LoadKind.Full query (feeds pieces)
    ∙ ap (λ (es : List Event). Event.ask LoadKind.Full (length query) ∷ es) (history-of-feeds pieces ∙ ap bytes cut ∙ sym (append-nil (bytes run))) in
    let all : outcome limit V1 no_table Place.idle (items H [] (history_of (Call.ask LoadKind.Full query ∷ feeds pieces))) ≡ record { updates = u ∷ []; place = Place.idle } =
    ap (λ (es : List Event). outcome limit V1 no_table Place.idle (items H [] es)) events
    ∙ ap (outcome limit V1 no_table Place.idle) (items-asked H [] LoadKind.Full (length query) (bytes run ++ []))
    ∙ outcome-next limit V1 no_table Place.idle (Item.asks LoadKind.Full (length query)) (items H [] (bytes run ++ []))
    ∙ ap (λ (b : Bool). outcome limit V1 no_table (cond b (Place.asked LoadKind.Full) Place.idle) (items H [] (bytes run ++ []))) (le-leb 8 (length query) space)
    ∙ run-finishes limit H LoadKind.Full V1 end [] second no_table [] parts within fits tt
    ∙ none-later limit H V1 _ (u ∷ []) in
    let table : table_of limit (u ∷ []) ≡ known = table-with limit [] u ∙ ap (λ (l : Live). updated limit l u) (table-of-none limit) ∙ update-makes limit LoadKind.Full V1 end [] second no_table parts within tt in
    ap (λ (o : Outcome). stop_line (lost_by o.place) ++ printed (table_of limit o.updates)) all
    ∙ ap (λ (l : Live). stop_line 0 ++ printed l) table
    ∙ sym (append_assoc (stop_line 0) _ (all_lines second))
    ∙ ap (λ (x : List ℕ). x ++ all_lines second) (sym (head-lines-are (record { stopped = 0; table = Some end; count = length second })))
