-- A receiver that is fed a run: PDU by PDU along `changes-apply`, over both versions, both kinds and every cut (`run-serves`), and in memory (`run-served`). Assumes nothing.
use Rattle.std.specs.Prelude.{Option, Some}
use Prim.Native.Nat.{ℕ, ◌+◌, ◌≤◌}
use mathlib.Core.Bool.{Bool, true, false, cond}
use mathlib.Core.List.{List, [], ◌∷◌, ◌++◌, map, append_assoc, append-nil}
use mathlib.Core.Path.{◌≡◌, refl, sym, ap, ◌∙◌}
use native.Mathlib.Omega.{arith}
use borrow.Author.Tests.{eq-eqb}
use lib.Dec.{eqb}
use lib.ListN.{length, length-append}
use Rattle.rtr_models.specs.declared.RtrProtocolVersion.{RtrProtocolVersion}
use Rattle.rtr_models.specs.declared.RtrProtocolVersion.TheVariants.{V0, V1}
use Rattle.rtr_models.specs.declared.RtrPduType.{RtrPduType}
use Rattle.rtr_models.specs.declared.RtrPdu.{RtrPdu}
use Rattle.rtr_codec.specs.Reading.{in_use}
use Rattle.rtr_encode.specs.Encode.{encoded_length, encoding}
use Rattle.rtr_stream.proofs.Laws.{joined}
use Rattle.rtr_room.specs.Table.{Change}
use Rattle.rtr_room.specs.declared.Record.{Record}
use Rattle.rtr_receiver.specs.Contents.{Contents, Entry}
use Rattle.rtr_receiver.specs.Promises.{Ending, FeedSays, is_receiver, receiver_of, in_memory, fed_to, feed_says}
use Rattle.rtr_receiver.specs.Receiver.{Receiver, Stage, Deed, Feed, is_due, kind_in, no_update, start_load, on_change_response, on_cache_response, changed_to, on_record, on_pdu, listens, on_piece, feed, feed_all, stop, finish}
use Rattle.rtr_receiver.specs.History.{Changed, Place, applied, base, end_says}
use Rattle.rtr_receiver.specs.Receives.{stage_at}
use Rattle.rtr_receiver.specs.Runs.{Call, Memory, Step, Steps, feeds, left_in}
use Rattle.rtr_receiver.specs.declared.LoadKind.{LoadKind}
use Rattle.rtr_receiver.specs.declared.Table.{Table}
use Rattle.rtr_receiver.proofs.Shaped.{shaped-feed}
use Rattle.rtr_receiver.proofs.Onward.{steps-fed}
use Rattle.rtr_receiver.proofs.Whole.{pdu-fed, on-response, on-prefix, on-end, feed-from, none-fed, pieces-fed}
use Rattle.rtr_changes.specs.Changes.{changes, Applies}
use Rattle.rtr_changes.proofs.Laws.{changes-apply}
use Rattle.rtr_cache.specs.Cache.{sent_response, sent_prefix, end_of, sent_end, run_pdus, encodings, run_bytes}
use Rattle.rtr_cache.specs.Serves.{sent_as, Servable, Ready, served, NoLonger}
use Rattle.rtr_cache.proofs.Sent.{Sendable, sendable-heard, response-sendable, end-sendable, AllSay}
use Rattle.rtr_cache.proofs.NoPayload.{no-payload-response, no-payload-prefix, no-payload-end}
use Rattle.rtr_cache.proofs.Reading.{run-says}
use Rattle.rtr_cache.proofs.RunParts.{encodings-append}

-- ---- one PDU

-- a receiver in a load, with a working table and nothing held
abbrev in_load : LoadKind → ℕ → Contents → Receiver → Receiver
in_load kind session t r =
    record { version = r.version; stage = Stage.loading kind session; table = r.table; note = r.note; live = r.live; working = t; held = [] }

-- a feed so far
abbrev so : Receiver → ℕ → ℕ → Feed
so r taken updates = record { receiver = r; taken = taken; updates = updates }

-- a receiver that has asked listens
asked-listens : (kind : LoadKind) → listens (stage_at (Place.asked kind)) ≡ true
asked-listens LoadKind.Full = refl
asked-listens LoadKind.Change = refl

-- what an End of Data says is what was sent
pub end-says : (v : RtrProtocolVersion) (end : Table) → end_says (end_of v end) ≡ sent_as v end
end-says V0 end = refl
end-says V1 end = refl

module _ (limit H : ℕ) where
  -- a PDU that can be sent and fits the hold is taken; what it does is known
  taken_in : (r : Receiver) (taken updates : ℕ) (pdu : RtrPdu) (rest : List ℕ) (d : Deed) →
      listens r.stage ≡ true →
      r.held ≡ [] →
      Sendable pdu →
      encoded_length in_use pdu ≤ H →
      on_pdu limit pdu r ≡ d →
      on_piece limit H (so r taken updates) (encoding in_use pdu [] ++ rest)
      ≡ on_piece limit H (so d.then (taken + length (encoding in_use pdu [])) (updates + d.updates)) rest
  taken_in r taken updates pdu rest d on none sendable fits e =
      pdu-fed H limit r taken updates (encoding in_use pdu []) rest pdu on none (sendable-heard H pdu sendable fits)
      ∙ ap (λ (x : Deed). on_piece limit H (so x.then (taken + length (encoding in_use pdu [])) (updates + x.updates)) rest) e

  -- ---- Cache Response

  -- what it does to a receiver that is ready: the load begins from what its kind begins from
  response-begins : (kind : LoadKind) (v : RtrProtocolVersion) (session : ℕ) (first : List Record) (r : Receiver) → Ready kind v session first r
      → on_pdu limit (sent_response v session) r ≡ no_update (in_load kind session (base kind first) r)
  response-begins LoadKind.Full v session first r ready =
      on-response limit (record { version = v; session_id = session }) r (sym ready.version) (ap (is_due RtrPduType.CacheResponse) ready.asked)
      ∙ ap (λ (s : Stage). no_update (on_cache_response (kind_in s) session r)) ready.asked
      ∙ ap (λ (held : List ℕ). no_update (record { version = r.version; stage = Stage.loading LoadKind.Full session; table = r.table; note = r.note; live = r.live; working = []; held = held })) ready.nothing-held
  response-begins LoadKind.Change v session first r ready =
      let t : Table = ready.holds.1.0 in
      let same : eqb session t.session ≡ true = eq-eqb session t.session (sym ready.holds.1.2) in
      on-response limit (record { version = v; session_id = session }) r (sym ready.version) (ap (is_due RtrPduType.CacheResponse) ready.asked)
      ∙ ap (λ (s : Stage). no_update (on_cache_response (kind_in s) session r)) ready.asked
      ∙ ap (λ (x : Option Table). no_update (on_change_response x session r)) ready.holds.1.1
      ∙ ap (λ (b : Bool). no_update (cond b (start_load LoadKind.Change session r.live r) (stop 15 [] r))) same
      ∙ (λ i. no_update (record { version = r.version; stage = Stage.loading LoadKind.Change session; table = r.table; note = r.note; live = r.live; working = ready.holds.0 i; held = ready.nothing-held i }))

  -- ---- prefixes

  -- in a load a record that applies is applied
  applies-in : (announced : Bool) (x : Entry) (kind : LoadKind) (session : ℕ) (t t' : Contents) (r : Receiver) → applied limit t announced x ≡ Change.changed t'
      → on_record limit announced x (in_load kind session t r) ≡ in_load kind session t' r
  applies-in true x kind session t t' r e = ap (λ (c : Change). changed_to c (in_load kind session t r)) e
  applies-in false x kind session t t' r e = ap (λ (c : Change). changed_to c (in_load kind session t r)) e

  module _ (kind : LoadKind) (v : RtrProtocolVersion) (session : ℕ) (r : Receiver) (of_version : r.version ≡ v) where
    -- changes, each of which applies where it stands
    prefixes-fed : (t u : Contents) (cs : List Changed) (taken updates : ℕ) (rest : List ℕ) → Applies limit t cs u → AllSay v cs → NoLonger H (map (sent_prefix v) cs)
        → on_piece limit H (so (in_load kind session t r) taken updates) (encodings (map (sent_prefix v) cs) ++ rest)
        ≡ on_piece limit H (so (in_load kind session u r) (taken + length (encodings (map (sent_prefix v) cs))) updates) rest
    unfolding encodings NoLonger
    prefixes-fed t u cs taken updates rest Applies.done says fits =
        let n : taken ≡ taken + 0 = omega arith in
        ap (λ (k : ℕ). on_piece limit H (so (in_load kind session t r) k updates) rest) n
    prefixes-fed t u (c ∷ cs) taken updates rest (Applies.step {t' = t'} e more) says fits =
        let here : List ℕ = encoding in_use (sent_prefix v c) [] in
        let later : List ℕ = encodings (map (sent_prefix v) cs) in
        let d = on-prefix limit (sent_prefix v c) c.announced c.what (in_load kind session t r) says.0.prefixes (says.0.version ∙ sym of_version) (says.0.due kind session)
        ∙ ap no_update (applies-in c.announced c.what kind session t t' r e) in
        let sum : taken + length here + length later ≡ taken + length (here ++ later) = omega (arith, length-append here later) in
        let same : updates + 0 ≡ updates = omega arith in
        ap (on_piece limit H (so (in_load kind session t r) taken updates)) (append_assoc here later rest)
        ∙ taken_in (in_load kind session t r) taken updates (sent_prefix v c) (later ++ rest) (no_update (in_load kind session t' r)) refl refl says.0.sendable fits.0 d
        ∙ ap (λ (n : ℕ). on_piece limit H (so (in_load kind session t' r) (taken + length here) n) (later ++ rest)) same
        ∙ prefixes-fed t' u cs (taken + length here) updates rest more says.1 fits.1
        ∙ ap (λ (n : ℕ). on_piece limit H (so (in_load kind session u r) n updates) rest) sum

  -- ---- End of Data

  end-finishes : (kind : LoadKind) (v : RtrProtocolVersion) (end : Table) (t : Contents) (r : Receiver) → r.version ≡ v
      → on_pdu limit (sent_end v end) (in_load kind end.session t r) ≡ record { then = served v end t r; updates = 1 }
  end-finishes kind v end t r version =
      let load : Receiver = in_load kind end.session t r in
      on-end limit (end_of v end) load (sym version) refl
      ∙ ap (λ (b : Bool). cond b (record { then = finish (end_of v end) load; updates = 1 }) (no_update (stop 15 [] load))) (eq-eqb end.session end.session refl)
      ∙ ap (λ (x : Table). record { then = record { version = r.version; stage = Stage.idle; table = Some x; note = r.note; live = t; working = []; held = [] }; updates = 1 }) (end-says v end)

-- ---- the run

-- its bytes: the response's, the prefixes', the end's
pub run-parts : (kind : LoadKind) (v : RtrProtocolVersion) (end : Table) (first second : List Record) → run_bytes kind v end first second
    ≡ encoding in_use (sent_response v end.session) [] ++ (encodings (map (sent_prefix v) (changes (base kind first) second)) ++ (encoding in_use (sent_end v end) [] ++ []))
unfolding run_bytes run_pdus encodings
run-parts kind v end first second =
    ap (λ (bytes : List ℕ). encoding in_use (sent_response v end.session) [] ++ bytes) (encodings-append (map (sent_prefix v) (changes (base kind first) second)) (sent_end v end ∷ []))

-- no PDU of it is longer than the hold: of each part
run-no-longer : (H : ℕ) (kind : LoadKind) (v : RtrProtocolVersion) (end : Table) (first second : List Record) → NoLonger H (run_pdus kind v end first second)
    → (encoded_length in_use (sent_response v end.session) ≤ H) × NoLonger H (map (sent_prefix v) (changes (base kind first) second)) × (encoded_length in_use (sent_end v end) ≤ H)
unfolding NoLonger run_pdus
run-no-longer H kind v end first second fits =
    let later = split (map (sent_prefix v) (changes (base kind first) second)) fits.1 in
    (fits.0, later.0, later.1)
  where
    split : (pdus : List RtrPdu) → NoLonger H (pdus ++ sent_end v end ∷ []) → NoLonger H pdus × (encoded_length in_use (sent_end v end) ≤ H)
    split [] h = (tt, h.0)
    split (pdu ∷ pdus) h = let later = split pdus h.1 in ((h.0, later.0), later.1)

-- fed in one piece
whole-serves : (limit H : ℕ) (kind : LoadKind) (v : RtrProtocolVersion) (end : Table) (first second : List Record) (r : Receiver) →
    Servable kind end first second →
    length second ≤ limit →
    NoLonger H (run_pdus kind v end first second) →
    Ready kind v end.session first r →
    feed limit H r (run_bytes kind v end first second) ≡ so (served v end second r) (length (run_bytes kind v end first second)) 1
whole-serves limit H kind v end first second r parts within fits ready =
    let response : List ℕ = encoding in_use (sent_response v end.session) [] in
    let prefixes : List ℕ = encodings (map (sent_prefix v) (changes (base kind first) second)) in
    let last : List ℕ = encoding in_use (sent_end v end) [] in
    let session : ℕ = end.session in
    let each = run-no-longer H kind v end first second fits in
    let on : listens r.stage ≡ true = ap listens ready.asked ∙ asked-listens kind in
    let bytes = run-parts kind v end first second in
    let way = changes-apply limit (base kind first) second parts.first-table parts.second-table within in
    let all : 0 + length response + length prefixes + length last ≡ length (run_bytes kind v end first second) =
    omega (arith, ap length bytes, length-append response (prefixes ++ (last ++ [])), length-append prefixes (last ++ []), ap length (append-nil last)) in
    feed-from limit H r (run_bytes kind v end first second)
    ∙ ap (on_piece limit H (so r 0 0)) bytes
    ∙ taken_in limit H r 0 0 (sent_response v session) (prefixes ++ (last ++ [])) _ on ready.nothing-held (response-sendable v session parts.end_fits.session) each.0 (response-begins limit H kind v session first r ready)
    ∙ prefixes-fed limit H kind v session r ready.version (base kind first) second (changes (base kind first) second) (0 + length response) 0 (last ++ []) way (run-says kind v end first second parts) each.1
    ∙ taken_in limit H (in_load kind session second r) (0 + length response + length prefixes) 0 (sent_end v end) [] _ refl refl (end-sendable v end parts.end_fits) each.2 (end-finishes limit H kind v end second r ready.version)
    ∙ none-fed limit H _
    ∙ ap (λ (n : ℕ). so (served v end second r) n 1) all

-- The theorem of request Five, once for both versions, both kinds and every cut: a receiver that is ready, fed the run, is the one that was served. All bytes are taken, one
-- update has finished, and there is no stop. Of the limit it is asked that it holds the second table, of the hold that no PDU of the run is longer; `run_fits` has that of 32
-- bytes and more
pub run-serves : (limit H : ℕ) (kind : LoadKind) (v : RtrProtocolVersion) (end : Table) (first second : List Record) (r : Receiver) (pieces : List (List ℕ)) →
    Servable kind end first second →
    length second ≤ limit →
    NoLonger H (run_pdus kind v end first second) →
    Ready kind v end.session first r →
    joined pieces ≡ run_bytes kind v end first second →
    feed_all limit H r pieces ≡ record { receiver = served v end second r; taken = length (run_bytes kind v end first second); updates = 1 }
run-serves limit H kind v end first second r pieces parts within fits ready cut =
    pieces-fed limit H pieces r ∙ ap (feed limit H r) cut ∙ whole-serves limit H kind v end first second r parts within fits ready

-- ---- "H >= 32"

-- a hold of 32 bytes is enough for every run
pub run_fits : (H : ℕ) (kind : LoadKind) (v : RtrProtocolVersion) (end : Table) (first second : List Record) → 32 ≤ H → NoLonger H (run_pdus kind v end first second)
unfolding NoLonger run_pdus
run_fits H kind v end first second h = (omega (arith, (no-payload-response v end.session).short), all (changes (base kind first) second))
  where
    all : (cs : List Changed) → NoLonger H (map (sent_prefix v) cs ++ sent_end v end ∷ [])
    all [] = (omega (arith, (no-payload-end v end).short), tt)
    all (c ∷ cs) = (omega (arith, (no-payload-prefix v c).short), all cs)

-- ---- in memory

-- a feed of the run, from memory of receiver shape whose receiver is ready: all is taken, one update has finished, it goes on, and memory is the receiver that was served
pub run-served : (limit : ℕ) (kind : LoadKind) (v : RtrProtocolVersion) (end : Table) (first second : List Record) (m m' : Memory) →
    Servable kind end first second →
    length second ≤ limit →
    NoLonger (length m.hold) (run_pdus kind v end first second) →
    is_receiver limit m.session m.live m.working m.hold ≡ true →
    Ready kind v end.session first (receiver_of m.session m.live m.working m.hold) →
    Step limit m (Call.feed (run_bytes kind v end first second)) m' →
    (feed_says limit m.session m.live m.working m.hold (run_bytes kind v end first second)
    ≡ FeedSays.fed (length (run_bytes kind v end first second)) 1 Ending.goes_on (in_memory limit (served v end second (receiver_of m.session m.live m.working m.hold))))
    × (left_in m' ≡ in_memory limit (served v end second (receiver_of m.session m.live m.working m.hold)))
run-served limit kind v end first second m m' parts within fits shape ready step =
    let r : Receiver = receiver_of m.session m.live m.working m.hold in
    let run : List ℕ = run_bytes kind v end first second in
    let whole = whole-serves limit (length m.hold) kind v end first second r parts within fits ready in (
      shaped-feed limit m.session m.live m.working m.hold shape run ∙ ap (fed_to limit) whole,
      steps-fed limit m m' (run ∷ []) shape (Steps.more Steps.none step)
          ∙ ap (λ (f : Feed). in_memory limit f.receiver) (run-serves limit (length m.hold) kind v end first second r (run ∷ []) parts within fits ready (append-nil run)),
    )

-- and so are feeds of its pieces, cut anywhere
pub run-served-in-pieces : (limit : ℕ) (kind : LoadKind) (v : RtrProtocolVersion) (end : Table) (first second : List Record) (pieces : List (List ℕ)) (m m' : Memory) →
    Servable kind end first second →
    length second ≤ limit →
    NoLonger (length m.hold) (run_pdus kind v end first second) →
    is_receiver limit m.session m.live m.working m.hold ≡ true →
    Ready kind v end.session first (receiver_of m.session m.live m.working m.hold) →
    joined pieces ≡ run_bytes kind v end first second →
    Steps limit m (feeds pieces) m' →
    left_in m' ≡ in_memory limit (served v end second (receiver_of m.session m.live m.working m.hold))
run-served-in-pieces limit kind v end first second pieces m m' parts within fits shape ready cut steps =
    let r : Receiver = receiver_of m.session m.live m.working m.hold in
    steps-fed limit m m' pieces shape steps
    ∙ ap (λ (f : Feed). in_memory limit f.receiver) (run-serves limit (length m.hold) kind v end first second r pieces parts within fits ready cut)
