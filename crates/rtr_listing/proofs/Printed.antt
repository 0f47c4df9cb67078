-- What is printed follows from the history of calls (rtr_receiver's `history` and `stop-from-history`): the number by which the connection was lost, or 0, and behind that line the table that the finished updates
-- make, however the bytes were cut. Document 01's input is printed as document 01's output, and without its last byte as document 01 says. Assumes nothing.
use Rattle.std.specs.Prelude.{Ok}
use Prim.Native.Nat.{ℕ, ◌≤◌}
use mathlib.Core.Bool.{Bool, true, false}
use mathlib.Core.List.{List, [], ◌∷◌, ◌++◌, append_assoc}
use mathlib.Core.Path.{◌≡◌, refl, sym, ap, ◌∙◌}
use native.Mathlib.Omega.{arith}
use lib.ListN.{length, take, drop}
use lib.Seq.{take_at}
use Rattle.rtr_models.specs.declared.RtrProtocolVersion.{RtrProtocolVersion}
use Rattle.rtr_models.specs.declared.RtrProtocolVersion.TheVariants.{V1}
use Rattle.rtr_codec.specs.Read.{Verdict}
use Rattle.rtr_codec.specs.Answers.{number_of}
use Rattle.rtr_codec.proofs.Samples.{response_bytes, prefix_bytes, end_bytes}
use Rattle.rtr_room.specs.Room.{records}
use Rattle.rtr_room.proofs.Laws.{records-length}
use Rattle.rtr_receiver.specs.History.{Event, Update, Live, Place, table_of, finished, stands_after}
use Rattle.rtr_receiver.specs.Receiver.{Stage}
use Rattle.rtr_receiver.specs.Promises.{stage_of, stopped_by, stop_said}
use Rattle.rtr_receiver.specs.Receives.{stage_at}
use Rattle.rtr_receiver.specs.Runs.{Call, Memory, Run, bytes, history_of, live_in}
use Rattle.rtr_receiver.specs.declared.LoadKind.{LoadKind}
use Rattle.rtr_receiver.specs.declared.Phase.{Phase}
use Rattle.rtr_receiver.proofs.Runs.{history, table-of-none}
use Rattle.rtr_receiver.proofs.Examples.{listing as listing-comes, listing-table, listing-cut}
use Rattle.rtr_receiver.proofs.Receives.{stop-from-history}
use Rattle.rtr_encode.specs.Encode.{Encoded}
use Rattle.rtr_receiver.specs.Contents.{contents}
use Rattle.rtr_receiver.specs.declared.Session.{Session}
use Rattle.rtr_listing.specs.Promises.{ListReason, is_listed}
use Rattle.rtr_listing.proofs.Calls.{listed-says, written_is}
use Rattle.rtr_listing.proofs.Exactly.{listed-exactly, listing-written-exactly}
use Rattle.rtr_listing.proofs.listing.Reads as listing-reads
use Rattle.rtr_listing.specs.Listing.{text, digits, places, decimal, line_of, line, stopped_as, field_lines, table_lines, head_lines, address_of, record_lines, all_lines, listing}

-- the lines of a live table: its numbers and count, and its records
abbrev pub printed : Live → List ℕ
printed l = table_lines l.info (length l.records) ++ all_lines l.records

-- the listing of what lies in memory
abbrev pub listed : Memory → List ℕ
listed m = listing m.session (records m.session.live.records m.live)

-- the line of a stop
abbrev pub stop_line : ℕ → List ℕ
stop_line number = line "stopped=" (decimal number)

-- the number by which a connection was lost, 0 where it was not
abbrev pub lost_by : Place → ℕ
lost_by Place.idle = 0
lost_by Place.must_reset = 0
lost_by (Place.asked kind) = 0
lost_by (Place.loading kind session cs) = 0
lost_by (Place.lost number values) = number

-- what is printed after a history
abbrev pub printed_after : ℕ → ℕ → RtrProtocolVersion → List Event → List ℕ
printed_after limit H v es = stop_line (lost_by (stands_after limit H v es)) ++ printed (table_of limit (finished limit H v es))

in_memory : (m : Memory) → listed m ≡ stop_line (stopped_as m.session.phase) ++ printed (live_in m)
unfolding head_lines
in_memory m =
    let stopped : List ℕ = stop_line (stopped_as m.session.phase) in
    append_assoc stopped (table_lines m.session.table m.session.live.records) (all_lines (records m.session.live.records m.live))
    ∙ ap (λ (n : ℕ). stopped ++ (table_lines m.session.table n ++ all_lines (records m.session.live.records m.live))) (sym (records-length m.session.live.records m.live))

-- the number of a stop, by its phase
number_in : Stage → ℕ
number_in Stage.idle = 0
number_in Stage.must_reset = 0
number_in Stage.asked_full = 0
number_in Stage.asked_change = 0
number_in (Stage.loading kind session) = 0
number_in (Stage.stopped number values) = number

phase-number : (p : Phase) → stopped_as p ≡ number_in (stage_of p)
unfolding number_in
phase-number Phase.Idle = refl
phase-number Phase.MustReset = refl
phase-number Phase.AskedFull = refl
phase-number Phase.AskedChange = refl
phase-number (Phase.Loading kind session) = refl
phase-number (Phase.Stopped why) = go (stop_said why)
  where
    go : (v : Verdict) → number_of v ≡ number_in (stopped_by v)
    go (Verdict.accepted pdu consumed) = refl
    go (Verdict.refused number values) = refl

place-number : (p : Place) → number_in (stage_at p) ≡ lost_by p
unfolding number_in
place-number Place.idle = refl
place-number Place.must_reset = refl
place-number (Place.asked LoadKind.Full) = refl
place-number (Place.asked LoadKind.Change) = refl
place-number (Place.loading kind session cs) = refl
place-number (Place.lost number values) = refl

pub listed-is-history : (limit H : ℕ) (v : RtrProtocolVersion) (calls : List Call) (m : Memory) → Run limit v H calls m → listed m ≡ printed_after limit H v (history_of calls)
listed-is-history limit H v calls m run =
    let stopped : stopped_as m.session.phase ≡ lost_by (stands_after limit H v (history_of calls)) =
    phase-number m.session.phase ∙ ap number_in (stop-from-history limit H v calls m run) ∙ place-number (stands_after limit H v (history_of calls)) in
    in_memory m ∙ (λ i. stop_line (stopped i) ++ printed (history limit H v calls m run i))

-- of the call: what it writes of a run's memory is that
module _ (limit H : ℕ) (v : RtrProtocolVersion) (calls : List Call) (m : Memory) (run : Run limit v H calls m) where
  -- what has no reason is listed
  listable : (limit' : ℕ) (s : Session) (live : List ℕ) → (ListReason limit' s live → ⊥) → is_listed limit' s live ≡ true
  listable limit' s live none = go (is_listed limit' s live) refl
    where
      go : (b : Bool) → is_listed limit' s live ≡ b → is_listed limit' s live ≡ true
      go true e = e
      go false e = absurd (none ((listed-exactly limit' s live).0 e))

  pub listing-call-is-history : (κs : _) (a : _) (r : _) (st : _) (n : ℕ) → listing-reads.Post κs a r st → a.0 ≡ m.session → a.1.0.now ≡ m.live → r ≡ Ok n →
      take n st.1.1.0.now ≡ printed_after limit H v (history_of calls)
  listing-call-is-history κs a r st n p session live e =
      let exact = (listing-written-exactly κs a r st n p).0 e in
      let bytes : List ℕ = listing a.0 (contents a.0.live a.1.0.now) in
      let out = a.1.1.0.now in
      let fits : length bytes ≤ length out = omega (arith, exact.1, exact.2) in
      let left : st.1.1.0.now ≡ bytes ++ drop (length bytes) out =
      ap (λ (x : Encoded). x.out)
      (p ∙ sym (listed-says a.0.life.limit a.0 a.1.0.now out (listable a.0.life.limit a.0 a.1.0.now exact.0)) ∙ written_is bytes out fits) in
      ap (take n) left
      ∙ take_at bytes (drop (length bytes) out) n (sym exact.1)
      ∙ (λ i. listing (session i) (contents (session i).live (live i)))
      ∙ listed-is-history limit H v calls m run

-- as long as no update has finished there is no table
pub listed-without-update : (limit H : ℕ) (v : RtrProtocolVersion) (calls : List Call) (m : Memory) → Run limit v H calls m
    → finished limit H v (history_of calls) ≡ []
    → listed m ≡ stop_line (lost_by (stands_after limit H v (history_of calls))) ++ text "count=none\n"
unfolding field_lines table_lines all_lines line_of
listed-without-update limit H v calls m run none =
    listed-is-history limit H v calls m run
    ∙ ap (λ (us : List Update). stop_line (lost_by (stands_after limit H v (history_of calls))) ++ printed (table_of limit us)) none
    ∙ ap (λ (l : Live). stop_line (lost_by (stands_after limit H v (history_of calls))) ++ printed l) (table-of-none limit)

-- the history of document 01's example: a full ask with 8 bytes for its query, as rtr-table makes it, and the input up to the End of Data's bytes that are given
abbrev example_with : List ℕ → List Event
example_with end = Event.ask LoadKind.Full 8 ∷ (bytes response_bytes ++ (bytes (prefix_bytes 1) ++ bytes end))

module _ (limit H : ℕ) (some : 1 ≤ limit) (size : 24 ≤ H) (calls : List Call) (m : Memory) (run : Run limit V1 H calls m) where
  -- document 01's input, cut anywhere
  pub example-printed : history_of calls ≡ example_with (end_bytes 0x12 0x34 7)
      → listed m ≡ text "stopped=0\nsession=4660\nserial=7\nrefresh=3600\nretry=600\nexpire=7200\ncount=0001\nfamily=4\naddress=c0000200\nlength=24\nmax=24\nasn=64496\n"
  unfolding digits places line_of field_lines table_lines address_of record_lines all_lines
  example-printed e =
      listed-is-history limit H V1 calls m run
      ∙ ap (printed_after limit H V1) e
      ∙ (λ i. stop_line (lost_by (listing-comes limit H some size i).place) ++ printed (listing-table limit H some size i))

  -- "Without the last input byte"
  pub cut-example-printed : history_of calls ≡ example_with (take 23 (end_bytes 0x12 0x34 7)) → listed m ≡ text "stopped=0\ncount=none\n"
  unfolding digits places line_of field_lines table_lines all_lines
  cut-example-printed e =
      listed-is-history limit H V1 calls m run
      ∙ ap (printed_after limit H V1) e
      ∙ (λ i. stop_line (lost_by (listing-cut limit H some size i).place) ++ printed (table_of limit (listing-cut limit H some size i).updates))
      ∙ ap (λ (l : Live). stop_line 0 ++ printed l) (table-of-none limit)
