-- What is listed after any run is read back as its stop, its table and its records. Assumes nothing.
use Rattle.std.specs.Prelude.{Option, Some, None}
use Prim.Native.Nat.{ℕ, ◌≤◌}
use mathlib.Core.Bool.{Bool, true, false, ◌||◌}
use mathlib.Core.List.{List, ◌++◌}
use mathlib.Core.Path.{◌≡◌, refl, sym, ap, ◌∙◌}
use native.Mathlib.Omega.{arith}
use borrow.Author.Tests.{eqb-true}
use lib.Dec.{eqb}
use lib.ListN.{length}
use Rattle.rtr_models.specs.declared.RtrProtocolVersion.{RtrProtocolVersion}
use Rattle.rtr_codec.specs.Read.{Verdict}
use Rattle.rtr_codec.specs.Answers.{number_of}
use Rattle.rtr_room.specs.Room.{records, is_room}
use Rattle.rtr_room.specs.declared.Record.{Record}
use Rattle.rtr_room.proofs.Laws.{records-none, records-length, rules-size}
use Rattle.rtr_room.proofs.Laws.Tests.{first_of, second-of}
use Rattle.rtr_room.specs.Table.{AllFit}
use Rattle.rtr_receiver.specs.Contents.{contents, are_rooms}
use Rattle.rtr_receiver.specs.Fits.{TableNumbersFit}
use Rattle.rtr_receiver.specs.History.{has_table}
use Rattle.rtr_receiver.specs.Promises.{stopped_by, stop_said, stage_of, has_limit}
use Rattle.rtr_receiver.specs.Receiver.{is_stop}
use Rattle.rtr_receiver.specs.Runs.{Call, Memory, Run}
use Rattle.rtr_receiver.specs.declared.Phase.{Phase}
use Rattle.rtr_receiver.specs.declared.Session.{Session}
use Rattle.rtr_receiver.specs.declared.Table.{Table}
use Rattle.rtr_receiver.proofs.Kept.{stops_rightly}
use Rattle.rtr_receiver.proofs.Laws.{run-stops-are}
use Rattle.rtr_listing.specs.Listing.{head_lines, all_lines, stopped_as, listing}
use Rattle.rtr_listing.specs.Promises.{is_listed}
use Rattle.rtr_listing.proofs.Laws.{history-is-listed}
use Rattle.rtr_listing.proofs.Printed.{listed as printed}
use Rattle.rtr_listed.specs.Listed.{may_stop, read_listing, listing_text, listed_by}
use Rattle.rtr_listed.specs.Listed.Read.{listed}
use Rattle.rtr_listed.specs.Fits.{InfoFits, ListingFits, NumbersFit}
use Rattle.rtr_listed.proofs.Order.{room-is}
use Rattle.rtr_listed.proofs.Shown.{text-reads}

-- a session's listing is the text of what it says
pub listing-is-text : (s : Session) (t : List Record) → s.live.records ≡ length t → listing s t ≡ listing_text (listed_by s t)
unfolding listing_text
listing-is-text s t e = ap (λ (n : ℕ). head_lines (record { stopped = stopped_as s.phase; table = s.table; count = n }) ++ all_lines t) e

-- a stop's number may stand there
phase-may : (p : Phase) → stops_rightly (stage_of p) ≡ true → may_stop (stopped_as p) ≡ true
phase-may Phase.Idle h = refl
phase-may Phase.MustReset h = refl
phase-may Phase.AskedFull h = refl
phase-may Phase.AskedChange h = refl
phase-may (Phase.Loading kind session) h = refl
phase-may (Phase.Stopped why) h = go (stop_said why) h
  where
    either : (a b : Bool) → b ≡ true → a || b ≡ true
    either true b e = refl
    either false b e = e

    go : (v : Verdict) → stops_rightly (stopped_by v) ≡ true → may_stop (number_of v) ≡ true
    go (Verdict.accepted pdu consumed) k = refl
    go (Verdict.refused n x) k = either (eqb n 0) (is_stop n) k

-- no record stands without a table
info-of : (x : Option Table) (n : ℕ) (live : List ℕ) → ((t : Table) → x ≡ Some t → TableNumbersFit t) → has_table x || eqb n 0 ≡ true
    → InfoFits x (records n live)
info-of (Some t) n live fit e = fit t refl
info-of None n live fit e = ap (λ (k : ℕ). records k live) (eqb-true n 0 e) ∙ records-none live

-- what can be listed fits, where the stop may be and the numbers are of their types
session-fits : (limit : ℕ) (s : Session) (live : List ℕ) → limit ≤ 1024 → is_listed limit s live ≡ true → stops_rightly (stage_of s.phase) ≡ true
    → ((t : Table) → s.table ≡ Some t → TableNumbersFit t) → AllFit (records s.live.records live)
    → ListingFits limit (listed_by s (records s.live.records live))
session-fits limit s live low can stops fit words =
    let rest = second-of (has_limit limit s) _ can in
    let rules : is_room limit s.live.records live ≡ true = first_of (are_rooms limit s.live live) _ rest in
    let is = room-is limit s.live.records live (record { kind = 0; w0 = 0; w1 = 0; w2 = 0; w3 = 0; asn = 0 }) rules in
    let size = rules-size limit s.live.records live rules in
    record {
      stopped = phase-may s.phase stops;
      info = info-of s.table s.live.records live fit (second-of (are_rooms limit s.live live) _ rest);
      table = is.0;
      words = words;
      within = omega (arith, is.1, size.1);
      written = omega (arith, is.1, size.1);
    }

pub run-reads-back : (limit H : ℕ) (v : RtrProtocolVersion) (calls : List Call) (m : Memory) → Run limit v H calls m → limit ≤ 1024 → NumbersFit m
    → read_listing limit (printed m) ≡ listed (listed_by m.session (contents m.session.live m.live))
run-reads-back limit H v calls m run low fit =
    let s : Session = m.session in
    let t : List Record = contents s.live m.live in
    let fits = session-fits limit s m.live low (history-is-listed limit H v calls m run) (run-stops-are limit H v calls m run) fit.table fit.words in
    ap (read_listing limit) (listing-is-text s t (sym (records-length s.live.records m.live))) ∙ text-reads limit (listed_by s t) fits 1
