-- What `hingemoss_full_run` and `hingemoss_change_run` write serves a receiver: where the answer is 0, the bytes written are a run that can be served (rtr_cache's `Wrote`), by what the calls
-- tested and hold. And a listing that was read back can be served: its head has the five numbers that a run is lent, and its room is a table's (`listing-can-be-served`). Assumes nothing.
use Rattle.std.specs.Prelude.{Some, Option}
use Prim.Native.Nat.{ℕ, ◌≤◌}
use mathlib.Core.Bool.{true}
use mathlib.Core.List.{List}
use mathlib.Core.Path.{◌≡◌, refl, ap, ◌∙◌, subst}
use native.Mathlib.Omega.{arith}
use lib.ListN.{length, take, drop}
use lib.Seq.{take-append_seam}
use Rattle.rtr_models.specs.declared.RtrProtocolVersion.{RtrProtocolVersion}
use Rattle.rtr_room.specs.Table.{is_table, AllFit}
use Rattle.rtr_room.specs.declared.Record.{Record}
use Rattle.rtr_room.proofs.Laws.{empty-table}
use Rattle.rtr_receiver.specs.History.{base}
use Rattle.rtr_receiver.specs.Promises.{record_limit}
use Rattle.rtr_receiver.specs.declared.LoadKind.{LoadKind}
use Rattle.rtr_receiver.specs.declared.Table.{Table}
use Rattle.rtr_receiver.specs.Fits.{TableNumbersFit}
use Rattle.rtr_room.specs.Room.{room}
use Rattle.rtr_listed.specs.Fits.{InfoFits}
use Rattle.rtr_listed.specs.Listed.{Listed, Read, read_listing}
use Rattle.rtr_listed.specs.Promises.{listed_head}
use Rattle.rtr_listed.proofs.Laws.{reads-exactly}
use Rattle.rtr_numbers.specs.Back.{table_found}
use Rattle.rtr_numbers.proofs.Laws.{table-exactly}
use Rattle.rtr_cache.specs.Cache.{run_bytes}
use Rattle.rtr_cache.specs.Serves.{RoomFits, Servable}
use Rattle.rtr_cache.proofs.Calls.{Wrote, fit-records}
use Rattle.rtr_c.specs.Calls.{EncodeLeft, encode_gives, head_numbers}
use Rattle.rtr_c.specs.Answers.{RunAsked, Lends, RunAnswers, LendsOne, LendsTwo}
use Rattle.rtr_c.proofs.RunAnswers.{lends-records, full-run-call-answers, change-run-call-answers}
use Rattle.rtr_c.proofs.hingemoss_full_run.Reads as full-run-reads
use Rattle.rtr_c.proofs.hingemoss_change_run.Reads as change-run-reads

module _ (kind : LoadKind) (Lent : List Record → List Record → Type 0) (version : ℕ) (end : List ℕ) where
  -- a known version, a table's numbers and tables that are lent were asked for, and what was written is their run: rtr_cache's `wrote-serves`, `wrote-served` and `wrote-finished` say what a receiver
  -- that is ready makes of it, in memory and in a history
  pub record RunServes (left : EncodeLeft) : Type 0 where
    pub spoken : RtrProtocolVersion
    pub numbers : Table
    pub first : List Record
    pub second : List Record
    pub asked : RunAsked version end spoken numbers
    pub lent : Lent first second
    pub did : Wrote kind spoken numbers first second left.written left.out

  -- what is known of tables that are lent
  abbrev AreTables : Type 0
  AreTables = (first second : List Record) → Lent first second → (is_table (base kind first) ≡ true) × (is_table second ≡ true) × AllFit (base kind first) × AllFit second × (length second ≤ record_limit)

  zero-serves : (out : List ℕ) → AreTables → {left : EncodeLeft} → RunAnswers kind Lent version end out left → left.answer ≡ 0 → RunServes left
  zero-serves out are (RunAnswers.unversioned p) z = absurd (omega (arith, z))
  zero-serves out are (RunAnswers.unnumbered q) z = absurd (omega (arith, z))
  zero-serves out are (RunAnswers.unlent h) z = absurd (omega (arith, z))
  zero-serves out are (RunAnswers.short v t first second asked lent less) z = absurd (omega (arith, z))
  zero-serves out are (RunAnswers.whole v t first second asked lent fits) z =
      let is = are first second lent in
      let bytes = run_bytes kind v t first second in
      let can : Servable kind t first second =
      record { first-table = is.0; second-table = is.1; first_fits = is.2; second_fits = is.3; end_fits = ((table-exactly end t).0 asked.numbers-are).0 } in
      record {
        spoken = v;
        numbers = t;
        first = first;
        second = second;
        asked = asked;
        lent = lent;
        did = record { parts = can; within = is.4; long = refl; front = take-append_seam bytes (drop (length bytes) out) };
      }

-- numbers of 32 bits are a fitting table's
fit-lent : (numbers : List ℕ) (count : ℕ) (t : List Record) → RoomFits numbers → Lends numbers count t → AllFit t
fit-lent numbers count t fits h = subst AllFit (lends-records numbers count t h) (fit-records count numbers fits)

-- ---- the calls: a is what is lent, s the same as the call returns

pub full-run-call-serves : (κs : _) (a : _) (s : _) → full-run-reads.Post κs a 0 s →
    RunServes LoadKind.Full (LendsOne a.1.1.0.now a.1.1.1.0) a.0 a.1.0.now (encode_gives 0 s.1.1.1.1.1.0.now s.1.1.1.1.0.now)
full-run-call-serves κs a s p =
    zero-serves LoadKind.Full _ a.0 a.1.0.now a.1.1.1.1.0.now
    (λ first second h. (empty-table, h.1.table, AllFit.none, fit-lent a.1.1.0.now a.1.1.1.0 second p.1 h.1, omega (arith, h.1.within, h.1.counted)))
    (full-run-call-answers κs a 0 s p) refl

pub change-run-call-serves : (κs : _) (a : _) (s : _) → change-run-reads.Post κs a 0 s →
    RunServes LoadKind.Change (LendsTwo a.1.1.0.now a.1.1.1.0 a.1.1.1.1.0.now a.1.1.1.1.1.0) a.0 a.1.0.now
    (encode_gives 0 s.1.1.1.1.1.1.1.0.now s.1.1.1.1.1.1.0.now)
change-run-call-serves κs a s p =
    zero-serves LoadKind.Change _ a.0 a.1.0.now a.1.1.1.1.1.1.0.now
    (λ first second h.
    (h.0.table, h.1.table, fit-lent a.1.1.0.now a.1.1.1.0 first p.1.0 h.0, fit-lent a.1.1.1.1.0.now a.1.1.1.1.1.0 second p.1.1 h.1, omega (arith, h.1.within, h.1.counted)))
    (change-run-call-answers κs a 0 s p) refl

-- ---- a listing that was read back: neither its numbers nor its room is a reason for 22

pub listing-can-be-served : (text : List ℕ) (v : Listed) (t : Table) → read_listing record_limit text ≡ Read.listed v → v.table ≡ Some t
    → (table_found (take 5 (drop 2 (head_numbers (listed_head v)))) ≡ Some t) × Lends (room record_limit v.records) (length v.records) v.records
listing-can-be-served text v t e known =
    let fits = ((reads-exactly record_limit text v).0 e).1 in
    let numbers : TableNumbersFit t = subst (λ (x : Option Table). InfoFits x v.records) known fits.info in (
      ap (λ (x : Option Table). table_found (take 5 (drop 2 (head_numbers (record { stopped = v.stopped; table = x; count = length v.records }))))) known ∙ (table-exactly _ t).1 (numbers, refl),
      record { within = fits.within; table = fits.table; counted = refl; lent = refl },
    )
