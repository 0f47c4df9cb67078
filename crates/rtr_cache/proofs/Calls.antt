-- Of the calls. What they answer, exactly (`full-22-exactly` and its like); and what a call wrote (`Wrote`): a run of tables that can be served, at the front of its output. So
-- what is said of runs holds of what a call wrote, once for both kinds: a receiver that is ready is served by it (`wrote-serves`), in memory (`wrote-served`) and in a history
-- (`wrote-finished`). Assumes nothing.
use Rattle.std.specs.Prelude.{Some, Result, Ok, Err}
use Prim.Native.Nat.{ℕ, zero, suc, ◌+◌, ◌*◌, ◌≤◌, ◌<◌}
use mathlib.Core.Bool.{Bool, true, false, cond, ◌&&◌}
use mathlib.Core.List.{List, [], ◌∷◌, ◌++◌}
use mathlib.Core.Logic.{◌↔◌}
use mathlib.Core.Path.{◌≡◌, refl, sym, ap, ◌∙◌, subst}
use native.Mathlib.Omega.{arith}
use borrow.Author.Tests.{leb-true, leb-false}
use lib.Dec.{leb}
use lib.ListN.{length, take, drop}
use lib.Seq.{take-append_seam}
use Rattle.rtr_models.specs.declared.RtrProtocolVersion.{RtrProtocolVersion}
use Rattle.rtr_encode.specs.Encode.{Encoded}
use Rattle.rtr_stream.proofs.Laws.{joined}
use Rattle.rtr_room.specs.Table.{is_table, WordsFit, AllFit}
use Rattle.rtr_room.specs.Room.{records, record_at, limit_of}
use Rattle.rtr_room.specs.declared.Record.{Record}
use Rattle.rtr_room.proofs.Laws.{record-from, records-none, records-next, records-length, empty-table}
use Rattle.rtr_receiver.specs.History.{Place, finished, stands_after, table_of}
use Rattle.rtr_receiver.specs.Promises.{is_receiver, receiver_of, in_memory, record_limit}
use Rattle.rtr_receiver.specs.Receiver.{Receiver, feed_all}
use Rattle.rtr_receiver.specs.Runs.{Call, Memory, Steps, Run, feeds, history_of, left_in}
use Rattle.rtr_receiver.specs.declared.LoadKind.{LoadKind}
use Rattle.rtr_receiver.specs.declared.Table.{Table}
use Rattle.rtr_listing.specs.Promises.{puts}
use Rattle.rtr_listing.proofs.Laws.{written_is, short-is}
use Rattle.rtr_changes.proofs.Laws.{room-of-rules}
use Rattle.rtr_cache.specs.Cache.{run_pdus, run_bytes, run_size, is_lent, not_lent, run_leaves, full_run_says, change_run_says}
use Rattle.rtr_cache.specs.Serves.{RoomFits, sent_as, Servable, Ready, served, update_of, NoLonger}
use Rattle.rtr_cache.specs.declared.RunError.TheVariants.{NotARoom, OutputShort}
use Rattle.rtr_cache.proofs.Finishes.{run-finished}
use Rattle.rtr_cache.proofs.Laws.{lent-rules, lent-within}
use Rattle.rtr_cache.proofs.Lengths.{run_length}
use Rattle.rtr_cache.proofs.Serves.{run-serves, run-served-in-pieces}
use Rattle.rtr_cache.proofs.Unique.{run_answer_of, said-back}
use Rattle.rtr_cache.proofs.full_run.Reads as full-run
use Rattle.rtr_cache.proofs.change_run.Reads as change-run
use Rattle.rtr_cache.specs.declared.RunError.{RunError}

-- ---- the three answers

module _ (lent : Bool) (run out left : List ℕ) (r : Result ℕ RunError) (said : run_leaves r left ≡ cond lent (puts run out) (not_lent out)) where
  -- what is not lent is refused by 22; what does not fit by 9, with the run's length; else the run is at the front of the output, and behind it the output is as it was
  data Answers : Type 0 where
    not-lent : lent ≡ false → r ≡ Err NotARoom → left ≡ out → Answers
    short : lent ≡ true → length out < length run → r ≡ Err (OutputShort (length run)) → left ≡ out → Answers
    wrote : lent ≡ true → length run ≤ length out → r ≡ Ok (length run) → left ≡ run ++ drop (length run) out → Answers

  by_answer : (given : Encoded) → cond lent (puts run out) (not_lent out) ≡ given → (r ≡ run_answer_of given.says) × (left ≡ given.out)
  by_answer given e = (sym (said-back r) ∙ ap (λ (x : Encoded). run_answer_of x.says) (said ∙ e), ap (λ (x : Encoded). x.out) (said ∙ e))

  answers : Answers
  unfolding run_answer_of
  answers = go lent refl (leb (length run) (length out)) refl
    where
      go : (l : Bool) → lent ≡ l → (b : Bool) → leb (length run) (length out) ≡ b → Answers
      go false e b f = let is = by_answer (not_lent out) (ap (λ (x : Bool). cond x (puts run out) (not_lent out)) e) in not-lent e is.0 is.1
      go true e true f =
          let fits = leb-true (length run) (length out) f in
          let is = by_answer _ (ap (λ (x : Bool). cond x (puts run out) (not_lent out)) e ∙ written_is run out fits) in
          wrote e fits is.0 is.1
      go true e false f =
          let less = leb-false (length run) (length out) f in
          let is = by_answer _ (ap (λ (x : Bool). cond x (puts run out) (not_lent out)) e ∙ short-is run out less) in
          short e less is.0 is.1

  clash : {A : Type 0} → lent ≡ true → lent ≡ false → A
  clash t f = absurd (let z : true ≡ false = sym t ∙ f in let o : ◌≡◌ {A = ℕ} 0 1 = cc in omega arith)

  is-22 : (r ≡ Err NotARoom) ↔ (lent ≡ false)
  is-22 = (there answers, back answers)
    where
      there : Answers → r ≡ Err NotARoom → lent ≡ false
      there (not-lent e is same) q = e
      there (short e less is same) q = absurd (let o : ◌≡◌ {A = ℕ} 0 1 = cc in omega arith)
      there (wrote e fits is same) q = absurd (let o : ◌≡◌ {A = ℕ} 0 1 = cc in omega arith)

      back : Answers → lent ≡ false → r ≡ Err NotARoom
      back (not-lent e is same) q = is
      back (short e less is same) q = clash e q
      back (wrote e fits is same) q = clash e q

  is-9 : (n : ℕ) → (r ≡ Err (OutputShort n)) ↔ ((lent ≡ true) × (n ≡ length run) × (length out < n))
  is-9 n = (there answers, back answers)
    where
      there : Answers → r ≡ Err (OutputShort n) → (lent ≡ true) × (n ≡ length run) × (length out < n)
      there (not-lent e is same) q = absurd (let o : ◌≡◌ {A = ℕ} 0 1 = cc in omega arith)
      there (short e less is same) q = let n-is : n ≡ length run = cc in (e, n-is, omega (arith, less, n-is))
      there (wrote e fits is same) q = absurd (let o : ◌≡◌ {A = ℕ} 0 1 = cc in omega arith)

      back : Answers → (lent ≡ true) × (n ≡ length run) × (length out < n) → r ≡ Err (OutputShort n)
      back (not-lent e is same) q = clash q.0 e
      back (short e less is same) q = is ∙ ap (λ (k : ℕ). Err (OutputShort k)) (sym q.1)
      back (wrote e fits is same) q = absurd (omega (arith, q.1, q.2, fits))

  is-written : (n : ℕ) → (r ≡ Ok n) ↔ ((lent ≡ true) × (n ≡ length run) × (n ≤ length out))
  is-written n = (there answers, back answers)
    where
      there : Answers → r ≡ Ok n → (lent ≡ true) × (n ≡ length run) × (n ≤ length out)
      there (not-lent e is same) q = absurd (let o : ◌≡◌ {A = ℕ} 0 1 = cc in omega arith)
      there (short e less is same) q = absurd (let o : ◌≡◌ {A = ℕ} 0 1 = cc in omega arith)
      there (wrote e fits is same) q = let n-is : n ≡ length run = cc in (e, n-is, omega (arith, fits, n-is))

      back : Answers → (lent ≡ true) × (n ≡ length run) × (n ≤ length out) → r ≡ Ok n
      back (not-lent e is same) q = clash q.0 e
      back (short e less is same) q = absurd (omega (arith, q.1, q.2, less))
      back (wrote e fits is same) q = is ∙ ap Ok (sym q.1)

  -- a refusal leaves the output
  keeps : (error : _) → r ≡ Err error → left ≡ out
  keeps error q = go answers
    where
      go : Answers → left ≡ out
      go (not-lent e is same) = same
      go (short e less is same) = same
      go (wrote e fits is same) = absurd (let o : ◌≡◌ {A = ℕ} 0 1 = cc in omega arith)

  -- what was written stands at the front
  front-is : (n : ℕ) → r ≡ Ok n → (lent ≡ true) × (n ≡ length run) × (take n left ≡ run)
  front-is n q = go answers
    where
      go : Answers → (lent ≡ true) × (n ≡ length run) × (take n left ≡ run)
      go (not-lent e is same) = absurd (let o : ◌≡◌ {A = ℕ} 0 1 = cc in omega arith)
      go (short e less is same) = absurd (let o : ◌≡◌ {A = ℕ} 0 1 = cc in omega arith)
      go (wrote e fits is same) =
          let n-is : n ≡ length run = cc in
          (e, n-is, ap (λ (k : ℕ). take k left) n-is ∙ ap (take (length run)) same ∙ take-append_seam run (drop (length run) out))

-- ---- the records of a room whose numbers fit

fit_at : (s : List ℕ) (i : ℕ) → RoomFits s → WordsFit (record_at s i)
fit_at s i fits =
    subst WordsFit (sym (record-from s i))
    (record { w0 = fits (6 * i + 1); w1 = fits (6 * i + 2); w2 = fits (6 * i + 3); w3 = fits (6 * i + 4); asn = fits (6 * i + 5) })

fit-last : (t : List Record) (r : Record) → AllFit t → WordsFit r → AllFit (t ++ r ∷ [])
fit-last [] r AllFit.none words = AllFit.one words AllFit.none
fit-last (x ∷ t) r (AllFit.one first rest) words = AllFit.one first (fit-last t r rest words)

pub fit-records : (n : ℕ) (s : List ℕ) → RoomFits s → AllFit (records n s)
fit-records zero s fits = subst AllFit (sym (records-none s)) AllFit.none
fit-records (suc n) s fits = subst AllFit (sym (records-next n s)) (fit-last (records n s) (record_at s n) (fit-records n s fits) (fit_at s n fits))

-- a room that is lent is a table's
pub lent-table : (count : ℕ) (room : List ℕ) → is_lent count room ≡ true → is_table (records count room) ≡ true
lent-table count room e = (room-of-rules (limit_of room) count room (lent-rules count room e).1).table

-- both of two are lent
both-lent : (a b : Bool) → (a && b) ≡ true → (a ≡ true) × (b ≡ true)
both-lent true b e = (refl, e)
both-lent false b e = absurd (let z : ◌≡◌ {A = ℕ} 0 1 = cc in omega arith)

-- ---- what a call wrote

-- n bytes at the front of the output, which are a run that can be served to a receiver of 1,024 records
pub record Wrote (kind : LoadKind) (v : RtrProtocolVersion) (end : Table) (first second : List Record) (n : ℕ) (left : List ℕ) : Type 0 where
  pub parts : Servable kind end first second
  pub within : length second ≤ record_limit
  pub long : n ≡ length (run_bytes kind v end first second)
  pub front : take n left ≡ run_bytes kind v end first second

module _ (kind : LoadKind) (v : RtrProtocolVersion) (end : Table) (first second : List Record) (n : ℕ) (left : List ℕ) (did : Wrote kind v end first second n left) (pieces : List (List ℕ)) (cut : joined pieces ≡ take n left) where
  bytes-are : joined pieces ≡ run_bytes kind v end first second
  bytes-are = cut ∙ did.front

  -- fed in any pieces to a receiver that is ready, it makes it the one that was served
  pub wrote-serves : (limit H : ℕ) (r : Receiver) → length second ≤ limit → NoLonger H (run_pdus kind v end first second) → Ready kind v end.session first r
      → feed_all limit H r pieces ≡ record { receiver = served v end second r; taken = n; updates = 1 }
  wrote-serves limit H r within fits ready =
      run-serves limit H kind v end first second r pieces did.parts within fits ready bytes-are
      ∙ ap (λ (k : ℕ). record { receiver = served v end second r; taken = k; updates = 1 }) (sym did.long)

  -- the same in memory of receiver shape, by feeds of the pieces
  pub wrote-served : (limit : ℕ) (m m' : Memory) →
      length second ≤ limit →
      NoLonger (length m.hold) (run_pdus kind v end first second) →
      is_receiver limit m.session m.live m.working m.hold ≡ true →
      Ready kind v end.session first (receiver_of m.session m.live m.working m.hold) →
      Steps limit m (feeds pieces) m' →
      left_in m' ≡ in_memory limit (served v end second (receiver_of m.session m.live m.working m.hold))
  wrote-served limit m m' within fits shape ready steps = run-served-in-pieces limit kind v end first second pieces m m' did.parts within fits shape ready bytes-are steps

  -- and in a history: exactly that update has finished besides those before, it has made the second table, and the connection is idle
  pub wrote-finished : (limit H : ℕ) (calls : List Call) (m : Memory) →
      length second ≤ limit →
      NoLonger H (run_pdus kind v end first second) →
      Run limit v H calls m →
      Ready kind v end.session first (receiver_of m.session m.live m.working m.hold) →
      (finished limit H v (history_of (calls ++ feeds pieces)) ≡ finished limit H v (history_of calls) ++ update_of kind v end first second ∷ [])
      × (table_of limit (finished limit H v (history_of (calls ++ feeds pieces))) ≡ record { info = Some (sent_as v end); records = second })
      × (stands_after limit H v (history_of (calls ++ feeds pieces)) ≡ Place.idle)
  wrote-finished limit H calls m within fits run ready = run-finished limit H kind v end first second calls m pieces did.parts within fits run ready bytes-are

-- ---- full_run: κs and a are what is lent, s the same as the call returns

module _ (κs : _) (a : _) (r : Result ℕ RunError) (s : _) (post : full-run.Post κs a r s) where
  abbrev full_room : List ℕ
  full_room = a.1.1.0.now

  abbrev full_count : ℕ
  full_count = a.1.1.1.0

  abbrev full_table : List Record
  full_table = records full_count full_room

  abbrev full_out : List ℕ
  full_out = a.1.1.1.1.0.now

  abbrev full_left : List ℕ
  full_left = s.1.1.1.1.0.now

  full-said : run_leaves r full_left ≡ cond (is_lent full_count full_room) (puts (run_bytes LoadKind.Full a.0 a.1.0 [] full_table) full_out) (not_lent full_out)
  unfolding full_run_says
  full-said = post.0

  -- 22 exactly where the room is not lent as a table's
  pub full-22-exactly : (r ≡ Err NotARoom) ↔ (is_lent full_count full_room ≡ false)
  full-22-exactly = is-22 _ _ _ _ r full-said

  -- then 9, with the whole run's length, exactly where the output is shorter
  pub full-9-exactly : (n : ℕ) → (r ≡ Err (OutputShort n)) ↔ ((is_lent full_count full_room ≡ true) × (n ≡ run_size LoadKind.Full a.0 [] full_table) × (length full_out < n))
  full-9-exactly n =
      let size = run_length LoadKind.Full a.0 a.1.0 [] full_table in
      let is = is-9 _ _ _ _ r full-said n in
      (λ q. let x = is.0 q in (x.0, x.1 ∙ size, x.2), λ x. is.1 (x.0, x.1 ∙ sym size, x.2))

  -- else it is written; an output that it fills is taken
  pub full-written-exactly : (n : ℕ) → (r ≡ Ok n) ↔ ((is_lent full_count full_room ≡ true) × (n ≡ run_size LoadKind.Full a.0 [] full_table) × (n ≤ length full_out))
  full-written-exactly n =
      let size = run_length LoadKind.Full a.0 a.1.0 [] full_table in
      let is = is-written _ _ _ _ r full-said n in
      (λ q. let x = is.0 q in (x.0, x.1 ∙ size, x.2), λ x. is.1 (x.0, x.1 ∙ sym size, x.2))

  -- a refusal leaves the output
  pub full-refusal-keeps : (error : _) → r ≡ Err error → full_left ≡ full_out
  full-refusal-keeps error q = keeps (is_lent full_count full_room) (run_bytes LoadKind.Full a.0 a.1.0 [] full_table) full_out full_left r full-said error q

  -- and what was written is a run that can be served
  pub full-wrote : (n : ℕ) → r ≡ Ok n → Wrote LoadKind.Full a.0 a.1.0 [] full_table n full_left
  full-wrote n q =
      let is = front-is _ _ _ _ r full-said n q in
      record {
        parts =
            record {
              first-table = empty-table;
              second-table = lent-table full_count full_room is.0;
              first_fits = AllFit.none;
              second_fits = fit-records full_count full_room post.1.1;
              end_fits = post.1.0;
            };
        within = omega (arith, lent-within full_count full_room is.0, records-length full_count full_room);
        long = is.1;
        front = is.2;
      }

-- ---- change_run, likewise

module _ (κs : _) (a : _) (r : Result ℕ RunError) (s : _) (post : change-run.Post κs a r s) where
  abbrev first_room : List ℕ
  first_room = a.1.1.0.now

  abbrev first_count : ℕ
  first_count = a.1.1.1.0

  abbrev second_room : List ℕ
  second_room = a.1.1.1.1.0.now

  abbrev second_count : ℕ
  second_count = a.1.1.1.1.1.0

  abbrev first_table : List Record
  first_table = records first_count first_room

  abbrev second_table : List Record
  second_table = records second_count second_room

  abbrev change_out : List ℕ
  change_out = a.1.1.1.1.1.1.0.now

  abbrev change_left : List ℕ
  change_left = s.1.1.1.1.1.1.0.now

  abbrev both_lent : Bool
  both_lent = is_lent first_count first_room && is_lent second_count second_room

  change-said : run_leaves r change_left ≡ cond both_lent (puts (run_bytes LoadKind.Change a.0 a.1.0 first_table second_table) change_out) (not_lent change_out)
  unfolding change_run_says
  change-said = post.0

  -- 22 exactly where either room is not lent as a table's
  pub change-22-exactly : (r ≡ Err NotARoom) ↔ (both_lent ≡ false)
  change-22-exactly = is-22 _ _ _ _ r change-said

  pub change-9-exactly : (n : ℕ) → (r ≡ Err (OutputShort n)) ↔ ((both_lent ≡ true) × (n ≡ run_size LoadKind.Change a.0 first_table second_table) × (length change_out < n))
  change-9-exactly n =
      let size = run_length LoadKind.Change a.0 a.1.0 first_table second_table in
      let is = is-9 _ _ _ _ r change-said n in
      (λ q. let x = is.0 q in (x.0, x.1 ∙ size, x.2), λ x. is.1 (x.0, x.1 ∙ sym size, x.2))

  pub change-written-exactly : (n : ℕ) → (r ≡ Ok n) ↔ ((both_lent ≡ true) × (n ≡ run_size LoadKind.Change a.0 first_table second_table) × (n ≤ length change_out))
  change-written-exactly n =
      let size = run_length LoadKind.Change a.0 a.1.0 first_table second_table in
      let is = is-written _ _ _ _ r change-said n in
      (λ q. let x = is.0 q in (x.0, x.1 ∙ size, x.2), λ x. is.1 (x.0, x.1 ∙ sym size, x.2))

  pub change-refusal-keeps : (error : _) → r ≡ Err error → change_left ≡ change_out
  change-refusal-keeps error q = keeps both_lent (run_bytes LoadKind.Change a.0 a.1.0 first_table second_table) change_out change_left r change-said error q

  pub change-wrote : (n : ℕ) → r ≡ Ok n → Wrote LoadKind.Change a.0 a.1.0 first_table second_table n change_left
  change-wrote n q =
      let is = front-is _ _ _ _ r change-said n q in
      let lent = both-lent (is_lent first_count first_room) (is_lent second_count second_room) is.0 in
      record {
        parts =
            record {
              first-table = lent-table first_count first_room lent.0;
              second-table = lent-table second_count second_room lent.1;
              first_fits = fit-records first_count first_room post.1.1.0;
              second_fits = fit-records second_count second_room post.1.1.1;
              end_fits = post.1.0;
            };
        within = omega (arith, lent-within second_count second_room lent.1, records-length second_count second_room);
        long = is.1;
        front = is.2;
      }
