-- `hingemoss_read_listing` and the runs by their answer (specs/Answers.antt), of the definition and of the call. Both kinds of run go one way: what is lent
-- is tables' or nobody's, and then the run is put or 22 is said. Assumes nothing.
use Rattle.std.specs.Prelude.{Option, Some, None}
use Prim.Native.Nat.{ℕ, ◌*◌}
use mathlib.Core.Bool.{Bool, true, false, cond, true≢false}
use mathlib.Core.List.{List, []}
use mathlib.Core.Logic.{◌⊎◌, inl, inr}
use mathlib.Core.Path.{◌≡◌, refl, sym, ap, ◌∙◌, subst}
use borrow.Author.Tests.{eqb-true, eqb-false, leb-true, leb-false}
use lib.Dec.{eqb, leb}
use lib.ListN.{length}
use Rattle.rtr_models.specs.Codes.{version_found}
use Rattle.rtr_models.specs.declared.RtrProtocolVersion.{RtrProtocolVersion}
use Rattle.rtr_encode.specs.Encode.{Encoded}
use Rattle.rtr_room.specs.Room.{records}
use Rattle.rtr_room.specs.declared.Record.{Record}
use Rattle.rtr_room.proofs.Laws.{records-of-room}
use Rattle.rtr_receiver.specs.Promises.{record_limit}
use Rattle.rtr_receiver.specs.declared.LoadKind.{LoadKind}
use Rattle.rtr_receiver.specs.declared.Table.{Table}
use Rattle.rtr_numbers.specs.Back.{table_found}
use Rattle.rtr_listing.specs.Promises.{puts}
use Rattle.rtr_listing.proofs.Laws.{written_is, short-is}
use Rattle.rtr_listed.specs.Listed.{Read, read_listing}
use Rattle.rtr_listed.specs.Promises.{ListedLeft, read_leaves, listed_says}
use Rattle.rtr_listed.proofs.Laws.{of_size, off-size}
use Rattle.rtr_cache.specs.Cache.{run_bytes, is_lent, not_lent, full_run_says, change_run_says}
use Rattle.rtr_cache.proofs.Laws.{lent-exactly, full-refused, full-lent, change-refused, change-lent}
use Rattle.rtr_c.specs.Calls.{EncodeLeft, encode_gives, encode_left, ReadListingLeft, read_listing_gives, head_size, read_listing_left, read_listing_c, run_found, full_run_c, change_run_c}
use Rattle.rtr_c.specs.Answers.{ReadListingAnswers, RunAsked, Lends, RunAnswers, LendsOne, FullRunAnswers, LendsTwo, ChangeRunAnswers}
use Rattle.rtr_c.proofs.hingemoss_read_listing.Reads as read-listing-reads
use Rattle.rtr_c.proofs.hingemoss_full_run.Reads as full-run-reads
use Rattle.rtr_c.proofs.hingemoss_change_run.Reads as change-run-reads

-- ---- a listing

module _ (text room head : List ℕ) where
  abbrev Answers : ReadListingLeft → Type 0
  Answers = ReadListingAnswers text room head

  by-text : length head ≡ head_size → length room ≡ 6 * record_limit → (x : Read) → read_listing record_limit text ≡ x → Answers (read_listing_left (read_leaves record_limit x) head)
  by-text long size (Read.listed v) e = ReadListingAnswers.whole v long size e
  by-text long size (Read.misfit n) e = ReadListingAnswers.unlisted n long size e

  by-room : length head ≡ head_size → (b : Bool) → eqb (length room) (6 * record_limit) ≡ b → Answers (read_listing_left (listed_says record_limit text room) head)
  by-room long true e =
      let size = eqb-true (length room) (6 * record_limit) e in
      subst (λ (left : ListedLeft). Answers (read_listing_left left head)) (of_size record_limit text room size) (by-text long size (read_listing record_limit text) refl)
  by-room long false e =
      let size = eqb-false (length room) (6 * record_limit) e in
      subst (λ (left : ListedLeft). Answers (read_listing_left left head)) (off-size record_limit text room size) (ReadListingAnswers.off_size size)

  pub read-listing-answers : Answers (read_listing_c text room head)
  unfolding read_listing_c
  read-listing-answers = by-head (eqb (length head) head_size) refl
    where
      by-head : (b : Bool) → eqb (length head) head_size ≡ b → Answers (cond b (read_listing_left (listed_says record_limit text room) head) (read_listing_gives 22 room head 0))
      by-head true e = by-room (eqb-true (length head) head_size e) (eqb (length room) (6 * record_limit)) refl
      by-head false e = ReadListingAnswers.not_head (eqb-false (length head) head_size e)

-- ---- what is lent

module _ (numbers : List ℕ) (count : ℕ) where
  -- a table's room
  lends : is_lent count numbers ≡ true → (t : List Record) × Lends numbers count t
  lends e =
      let is = (lent-exactly count numbers).0 e in
      (is.0, record { within = is.3; table = is.1; counted = is.2; lent = is.4 })

  -- whose records are the table
  pub lends-records : (t : List Record) → Lends numbers count t → records count numbers ≡ t
  lends-records t h = (λ i. records (sym h.counted i) (h.lent i)) ∙ records-of-room record_limit t

  -- or nobody's
  not-lends : is_lent count numbers ≡ false → (t : List Record) → Lends numbers count t → ⊥
  not-lends e t h = true≢false (sym ((lent-exactly count numbers).1 (t, h.table, h.counted, h.within, h.lent)) ∙ e)

-- ---- a run of either kind

module _ (kind : LoadKind) (Lent : List Record → List Record → Type 0) (run : RtrProtocolVersion → Table → Encoded) (out : List ℕ) where
  -- tables are lent, and their run is put
  record RunPut : Type 0 where
    pub first : List Record
    pub second : List Record
    pub lent : Lent first second
    pub said : (v : RtrProtocolVersion) (t : Table) → run v t ≡ puts (run_bytes kind v t first second) out

  -- or none are, and 22 is said
  record RunRefused : Type 0 where
    pub none : (first second : List Record) → Lent first second → ⊥
    pub said : (v : RtrProtocolVersion) (t : Table) → run v t ≡ not_lent out

  module _ (version : ℕ) (end : List ℕ) where
    abbrev Runs : EncodeLeft → Type 0
    Runs = RunAnswers kind Lent version end out

    said-so : {x y : Encoded} → x ≡ y → Runs (encode_left y) → Runs (encode_left x)
    said-so e = subst (λ (z : Encoded). Runs (encode_left z)) (sym e)

    by-output : (v : RtrProtocolVersion) (t : Table) → RunAsked version end v t → (p : RunPut) → (b : Bool) → leb (length (run_bytes kind v t p.first p.second)) (length out) ≡ b →
        Runs (encode_left (run v t))
    by-output v t asked p true e =
        let bytes = run_bytes kind v t p.first p.second in
        let fits = leb-true (length bytes) (length out) e in
        said-so (p.said v t ∙ written_is bytes out fits) (RunAnswers.whole v t p.first p.second asked p.lent fits)
    by-output v t asked p false e =
        let bytes = run_bytes kind v t p.first p.second in
        let less = leb-false (length bytes) (length out) e in
        said-so (p.said v t ∙ short-is bytes out less) (RunAnswers.short v t p.first p.second asked p.lent less)

    by-lent : (v : RtrProtocolVersion) (t : Table) → RunAsked version end v t → RunPut ⊎ RunRefused → Runs (encode_left (run v t))
    by-lent v t asked (inl p) = by-output v t asked p (leb (length (run_bytes kind v t p.first p.second)) (length out)) refl
    by-lent v t asked (inr r) = said-so (r.said v t) (RunAnswers.unlent r.none)

    run-answers : RunPut ⊎ RunRefused → Runs (run_found run (version_found version) (table_found end) out)
    run-answers lent = by-found (version_found version) refl (table_found end) refl
      where
        by-found : (x : Option RtrProtocolVersion) → version_found version ≡ x → (y : Option Table) → table_found end ≡ y → Runs (run_found run x y out)
        by-found (Some v) p (Some t) q = by-lent v t (record { spoken-is = p; numbers-are = q }) lent
        by-found (Some v) p None q = RunAnswers.unnumbered q
        by-found None p y q = RunAnswers.unversioned p

    -- a run that does not answer 0 leaves the output
    refused-keeps-output : {left : EncodeLeft} → Runs left → (left.answer ≡ 0 → ⊥) → left.out ≡ out
    refused-keeps-output (RunAnswers.unversioned p) refuses = refl
    refused-keeps-output (RunAnswers.unnumbered q) refuses = refl
    refused-keeps-output (RunAnswers.unlent h) refuses = refl
    refused-keeps-output (RunAnswers.short v t first second asked lent less) refuses = refl
    refused-keeps-output (RunAnswers.whole v t first second asked lent fits) refuses = absurd (refuses refl)

-- ---- from nothing to a table

module _ (table : List ℕ) (count : ℕ) (out : List ℕ) where
  abbrev full_by : RtrProtocolVersion → Table → Encoded
  full_by v t = full_run_says v t table count out

  full-lent-or-not : (b : Bool) → is_lent count table ≡ b → RunPut LoadKind.Full (LendsOne table count) full_by out ⊎ RunRefused LoadKind.Full (LendsOne table count) full_by out
  full-lent-or-not true e =
      let t = lends table count e in
      inl
      (record {
        first = [];
        second = t.0;
        lent = (refl, t.1);
        said = λ v n. full-lent v n table count out e ∙ ap (λ (x : List Record). puts (run_bytes LoadKind.Full v n [] x) out) (lends-records table count t.0 t.1);
      })
  full-lent-or-not false e = inr (record { none = λ first second h. not-lends table count e second h.1; said = λ v n. full-refused v n table count out e })

  module _ (version : ℕ) (end : List ℕ) where
    pub full-run-answers : FullRunAnswers version end table count out (full_run_c version end table count out)
    unfolding full_run_c
    full-run-answers = run-answers LoadKind.Full (LendsOne table count) full_by out version end (full-lent-or-not (is_lent count table) refl)

    pub refused-keeps-full-run : ((full_run_c version end table count out).answer ≡ 0 → ⊥) → (full_run_c version end table count out).out ≡ out
    refused-keeps-full-run = refused-keeps-output LoadKind.Full (LendsOne table count) full_by out version end full-run-answers

-- ---- from one table to another

module _ (first : List ℕ) (first_count : ℕ) (second : List ℕ) (second_count : ℕ) (out : List ℕ) where
  abbrev change_by : RtrProtocolVersion → Table → Encoded
  change_by v t = change_run_says v t first first_count second second_count out

  change-lent-or-not : (b : Bool) → is_lent first_count first ≡ b → (c : Bool) → is_lent second_count second ≡ c →
      RunPut LoadKind.Change (LendsTwo first first_count second second_count) change_by out ⊎ RunRefused LoadKind.Change (LendsTwo first first_count second second_count) change_by out
  change-lent-or-not true e true f =
      let s = lends first first_count e in
      let t = lends second second_count f in
      let is = lends-records first first_count s.0 s.1 in
      let is' = lends-records second second_count t.0 t.1 in
      inl
      (record {
        first = s.0;
        second = t.0;
        lent = (s.1, t.1);
        said = λ v n. change-lent v n first first_count second second_count out e f ∙ (λ i. puts (run_bytes LoadKind.Change v n (is i) (is' i)) out);
      })
  change-lent-or-not false e c f =
      inr (record { none = λ s t h. not-lends first first_count e s h.0; said = λ v n. change-refused v n first first_count second second_count out (inl e) })
  change-lent-or-not true e false f =
      inr (record { none = λ s t h. not-lends second second_count f t h.1; said = λ v n. change-refused v n first first_count second second_count out (inr f) })

  module _ (version : ℕ) (end : List ℕ) where
    pub change-run-answers : ChangeRunAnswers version end first first_count second second_count out (change_run_c version end first first_count second second_count out)
    unfolding change_run_c
    change-run-answers =
        run-answers LoadKind.Change (LendsTwo first first_count second second_count) change_by out version end
        (change-lent-or-not (is_lent first_count first) refl (is_lent second_count second) refl)

    pub refused-keeps-change-run : ((change_run_c version end first first_count second second_count out).answer ≡ 0 → ⊥) → (change_run_c version end first first_count second second_count out).out ≡ out
    refused-keeps-change-run = refused-keeps-output LoadKind.Change (LendsTwo first first_count second second_count) change_by out version end change-run-answers

-- ---- the calls: a is what is lent, s the same as the call returns

pub read-listing-call-answers : (κs : _) (a : _) (r : _) (s : _) → read-listing-reads.Post κs a r s →
    ReadListingAnswers a.0.now a.1.0.now a.1.1.0.now (read_listing_gives r s.1.0.now s.1.1.0.now s.1.1.1.0.now)
read-listing-call-answers κs a r s p = subst (ReadListingAnswers a.0.now a.1.0.now a.1.1.0.now) (sym p) (read-listing-answers a.0.now a.1.0.now a.1.1.0.now)

pub full-run-call-answers : (κs : _) (a : _) (r : _) (s : _) → full-run-reads.Post κs a r s →
    FullRunAnswers a.0 a.1.0.now a.1.1.0.now a.1.1.1.0 a.1.1.1.1.0.now (encode_gives r s.1.1.1.1.1.0.now s.1.1.1.1.0.now)
full-run-call-answers κs a r s p =
    subst (FullRunAnswers a.0 a.1.0.now a.1.1.0.now a.1.1.1.0 a.1.1.1.1.0.now) (sym p.0)
    (full-run-answers a.1.1.0.now a.1.1.1.0 a.1.1.1.1.0.now a.0 a.1.0.now)

pub change-run-call-answers : (κs : _) (a : _) (r : _) (s : _) → change-run-reads.Post κs a r s →
    ChangeRunAnswers a.0 a.1.0.now a.1.1.0.now a.1.1.1.0 a.1.1.1.1.0.now a.1.1.1.1.1.0 a.1.1.1.1.1.1.0.now
    (encode_gives r s.1.1.1.1.1.1.1.0.now s.1.1.1.1.1.1.0.now)
change-run-call-answers κs a r s p =
    subst (ChangeRunAnswers a.0 a.1.0.now a.1.1.0.now a.1.1.1.0 a.1.1.1.1.0.now a.1.1.1.1.1.0 a.1.1.1.1.1.1.0.now) (sym p.0)
    (change-run-answers a.1.1.0.now a.1.1.1.0 a.1.1.1.1.0.now a.1.1.1.1.1.0 a.1.1.1.1.1.1.0.now a.0 a.1.0.now)
