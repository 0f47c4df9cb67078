-- Receiver shape on tables: what a receiver's parts have to do with each other, kept by every PDU and every stop. Assumes nothing.
use Rattle.std.proofs.lemmas.Option.{some_pair_parts}
use Rattle.std.specs.Prelude.{Option, Some, None}
use Rattle.std.proofs.Common.{◌≡◌, ℕ, ◌≤◌, Bool, true, false, cond, eqb, ◌⊎◌, List, [], length, sym, refl, ap, ◌∙◌, inl, inr, arith, le-leb}
use mathlib.Core.Bool.{false≢true}
use Rattle.rtr_models.specs.Values.{announces, type_of}
use Rattle.rtr_models.specs.declared.RtrEndOfData.{RtrEndOfData}
use Rattle.rtr_models.specs.declared.RtrPduType.{RtrPduType}
use Rattle.rtr_models.specs.declared.RtrPdu.{RtrPdu}
use Rattle.rtr_models.specs.declared.RtrPdu.TheVariants.{SerialNotify, SerialQuery, ResetQuery, CacheResponse, IPv4Prefix, IPv6Prefix, EndOfData, CacheReset, RouterKey, ErrorReport}
use Rattle.rtr_codec.proofs.Rules.{LengthsInRule}
use Rattle.rtr_room.specs.Table.{Change, enter, leave, is_table, in_rule, ipv4_record, ipv6_record}
use Rattle.rtr_room.specs.declared.Record.{Record}
use Rattle.rtr_room.proofs.Laws.{enter-keeps, leave-keeps, ipv4-in-rule, ipv6-in-rule, empty-table}
use Rattle.rtr_receiver.specs.Receiver.{Stage, Receiver, Deed, is_due, session_in, kind_in, fresh, in_stage, stop, on_serial_notify, start_load, on_change_response, on_cache_response, changed_to, on_record, finish, on_end_of_data, deed_of, on_pdu}
use Rattle.rtr_receiver.specs.Receiver.Stage.{idle, must_reset, asked_full, asked_change, loading, stopped}
use Rattle.rtr_receiver.specs.History.{has_table}
use Rattle.rtr_receiver.specs.Private.{carried_by}
use Rattle.rtr_receiver.specs.declared.LoadKind.{LoadKind}
use Rattle.rtr_receiver.proofs.Turns.{prefixes-alike, pdu-by}
use Rattle.rtr_receiver.specs.declared.Table.{Table}

-- a change is under way; a load is; it stopped
abbrev pub change_in : Stage → Bool
change_in idle = false
change_in must_reset = false
change_in asked_full = false
change_in asked_change = true
change_in (loading LoadKind.Full session) = false
change_in (loading LoadKind.Change session) = true
change_in (stopped number values) = false

abbrev pub loading_in : Stage → Bool
loading_in idle = false
loading_in must_reset = false
loading_in asked_full = false
loading_in asked_change = false
loading_in (loading kind session) = true
loading_in (stopped number values) = false

abbrev pub stopped_in : Stage → Bool
stopped_in idle = false
stopped_in must_reset = false
stopped_in asked_full = false
stopped_in asked_change = false
stopped_in (loading kind session) = false
stopped_in (stopped number values) = true

-- both tables are tables within the limit; a live record or a change has its table; nothing is in the working table outside a load; nothing is held by one
-- that stopped
pub record Good (limit : ℕ) (r : Receiver) : Type 0 where
  pub live : is_table r.live ≡ true
  pub live-fits : length r.live ≤ limit
  pub working : is_table r.working ≡ true
  pub working-fits : length r.working ≤ limit
  pub tabled : (has_table r.table ≡ true) ⊎ ((r.live ≡ []) × (change_in r.stage ≡ false))
  pub emptied : (loading_in r.stage ≡ true) ⊎ (r.working ≡ [])
  pub quiet : (stopped_in r.stage ≡ false) ⊎ (r.held ≡ [])

-- no change is under way where the phase is none of a change
calm : {A : Type 0} {B : Type 0} {p q : Bool} → q ≡ false → A ⊎ (B × (p ≡ false)) → A ⊎ (B × (q ≡ false))
calm e (inl a) = inl a
calm e (inr b) = inr (b.0, e)

-- in a phase that is no load nothing is in the working table
nothing-loaded : {A : Type 0} (stage : Stage) → loading_in stage ≡ false → (loading_in stage ≡ true) ⊎ A → A
nothing-loaded stage e (inl t) = absurd (let z : true ≡ false = sym t ∙ e in let o : ◌≡◌ {A = ℕ} 0 1 = cc in omega arith)
nothing-loaded stage e (inr a) = a

-- a prefix is due in a load, a Cache Reset in none
prefix-loading : (stage : Stage) → is_due RtrPduType.IPv4Prefix stage ≡ true → loading_in stage ≡ true
prefix-loading idle due = absurd (false≢true due)
prefix-loading must_reset due = absurd (false≢true due)
prefix-loading asked_full due = absurd (false≢true due)
prefix-loading asked_change due = absurd (false≢true due)
prefix-loading (loading kind session) due = refl
prefix-loading (stopped number values) due = absurd (false≢true due)

reset-not-loading : (stage : Stage) → is_due RtrPduType.CacheReset stage ≡ true → loading_in stage ≡ false
reset-not-loading idle due = refl
reset-not-loading must_reset due = refl
reset-not-loading asked_full due = refl
reset-not-loading asked_change due = refl
reset-not-loading (loading kind session) due = absurd (false≢true due)
reset-not-loading (stopped number values) due = refl

-- the entry of a prefix whose lengths are in rule is in rule
pub entry-in-rule : (pdu : RtrPdu) (announced : Bool) (x : Record) → LengthsInRule pdu → carried_by pdu ≡ Some (announced, x) → in_rule x ≡ true
unfolding carried_by
entry-in-rule (IPv4Prefix p) announced x l e =
    let same : ipv4_record p.prefix_length p.max_length p.prefix p.asn ≡ x = (some_pair_parts _ _ _ _ e).1 in
    sym (ap in_rule same)
    ∙ ipv4-in-rule p.prefix_length p.max_length (omega arith) (omega arith) p.prefix p.asn
    ∙ simp (le-leb p.prefix_length p.max_length l.0, le-leb p.max_length 32 l.1)
entry-in-rule (IPv6Prefix p) announced x l e =
    let same : ipv6_record p.prefix_length p.max_length p.prefix.w0 p.prefix.w1 p.prefix.w2 p.prefix.w3 p.asn ≡ x = (some_pair_parts _ _ _ _ e).1 in
    sym (ap in_rule same)
    ∙ ipv6-in-rule p.prefix_length p.max_length (omega arith) (omega arith) p.prefix.w0 p.prefix.w1 p.prefix.w2 p.prefix.w3 p.asn
    ∙ simp (le-leb p.prefix_length p.max_length l.0, le-leb p.max_length 128 l.1)
entry-in-rule (SerialNotify p) announced x l e = absurd (let z : ◌≡◌ {A = ℕ} 0 1 = cc in omega arith)
entry-in-rule (SerialQuery p) announced x l e = absurd (let z : ◌≡◌ {A = ℕ} 0 1 = cc in omega arith)
entry-in-rule (ResetQuery p) announced x l e = absurd (let z : ◌≡◌ {A = ℕ} 0 1 = cc in omega arith)
entry-in-rule (CacheResponse p) announced x l e = absurd (let z : ◌≡◌ {A = ℕ} 0 1 = cc in omega arith)
entry-in-rule (EndOfData p) announced x l e = absurd (let z : ◌≡◌ {A = ℕ} 0 1 = cc in omega arith)
entry-in-rule (CacheReset p) announced x l e = absurd (let z : ◌≡◌ {A = ℕ} 0 1 = cc in omega arith)
entry-in-rule (RouterKey p) announced x l e = absurd (let z : ◌≡◌ {A = ℕ} 0 1 = cc in omega arith)
entry-in-rule (ErrorReport p) announced x l e = absurd (let z : ◌≡◌ {A = ℕ} 0 1 = cc in omega arith)

module _ (limit : ℕ) where
  pub fresh-good : (v : _) → Good limit (fresh v)
  fresh-good v =
      record {
        live = empty-table;
        live-fits = omega arith;
        working = empty-table;
        working-fits = omega arith;
        tabled = inr (refl, refl);
        emptied = inr refl;
        quiet = inl refl;
      }

  pub stop-good : (number : ℕ) (values : List ℕ) (r : Receiver) → Good limit r → Good limit (stop number values r)
  stop-good number values r g =
      record {
        live = g.live;
        live-fits = g.live-fits;
        working = empty-table;
        working-fits = omega arith;
        tabled = calm refl g.tabled;
        emptied = inr refl;
        quiet = inr refl;
      }

  note-good : (session serial : ℕ) (r : Receiver) → Good limit r → Good limit (on_serial_notify session serial r)
  note-good session serial r g =
      record {
        live = g.live;
        live-fits = g.live-fits;
        working = g.working;
        working-fits = g.working-fits;
        tabled = g.tabled;
        emptied = g.emptied;
        quiet = g.quiet;
      }

  full-good : (session : ℕ) (r : Receiver) → Good limit r → Good limit (start_load LoadKind.Full session [] r)
  full-good session r g =
      record {
        live = g.live;
        live-fits = g.live-fits;
        working = empty-table;
        working-fits = omega arith;
        tabled = calm refl g.tabled;
        emptied = inl refl;
        quiet = inl refl;
      }

  change-good : (session : ℕ) (r : Receiver) → Good limit r → has_table r.table ≡ true → Good limit (start_load LoadKind.Change session r.live r)
  change-good session r g t =
      record {
        live = g.live;
        live-fits = g.live-fits;
        working = g.live;
        working-fits = g.live-fits;
        tabled = inl t;
        emptied = inl refl;
        quiet = inl refl;
      }

  response-good : (session : ℕ) (r : Receiver) → Good limit r → (kind : LoadKind) → Good limit (on_cache_response kind session r)
  response-good session r g LoadKind.Full = full-good session r g
  response-good session r g LoadKind.Change = table r.table refl
    where
      table : (t : Option Table) → r.table ≡ t → Good limit (on_change_response t session r)
      table None e = stop-good 15 [] r g
      table (Some t) e = go (eqb session t.session)
        where
          go : (b : Bool) → Good limit (cond b (start_load LoadKind.Change session r.live r) (stop 15 [] r))
          go true = change-good session r g (ap has_table e)
          go false = stop-good 15 [] r g

  -- another working table, in a load
  changed-good : (t : List Record) (r : Receiver) → Good limit r → loading_in r.stage ≡ true → is_table t ≡ true → length t ≤ limit → Good limit (changed_to (Change.changed t) r)
  changed-good t r g l i f =
      record {
        live = g.live;
        live-fits = g.live-fits;
        working = i;
        working-fits = f;
        tabled = g.tabled;
        emptied = inl l;
        quiet = g.quiet;
      }

  enter-good : (x : Record) (r : Receiver) → Good limit r → loading_in r.stage ≡ true → in_rule x ≡ true → Good limit (changed_to (enter limit x r.working) r)
  enter-good x r g l i = go (enter limit x r.working) refl
    where
      go : (c : Change) → enter limit x r.working ≡ c → Good limit (changed_to c r)
      go (Change.changed t) e = let k = enter-keeps limit x r.working t g.working i e in changed-good t r g l k.0 k.2
      go (Change.refused number) e = stop-good number [] r g

  leave-good : (x : Record) (r : Receiver) → Good limit r → loading_in r.stage ≡ true → Good limit (changed_to (leave x r.working) r)
  leave-good x r g l = go (leave x r.working) refl
    where
      go : (c : Change) → leave x r.working ≡ c → Good limit (changed_to c r)
      go (Change.changed t) e = let k = leave-keeps x r.working t g.working e in changed-good t r g l k.0 (omega (arith, k.1, g.working-fits))
      go (Change.refused number) e = stop-good number [] r g

  record-good : (announced : Bool) (x : Record) (r : Receiver) → Good limit r → in_rule x ≡ true → loading_in r.stage ≡ true → Good limit (on_record limit announced x r)
  record-good true x r g i l = enter-good x r g l i
  record-good false x r g i l = leave-good x r g l

  reset-good : (r : Receiver) → Good limit r → loading_in r.stage ≡ false → Good limit (in_stage must_reset r)
  reset-good r g l =
      record {
        live = g.live;
        live-fits = g.live-fits;
        working = g.working;
        working-fits = g.working-fits;
        tabled = calm refl g.tabled;
        emptied = inr (nothing-loaded r.stage l g.emptied);
        quiet = inl refl;
      }

  finish-good : (p : RtrEndOfData) (r : Receiver) → Good limit r → Good limit (finish p r)
  finish-good p r g =
      record {
        live = g.working;
        live-fits = g.working-fits;
        working = empty-table;
        working-fits = omega arith;
        tabled = inl refl;
        emptied = inr refl;
        quiet = inl refl;
      }

  end-good : (p : RtrEndOfData) (r : Receiver) → Good limit r → (session : ℕ) → Good limit (on_end_of_data session p r).then × ((on_end_of_data session p r).updates ≤ 1)
  end-good p r g session = go (eqb p.session_id session)
    where
      go : (b : Bool) →
          Good limit (cond {A = Deed} b (record { then = finish p r; updates = 1 }) (record { then = stop 15 [] r; updates = 0 })).then
          × ((cond {A = Deed} b (record { then = finish p r; updates = 1 }) (record { then = stop 15 [] r; updates = 0 })).updates ≤ 1)
      go true = (finish-good p r g, omega arith)
      go false = (stop-good 15 [] r g, omega arith)

  -- what a PDU does where it is due
  deed-good : (pdu : RtrPdu) (r : Receiver) → Good limit r → LengthsInRule pdu → is_due (type_of pdu) r.stage ≡ true → Good limit (deed_of limit pdu r).then × ((deed_of limit pdu r).updates ≤ 1)
  unfolding deed_of
  deed-good (SerialNotify p) r g l due = (note-good _ _ r g, omega arith)
  deed-good (SerialQuery p) r g l due = (g, omega arith)
  deed-good (ResetQuery p) r g l due = (g, omega arith)
  deed-good (CacheResponse p) r g l due = (response-good _ r g (kind_in r.stage), omega arith)
  deed-good (IPv4Prefix p) r g l due =
      let rule : in_rule (ipv4_record p.prefix_length p.max_length p.prefix p.asn) ≡ true =
      ipv4-in-rule p.prefix_length p.max_length (omega arith) (omega arith) p.prefix p.asn
      ∙ simp (le-leb p.prefix_length p.max_length l.0, le-leb p.max_length 32 l.1) in
      (record-good (announces p.flags) _ r g rule (prefix-loading r.stage due), omega arith)
  deed-good (IPv6Prefix p) r g l due =
      let rule : in_rule (ipv6_record p.prefix_length p.max_length p.prefix.w0 p.prefix.w1 p.prefix.w2 p.prefix.w3 p.asn) ≡ true =
      ipv6-in-rule p.prefix_length p.max_length (omega arith) (omega arith) p.prefix.w0 p.prefix.w1 p.prefix.w2 p.prefix.w3 p.asn
      ∙ simp (le-leb p.prefix_length p.max_length l.0, le-leb p.max_length 128 l.1) in
      (record-good (announces p.flags) _ r g rule (prefix-loading r.stage (sym (prefixes-alike r.stage) ∙ due)), omega arith)
  deed-good (EndOfData p) r g l due = end-good p r g (session_in r.stage)
  deed-good (CacheReset p) r g l due = (reset-good r g (reset-not-loading r.stage due), omega arith)
  deed-good (RouterKey p) r g l due = (g, omega arith)
  deed-good (ErrorReport p) r g l due = (stop-good 19 _ r g, omega arith)

  -- every PDU whose lengths are in rule keeps the shape, and finishes one update at the most
  pub pdu-good : (pdu : RtrPdu) (r : Receiver) → Good limit r → LengthsInRule pdu → Good limit (on_pdu limit pdu r).then × ((on_pdu limit pdu r).updates ≤ 1)
  pdu-good pdu r g l =
      pdu-by limit r (λ d. Good limit d.then × (d.updates ≤ 1)) pdu (λ _ x. (stop-good 19 x r g, omega arith)) (λ _. (stop-good 14 [] r g, omega arith)) (λ _. (stop-good 13 [] r g, omega arith))
      (λ _ due. deed-good pdu r g l due)
