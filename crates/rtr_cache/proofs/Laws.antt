-- What a run is made of, which rooms are lent, and what the calls come to. Assumes nothing.
use Prim.Native.Nat.{ℕ, ◌≤◌}
use mathlib.Core.Bool.{Bool, true, false, cond, ◌&&◌, and-false}
use mathlib.Core.List.{List, [], ◌∷◌, ◌++◌, map}
use mathlib.Core.Logic.{◌↔◌, ◌⊎◌, inl, inr}
use mathlib.Core.Path.{◌≡◌, refl, sym, ap, ◌∙◌, subst}
use native.Mathlib.Omega.{arith}
use borrow.Author.Tests.{eq-eqb, eqb-true}
use lib.ListN.{length, drop}
use Rattle.rtr_models.specs.declared.RtrProtocolVersion.{RtrProtocolVersion}
use Rattle.rtr_encode.specs.Encode.Writing.{written}
use Rattle.rtr_room.specs.Table.{is_table}
use Rattle.rtr_room.specs.Room.{room, records, is_room, limit_of}
use Rattle.rtr_room.specs.declared.Record.{Record}
use Rattle.rtr_room.proofs.Laws.{records-none, rules-exactly, rules-size}
use Rattle.rtr_room.proofs.Laws.Tests.{first_of, second-of, both}
use Rattle.rtr_receiver.specs.History.{Changed}
use Rattle.rtr_receiver.specs.Promises.{record_limit, is_limit}
use Rattle.rtr_receiver.specs.declared.LoadKind.{LoadKind}
use Rattle.rtr_receiver.specs.declared.Table.{Table}
use Rattle.rtr_listing.specs.Promises.{puts}
use Rattle.rtr_listing.proofs.Laws.{written_is}
use Rattle.rtr_changes.specs.Changes.{without, withdraw, announce}
use Rattle.rtr_changes.proofs.Laws.{changes-are, changes-of-same, changes-from-none}
use Rattle.rtr_cache.specs.Cache.{sent_response, sent_prefix, sent_end, run_pdus, run_bytes, is_lent, not_lent, full_run_says, change_run_says}

-- a full run is the change run from nothing, whatever was before
pub full-is-change-from-none : (v : RtrProtocolVersion) (end : Table) (first second : List Record) → run_bytes LoadKind.Full v end first second ≡ run_bytes LoadKind.Change v end [] second
unfolding run_bytes run_pdus
full-is-change-from-none v end first second = refl

-- a full run: Cache Response, each record announced in table order, End of Data
pub full-pdus : (v : RtrProtocolVersion) (end : Table) (first second : List Record)
    → run_pdus LoadKind.Full v end first second ≡ sent_response v end.session ∷ (map (sent_prefix v) (map announce second) ++ sent_end v end ∷ [])
unfolding run_pdus
full-pdus v end first second = ap (λ (cs : List Changed). sent_response v end.session ∷ (map (sent_prefix v) cs ++ sent_end v end ∷ [])) (changes-from-none second)

-- a change run: between these what the first table alone has is withdrawn, and then what the second alone has is announced, each in table order
pub change-pdus : (v : RtrProtocolVersion) (end : Table) (first second : List Record)
    → run_pdus LoadKind.Change v end first second
    ≡ sent_response v end.session ∷ (map (sent_prefix v) (map withdraw (without first second) ++ map announce (without second first)) ++ sent_end v end ∷ [])
unfolding run_pdus
change-pdus v end first second = ap (λ (cs : List Changed). sent_response v end.session ∷ (map (sent_prefix v) cs ++ sent_end v end ∷ [])) (changes-are first second)

-- from a table to itself nothing stands between them
pub same_tables : (v : RtrProtocolVersion) (end : Table) (t : List Record) → run_pdus LoadKind.Change v end t t ≡ sent_response v end.session ∷ sent_end v end ∷ []
unfolding run_pdus
same_tables v end t = ap (λ (cs : List Changed). sent_response v end.session ∷ (map (sent_prefix v) cs ++ sent_end v end ∷ [])) (changes-of-same t)

-- ---- rooms that are lent

same_bool : (a b : Bool) → (a ≡ true → b ≡ true) → (b ≡ true → a ≡ true) → a ≡ b
same_bool true b f g = sym (f refl)
same_bool false true f g = g refl
same_bool false false f g = refl

module _ (count : ℕ) (numbers : List ℕ) where
  lent_by : limit_of numbers ≡ record_limit → is_room record_limit count numbers ≡ true → is_lent count numbers ≡ true
  unfolding is_lent
  lent_by limit rules =
      both (is_limit (limit_of numbers)) (is_room (limit_of numbers) count numbers) (eq-eqb (limit_of numbers) record_limit limit) (subst (λ (n : ℕ). is_room n count numbers ≡ true) (sym limit) rules)

  -- of the one limit that a receiver may have, and by the room rules of their own size
  pub lent-rules : is_lent count numbers ≡ true → (limit_of numbers ≡ record_limit) × (is_room (limit_of numbers) count numbers ≡ true)
  unfolding is_lent
  lent-rules e =
      let rules = is_room (limit_of numbers) count numbers in
      (eqb-true (limit_of numbers) record_limit (first_of (is_limit (limit_of numbers)) rules e), second-of (is_limit (limit_of numbers)) rules e)

  -- so the count is within the limit
  pub lent-within : is_lent count numbers ≡ true → count ≤ record_limit
  lent-within e = let rules = lent-rules e in omega (arith, rules.0, (rules-size (limit_of numbers) count numbers rules.1).1)

  -- the room rules at that limit
  pub lent-is-room : is_lent count numbers ≡ is_room record_limit count numbers
  lent-is-room = same_bool (is_lent count numbers) (is_room record_limit count numbers) there back
    where
      there : is_lent count numbers ≡ true → is_room record_limit count numbers ≡ true
      there e = let rules = lent-rules e in subst (λ (limit : ℕ). is_room limit count numbers ≡ true) rules.0 rules.1

      back : is_room record_limit count numbers ≡ true → is_lent count numbers ≡ true
      back e = lent_by (omega (arith, (rules-size record_limit count numbers e).0)) e

  -- exactly the rooms of tables within that limit
  pub lent-exactly : is_lent count numbers ≡ true ↔ ((t : List Record) × (is_table t ≡ true) × (length t ≡ count) × (count ≤ record_limit) × (numbers ≡ room record_limit t))
  lent-exactly = let exactly = rules-exactly record_limit count numbers in (λ e. exactly.0 (sym lent-is-room ∙ e), λ x. lent-is-room ∙ exactly.1 x)

-- ---- the calls

module _ (v : RtrProtocolVersion) (end : Table) (numbers : List ℕ) (count : ℕ) (out : List ℕ) where
  abbrev full_run : List ℕ
  full_run = run_bytes LoadKind.Full v end [] (records count numbers)

  -- what is not lent is refused by 22, and all of the output stays
  pub full-refused : is_lent count numbers ≡ false → full_run_says v end numbers count out ≡ not_lent out
  unfolding full_run_says
  full-refused e = simp e

  -- else its run is put
  pub full-lent : is_lent count numbers ≡ true → full_run_says v end numbers count out ≡ puts full_run out
  unfolding full_run_says
  full-lent e = simp e

  -- what fits is at the front, and what stood behind it stays
  pub full-written : is_lent count numbers ≡ true → length full_run ≤ length out
      → full_run_says v end numbers count out ≡ record { says = written (length full_run); out = full_run ++ drop (length full_run) out }
  full-written e h = full-lent e ∙ written_is full_run out h

module _ (v : RtrProtocolVersion) (end : Table) (first : List ℕ) (first_count : ℕ) (second : List ℕ) (second_count : ℕ) (out : List ℕ) where
  abbrev change_run : List ℕ
  change_run = run_bytes LoadKind.Change v end (records first_count first) (records second_count second)

  -- both have to be lent
  pub change-refused : (is_lent first_count first ≡ false) ⊎ (is_lent second_count second ≡ false) → change_run_says v end first first_count second second_count out ≡ not_lent out
  unfolding change_run_says
  change-refused (inl p) = simp p
  change-refused (inr q) = simp (q, and-false)

  pub change-lent : is_lent first_count first ≡ true → is_lent second_count second ≡ true → change_run_says v end first first_count second second_count out ≡ puts change_run out
  unfolding change_run_says
  change-lent p q = simp (p, q)

  pub change-written : is_lent first_count first ≡ true → is_lent second_count second ≡ true → length change_run ≤ length out
      → change_run_says v end first first_count second second_count out ≡ record { says = written (length change_run); out = change_run ++ drop (length change_run) out }
  change-written p q h = change-lent p q ∙ written_is change_run out h

-- a change from a lent room of no records is the full run
pub change-from-none : (v : RtrProtocolVersion) (end : Table) (first second : List ℕ) (count : ℕ) (out : List ℕ) → is_lent 0 first ≡ true
    → change_run_says v end first 0 second count out ≡ full_run_says v end second count out
unfolding change_run_says full_run_says
change-from-none v end first second count out e =
    (λ i. cond (e i && is_lent count second) (puts (run_bytes LoadKind.Change v end (records-none first i) (records count second)) out) (not_lent out))
    ∙ ap (λ (run : List ℕ). cond (is_lent count second) (puts run out) (not_lent out)) (sym (full-is-change-from-none v end [] (records count second)))
