-- A record is above all in a room exactly where the look-up misses it at the count. Assumes nothing.
use Prim.Native.Nat.{ℕ, suc, ◌≤◌, ◌<◌}
use mathlib.Core.Bool.{Bool, true, false, cond, true≢false}
use mathlib.Core.List.{List, [], ◌∷◌, ◌++◌}
use mathlib.Core.Path.{◌≡◌, refl, sym, ap, ◌∙◌}
use native.Mathlib.Omega.{arith}
use borrow.Author.Tests.{eq-eqb, ne_eqb}
use lib.Dec.{eqb}
use lib.ListN.{length, length-append}
use Rattle.rtr_room.specs.Table.{is_table, all_in_rule, in_rule, ordered, is_in, rank, enter}
use Rattle.rtr_room.specs.Room.{Outcome, room, records, is_room, limit_of, look_up, entered, outcome_of}
use Rattle.rtr_room.specs.Room.Found.{stands_at, missing_at, refused}
use Rattle.rtr_room.specs.declared.Record.{Record}
use Rattle.rtr_room.proofs.Laws.{rules-exactly, rules-size, records-of-room, look-up-is, last-exactly, last-not-in, enter-is, enter-last, changed-is, table-last}
use Rattle.rtr_room.proofs.Laws.Tests.{second-of, unless}

module _ (limit count : ℕ) (s : List ℕ) (r : Record) (rules : is_room limit count s ≡ true) where
  abbrev of : (t : List Record) × (is_table t ≡ true) × (length t ≡ count) × (count ≤ limit) × (s ≡ room limit t)
  of = (rules-exactly limit count s).0 rules

  abbrev t : List Record
  t = of.0

  in_order : ordered t ≡ true
  in_order = second-of (all_in_rule t) _ of.1

  the-records : records count s ≡ t
  the-records = (λ i. records (sym of.2 i) (of.4 i)) ∙ records-of-room limit t

  looked : look_up s count r ≡ cond (is_in r t) (stands_at (rank r t)) (missing_at (rank r t))
  looked = (λ i. look_up (of.4 i) (sym of.2 i) r) ∙ look-up-is limit r t in_order (omega (arith, of.2, of.3))

  ends : ordered (records count s ++ r ∷ []) ≡ ordered (t ++ r ∷ [])
  ends = ap (λ (x : List Record). ordered (x ++ r ∷ [])) the-records

  pub above-missing : (at : ℕ) → missing_at at ≡ look_up s count r → eqb at count ≡ ordered (records count s ++ r ∷ [])
  above-missing at e = go (is_in r t) (e ∙ looked) ∙ sym ends
    where
      by : (b : Bool) → ordered (t ++ r ∷ []) ≡ b → at ≡ rank r t → eqb at count ≡ b
      by true o p = eq-eqb at count (p ∙ (last-exactly r t in_order).0 o ∙ of.2)
      by false o p = ne_eqb at count (λ q. true≢false (sym ((last-exactly r t in_order).1 (sym p ∙ q ∙ sym of.2)) ∙ o))

      go : (b : Bool) → missing_at at ≡ cond b (stands_at (rank r t)) (missing_at (rank r t)) → eqb at count ≡ ordered (t ++ r ∷ [])
      go true p = let z : ◌≡◌ {A = ℕ} 0 1 = cc in absurd (omega arith)
      go false p = by (ordered (t ++ r ∷ [])) refl (cc)

  pub above_at : (at : ℕ) → stands_at at ≡ look_up s count r → false ≡ ordered (records count s ++ r ∷ [])
  above_at at e = sym (ends ∙ unless (ordered (t ++ r ∷ [])) (λ o. go (is_in r t) refl (e ∙ looked) (last-not-in r t o)))
    where
      go : (b : Bool) → is_in r t ≡ b → stands_at at ≡ cond b (stands_at (rank r t)) (missing_at (rank r t)) → is_in r t ≡ false → ⊥
      go true f p q = true≢false (sym f ∙ q)
      go false f p q = let z : ◌≡◌ {A = ℕ} 0 1 = cc in omega arith

  pub never-refused : (n : ℕ) → refused n ≡ look_up s count r → ⊥
  never-refused n e = go (is_in r t) (e ∙ looked)
    where
      go : (b : Bool) → refused n ≡ cond b (stands_at (rank r t)) (missing_at (rank r t)) → ⊥
      go true p = let z : ◌≡◌ {A = ℕ} 0 1 = cc in omega arith
      go false p = let z : ◌≡◌ {A = ℕ} 0 1 = cc in omega arith

-- ---- a record more

module _ (limit count : ℕ) (s : List ℕ) (r : Record) (rules : is_room limit count s ≡ true) where
  -- a room is its records' room
  pub room-is : (is_table (records count s) ≡ true) × (length (records count s) ≡ count) × (s ≡ room limit (records count s))
  room-is =
      let o = (rules-exactly limit count s).0 rules in
      let same : records count s ≡ o.0 = (λ i. records (sym o.2 i) (o.4 i)) ∙ records-of-room limit o.0 in
      (ap (λ (x : List Record). is_table x) same ∙ o.1, ap length same ∙ o.2, o.4 ∙ ap (room limit) (sym same))

  pub enter_behind : ordered (records count s ++ r ∷ []) ≡ true → in_rule r ≡ true → count < limit → (left : List ℕ) → left ≡ (entered s count r).left
      → (is_room limit (suc count) left ≡ true) × (records (suc count) left ≡ records count s ++ r ∷ [])
  enter_behind o i l left e =
      let t : List Record = records count s in
      let is = room-is in
      let more : length (t ++ r ∷ []) ≡ suc count = length-append t (r ∷ []) ∙ omega (arith, is.1) in
      let went : entered s count r ≡ outcome_of limit t (enter limit r t) =
      (λ j. entered (is.2 j) (sym is.1 j) r) ∙ enter-is limit r t (second-of (all_in_rule t) _ is.0) (omega (arith, is.1)) in
      let left_is : left ≡ room limit (t ++ r ∷ []) =
      e ∙ ap (λ (x : Outcome). x.left) (went ∙ ap (outcome_of limit t) (enter-last limit r t o (omega (arith, is.1))) ∙ changed-is limit t (t ++ r ∷ [])) in
      let table : is_table (t ++ r ∷ []) ≡ true = table-last r t is.0 i o in
      ((rules-exactly limit (suc count) left).1 (t ++ r ∷ [], table, more, omega arith, left_is), (λ j. records (sym more j) (left_is j)) ∙ records-of-room limit (t ++ r ∷ []))

-- as long as the limit's size
pub limit_is : (limit count : ℕ) (s : List ℕ) → is_room limit count s ≡ true → limit_of s ≡ limit
limit_is limit count s h = let size = rules-size limit count s h in omega (arith, size.0)
