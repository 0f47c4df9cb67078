-- The two loops of the rules' test. Over the records: the last record read and those behind it are a table exactly where the whole is, as long
-- as each record read was in rule and before the next; the first that is not decides. Over the spare numbers: their bits are put together, and
-- those are none exactly where each number is 0. Assumes nothing.
use Prim.Native.Nat.{ℕ, zero, suc, ◌+◌, ◌-◌, ◌*◌, ◌≤◌, ◌<◌}
use mathlib.Core.Bool.{true, false, ◌&&◌, and-false, and-true, and_assoc}
use mathlib.Core.List.{List, [], ◌∷◌}
use mathlib.Core.Path.{◌≡◌, refl, sym, ap, ◌∙◌}
use native.Mathlib.Nat.{suc-ne-zero}
use native.Mathlib.Numerals.{add-one}
use native.Mathlib.Omega.{arith}
use lib.Bits.{bit_or, or_add_and, and_le_r}
use lib.Dec.{eqb}
use lib.ListN.{length, drop, get_or, drop_of_length-le}
use lib.Seq.{drop-cons, drop-drop}
use borrow.Author.Tests.{ne_eqb}
use Rattle.rtr_room.specs.Table.{before, in_rule, is_table, all_in_rule, ordered}
use Rattle.rtr_room.specs.Room.{record_at, records, all_zero}
use Rattle.rtr_room.specs.declared.Record.{Record}
use Rattle.rtr_room.proofs.Laws.Tables.{empty-table}
use Rattle.rtr_room.proofs.Laws.Rooms.{from-drop}

-- ---- records

-- the first of the records from number 6 i on is record i
records-more : (n i : ℕ) (s : List ℕ) → records (suc n) (drop (6 * i) s) ≡ record_at s i ∷ records n (drop (6 * (i + 1)) s)
unfolding records record_at
records-more n i s =
    let k : 6 * i + 6 ≡ 6 * (i + 1) = omega arith in
    let t : drop 6 (drop (6 * i) s) ≡ drop (6 * (i + 1)) s = drop-drop 6 (6 * i) s ∙ ap (λ (m : ℕ). drop m s) k in
    cc (from-drop s (6 * i), t)

records-next : (count i : ℕ) (s : List ℕ) → i < count
    → records (count - i) (drop (6 * i) s) ≡ record_at s i ∷ records (count - (i + 1)) (drop (6 * (i + 1)) s)
records-next count i s h =
    let n : count - i ≡ suc (count - (i + 1)) = omega arith in
    ap (λ (k : ℕ). records k (drop (6 * i) s)) n ∙ records-more (count - (i + 1)) i s

no-records : (count i : ℕ) (s : List ℕ) → count ≤ i → records (count - i) s ≡ []
unfolding records
no-records count i s h = let n : count - i ≡ 0 = omega arith in ap (λ (k : ℕ). records k s) n

-- ---- tables

one-alone : (r : Record) → in_rule r ≡ true → is_table (r ∷ []) ≡ true
unfolding all_in_rule ordered
one-alone r e = rw e

pub first-breaks : (r : Record) (t : List Record) → in_rule r ≡ false → is_table (r ∷ t) ≡ false
unfolding all_in_rule
first-breaks r t e = rw e

module _ (r x : Record) (t : List Record) (e : in_rule r ≡ true) where
  next-breaks : in_rule x ≡ false → is_table (r ∷ x ∷ t) ≡ false
  unfolding all_in_rule
  next-breaks f = rw (e, f)

  order-breaks : before r x ≡ false → is_table (r ∷ x ∷ t) ≡ false
  unfolding ordered
  order-breaks f = rw f (and-false (all_in_rule (r ∷ x ∷ t)))

  next-holds : before r x ≡ true → is_table (r ∷ x ∷ t) ≡ is_table (x ∷ t)
  unfolding all_in_rule ordered
  next-holds f = rw (e, f)

-- ---- the loop over the records

module _ (s : List ℕ) (count : ℕ) where
  pub no_table : count ≡ 0 → true ≡ is_table (records count s)
  unfolding records
  no_table e = rw e (sym empty-table)

  pub starts : 0 < count → is_table (record_at s 0 ∷ records (count - 1) (drop (6 * 1) s)) ≡ is_table (records count s)
  starts h =
      let n : count - 0 ≡ count = omega arith in
      sym (ap is_table (ap (λ (k : ℕ). records k s) (sym n) ∙ records-next count 0 s h))

  module _ (last : Record) (i : ℕ) (so : is_table (last ∷ records (count - i) (drop (6 * i) s)) ≡ is_table (records count s)) (good : in_rule last ≡ true) where
    pub ends : count ≤ i → true ≡ is_table (records count s)
    ends h =
        sym (one-alone last good)
        ∙ ap (λ (t : List Record). is_table (last ∷ t)) (sym (no-records count i (drop (6 * i) s) h))
        ∙ so

    module _ (x : Record) (h : i < count) (m : x ≡ record_at s i) where
      here : is_table (last ∷ x ∷ records (count - (i + 1)) (drop (6 * (i + 1)) s)) ≡ is_table (records count s)
      here =
          ap (λ (t : List Record). is_table (last ∷ t))
          (ap (λ (r : Record). r ∷ records (count - (i + 1)) (drop (6 * (i + 1)) s)) m ∙ sym (records-next count i s h))
          ∙ so

      pub next-refused : in_rule x ≡ false → false ≡ is_table (records count s)
      next-refused f = sym (next-breaks last x _ good f) ∙ here

      pub order-refused : before last x ≡ false → false ≡ is_table (records count s)
      order-refused f = sym (order-breaks last x _ good f) ∙ here

      pub goes_on : before last x ≡ true → is_table (x ∷ records (count - (i + 1)) (drop (6 * (i + 1)) s)) ≡ is_table (records count s)
      goes_on f = sym (next-holds last x _ good f) ∙ here

-- ---- zeros

-- the bits of two numbers together are none exactly where both are 0
together : (a b : ℕ) → eqb (bit_or a b) 0 ≡ (eqb a 0 && eqb b 0)
together zero b = refl
together (suc a) b = rw (ne_eqb (suc a) 0 (suc-ne-zero a)) (ne_eqb (bit_or (suc a) b) 0 (λ e. omega (arith, or_add_and (suc a) b, and_le_r (suc a) b, e)))

module _ (s : List ℕ) (i bits : ℕ) where
  pub zero_turn : i < length s → (eqb bits 0 && all_zero (drop i s)) ≡ (eqb (bit_or bits (get_or s i 0)) 0 && all_zero (drop (i + 1) s))
  unfolding all_zero
  zero_turn h = rw (drop-cons s i 0 h, add-one i, together bits (get_or s i 0)) (sym (and_assoc (eqb bits 0) (eqb (get_or s i 0) 0) (all_zero (drop (suc i) s))))

  pub zero-end : length s ≤ i → (eqb bits 0 && all_zero (drop i s)) ≡ eqb bits 0
  unfolding all_zero
  zero-end h = rw (drop_of_length-le s {i = i} h) (and-true (eqb bits 0))

-- ---- what the goals of the two loops are proved by

pub ruleset record_turns = (no_table, first-breaks, starts, ends, next-refused, order-refused, goes_on)

pub ruleset zero_turns = (zero_turn, zero-end)
