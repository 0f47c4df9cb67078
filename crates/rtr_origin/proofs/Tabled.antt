-- The room of a table, as the engine reads it: its records are the table, record i is the table's, and a look-up finds the rank. From the laws
-- of rooms. Assumes nothing.
use Rattle.std.specs.Prelude.{Result, Ok, Err}
use Prim.Native.Nat.{ℕ, ◌*◌, ◌≤◌, ◌<◌}
use mathlib.Core.Bool.{Bool, true, false, cond}
use mathlib.Core.List.{List}
use mathlib.Core.Path.{◌≡◌, sym, ap, ◌∙◌}
use native.Mathlib.Omega.{arith}
use lib.ListN.{length, get_or}
use Rattle.rtr_room.specs.Table.{is_table, ordered, all_in_rule, is_in, rank}
use Rattle.rtr_room.specs.Room.{Found, room, records, record_at, is_room, limit_of, look_up, found}
use Rattle.rtr_room.specs.Room.Found.{stands_at, missing_at}
use Rattle.rtr_room.specs.declared.Record.{Record}
use Rattle.rtr_room.proofs.Laws.{records-of-room, record-of-room, records-length, rules-exactly, rules-size, look-up-is}
use Rattle.rtr_room.proofs.Laws.Tests.{second-of}
use Rattle.rtr_room.proofs.Laws.Ranks.{rank-within}
use Rattle.rtr_room.specs.declared.NotARoom.{NotARoom}
use Rattle.rtr_room.specs.declared.Position.{Position}

module _ (s : List ℕ) (count : ℕ) (h : is_room (limit_of s) count s ≡ true) where
  abbrev t : List Record
  t = records count s

  the-table : (u : List Record) × (is_table u ≡ true) × (length u ≡ count) × (count ≤ limit_of s) × (s ≡ room (limit_of s) u)
  the-table = (rules-exactly (limit_of s) count s).0 h

  read_back : t ≡ the-table.0
  read_back =
      ap (λ (n : ℕ). records n s) (sym the-table.2) ∙ ap (λ (m : List ℕ). records (length the-table.0) m) the-table.4 ∙ records-of-room (limit_of s) the-table.0

  pub table_is : is_table t ≡ true
  table_is = rw read_back the-table.1

  pub length-is : length t ≡ count
  length-is = records-length count s

  pub size : 6 * count ≤ length s
  size = omega (arith, (rules-size (limit_of s) count s h).0, (rules-size (limit_of s) count s h).1)

  pub record_is : (i : ℕ) (d : Record) → i < count → record_at s i ≡ get_or t i d
  record_is i d l =
      ap (λ (m : List ℕ). record_at m i) the-table.4 ∙ record-of-room (limit_of s) the-table.0 i d (omega (arith, the-table.2)) ∙ ap (λ (u : List Record). get_or u i d) (sym read_back)

  pub rank_is : (r : Record) → look_up s count r ≡ cond (is_in r t) (stands_at (rank r t)) (missing_at (rank r t))
  rank_is r =
      ap (λ (m : List ℕ). look_up m count r) the-table.4 ∙ ap (λ (n : ℕ). look_up (room (limit_of s) the-table.0) n r) (sym the-table.2)
      ∙ look-up-is (limit_of s) r the-table.0 (second-of (all_in_rule the-table.0) (ordered the-table.0) the-table.1) (omega (arith, the-table.2, the-table.3))
      ∙ ap (λ (u : List Record). cond (is_in r u) (stands_at (rank r u)) (missing_at (rank r u))) (sym read_back)

  pub rank-inside : (r : Record) → rank r t ≤ count
  rank-inside r = omega (arith, rank-within r t, length-is)

-- what a look-up says is the rank, whether the record is in or not
told_at : (b : Bool) (at n : ℕ) → stands_at at ≡ cond b (stands_at n) (missing_at n) → at ≡ n
told_at true at n e = cc
told_at false at n e = let z : ◌≡◌ {A = ℕ} 0 1 = cc in absurd (omega arith)

told-missing : (b : Bool) (at n : ℕ) → missing_at at ≡ cond b (stands_at n) (missing_at n) → at ≡ n
told-missing true at n e = let z : ◌≡◌ {A = ℕ} 0 1 = cc in absurd (omega arith)
told-missing false at n e = cc

never-refused : (b : Bool) (k n : ℕ) → Found.refused k ≡ cond b (stands_at n) (missing_at n) → ⊥
never-refused true k n e = let z : ◌≡◌ {A = ℕ} 0 1 = cc in omega arith
never-refused false k n e = let z : ◌≡◌ {A = ℕ} 0 1 = cc in omega arith

module _ (s : List ℕ) (count : ℕ) (h : is_room (limit_of s) count s ≡ true) (r : Record) where
  pub ranked-at : (a : Result Position NotARoom) (at : ℕ) → a ≡ Ok (Position.At at) → found a ≡ look_up s count r → (at ≡ rank r (records count s)) × (at ≤ count)
  ranked-at a at e f =
      let k : at ≡ rank r (records count s) = told_at (is_in r (records count s)) at _ (sym (ap found e) ∙ f ∙ rank_is s count h r) in
      (k, omega (arith, rank-inside s count h r))

  pub ranked-missing : (a : Result Position NotARoom) (at : ℕ) → a ≡ Ok (Position.Missing at) → found a ≡ look_up s count r → (at ≡ rank r (records count s)) × (at ≤ count)
  ranked-missing a at e f =
      let k : at ≡ rank r (records count s) = told-missing (is_in r (records count s)) at _ (sym (ap found e) ∙ f ∙ rank_is s count h r) in
      (k, omega (arith, rank-inside s count h r))

  pub ranked-never : (a : Result Position NotARoom) → a ≡ Err (record {}) → found a ≡ look_up s count r → ⊥
  ranked-never a e f = never-refused (is_in r (records count s)) 22 _ (sym (ap found e) ∙ f ∙ rank_is s count h r)
