-- A call on any numbers that keep the room rules leaves numbers that keep them, with the count that it says: such numbers are a table's room,
-- on which the call is `enter` or `leave`, and these keep the table's rules. A refusal leaves the numbers as they were, whatever they
-- are. Assumes nothing.
use Prim.Native.Nat.{ℕ, suc, ◌+◌, ◌-◌, ◌≤◌}
use mathlib.Core.Bool.{Bool, true, false, cond}
use mathlib.Core.List.{List}
use mathlib.Core.Path.{◌≡◌, refl, ap, ap₂, ◌∙◌}
use native.Mathlib.Omega.{arith}
use lib.Dec.{leb, eqb}
use lib.ListN.{length}
use Rattle.rtr_room.specs.Table.{in_rule, all_in_rule, is_table, Change, enter, leave}
use Rattle.rtr_room.specs.Table.Change.{changed}
use Rattle.rtr_room.specs.Room.{room, is_room, limit_of, place, stands, put_in, take_out, Outcome, keeps, entered, gone, outcome_of}
use Rattle.rtr_room.specs.Room.Said.{counted, refused_by}
use Rattle.rtr_room.specs.declared.Record.{Record}
use Rattle.rtr_room.proofs.Laws.Tests.{second-of}
use Rattle.rtr_room.proofs.Laws.Tables.{enter-keeps, leave-keeps}
use Rattle.rtr_room.proofs.Laws.Rooms.{rules-exactly, rules-met}
use Rattle.rtr_room.proofs.Laws.Moves.{enter-is, leave-is}

-- a change that is said to count n leaves a table of n records
said-changed : (limit n : ℕ) (t : List Record) (c : Change) → (outcome_of limit t c).says ≡ counted n → (t' : List Record) × (c ≡ changed t') × (n ≡ length t') × ((outcome_of limit t c).left ≡ room limit t')
unfolding outcome_of
said-changed limit n t (changed t') e = (t', refl, (cc), refl)
said-changed limit n t (Change.refused k) e = let z : ◌≡◌ {A = ℕ} 0 1 = cc in absurd (omega arith)

enter-on : (limit count : ℕ) (s : List ℕ) (r : Record) (t : List Record) → is_table t ≡ true → length t ≡ count → count ≤ limit → s ≡ room limit t → entered s count r ≡ outcome_of limit t (enter limit r t)
enter-on limit count s r t h n l e = rw (e, ← n) (enter-is limit r t (second-of (all_in_rule t) _ h) (omega arith))

leave-on : (limit count : ℕ) (s : List ℕ) (r : Record) (t : List Record) → is_table t ≡ true → length t ≡ count → count ≤ limit → s ≡ room limit t → gone s count r ≡ outcome_of limit t (leave r t)
leave-on limit count s r t h n l e = rw (e, ← n) (leave-is limit r t (second-of (all_in_rule t) _ h) (omega arith))

pub enter-keeps-room : (limit count n : ℕ) (s : List ℕ) (r : Record) → is_room limit count s ≡ true → in_rule r ≡ true → (entered s count r).says ≡ counted n → (n ≡ suc count) × (is_room limit n (entered s count r).left ≡ true)
enter-keeps-room limit count n s r h i e =
    let m : _ = (rules-exactly limit count s).0 h in
    let o : entered s count r ≡ outcome_of limit m.0 (enter limit r m.0) = enter-on limit count s r m.0 m.1 m.2 m.3 m.4 in
    let f : _ = said-changed limit n m.0 (enter limit r m.0) (rw o at e) in
    let k : _ = enter-keeps limit r m.0 f.0 m.1 i f.1 in
    (omega (arith, f.2, k.1, m.2), ap (λ (o : Outcome). is_room limit n o.left) o ∙ ap₂ (is_room limit) f.2 f.3 ∙ rules-met limit f.0 k.0 k.2)

pub leave-keeps-room : (limit count n : ℕ) (s : List ℕ) (r : Record) → is_room limit count s ≡ true → (gone s count r).says ≡ counted n → (suc n ≡ count) × (is_room limit n (gone s count r).left ≡ true)
leave-keeps-room limit count n s r h e =
    let m : _ = (rules-exactly limit count s).0 h in
    let o : gone s count r ≡ outcome_of limit m.0 (leave r m.0) = leave-on limit count s r m.0 m.1 m.2 m.3 m.4 in
    let f : _ = said-changed limit n m.0 (leave r m.0) (rw o at e) in
    let k : _ = leave-keeps r m.0 f.0 m.1 f.1 in
    (omega (arith, f.2, k.1, m.2), ap (λ (o : Outcome). is_room limit n o.left) o ∙ ap₂ (is_room limit) f.2 f.3 ∙ rules-met limit f.0 k.0 (omega (arith, k.1, m.2, m.3)))

pub enter-refused-keeps : (count n : ℕ) (s : List ℕ) (r : Record) → (entered s count r).says ≡ refused_by n → (entered s count r).left ≡ s
unfolding entered
enter-refused-keeps count n s r e = go (leb count (limit_of s)) (stands s count r) (eqb count (limit_of s)) e
  where
    out : Bool → Bool → Bool → Outcome
    out a b c = cond a (cond b (keeps 17 s) (cond c (keeps 18 s) (record { says = counted (count + 1); left = put_in (place s count r) r count s }))) (keeps 22 s)

    go : (a b c : Bool) → (out a b c).says ≡ refused_by n → (out a b c).left ≡ s
    go false b c e = refl
    go true true c e = refl
    go true false true e = refl
    go true false false e = let z : ◌≡◌ {A = ℕ} 0 1 = cc in absurd (omega arith)

pub leave-refused-keeps : (count n : ℕ) (s : List ℕ) (r : Record) → (gone s count r).says ≡ refused_by n → (gone s count r).left ≡ s
unfolding gone
leave-refused-keeps count n s r e = go (leb count (limit_of s)) (stands s count r) e
  where
    out : Bool → Bool → Outcome
    out a b = cond a (cond b (record { says = counted (count - 1); left = take_out (place s count r) count s }) (keeps 16 s)) (keeps 22 s)

    go : (a b : Bool) → (out a b).says ≡ refused_by n → (out a b).left ≡ s
    go false b e = refl
    go true true e = let z : ◌≡◌ {A = ℕ} 0 1 = cc in absurd (omega arith)
    go true false e = refl
