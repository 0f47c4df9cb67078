-- A room as numbers: six for each record, so the first 6 n numbers are the first n records, and the spare ones are 0. A record in rule has a
-- first number that is not 0, so the zeros behind tell how many records a room has; and numbers that keep the room rules are the room
-- of the records that are read from them. Assumes nothing.
use Rattle.std.specs.Prelude.{Some, None}
use Prim.Native.Nat.{ℕ, zero, suc, ◌+◌, ◌-◌, ◌*◌, ◌<◌, ◌≤◌}
use mathlib.Core.Bool.{true, false≢true}
use mathlib.Core.List.{List, [], ◌∷◌, ◌++◌, append_assoc}
use mathlib.Core.Logic.{◌↔◌}
use mathlib.Core.Path.{◌≡◌, refl, sym, ap, ◌∙◌}
use native.Mathlib.Omega.{arith}
use native.Mathlib.Nat.{mul-div_cancel_left}
use borrow.Author.Tests.{leb-true, eqb-true, le-leb, lt-leb, eq-eqb}
use lib.Dec.{leb, eqb}
use lib.ListN.{length, get_or, take, drop, replicate, length-append, length-drop, length-replicate, take-append-drop}
use lib.Seq.{take_at, drop_at, drop-cons, drop-drop, get_or-drop, length-take-le}
use Rattle.rtr_room.specs.Table.{in_rule, all_in_rule, is_table}
use Rattle.rtr_room.specs.Room.{numbers, flat, room, record_from, record_at, record_found, records, all_zero, is_room, limit_of, copied, copy_says}
use Rattle.rtr_room.specs.declared.Record.{Record}
use Rattle.rtr_room.proofs.Laws.Tests.{first_of, second-of, both}
use Rattle.rtr_room.proofs.Laws.Records.{record_is}
use Rattle.rtr_room.proofs.Laws.Tables.{empty-table}

-- the numbers of a table
pub flat-length : (t : List Record) → length (flat t) ≡ 6 * length t
unfolding flat
flat-length [] = refl
flat-length (r ∷ t) = omega (arith, flat-length t)

pub flat_append : (u v : List Record) → flat (u ++ v) ≡ flat u ++ flat v
unfolding flat
flat_append [] v = refl
flat_append (r ∷ u) v = ap (λ (s : List ℕ). numbers r ++ s) (flat_append u v)

pub flat-split : (i : ℕ) (t : List Record) (s : List ℕ) → flat t ++ s ≡ flat (take i t) ++ (flat (drop i t) ++ s)
flat-split i t s =
    ap (λ (u : List Record). flat u ++ s) (sym (take-append-drop i t))
    ∙ ap (λ (n : List ℕ). n ++ s) (flat_append (take i t) (drop i t))
    ∙ append_assoc (flat (take i t)) (flat (drop i t)) s

taken-length : (i : ℕ) (t : List Record) → i ≤ length t → length (flat (take i t)) ≡ 6 * i
taken-length i t h = flat-length (take i t) ∙ ap (λ (n : ℕ). 6 * n) (length-take-le i t h)

pub take-flat : (i : ℕ) (t : List Record) (s : List ℕ) → i ≤ length t → take (6 * i) (flat t ++ s) ≡ flat (take i t)
take-flat i t s h = ap (take (6 * i)) (flat-split i t s) ∙ take_at (flat (take i t)) _ (6 * i) (taken-length i t h)

pub drop-flat : (i : ℕ) (t : List Record) (s : List ℕ) → i ≤ length t → drop (6 * i) (flat t ++ s) ≡ flat (drop i t) ++ s
drop-flat i t s h = ap (drop (6 * i)) (flat-split i t s) ∙ drop_at (flat (take i t)) _ (6 * i) (taken-length i t h)

pub room-length : (limit : ℕ) (t : List Record) → length t ≤ limit → length (room limit t) ≡ 6 * limit
unfolding room
room-length limit t h =
    omega
    (arith, length-append (flat t) (replicate (6 * limit - 6 * length t) 0), flat-length t, length-replicate {A = ℕ} (6 * limit - 6 * length t) 0)

pub room-limit : (limit : ℕ) (t : List Record) → length t ≤ limit → limit_of (room limit t) ≡ limit
room-limit limit t h = rw (room-length limit t h) (mul-div_cancel_left limit (omega arith))

-- the records of numbers
records-of-flat : (t : List Record) (s : List ℕ) → records (length t) (flat t ++ s) ≡ t
unfolding records flat
records-of-flat [] s = refl
records-of-flat (r ∷ t) s = ap (λ (u : List Record). r ∷ u) (records-of-flat t s)

pub records-of-room : (limit : ℕ) (t : List Record) → records (length t) (room limit t) ≡ t
unfolding room
records-of-room limit t = records-of-flat t _

pub records-length : (n : ℕ) (s : List ℕ) → length (records n s) ≡ n
unfolding records
records-length zero s = refl
records-length (suc n) s = ap suc (records-length n (drop 6 s))

-- a record from a place on is the first one of what stands from there on
pub from-drop : (s : List ℕ) (at : ℕ) → record_from s at ≡ record_from (drop at s) 0
from-drop s at =
    record_is _ _
    (sym (get_or-drop at s 0 0 ∙ ap (λ (n : ℕ). get_or s n 0) (omega arith)))
    (sym (get_or-drop at s 1 0))
    (sym (get_or-drop at s 2 0))
    (sym (get_or-drop at s 3 0))
    (sym (get_or-drop at s 4 0))
    (sym (get_or-drop at s 5 0))

pub record-of-room : (limit : ℕ) (t : List Record) (i : ℕ) (d : Record) → i < length t → record_at (room limit t) i ≡ get_or t i d
unfolding record_at room flat
record-of-room limit t i d h =
    from-drop (room limit t) (6 * i)
    ∙ ap (λ (s : List ℕ). record_from s 0) (drop-flat i t _ (omega arith))
    ∙ ap (λ (u : List Record). record_from (flat u ++ replicate (6 * limit - 6 * length t) 0) 0) (drop-cons t i d h)

-- record i + 1 is record i of what stands behind the first
record-later : (s : List ℕ) (i : ℕ) → record_at (drop 6 s) i ≡ record_at s (suc i)
unfolding record_at
record-later s i =
    let six : 6 + 6 * i ≡ 6 * suc i = omega arith in
    from-drop (drop 6 s) (6 * i)
    ∙ ap (λ (l : List ℕ). record_from l 0) (drop-drop (6 * i) 6 s ∙ ap (λ (n : ℕ). drop n s) six)
    ∙ sym (from-drop s (6 * suc i))

pub records-next : (i : ℕ) (s : List ℕ) → records (suc i) s ≡ records i s ++ record_at s i ∷ []
unfolding records record_at
records-next zero s = refl
records-next (suc i) s =
    ap (λ (t : List Record). record_from s 0 ∷ t)
    (records-next i (drop 6 s) ∙ ap (λ (r : Record). records i (drop 6 s) ++ r ∷ []) (record-later s i))

pub found_inside : (s : List ℕ) (i : ℕ) → 6 * i + 6 ≤ length s → record_found s i ≡ Some (record_at s i)
unfolding record_found
found_inside s i h = simp (le-leb (6 * i + 6) (length s) h)

pub found-outside : (s : List ℕ) (i : ℕ) → length s < 6 * i + 6 → record_found s i ≡ None
unfolding record_found
found-outside s i h = simp (lt-leb (6 * i + 6) (length s) h)

-- numbers that begin with n records begin with their numbers
pub flat-records : (n : ℕ) (s : List ℕ) → 6 * n ≤ length s → flat (records n s) ≡ take (6 * n) s
unfolding records flat
flat-records zero s h = refl
flat-records (suc n) [] h = absurd (omega arith)
flat-records (suc n) (a ∷ []) h = absurd (omega arith)
flat-records (suc n) (a ∷ b ∷ []) h = absurd (omega arith)
flat-records (suc n) (a ∷ b ∷ c ∷ []) h = absurd (omega arith)
flat-records (suc n) (a ∷ b ∷ c ∷ d ∷ []) h = absurd (omega arith)
flat-records (suc n) (a ∷ b ∷ c ∷ d ∷ e ∷ []) h = absurd (omega arith)
flat-records (suc n) (a ∷ b ∷ c ∷ d ∷ e ∷ f ∷ s) h =
    let six : 6 * suc n ≡ suc (suc (suc (suc (suc (suc (6 * n)))))) = omega arith in
    rw six (ap (λ (r : List ℕ). a ∷ b ∷ c ∷ d ∷ e ∷ f ∷ r) (flat-records n s (omega arith)))

-- zeros
zeros-are-zero : (n : ℕ) → all_zero (replicate n 0) ≡ true
unfolding all_zero
zeros-are-zero zero = refl
zeros-are-zero (suc n) = zeros-are-zero n

zeros-only : (s : List ℕ) → all_zero s ≡ true → s ≡ replicate (length s) 0
unfolding all_zero
zeros-only [] h = refl
zeros-only (x ∷ s) h =
    let p : x ≡ 0 = eqb-true x 0 (first_of _ _ h) in
    let q : s ≡ replicate (length s) 0 = zeros-only s (second-of (eqb x 0) _ h) in
    rw p (ap (λ (r : List ℕ). 0 ∷ r) q)

-- a record in rule has a first number that is not 0
pub in-rule-not-zero : (r : Record) → in_rule r ≡ true → r.kind ≡ 0 → ⊥
unfolding in_rule
in-rule-not-zero r h z = false≢true (rw z at h)

in-rule-first : (r : Record) (t : List Record) → all_in_rule (r ∷ t) ≡ true → in_rule r ≡ true
unfolding all_in_rule
in-rule-first r t h = first_of _ _ h

in-rule-rest : (r : Record) (t : List Record) → all_in_rule (r ∷ t) ≡ true → all_in_rule t ≡ true
unfolding all_in_rule
in-rule-rest r t h = second-of (in_rule r) _ h

not_zeros : (m : ℕ) (r : Record) (s : List ℕ) → in_rule r ≡ true → replicate m 0 ≡ numbers r ++ s → ⊥
not_zeros zero r s h e = let z : ◌≡◌ {A = ℕ} 0 1 = cc in omega arith
not_zeros (suc m) r s h e = in-rule-not-zero r h (cc)

flat-determines : (t u : List Record) (m n : ℕ) → all_in_rule t ≡ true → all_in_rule u ≡ true → flat t ++ replicate m 0 ≡ flat u ++ replicate n 0 → t ≡ u
unfolding flat
flat-determines [] [] m n h k e = refl
flat-determines [] (y ∷ u) m n h k e = absurd (not_zeros m y (flat u ++ replicate n 0) (in-rule-first y u k) e)
flat-determines (x ∷ t) [] m n h k e = absurd (not_zeros n x (flat t ++ replicate m 0) (in-rule-first x t h) (sym e))
flat-determines (x ∷ t) (y ∷ u) m n h k e =
    let p : x ≡ y = record_is x y (cc) (cc) (cc) (cc) (cc) (cc) in
    let q : t ≡ u = flat-determines t u m n (in-rule-rest x t h) (in-rule-rest y u k) (cc) in
    cc

pub room-determines : (limit : ℕ) (t u : List Record) → is_table t ≡ true → is_table u ≡ true → room limit t ≡ room limit u → t ≡ u
unfolding room
room-determines limit t u h k e = flat-determines t u (6 * limit - 6 * length t) (6 * limit - 6 * length u) (first_of _ _ h) (first_of _ _ k) e

-- the rules hold of numbers exactly where they are a table's room
abbrev RoomOf : ℕ → ℕ → List ℕ → Type 0
RoomOf limit count s = (t : List Record) × (is_table t ≡ true) × (length t ≡ count) × (count ≤ limit) × (s ≡ room limit t)

rules-read : (limit count : ℕ) (s : List ℕ) → is_room limit count s ≡ true → RoomOf limit count s
unfolding is_room room
rules-read limit count s h =
    let size : length s ≡ 6 * limit = eqb-true _ _ (first_of _ _ h) in
    let h1 : _ ≡ true = second-of (eqb (length s) (6 * limit)) _ h in
    let few : count ≤ limit = leb-true _ _ (first_of _ _ h1) in
    let h2 : _ ≡ true = second-of (leb count limit) _ h1 in
    let table : is_table (records count s) ≡ true = first_of _ _ h2 in
    let spare : all_zero (drop (6 * count) s) ≡ true = second-of (is_table (records count s)) _ h2 in
    let front : flat (records count s) ≡ take (6 * count) s = flat-records count s (omega arith) in
    let back : drop (6 * count) s ≡ replicate (length (drop (6 * count) s)) 0 = zeros-only _ spare in
    let many : length (drop (6 * count) s) ≡ 6 * limit - 6 * length (records count s) = omega (arith, length-drop (6 * count) s, records-length count s) in
    (records count s, table, records-length count s, few, sym (take-append-drop (6 * count) s) ∙ cc)

-- what keeps the rules has six numbers for each record of its limit, and no more records than the limit
pub rules-size : (limit count : ℕ) (s : List ℕ) → is_room limit count s ≡ true → (length s ≡ 6 * limit) × (count ≤ limit)
unfolding is_room
rules-size limit count s h = (eqb-true _ _ (first_of _ _ h), leb-true _ _ (first_of _ _ (second-of (eqb (length s) (6 * limit)) _ h)))

room-spare : (limit : ℕ) (t : List Record) → all_zero (drop (6 * length t) (room limit t)) ≡ true
unfolding room
room-spare limit t = rw (drop_at (flat t) (replicate (6 * limit - 6 * length t) 0) (6 * length t) (flat-length t)) (zeros-are-zero (6 * limit - 6 * length t))

pub rules-met : (limit : ℕ) (t : List Record) → is_table t ≡ true → length t ≤ limit → is_room limit (length t) (room limit t) ≡ true
unfolding is_room
rules-met limit t h l =
    both _ _ (eq-eqb _ _ (room-length limit t l))
    (both _ _ (le-leb _ _ l) (both (is_table (records (length t) (room limit t))) _ (rw (records-of-room limit t) h) (room-spare limit t)))

pub rules-exactly : (limit count : ℕ) (s : List ℕ) → is_room limit count s ≡ true ↔ RoomOf limit count s
rules-exactly limit count s = (rules-read limit count s, λ m. rw (m.4, ← m.2) (rules-met limit m.0 m.1 (omega (arith, m.2, m.3))))

-- the empty room
empty-room : (limit : ℕ) → replicate (6 * limit) 0 ≡ room limit []
unfolding room flat
empty-room limit = let e : 6 * limit - 6 * 0 ≡ 6 * limit = omega arith in rw e

pub empty-is : (limit : ℕ) → (replicate (6 * limit) 0 ≡ room limit []) × (is_room limit 0 (replicate (6 * limit) 0) ≡ true)
empty-is limit = let e : replicate (6 * limit) 0 ≡ room limit [] = empty-room limit in (e, rw e (rules-met limit [] (empty-table) (omega arith)))

-- a room over numbers of its size
pub copy-over : (limit : ℕ) (t : List Record) (s : List ℕ) → length t ≤ limit → length s ≡ 6 * limit → (copied (room limit t) s ≡ room limit t) × (copy_says (room limit t) s ≡ 0)
unfolding copied
copy-over limit t s h e = rw (eq-eqb (length (room limit t)) (length s) (room-length limit t h ∙ sym e)) (refl, refl)
