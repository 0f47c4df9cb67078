-- What stands in the changes: the withdrawals are those of the old table that the new one has not, the announcements the other way round, and
-- each record stands there once or never. By induction over both parts. Assumes nothing.
use Prim.Native.Nat.{ℕ, suc, ◌+◌}
use mathlib.Core.Bool.{Bool, true, false, cond, not, ◌&&◌, false≢true}
use mathlib.Core.List.{List, [], ◌∷◌, ◌++◌, map}
use mathlib.Core.Logic.{◌↔◌}
use mathlib.Core.Path.{◌≡◌, refl, sym, ap, ◌∙◌}
use native.Mathlib.Omega.{arith}
use Rattle.rtr_room.specs.Table.{same, ordered, all_in_rule, is_table, is_in}
use Rattle.rtr_room.specs.declared.Record.{Record}
use Rattle.rtr_room.proofs.Laws.{same-is-equal, in-none, in-next, first-once}
use Rattle.rtr_room.proofs.Laws.Tables.{ordered-tail}
use Rattle.rtr_room.proofs.Laws.Tests.{second-of}
use Rattle.rtr_receiver.specs.History.{Changed}
use Rattle.rtr_changes.specs.Changes.{without, withdraw, announce, changes, withdrawn_by, announced_by, how_often}
use Rattle.rtr_changes.proofs.Without.{in_without, without-table}

-- ---- both parts

none-withdrawn : (b : List Record) → withdrawn_by (map announce b) ≡ []
unfolding withdrawn_by
none-withdrawn [] = refl
none-withdrawn (r ∷ b) = none-withdrawn b

withdrawn-part : (a b : List Record) → withdrawn_by (map withdraw a ++ map announce b) ≡ a
unfolding withdrawn_by
withdrawn-part [] b = none-withdrawn b
withdrawn-part (r ∷ a) b = ap (λ (t : List Record). r ∷ t) (withdrawn-part a b)

all-announced : (b : List Record) → announced_by (map announce b) ≡ b
unfolding announced_by
all-announced [] = refl
all-announced (r ∷ b) = ap (λ (t : List Record). r ∷ t) (all-announced b)

announced-part : (a b : List Record) → announced_by (map withdraw a ++ map announce b) ≡ b
unfolding announced_by
announced-part [] b = all-announced b
announced-part (r ∷ a) b = announced-part a b

pub withdrawn-are : (old new : List Record) → withdrawn_by (changes old new) ≡ without old new
unfolding changes
withdrawn-are old new = withdrawn-part (without old new) (without new old)

pub announced-are : (old new : List Record) → announced_by (changes old new) ≡ without new old
unfolding changes
announced-are old new = announced-part (without old new) (without new old)

-- in one and not in the other
one_side : (p q : Bool) → (p && not q) ≡ true ↔ ((p ≡ true) × (q ≡ false))
one_side true true = (λ e. (refl, sym e), λ x. sym x.1)
one_side true false = (λ e. (refl, refl), λ x. refl)
one_side false q = (λ e. absurd (false≢true e), λ x. x.0)

pub without-exactly : (r : Record) (a b : List Record) → is_in r (without a b) ≡ true ↔ ((is_in r a ≡ true) × (is_in r b ≡ false))
without-exactly r a b = rw (in_without r a b) (one_side (is_in r a) (is_in r b))

-- ---- how often

often-both : (r : Record) (cs ds : List Changed) → how_often r (cs ++ ds) ≡ how_often r cs + how_often r ds
unfolding how_often
often-both r [] ds = omega arith
often-both r (c ∷ cs) ds = go (same c.what r) (often-both r cs ds)
  where
    go : (b : Bool) → how_often r (cs ++ ds) ≡ how_often r cs + how_often r ds
        → cond b (suc (how_often r (cs ++ ds))) (how_often r (cs ++ ds)) ≡ cond b (suc (how_often r cs)) (how_often r cs) + how_often r ds
    go true rest = omega arith
    go false rest = omega arith

-- a record withdrawn or announced
abbrev told : Bool → Record → Changed
told announced r = record { announced = announced; what = r }

-- in an ordered list a record stands once or never
often-one : (announced : Bool) (r : Record) (t : List Record) → ordered t ≡ true → how_often r (map (told announced) t) ≡ cond (is_in r t) 1 0
unfolding how_often
often-one announced r [] h = rw (in-none r)
often-one announced r (x ∷ t) h = go (same x r) refl (often-one announced r t (ordered-tail x t h))
  where
    n : ℕ
    n = how_often r (map (told announced) t)

    go : (b : Bool) → same x r ≡ b → n ≡ cond (is_in r t) 1 0 → cond b (suc n) n ≡ cond (is_in r (x ∷ t)) 1 0
    go true e rest =
        let once : is_in r t ≡ false = ap (λ (y : Record). is_in y t) (sym ((same-is-equal x r).0 e)) ∙ first-once x t h in
        rw (in-next r x t, e) (ap suc (rest ∙ ap (λ (b : Bool). cond b 1 0) once))
    go false e rest = rw (in-next r x t, e) rest

-- each part has a record once exactly where one table alone has it
often-part : (announced : Bool) (r : Record) (a b : List Record) → is_table a ≡ true
    → how_often r (map (told announced) (without a b)) ≡ cond (is_in r a && not (is_in r b)) 1 0
often-part announced r a b h =
    often-one announced r (without a b) (second-of (all_in_rule (without a b)) _ (without-table a b h)) ∙ ap (λ (c : Bool). cond c 1 0) (in_without r a b)

sides : (old new : Bool) → cond (old && not new) 1 0 + cond (new && not old) 1 0 ≡ cond old (cond new 0 1) (cond new 1 0)
sides true true = refl
sides true false = refl
sides false true = refl
sides false false = refl

pub once-or-never : (r : Record) (old new : List Record) → is_table old ≡ true → is_table new ≡ true
    → how_often r (changes old new) ≡ cond (is_in r old) (cond (is_in r new) 0 1) (cond (is_in r new) 1 0)
unfolding changes
once-or-never r old new h k =
    often-both r (map withdraw (without old new)) (map announce (without new old))
    ∙ (λ i. often-part false r old new h i + often-part true r new old k i)
    ∙ sides (is_in r old) (is_in r new)
