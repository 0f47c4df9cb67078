-- The changes apply: each withdrawal finds its record, since it is in the old table and none before it was the same; each announcement is new, and
-- there is room for it, since what is there so far is inside the new table, which has that record more (`inside-is-shorter`). What is left has the
-- members of the new table, so it is that table. Assumes nothing.
use Prim.Native.Nat.{ℕ, ◌≤◌, ◌<◌}
use mathlib.Core.Bool.{Bool, true, false, not, ◌&&◌, ◌||◌, true≢false, and-true}
use mathlib.Core.List.{List, [], ◌∷◌, ◌++◌, map}
use mathlib.Core.Path.{◌≡◌, refl, sym, ap, ◌∙◌, subst}
use native.Mathlib.Omega.{arith}
use lib.ListN.{length}
use Rattle.rtr_room.specs.Table.{Change, same, ordered, all_in_rule, is_table, is_in, insert, remove, enter, leave}
use Rattle.rtr_room.specs.declared.Record.{Record}
use Rattle.rtr_room.proofs.Laws.{same-is-equal, in-none, in-next, in-first, in-later, first-before, table-next, tables-equal, inside-is-shorter}
use Rattle.rtr_room.proofs.Laws.{enter-applies, leave-applies, enter-keeps, leave-keeps, enter-membership, leave-membership}
use Rattle.rtr_room.proofs.Laws.Order.{before-not-same}
use Rattle.rtr_room.proofs.Laws.Tables.{Inside}
use Rattle.rtr_room.proofs.Laws.Tests.{second-of}
use Rattle.rtr_receiver.specs.History.{Changed, with_all}
use Rattle.rtr_receiver.proofs.Laws.{with-all-none, with-all-next}
use Rattle.rtr_changes.specs.Changes.{without, withdraw, announce, changes, Applies}
use Rattle.rtr_changes.specs.Changes.Applies.{done, step}
use Rattle.rtr_changes.proofs.Without.{in_without, without-inside, without-table}

module _ (limit : ℕ) where
  -- changes one behind the other
  applies-both : {t t' u : List Record} {cs ds : List Changed} → Applies limit t cs t' → Applies limit t' ds u → Applies limit t (cs ++ ds) u
  applies-both done more = more
  applies-both (step e rest) more = step e (applies-both rest more)

  -- what applies makes the table that the history's page says
  pub applies-with-all : {t u : List Record} {cs : List Changed} → Applies limit t cs u → with_all limit t cs ≡ u
  applies-with-all {t} done = with-all-none limit t
  applies-with-all {t} (step {t' = t'} {c = c} {cs = cs} e rest) = with-all-next limit t t' c cs e ∙ applies-with-all rest

  -- a table from which some changes apply, to a table with those members
  record Comes (t : List Record) (cs : List Changed) (member : Record → Bool) : Type 0 where
    to : List Record
    table : is_table to ≡ true
    applies : Applies limit t cs to
    members : (x : Record) → is_in x to ≡ member x

  -- of an ordered list the first is none of the others
  another : (r x : Record) (g : List Record) → ordered (r ∷ g) ≡ true → is_in x g ≡ true → same r x ≡ false
  another r x g h i = before-not-same r x (first-before r x g h i)

  -- ---- withdrawals

  left_out : (first there gone : Bool) → ((not first && there) && not gone) ≡ (there && not (first || gone))
  left_out true true gone = refl
  left_out true false gone = refl
  left_out false there gone = refl

  withdrawals : (g t : List Record) → is_table t ≡ true → is_table g ≡ true → Inside g t → Comes t (map withdraw g) (λ x. is_in x t && not (is_in x g))
  withdrawals [] t h k inside = record { to = t; table = h; applies = done; members = λ x. rw (in-none x) (sym (and-true (is_in x t))) }
  withdrawals (r ∷ g) t h k inside =
      let leaves : leave r t ≡ Change.changed (remove r t) = leave-applies r t (inside r (in-first r g)) in
      let order : ordered t ≡ true = second-of (all_in_rule t) _ h in
      let member : (x : Record) → is_in x (remove r t) ≡ (not (same r x) && is_in x t) = leave-membership r t (remove r t) order leaves in
      let rest = withdrawals g (remove r t) (leave-keeps r t (remove r t) h leaves).0 ((table-next r g).0 k).2
      (λ x i. member x ∙ ap (λ (b : Bool). not b && is_in x t) (another r x g (second-of (all_in_rule (r ∷ g)) _ k) i) ∙ inside x (in-later r x g i)) in
      record {
        to = rest.to;
        table = rest.table;
        applies = step leaves rest.applies;
        members = λ x.
            rest.members x
            ∙ ap (λ (b : Bool). b && not (is_in x g)) (member x)
            ∙ left_out (same r x) (is_in x t) (is_in x g)
            ∙ ap (λ (b : Bool). is_in x t && not b) (sym (in-next x r g));
      }

  -- ---- announcements

  put_in : (first come there : Bool) → (come || (first || there)) ≡ ((first || come) || there)
  put_in true true there = refl
  put_in true false there = refl
  put_in false come there = refl

  announcements : (u g t : List Record) → ordered u ≡ true → length u ≤ limit → is_table t ≡ true → is_table g ≡ true
      → Inside t u → Inside g u → ((x : Record) → is_in x g ≡ true → is_in x t ≡ false)
      → Comes t (map announce g) (λ x. is_in x g || is_in x t)
  announcements u [] t o l h k inside within new = record { to = t; table = h; applies = done; members = λ x. rw (in-none x) }
  announcements u (r ∷ g) t o l h k inside within new =
      let room : length t < length u = inside-is-shorter r t u (second-of (all_in_rule t) _ h) o inside (new r (in-first r g)) (within r (in-first r g)) in
      let enters : enter limit r t ≡ Change.changed (insert r t) = enter-applies limit r t (new r (in-first r g)) (omega arith) in
      let member : (x : Record) → is_in x (insert r t) ≡ (same r x || is_in x t) = enter-membership limit r t (insert r t) enters in
      let rest = announcements u g (insert r t) o l (enter-keeps limit r t (insert r t) h ((table-next r g).0 k).0 enters).0 ((table-next r g).0 k).2
      (λ x i. either x (same r x) refl (sym (member x) ∙ i))
      (λ x i. within x (in-later r x g i))
      (λ x i. member x ∙ ap (λ (b : Bool). b || is_in x t) (another r x g (second-of (all_in_rule (r ∷ g)) _ k) i) ∙ new x (in-later r x g i)) in
      record {
        to = rest.to;
        table = rest.table;
        applies = step enters rest.applies;
        members = λ x.
            rest.members x
            ∙ ap (λ (b : Bool). is_in x g || b) (member x)
            ∙ put_in (same r x) (is_in x g) (is_in x t)
            ∙ ap (λ (b : Bool). b || is_in x t) (sym (in-next x r g));
      }
    where
      either : (x : Record) (b : Bool) → same r x ≡ b → (b || is_in x t) ≡ true → is_in x u ≡ true
      either x true e i = subst (λ (y : Record). is_in y u ≡ true) ((same-is-equal r x).0 e) (within r (in-first r g))
      either x false e i = inside x i

  -- ---- both

  kept-is-new : (old new : Bool) → (old && not (old && not new)) ≡ true → new ≡ true
  kept-is-new true true e = refl
  kept-is-new true false e = e
  kept-is-new false new e = absurd (true≢false (sym e))

  come-is-new : (old new : Bool) → (new && not old) ≡ true → (old && not (old && not new)) ≡ false
  come-is-new true true e = sym e
  come-is-new true false e = refl
  come-is-new false new e = refl

  is-new : (old new : Bool) → ((new && not old) || (old && not (old && not new))) ≡ new
  is-new true true = refl
  is-new true false = refl
  is-new false true = refl
  is-new false false = refl

  pub changes-apply : (old new : List Record) → is_table old ≡ true → is_table new ≡ true → length new ≤ limit → Applies limit old (changes old new) new
  unfolding changes
  changes-apply old new h k l =
      let w = withdrawals (without old new) old h (without-table old new h) (λ x i. without-inside x old new i) in
      let left : (x : Record) → is_in x w.to ≡ (is_in x old && not (is_in x old && not (is_in x new))) =
      λ x. w.members x ∙ ap (λ (b : Bool). is_in x old && not b) (in_without x old new) in
      let a = announcements new (without new old) w.to (second-of (all_in_rule new) _ k) l w.table (without-table new old k)
      (λ x i. kept-is-new (is_in x old) (is_in x new) (sym (left x) ∙ i))
      (λ x i. without-inside x new old i)
      (λ x i. left x ∙ come-is-new (is_in x old) (is_in x new) (sym (in_without x new old) ∙ i)) in
      let ends : a.to ≡ new = tables-equal a.to new (second-of (all_in_rule a.to) _ a.table) (second-of (all_in_rule new) _ k)
      (λ x. a.members x
      ∙ ap (λ (b : Bool). b || is_in x w.to) (in_without x new old)
      ∙ ap (λ (b : Bool). (is_in x new && not (is_in x old)) || b) (left x)
      ∙ is-new (is_in x old) (is_in x new)) in
      subst (λ (u : List Record). Applies limit old (changes old new) u) ends (applies-both w.applies a.applies)
