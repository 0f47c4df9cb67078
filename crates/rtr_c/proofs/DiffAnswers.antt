-- `hingemoss_diff` by its answer, and that its promise leaves one answer and one content of all that is lent. Assumes nothing.
use Rattle.std.specs.Prelude.{Result}
use Prim.Native.Nat.{ℕ, ◌*◌, ◌≤◌, ◌<◌}
use mathlib.Core.Bool.{Bool, true, false}
use mathlib.Core.List.{List}
use mathlib.Core.Path.{◌≡◌, refl, sym, ap, ◌∙◌, subst}
use borrow.Author.Tests.{eqb-true, eqb-false, leb-true, leb-false}
use lib.Dec.{eqb, leb}
use lib.ListN.{length}
use Rattle.rtr_receiver.specs.Promises.{record_limit}
use Rattle.rtr_encode.specs.Encode.{Encoded}
use Rattle.rtr_listing.specs.Promises.{list_said}
use Rattle.rtr_listing.proofs.Laws.{written_is, short-is}
use Rattle.rtr_listed.specs.Listed.{read_listing}
use Rattle.rtr_listed.specs.Promises.{read_leaves}
use Rattle.rtr_diffs.specs.Diffs.{new_room_by, diff_text, diff_says, diff_left}
use Rattle.rtr_diffs.proofs.Laws.{diff-of-size, diff-off-size}
use Rattle.rtr_encode.specs.Answers.{number_of}
use Rattle.rtr_c.specs.Calls.{DiffCLeft, amount_of, diff_gives, diff_left_c, diff_c}
use Rattle.rtr_c.specs.Answers.{DiffAnswers}
use Rattle.rtr_c.proofs.hingemoss_diff.Reads as diff-reads
use Rattle.rtr_listing.specs.declared.ListError.{ListError}

-- the call's answer is that of `diff`
pub diff-said : (old new old_room new_room out old_left new_left out' : List ℕ) (answer : Result ℕ ListError) (number amount : ℕ) → diff_left answer old_left new_left out' ≡ diff_says record_limit old new old_room new_room out
    → number ≡ number_of (list_said answer) → amount ≡ amount_of (list_said answer) → diff_gives number amount old_left new_left out' ≡ diff_c old new old_room new_room out
unfolding diff_c
diff-said old new old_room new_room out old_left new_left out' answer number amount said named counted = (λ i. diff_gives (named i) (counted i) old_left new_left out') ∙ ap diff_left_c said

module _ (old new old_room new_room out : List ℕ) where
  abbrev bytes : List ℕ
  bytes = diff_text record_limit old new

  by_size : length old_room ≡ 6 * record_limit → length new_room ≡ 6 * record_limit → (b : Bool) → leb (length bytes) (length out) ≡ b → DiffAnswers old new old_room new_room out (diff_c old new old_room new_room out)
  unfolding diff_c
  by_size p q true e =
      let fits : length bytes ≤ length out = leb-true (length bytes) (length out) e in
      let left = diff-of-size record_limit old new old_room new_room out p q in
      let put = ap (λ (x : Encoded). diff_left_c (record { out = x; old_room = (read_leaves record_limit (read_listing record_limit old)).room; new_room = new_room_by record_limit (read_listing record_limit old) (read_listing record_limit new) })) (written_is bytes out fits) in
      subst (DiffAnswers old new old_room new_room out) (sym (ap diff_left_c left ∙ put)) (DiffAnswers.whole p q fits)
  by_size p q false e =
      let less : length out < length bytes = leb-false (length bytes) (length out) e in
      let left = diff-of-size record_limit old new old_room new_room out p q in
      let put = ap (λ (x : Encoded). diff_left_c (record { out = x; old_room = (read_leaves record_limit (read_listing record_limit old)).room; new_room = new_room_by record_limit (read_listing record_limit old) (read_listing record_limit new) })) (short-is bytes out less) in
      subst (DiffAnswers old new old_room new_room out) (sym (ap diff_left_c left ∙ put)) (DiffAnswers.short p q less)

  off : ((length old_room ≡ 6 * record_limit) × (length new_room ≡ 6 * record_limit) → ⊥) → DiffAnswers old new old_room new_room out (diff_c old new old_room new_room out)
  unfolding diff_c
  off h = subst (DiffAnswers old new old_room new_room out) (sym (ap diff_left_c (diff-off-size record_limit old new old_room new_room out h))) (DiffAnswers.off_size h)

  pub diff-answers : DiffAnswers old new old_room new_room out (diff_c old new old_room new_room out)
  diff-answers = go (eqb (length old_room) (6 * record_limit)) refl (eqb (length new_room) (6 * record_limit)) refl
    where
      go : (a : Bool) → eqb (length old_room) (6 * record_limit) ≡ a → (b : Bool) → eqb (length new_room) (6 * record_limit) ≡ b → DiffAnswers old new old_room new_room out (diff_c old new old_room new_room out)
      go true p true q = by_size (eqb-true (length old_room) (6 * record_limit) p) (eqb-true (length new_room) (6 * record_limit) q) (leb (length bytes) (length out)) refl
      go false p b q = off (λ h. eqb-false (length old_room) (6 * record_limit) p h.0)
      go true p false q = off (λ h. eqb-false (length new_room) (6 * record_limit) q h.1)

-- of the call: a is what is lent (both texts, both rooms, the output, the count), s the same as the call returns
pub diff-call-answers : (κs : _) (a : _) (r : _) (s : _) → diff-reads.Post κs a r s →
    DiffAnswers a.0.now a.1.0.now a.1.1.0.now a.1.1.1.0.now a.1.1.1.1.0.now (diff_gives r s.1.1.1.1.1.0.now s.1.1.0.now s.1.1.1.0.now s.1.1.1.1.0.now)
diff-call-answers κs a r s p =
    subst (DiffAnswers a.0.now a.1.0.now a.1.1.0.now a.1.1.1.0.now a.1.1.1.1.0.now) (sym p) (diff-answers a.0.now a.1.0.now a.1.1.0.now a.1.1.1.0.now a.1.1.1.1.0.now)

pub diff-unique : (κs : _) (a : _) (r r' : _) (s s' : _) → diff-reads.Post κs a r s → diff-reads.Post κs a r' s'
    → (r ≡ r') × (s.1.1.1.1.1.0.now ≡ s'.1.1.1.1.1.0.now) × (s.1.1.0.now ≡ s'.1.1.0.now) × (s.1.1.1.0.now ≡ s'.1.1.1.0.now) × (s.1.1.1.1.0.now ≡ s'.1.1.1.1.0.now)
diff-unique κs a r r' s s' p q = (
  ap (λ (x : DiffCLeft). x.encoded.answer) (p ∙ sym q),
  ap (λ (x : DiffCLeft). x.encoded.written) (p ∙ sym q),
  ap (λ (x : DiffCLeft). x.old_room) (p ∙ sym q),
  ap (λ (x : DiffCLeft). x.new_room) (p ∙ sym q),
  ap (λ (x : DiffCLeft). x.encoded.out) (p ∙ sym q),
)
