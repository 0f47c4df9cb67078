-- What `diff` promises leaves one result, one content of the output and one of each room. `Post` is the contract as Rattle reads it off the source, and `s` the
-- parameters as the function returns. Assumes nothing.
use Rattle.std.specs.Prelude.{Result, Ok, Err, ℕ}
use mathlib.Core.Bool.{cond}
use mathlib.Core.Path.{◌≡◌, refl, sym, ap, ◌∙◌}
use lib.Dec.{eqb}
use lib.ListN.{get_or}
use Rattle.rtr_base.proofs.Unique.{only_one}
use Rattle.rtr_encode.specs.Encode.{Writing}
use Rattle.rtr_encode.specs.Encode.Writing.{written, refused}
use Rattle.rtr_listing.specs.Promises.{list_said}
use Rattle.rtr_listing.specs.declared.ListError.TheVariants.{NotAReceiver, OutputShort}
use Rattle.rtr_diffs.specs.Diffs.{DiffLeft, diff_left}
use Rattle.rtr_diffs.proofs.diff.Reads as diff
use Rattle.rtr_listing.specs.declared.ListError.{ListError}

-- the answer that has a number and values
answer_of : Writing → Result ℕ ListError
answer_of (written n) = Ok n
answer_of (refused k x) = cond (eqb k 22) (Err NotAReceiver) (Err (OutputShort (get_or x 0 0)))

said-back : (a : Result ℕ ListError) → answer_of (list_said a) ≡ a
unfolding answer_of
said-back (Ok n) = refl
said-back (Err NotAReceiver) = refl
said-back (Err (OutputShort n)) = refl

pub diff-unique : (κs : _) (a : _) (r r' : _) (s s' : _) → diff.Post κs a r s → diff.Post κs a r' s'
    → (r ≡ r') × (s.1.1.0.now ≡ s'.1.1.0.now) × (s.1.1.1.0.now ≡ s'.1.1.1.0.now) × (s.1.1.1.1.0.now ≡ s'.1.1.1.1.0.now)
diff-unique κs a r r' s s' p q =
    let same : diff_left r s.1.1.0.now s.1.1.1.0.now s.1.1.1.1.0.now ≡ diff_left r' s'.1.1.0.now s'.1.1.1.0.now s'.1.1.1.1.0.now = p ∙ sym q in (
      only_one list_said answer_of said-back r r' (list_said r') (ap (λ (d : DiffLeft). d.out.says) same) refl,
      ap (λ (d : DiffLeft). d.old_room) same,
      ap (λ (d : DiffLeft). d.new_room) same,
      ap (λ (d : DiffLeft). d.out.out) same,
    )
