-- What each public function promises leaves one result, and one content of the lent room. `Post` is the contract as Rattle reads it off the source,
-- and `s` the parameters as the function returns. Assumes nothing.
use Rattle.std.specs.Prelude.{Result, Ok, Err}
use mathlib.Core.Bool.{cond}
use mathlib.Core.Path.{◌≡◌, refl, ap}
use lib.Dec.{eqb}
use lib.ListN.{get_or}
use Rattle.rtr_base.proofs.Unique.{only_one, only-this}
use Rattle.rtr_listed.specs.Promises.{ListedSays, ListedLeft, listed_said}
use Rattle.rtr_listed.specs.Promises.ListedSays.{says, refused}
use Rattle.rtr_listed.specs.declared.ListedError.{ListedError}
use Rattle.rtr_listed.proofs.ListedError.number.Reads as listed-error-number
use Rattle.rtr_listed.proofs.read_listing.Reads as read-listing
use Rattle.rtr_listing.specs.declared.Head.{Head}

-- the answer that says so
abbrev pub answer_of : ListedSays → Result Head ListedError
answer_of (says head) = Ok head
answer_of (refused k x) = Err (cond (eqb k 22) ListedError.NotARoom (ListedError.Line (get_or x 0 0)))

pub said-back : (a : Result Head ListedError) → answer_of (listed_said a) ≡ a
said-back (Ok head) = refl
said-back (Err ListedError.NotARoom) = refl
said-back (Err (ListedError.Line n)) = refl

pub listed-error-number-unique : (κs : _) (a : _) (r r' : _) (s s' : _) → listed-error-number.Post κs a r s → listed-error-number.Post κs a r' s' → r ≡ r'
listed-error-number-unique κs a r r' s s' p q = only-this r r' _ p q

pub read-listing-unique : (κs : _) (a : _) (r r' : _) (s s' : _) → read-listing.Post κs a r s → read-listing.Post κs a r' s'
    → (r ≡ r') × (s.1.0.now ≡ s'.1.0.now)
read-listing-unique κs a r r' s s' p q = (
  only_one listed_said answer_of said-back r r' _ (ap (λ (l : ListedLeft). l.answer) p) (ap (λ (l : ListedLeft). l.answer) q),
  only-this s.1.0.now s'.1.0.now _ (ap (λ (l : ListedLeft). l.room) p) (ap (λ (l : ListedLeft). l.room) q),
)
