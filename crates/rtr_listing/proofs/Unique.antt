-- What each public function promises leaves one result and one content of the lent output. `Post` is the contract as Rattle reads it off the
-- source, and `s` the parameters as the function returns. Assumes nothing.
use Rattle.std.specs.Prelude.{Result, Ok, Err}
use Prim.Native.Nat.{ℕ}
use mathlib.Core.Bool.{cond}
use mathlib.Core.List.{List}
use mathlib.Core.Path.{◌≡◌, refl, ap}
use lib.Dec.{eqb}
use lib.ListN.{get_or}
use Rattle.rtr_base.proofs.Unique.{only_one, only-this}
use Rattle.rtr_encode.specs.Encode.{Writing, Encoded}
use Rattle.rtr_encode.specs.Encode.Writing.{written, refused}
use Rattle.rtr_listing.specs.Promises.{list_said, leaves}
use Rattle.rtr_listing.specs.declared.ListError.TheVariants.{NotAReceiver, OutputShort}
use Rattle.rtr_listing.proofs.ListError.number.Reads as list-error-number
use Rattle.rtr_listing.proofs.head_of.Reads as head_of
use Rattle.rtr_listing.proofs.head_lines.Reads as head-lines
use Rattle.rtr_listing.proofs.record_lines.Reads as record-lines
use Rattle.rtr_listing.proofs.text_line.Reads as text-line
use Rattle.rtr_listing.proofs.number_line.Reads as number-line
use Rattle.rtr_listing.proofs.listing.Reads as listing
use Rattle.rtr_listing.specs.declared.ListError.{ListError}

-- the answer that has a number and values
answer_of : Writing → Result ℕ ListError
answer_of (written n) = Ok n
answer_of (refused k x) = cond (eqb k 22) (Err NotAReceiver) (Err (OutputShort (get_or x 0 0)))

said-back : (a : Result ℕ ListError) → answer_of (list_said a) ≡ a
unfolding answer_of
said-back (Ok n) = refl
said-back (Err NotAReceiver) = refl
said-back (Err (OutputShort n)) = refl

one-leaving : (r r' : Result ℕ ListError) (o o' : List ℕ) (given : Encoded) → leaves r o ≡ given → leaves r' o' ≡ given → (r ≡ r') × (o ≡ o')
one-leaving r r' o o' given p q = (
  only_one list_said answer_of said-back r r' given.says (ap (λ (e : Encoded). e.says) p) (ap (λ (e : Encoded). e.says) q),
  only-this o o' given.out (ap (λ (e : Encoded). e.out) p) (ap (λ (e : Encoded). e.out) q),
)

pub list-error-number-unique : (κs : _) (a : _) (r r' : _) (s s' : _) → list-error-number.Post κs a r s → list-error-number.Post κs a r' s' → r ≡ r'
list-error-number-unique κs a r r' s s' p q = only-this r r' _ p q

pub head-of-unique : (κs : _) (a : _) (r r' : _) (s s' : _) → head_of.Post κs a r s → head_of.Post κs a r' s' → r ≡ r'
head-of-unique κs a r r' s s' p q = only-this r r' _ p q

pub head-lines-unique : (κs : _) (a : _) (r r' : _) (s s' : _) → head-lines.Post κs a r s → head-lines.Post κs a r' s' → (r ≡ r') × (s.1.0.now ≡ s'.1.0.now)
head-lines-unique κs a r r' s s' p q = one-leaving r r' s.1.0.now s'.1.0.now _ p q

pub record-lines-unique : (κs : _) (a : _) (r r' : _) (s s' : _) → record-lines.Post κs a r s → record-lines.Post κs a r' s' → (r ≡ r') × (s.1.0.now ≡ s'.1.0.now)
record-lines-unique κs a r r' s s' p q = one-leaving r r' s.1.0.now s'.1.0.now _ p q

pub text-line-unique : (κs : _) (a : _) (r r' : _) (s s' : _) → text-line.Post κs a r s → text-line.Post κs a r' s' → (r ≡ r') × (s.1.1.0.now ≡ s'.1.1.0.now)
text-line-unique κs a r r' s s' p q = one-leaving r r' s.1.1.0.now s'.1.1.0.now _ p q

pub number-line-unique : (κs : _) (a : _) (r r' : _) (s s' : _) → number-line.Post κs a r s → number-line.Post κs a r' s' → (r ≡ r') × (s.1.1.0.now ≡ s'.1.1.0.now)
number-line-unique κs a r r' s s' p q = one-leaving r r' s.1.1.0.now s'.1.1.0.now _ p q

pub listing-unique : (κs : _) (a : _) (r r' : _) (s s' : _) → listing.Post κs a r s → listing.Post κs a r' s' → (r ≡ r') × (s.1.1.0.now ≡ s'.1.1.0.now)
listing-unique κs a r r' s s' p q = one-leaving r r' s.1.1.0.now s'.1.1.0.now _ p q
