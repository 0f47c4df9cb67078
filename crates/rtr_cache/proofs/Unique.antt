-- What each public function promises leaves one result and one content of the output. `Post` is the contract as Rattle reads it off the source, and `s` the
-- parameters as the function returns. Assumes nothing.
use Rattle.std.specs.Prelude.{Result, Ok, Err}
use Prim.Native.Nat.{ℕ}
use mathlib.Core.Bool.{cond}
use mathlib.Core.List.{List}
use mathlib.Core.Path.{◌≡◌, refl, ap}
use lib.Dec.{eqb}
use lib.ListN.{get_or}
use Rattle.rtr_base.proofs.Unique.{only_one, only-this}
use Rattle.rtr_encode.specs.Encode.{Writing, Encoded}
use Rattle.rtr_encode.specs.Encode.Writing.{written, refused}
use Rattle.rtr_cache.specs.Cache.{run_writing, run_leaves}
use Rattle.rtr_cache.specs.declared.RunError.TheVariants.{NotARoom, OutputShort}
use Rattle.rtr_cache.proofs.RunError.number.Reads as run-error-number
use Rattle.rtr_cache.proofs.full_run.Reads as full-run
use Rattle.rtr_cache.proofs.change_run.Reads as change-run
use Rattle.rtr_cache.specs.declared.RunError.{RunError}

-- the answer that has a number and values
unfoldable pub run_answer_of : Writing → Result ℕ RunError
run_answer_of (written n) = Ok n
run_answer_of (refused k x) = cond (eqb k 22) (Err NotARoom) (Err (OutputShort (get_or x 0 0)))

pub said-back : (a : Result ℕ RunError) → run_answer_of (run_writing a) ≡ a
unfolding run_answer_of
said-back (Ok n) = refl
said-back (Err NotARoom) = refl
said-back (Err (OutputShort n)) = refl

one-leaving : (r r' : Result ℕ RunError) (o o' : List ℕ) (given : Encoded) → run_leaves r o ≡ given → run_leaves r' o' ≡ given → (r ≡ r') × (o ≡ o')
one-leaving r r' o o' given p q = (
  only_one run_writing run_answer_of said-back r r' given.says (ap (λ (e : Encoded). e.says) p) (ap (λ (e : Encoded). e.says) q),
  only-this o o' given.out (ap (λ (e : Encoded). e.out) p) (ap (λ (e : Encoded). e.out) q),
)

pub run-error-number-unique : (κs : _) (a : _) (r r' : _) (s s' : _) → run-error-number.Post κs a r s → run-error-number.Post κs a r' s' → r ≡ r'
run-error-number-unique κs a r r' s s' p q = only-this r r' _ p q

pub full-run-unique : (κs : _) (a : _) (r r' : _) (s s' : _) → full-run.Post κs a r s → full-run.Post κs a r' s' → (r ≡ r') × (s.1.1.1.1.0.now ≡ s'.1.1.1.1.0.now)
full-run-unique κs a r r' s s' p q = one-leaving r r' s.1.1.1.1.0.now s'.1.1.1.1.0.now _ p.0 q.0

pub change-run-unique : (κs : _) (a : _) (r r' : _) (s s' : _) → change-run.Post κs a r s → change-run.Post κs a r' s'
    → (r ≡ r') × (s.1.1.1.1.1.1.0.now ≡ s'.1.1.1.1.1.1.0.now)
change-run-unique κs a r r' s s' p q = one-leaving r r' s.1.1.1.1.1.1.0.now s'.1.1.1.1.1.1.0.now _ p.0 q.0
