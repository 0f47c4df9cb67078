-- What each public call promises leaves one result (document 01, "How tight the promises are"), and the two calls, whose promise is one, give equal
-- results: document 02, request One, "proved equal on every table and route". Only the list's call is lent memory to write, its states. Assumes nothing.
use Rattle.std.specs.Prelude.{Result, Ok, Err}
use Prim.Native.Nat.{ℕ}
use mathlib.Core.Bool.{cond}
use mathlib.Core.Path.{◌≡◌, refl, sym, ap, ◌∙◌}
use lib.Dec.{eqb}
use Rattle.rtr_base.proofs.Unique.{only_one, only-this}
use Rattle.rtr_encode.specs.Encode.{Encoded}
use Rattle.rtr_origin.specs.Promises.{RouteSays, route_said}
use Rattle.rtr_origin.specs.Peer.{peer_said}
use Rattle.rtr_origin.specs.Promises.RouteSays.{state, refused}
use Rattle.rtr_origin.specs.declared.ValidateError.{ValidateError}
use Rattle.rtr_origin.specs.declared.ValidateError.TheVariants.{NotAReceiver, NoTable, TooLong}
use Rattle.rtr_origin.proofs.Lists.{peer_of, peer-back}
use Rattle.rtr_origin.proofs.peer.validate_all.Reads as all-reads
use Rattle.rtr_origin.proofs.peer.PeerError.number.Reads as peer-error-reads
use Rattle.rtr_origin.proofs.validate.Reads as order-reads
use Rattle.rtr_origin.proofs.validate_by_scan.Reads as scan-reads
use Rattle.rtr_origin.proofs.route_of.Reads as route-of-reads
use Rattle.rtr_origin.proofs.RouteState.number.Reads as state-reads
use Rattle.rtr_origin.proofs.ValidateError.number.Reads as error-reads
use Rattle.rtr_origin.specs.declared.RouteState.{RouteState}

-- the answer that says so
error_of : ℕ → ValidateError
error_of n = cond (eqb n 22) NotAReceiver (cond (eqb n 21) NoTable TooLong)

answer_of : RouteSays → Result RouteState ValidateError
answer_of (state s) = Ok s
answer_of (refused n) = Err (error_of n)

answer_back : (r : Result RouteState ValidateError) → answer_of (route_said r) ≡ r
unfolding answer_of error_of
answer_back (Ok s) = refl
answer_back (Err NotAReceiver) = refl
answer_back (Err NoTable) = refl
answer_back (Err TooLong) = refl

pub validate-unique : (κs : _) (a : _) (r r' : _) (s s' : _) → order-reads.Post κs a r s → order-reads.Post κs a r' s' → r ≡ r'
validate-unique κs a r r' s s' p q = only_one route_said answer_of answer_back r r' _ p q

pub validate-by-scan-unique : (κs : _) (a : _) (r r' : _) (s s' : _) → scan-reads.Post κs a r s → scan-reads.Post κs a r' s' → r ≡ r'
validate-by-scan-unique κs a r r' s s' p q = only_one route_said answer_of answer_back r r' _ p q

-- the engines agree, whatever the memory and the route
pub engines-agree : (κs : _) (a : _) (r r' : _) (s s' : _) → order-reads.Post κs a r s → scan-reads.Post κs a r' s' → r ≡ r'
engines-agree κs a r r' s s' p q = only_one route_said answer_of answer_back r r' _ p q

pub route-state-number-unique : (κs : _) (a : _) (r r' : _) (s s' : _) → state-reads.Post κs a r s → state-reads.Post κs a r' s' → r ≡ r'
route-state-number-unique κs a r r' s s' p q = only-this r r' _ p q

pub validate-error-number-unique : (κs : _) (a : _) (r r' : _) (s s' : _) → error-reads.Post κs a r s → error-reads.Post κs a r' s' → r ≡ r'
validate-error-number-unique κs a r r' s s' p q = only-this r r' _ p q

pub route-of-unique : (κs : _) (a : _) (r r' : _) (s s' : _) → route-of-reads.Post κs a r s → route-of-reads.Post κs a r' s' → r ≡ r'
route-of-unique κs a r r' s s' p q = only-this r r' _ p q

-- ---- a whole peer

pub validate-all-unique : (κs : _) (a : _) (r r' : _) (s s' : _) → all-reads.Post κs a r s → all-reads.Post κs a r' s' → (r ≡ r') × (s.1.1.1.1.1.0.now ≡ s'.1.1.1.1.1.0.now)
validate-all-unique κs a r r' s s' p q = (
  only_one peer_said peer_of peer-back r r' _ (ap (λ (x : Encoded). x.says) p) (ap (λ (x : Encoded). x.says) q),
  ap (λ (x : Encoded). x.out) (p ∙ sym q),
)

pub peer-error-number-unique : (κs : _) (a : _) (r r' : _) (s s' : _) → peer-error-reads.Post κs a r s → peer-error-reads.Post κs a r' s' → r ≡ r'
peer-error-number-unique κs a r r' s s' p q = only-this r r' _ p q
