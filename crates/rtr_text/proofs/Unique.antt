-- What each public function promises leaves one result: two results of the same arguments that both meet the promise are equal; of a part of
-- a slice, its bytes are. `Post` is the function's contract as Rattle reads it off the source. Assumes nothing.
use mathlib.Core.Path.{◌≡◌}
use Rattle.rtr_base.proofs.Unique.{only-this}
use Rattle.rtr_text.proofs.well_formed_up_to.Reads as well-formed-up-to
use Rattle.rtr_text.proofs.is_well_formed.Reads as is-well-formed

pub well-formed-up-to-unique : (κs : _) (a : _) (r r' : _) (s s' : _) → well-formed-up-to.Post κs a r s → well-formed-up-to.Post κs a r' s' → r ≡ r'
well-formed-up-to-unique κs a r r' s s' p q = only-this r r' _ p q

pub is-well-formed-unique : (κs : _) (a : _) (r r' : _) (s s' : _) → is-well-formed.Post κs a r s → is-well-formed.Post κs a r' s' → r ≡ r'
is-well-formed-unique κs a r r' s s' p q = only-this r r' _ p q
