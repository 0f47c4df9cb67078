-- What each public function promises leaves one result and one content of the numbers lent. `Post` is the contract as Rattle reads it off
-- the source. Assumes nothing.
use mathlib.Core.Path.{◌≡◌}
use Rattle.rtr_base.proofs.Unique.{only-this}
use Rattle.rtr_pdu_numbers.proofs.put_pdu.Reads as put-pdu-reads
use Rattle.rtr_pdu_numbers.proofs.pdu_of.Reads as pdu-of-reads

pub put-pdu-unique : (κs : _) (a : _) (r r' : _) (s s' : _) → put-pdu-reads.Post κs a r s → put-pdu-reads.Post κs a r' s' → (r ≡ r') × (s.1.1.0.now ≡ s'.1.1.0.now)
put-pdu-unique κs a r r' s s' p q = (only-this r r' _ p.0 q.0, only-this s.1.1.0.now s'.1.1.0.now _ p.1 q.1)

pub pdu-of-unique : (κs : _) (a : _) (r r' : _) (s s' : _) → pdu-of-reads.Post κs a r s → pdu-of-reads.Post κs a r' s' → r ≡ r'
pdu-of-unique κs a r r' s s' p q = only-this r r' _ p q
