-- What each public function promises leaves one result and one content of the numbers lent. `Post` is the contract as Rattle reads it off
-- the source. Assumes nothing.
use mathlib.Core.Path.{◌≡◌}
use Rattle.rtr_base.proofs.Unique.{only-this}
use Rattle.rtr_numbers.proofs.at.Reads as at_reads
use Rattle.rtr_numbers.proofs.U8Low.low.Reads as low8-reads
use Rattle.rtr_numbers.proofs.U16Low.low.Reads as low16-reads
use Rattle.rtr_numbers.proofs.U32Low.low.Reads as low32-reads
use Rattle.rtr_numbers.proofs.put_numbers.Reads as put-numbers-reads
use Rattle.rtr_numbers.proofs.is_alike.Reads as is-alike-reads
use Rattle.rtr_numbers.proofs.error_value.Reads as error-value-reads
use Rattle.rtr_numbers.proofs.put_session.Reads as put-session-reads
use Rattle.rtr_numbers.proofs.loose_version.Reads as loose-version-reads
use Rattle.rtr_numbers.proofs.loose_code.Reads as loose-code-reads
use Rattle.rtr_numbers.proofs.session_of.Reads as session-of-reads
use Rattle.rtr_numbers.proofs.table_number.Reads as table-number-reads
use Rattle.rtr_numbers.proofs.table_or.Reads as table-or-reads
use Rattle.rtr_numbers.proofs.table_of.Reads as table-of-reads

pub at-unique : (κs : _) (a : _) (r r' : _) (s s' : _) → at_reads.Post κs a r s → at_reads.Post κs a r' s' → r ≡ r'
at-unique κs a r r' s s' p q = only-this r r' _ p q

pub low8-unique : (κs : _) (a : _) (r r' : _) (s s' : _) → low8-reads.Post κs a r s → low8-reads.Post κs a r' s' → r ≡ r'
low8-unique κs a r r' s s' p q = only-this r r' _ p q

pub low16-unique : (κs : _) (a : _) (r r' : _) (s s' : _) → low16-reads.Post κs a r s → low16-reads.Post κs a r' s' → r ≡ r'
low16-unique κs a r r' s s' p q = only-this r r' _ p q

pub low32-unique : (κs : _) (a : _) (r r' : _) (s s' : _) → low32-reads.Post κs a r s → low32-reads.Post κs a r' s' → r ≡ r'
low32-unique κs a r r' s s' p q = only-this r r' _ p q

pub put-numbers-unique : (κs : _) (a : _) (r r' : _) (s s' : _) → put-numbers-reads.Post κs a r s → put-numbers-reads.Post κs a r' s' → (r ≡ r') × (s.0.now ≡ s'.0.now)
put-numbers-unique κs a r r' s s' p q = (only-this r r' _ p.0 q.0, only-this s.0.now s'.0.now _ p.1 q.1)

pub is-alike-unique : (κs : _) (a : _) (r r' : _) (s s' : _) → is-alike-reads.Post κs a r s → is-alike-reads.Post κs a r' s' → r ≡ r'
is-alike-unique κs a r r' s s' p q = only-this r r' _ p q

pub error-value-unique : (κs : _) (a : _) (r r' : _) (s s' : _) → error-value-reads.Post κs a r s → error-value-reads.Post κs a r' s' → r ≡ r'
error-value-unique κs a r r' s s' p q = only-this r r' _ p q

pub put-session-unique : (κs : _) (a : _) (r r' : _) (s s' : _) → put-session-reads.Post κs a r s → put-session-reads.Post κs a r' s' → (r ≡ r') × (s.1.0.now ≡ s'.1.0.now)
put-session-unique κs a r r' s s' p q = (only-this r r' _ p.0.0 q.0.0, only-this s.1.0.now s'.1.0.now _ p.0.1 q.0.1)

pub loose-version-unique : (κs : _) (a : _) (r r' : _) (s s' : _) → loose-version-reads.Post κs a r s → loose-version-reads.Post κs a r' s' → r ≡ r'
loose-version-unique κs a r r' s s' p q = only-this r r' _ p q

pub loose-code-unique : (κs : _) (a : _) (r r' : _) (s s' : _) → loose-code-reads.Post κs a r s → loose-code-reads.Post κs a r' s' → r ≡ r'
loose-code-unique κs a r r' s s' p q = only-this r r' _ p q

pub session-of-unique : (κs : _) (a : _) (r r' : _) (s s' : _) → session-of-reads.Post κs a r s → session-of-reads.Post κs a r' s' → r ≡ r'
session-of-unique κs a r r' s s' p q = only-this r r' _ p q

pub table-number-unique : (κs : _) (a : _) (r r' : _) (s s' : _) → table-number-reads.Post κs a r s → table-number-reads.Post κs a r' s' → r ≡ r'
table-number-unique κs a r r' s s' p q = only-this r r' _ p q

pub table-or-unique : (κs : _) (a : _) (r r' : _) (s s' : _) → table-or-reads.Post κs a r s → table-or-reads.Post κs a r' s' → r ≡ r'
table-or-unique κs a r r' s s' p q = only-this r r' _ p q

pub table-of-unique : (κs : _) (a : _) (r r' : _) (s s' : _) → table-of-reads.Post κs a r s → table-of-reads.Post κs a r' s' → r ≡ r'
table-of-unique κs a r r' s s' p q = only-this r r' _ p q
