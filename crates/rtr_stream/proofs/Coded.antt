-- The code's search is the call of specs/Calls.antt: its contract, as Rattle reads it off the source, is `Called`, the hold's length included. So what is proved of a caller is proved of the
-- code; a contract that is weakened breaks this file. Assumes nothing.
use Rattle.rtr_stream.specs.Calls.{Called}
use Rattle.rtr_stream.proofs.search.Reads as search-reads

pub search-called : (κs : _) (a : _) (r : _) (s : _) → search-reads.Post κs a r s → Called a.1.1.0.now a.1.1.1.0 a.0.now a.1.0.held r s.0.now
search-called κs a r s p = record { size = p.1; promise = p.0 }
