-- `parse_cache_response` gives what `read_cache_response` says: the length is tested first, and the fields are the numbers at their places. Assumes nothing.
use borrow.Author.Tests.{eq-eqb, ne_eqb}
use Rattle.rtr_codec.specs.Read.{read_cache_response}
use Rattle.rtr_codec.proofs.parse_cache_response.Goals as goal

pub returns-then-actual-ne-RTR_CACHE_RESPONSE_LEN : goal.returns-then-actual-ne-RTR_CACHE_RESPONSE_LEN
unfolding read_cache_response
returns-then-actual-ne-RTR_CACHE_RESPONSE_LEN c = simp (← c.requires.0, ne_eqb _ _ c.if-actual-ne-RTR_CACHE_RESPONSE_LEN.true, c.invalid_length.ensures)

pub returns : goal.returns
unfolding read_cache_response
returns c = simp (← c.requires.0, eq-eqb _ _ c.if-actual-ne-RTR_CACHE_RESPONSE_LEN.false, c.be16-session_id.ensures)
