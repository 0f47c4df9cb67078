-- `parse_cache_reset` gives what `read_cache_reset` says: the length is tested first, and the fields are the numbers at their places. Assumes nothing.
use borrow.Author.Tests.{eq-eqb, ne_eqb}
use Rattle.rtr_codec.specs.Read.{read_cache_reset}
use Rattle.rtr_codec.proofs.parse_cache_reset.Goals as goal

pub returns-then-actual-ne-RTR_CACHE_RESET_LEN : goal.returns-then-actual-ne-RTR_CACHE_RESET_LEN
unfolding read_cache_reset
returns-then-actual-ne-RTR_CACHE_RESET_LEN c = simp (← c.requires.0, ne_eqb _ _ c.if-actual-ne-RTR_CACHE_RESET_LEN.true, c.invalid_length.ensures)

pub returns : goal.returns
unfolding read_cache_reset
returns c = simp (← c.requires.0, eq-eqb _ _ c.if-actual-ne-RTR_CACHE_RESET_LEN.false)
