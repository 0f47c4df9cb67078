-- `parse_router_key_v1` gives what `read_router_key` says in version 1: at least the fixed fields, then the rest is the key info. Assumes nothing.
use borrow.Author.Tests.{le-leb, lt-leb}
use Rattle.rtr_codec.specs.Read.{read_router_key}
use Rattle.rtr_codec.proofs.parse_router_key_v1.Goals as goal

pub returns-then-actual-lt-RTR_ROUTER_KEY_MIN_LEN : goal.returns-then-actual-lt-RTR_ROUTER_KEY_MIN_LEN
unfolding read_router_key
returns-then-actual-lt-RTR_ROUTER_KEY_MIN_LEN c = simp (← c.requires.0, lt-leb _ _ c.if-actual-lt-RTR_ROUTER_KEY_MIN_LEN.true, c.invalid_length.ensures)

pub returns : goal.returns
unfolding read_router_key
returns c = simp (← c.requires.0, le-leb _ _ c.if-actual-lt-RTR_ROUTER_KEY_MIN_LEN.false, c.be8-flags.ensures, c.be32-asn.ensures)
