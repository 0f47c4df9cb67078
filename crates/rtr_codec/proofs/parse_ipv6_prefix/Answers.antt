-- `parse_ipv6_prefix` gives what `read_ipv6_prefix` says: length, then prefix lengths, then the numbers at their places. Assumes nothing.
use borrow.Author.Tests.{eq-eqb, ne_eqb, le-leb, lt-leb}
use Rattle.rtr_codec.specs.Read.{read_ipv6_prefix}
use Rattle.rtr_codec.proofs.parse_ipv6_prefix.Goals as goal

pub returns-then-actual-ne-RTR_IPV6_PREFIX_LEN : goal.returns-then-actual-ne-RTR_IPV6_PREFIX_LEN
unfolding read_ipv6_prefix
returns-then-actual-ne-RTR_IPV6_PREFIX_LEN c = simp (← c.requires.0, ne_eqb _ _ c.if-actual-ne-RTR_IPV6_PREFIX_LEN.true, c.invalid_length.ensures)

pub returns-then-prefix_length-max_length : goal.returns-then-prefix_length-max_length
unfolding read_ipv6_prefix
returns-then-prefix_length-max_length c =
    simp (
      ← c.requires.0,
      eq-eqb _ _ c.if-actual-ne-RTR_IPV6_PREFIX_LEN.false,
      ← c.be8-prefix_length.ensures,
      ← c.be8-max_length.ensures,
      lt-leb _ _ c.if-prefix_length-max_length.true,
      c.invalid_prefix_length.ensures,
    )

pub returns-then-max_length-gt128 : goal.returns-then-max_length-gt128
unfolding read_ipv6_prefix
returns-then-max_length-gt128 c =
    simp (
      ← c.requires.0,
      eq-eqb _ _ c.if-actual-ne-RTR_IPV6_PREFIX_LEN.false,
      ← c.be8-prefix_length.ensures,
      ← c.be8-max_length.ensures,
      le-leb _ _ c.if-prefix_length-max_length.false,
      lt-leb _ _ c.if-max_length-gt128.true,
      c.invalid_prefix_length-then-max_length-gt128.ensures,
    )

pub returns : goal.returns
returns c = c.ipv6_fields.ensures
