-- `ipv6_fields` gives what `read_ipv6_prefix` says of a prefix whose lengths are in rule: the numbers at their places. Assumes nothing.
use borrow.Author.Tests.{le-leb}
use Rattle.rtr_codec.specs.Read.{read_ipv6_prefix}
use Rattle.rtr_codec.proofs.ipv6_fields.Goals as goal

pub returns : goal.returns
unfolding read_ipv6_prefix
returns c =
    simp (
      ← c.requires.0.0,
      le-leb _ _ c.requires.1.0,
      le-leb _ _ c.requires.1.1,
      c.be8-prefix_length.ensures,
      c.be8-max_length.ensures,
      c.be8-flags.ensures,
      c.be32-w0.ensures,
      c.be32-w1.ensures,
      c.be32-w2.ensures,
      c.be32-w3.ensures,
      c.be32-asn.ensures,
    )
