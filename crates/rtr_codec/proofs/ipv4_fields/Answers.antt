-- `ipv4_fields` gives what `read_ipv4_prefix` says of a prefix whose lengths are in rule: the numbers at their places. Assumes nothing.
use borrow.Author.Tests.{le-leb}
use Rattle.rtr_codec.specs.Read.{read_ipv4_prefix}
use Rattle.rtr_codec.proofs.ipv4_fields.Goals as goal

pub returns : goal.returns
unfolding read_ipv4_prefix
returns c =
    simp (
      ← c.requires.0.0,
      le-leb _ _ c.requires.1.0,
      le-leb _ _ c.requires.1.1,
      c.be8-prefix_length.ensures,
      c.be8-max_length.ensures,
      c.be8-flags.ensures,
      c.be32-prefix.ensures,
      c.be32-asn.ensures,
    )
