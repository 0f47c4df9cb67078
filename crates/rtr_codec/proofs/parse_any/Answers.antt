-- `parse_any` gives what `read` says: both tests for missing bytes, then the version by its table. Assumes nothing.
use borrow.Author.Tests.{le-leb, lt-leb}
use Rattle.rtr_codec.specs.Read.{read, read_versioned, header_length}
use borrow.Author.Rules.{rules}
use Rattle.rtr_codec.proofs.Early.{refused_early}
use Rattle.rtr_codec.proofs.parse_any.Goals as goal

pub returns-then-input-lt-RTR_HEADER_LEN : goal.returns-then-input-lt-RTR_HEADER_LEN
unfolding read
returns-then-input-lt-RTR_HEADER_LEN c = simp (lt-leb _ _ c.if-input-lt-RTR_HEADER_LEN.true)

pub returns-then-input-length_usize : goal.returns-then-input-length_usize
unfolding read header_length
returns-then-input-length_usize c = simp (le-leb _ _ c.if-input-lt-RTR_HEADER_LEN.false, ← c.be32-length.ensures, lt-leb _ _ c.if-input-length_usize.true)

pub parse_typed-requires : goal.parse_typed-requires
unfolding header_length
parse_typed-requires c = search rules

pub returns-in_err-version : goal.returns-in_err-version
unfolding read read_versioned header_length
returns-in_err-version c =
    let p = refused_early _ _ _ _ _ c.ok_or.ensures.value c.in_err-version.was c.from_residual.ensures.1 in
    simp (le-leb _ _ c.if-input-lt-RTR_HEADER_LEN.false, ← c.be32-length.ensures, le-leb _ _ c.if-input-length_usize.false, ← c.be8-version_byte.ensures, ← c.from_u8.ensures, p.0, p.1)

pub returns : goal.returns
unfolding read read_versioned header_length
returns c =
    simp (
      le-leb _ _ c.if-input-lt-RTR_HEADER_LEN.false,
      ← c.be32-length.ensures,
      le-leb _ _ c.if-input-length_usize.false,
      ← c.be8-version_byte.ensures,
      ← c.from_u8.ensures,
      c.ok_or.ensures.ok_part,
      c.in_ok-version.was,
    ) c.parse_typed.ensures
