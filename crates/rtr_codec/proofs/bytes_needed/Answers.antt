-- `bytes_needed` is `needed`: 8 without a header, else the header's length. Assumes nothing.
use mathlib.Core.Path.{sym, ◌∙◌}
use Rattle.rtr_codec.specs.Read.{header_length}
use Rattle.rtr_codec.proofs.Laws.{needed-short, needed-large}
use Rattle.rtr_codec.proofs.bytes_needed.Goals as goal

pub returns-then-input-lt-RTR_HEADER_LEN : goal.returns-then-input-lt-RTR_HEADER_LEN
returns-then-input-lt-RTR_HEADER_LEN c = sym (needed-short _ c.if-input-lt-RTR_HEADER_LEN.true)

pub returns : goal.returns
unfolding header_length
returns c = c.be32.ensures ∙ sym (needed-large _ c.if-input-lt-RTR_HEADER_LEN.false)
