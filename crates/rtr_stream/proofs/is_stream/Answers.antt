-- `is_stream` tests what waits: below 8 bytes anything does; with a header its length is in range, fits the hold and is more than is held.
-- Assumes nothing.
use mathlib.Core.Path.{sym}
use native.Mathlib.Omega.{arith}
use lib.Seq.{length-take-le}
use Rattle.rtr_stream.proofs.Judge.{is-stream, no_stream, header-of-stream, stream-by-held, stream-of-few}
use Rattle.rtr_stream.proofs.is_stream.Goals as goal

pub returns-then-hold-lt8 : goal.returns-then-hold-lt8
returns-then-hold-lt8 c = sym (no_stream (λ i. omega arith))

pub returns-then-held-hold : goal.returns-then-held-hold
returns-then-held-hold c = sym (no_stream (λ i. omega arith))

pub returns-then-held-lt8 : goal.returns-then-held-lt8
returns-then-held-lt8 c = sym (is-stream (stream-of-few (omega arith) (omega arith)))

pub slice_bounds-bytes_needed-end : goal.slice_bounds-bytes_needed-end
slice_bounds-bytes_needed-end c = sym (length-take-le _ _ (omega arith))

pub returns-then-length-gt-RTR_MAX_ERROR_REPORT_LEN : goal.returns-then-length-gt-RTR_MAX_ERROR_REPORT_LEN
returns-then-length-gt-RTR_MAX_ERROR_REPORT_LEN c = sym (no_stream (λ i. omega (arith, c.bytes_needed-length.ensures, (header-of-stream (omega arith) i).0.most)))

pub returns-then-whole-hold : goal.returns-then-whole-hold
returns-then-whole-hold c = sym (no_stream (λ i. omega (arith, c.bytes_needed-length.ensures, (header-of-stream (omega arith) i).0.fits)))

pub returns : goal.returns
returns c =
    rw c.bytes_needed-length.ensures
    (stream-by-held _ _ (omega arith) (omega arith) (omega arith) (omega (arith, c.bytes_needed-length.ensures)) (omega (arith, c.bytes_needed-length.ensures)))
