-- `test_length` goes by the definition's three tests, in their order. Assumes nothing.
use borrow.Author.Tests.{le-leb, lt-leb}
use Rattle.rtr_stream.proofs.test_length.Goals as goal

pub returns-then-length-lt8 : goal.returns-then-length-lt8
returns-then-length-lt8 c = λ next. simp (lt-leb _ _ c.if-length-lt8.true)

pub returns-then-length-gt-RTR_MAX_ERROR_REPORT_LEN : goal.returns-then-length-gt-RTR_MAX_ERROR_REPORT_LEN
returns-then-length-gt-RTR_MAX_ERROR_REPORT_LEN c = λ next. simp (le-leb _ _ c.if-length-lt8.false, lt-leb _ _ c.if-length-gt-RTR_MAX_ERROR_REPORT_LEN.true)

pub returns-then-length-hold_len : goal.returns-then-length-hold_len
returns-then-length-hold_len c = λ next. simp (le-leb _ _ c.if-length-lt8.false, le-leb _ _ c.if-length-gt-RTR_MAX_ERROR_REPORT_LEN.false, lt-leb _ _ c.if-length-hold_len.true)
