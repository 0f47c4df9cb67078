-- `parse_error_report` gives what `read_error_report` says: the length, then the code by its table. Assumes nothing.
use mathlib.Core.Path.{sym, ap, ◌∙◌}
use borrow.Author.Tests.{le-leb, lt-leb}
use Rattle.std.specs.Result.{result_ok}
use Rattle.rtr_codec.proofs.Text.{every-code}
use Rattle.rtr_codec.specs.Read.{read_error_report, read_code}
use Rattle.rtr_codec.proofs.Early.{refused_early}
use Rattle.rtr_codec.proofs.parse_error_report.Goals as goal

pub returns-then-actual-lt-RTR_ERROR_REPORT_MIN_LEN : goal.returns-then-actual-lt-RTR_ERROR_REPORT_MIN_LEN
unfolding read_error_report
returns-then-actual-lt-RTR_ERROR_REPORT_MIN_LEN c = simp (← c.requires.0, lt-leb _ _ c.if-actual-lt-RTR_ERROR_REPORT_MIN_LEN.true, c.invalid_length.ensures)

pub returns-in_err-error_code : goal.returns-in_err-error_code
unfolding read_error_report read_code
returns-in_err-error_code c =
    let p = refused_early _ _ _ _ _ c.ok_or.ensures.value c.in_err-error_code.was c.from_residual.ensures.1 in
    simp (← c.requires.0, le-leb _ _ c.if-actual-lt-RTR_ERROR_REPORT_MIN_LEN.false, ← c.be16-code.ensures, ← c.from_u16.ensures, p.0, p.1)

pub returns : goal.returns
unfolding read_error_report read_code
returns c =
    let known = c.ok_or.ensures.ok_part ∙ ap result_ok c.in_ok-error_code.was in
    simp (
      ← c.requires.0,
      le-leb _ _ c.if-actual-lt-RTR_ERROR_REPORT_MIN_LEN.false,
      ← c.be16-code.ensures,
      ← c.from_u16.ensures,
      known,
      every-code c.args.version c.be16-code.result c.in_ok-error_code.error_code (sym c.from_u16.ensures ∙ known),
    ) c.parse_error_pdu.ensures
