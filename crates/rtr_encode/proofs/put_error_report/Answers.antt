-- `put_error_report` writes the report from the front, part behind part. Assumes nothing.
use Rattle.rtr_encode.proofs.Payloads.{report-stored}
use Rattle.rtr_encode.proofs.put_error_report.Goals as goal

pub returns : goal.returns
returns c =
    let a = c.args in
    report-stored a.version a.code a.whole a.copy.now a.text.now a.out.now _ _ _ _ _
    c.put_header.ensures c.put32.ensures c.put_part.ensures c.put32-2.ensures c.put_part-2.ensures
