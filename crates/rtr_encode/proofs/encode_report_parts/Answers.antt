-- `encode_report_parts` makes the last two checks, and then writes all. Assumes nothing.
use Prim.Native.Nat.{◌+◌}
use native.Mathlib.Omega.{arith}
use lib.ListN.{length}
use Rattle.rtr_encode.specs.Private.{report_bytes}
use Rattle.rtr_encode.proofs.Checks.{too_long, no_room, all_in, report-length}
use Rattle.rtr_encode.proofs.encode_report_parts.Goals as goal

pub returns-then-copy_len-gt4294967295 : goal.returns-then-copy_len-gt4294967295
returns-then-copy_len-gt4294967295 c =
    let a = c.args in
    let n = 16 + length a.copy.now + length a.text.now in
    let bytes = report_bytes a.version a.code a.copy.now a.text.now n in
    too_long n bytes a.out.now (omega arith)

pub returns-then-text_len-gt4294967295 : goal.returns-then-text_len-gt4294967295
returns-then-text_len-gt4294967295 c =
    let a = c.args in
    let n = 16 + length a.copy.now + length a.text.now in
    let bytes = report_bytes a.version a.code a.copy.now a.text.now n in
    too_long n bytes a.out.now (omega arith)

pub returns-then-whole-gt4294967295 : goal.returns-then-whole-gt4294967295
returns-then-whole-gt4294967295 c =
    let a = c.args in
    let n = 16 + length a.copy.now + length a.text.now in
    let bytes = report_bytes a.version a.code a.copy.now a.text.now n in
    too_long n bytes a.out.now (omega arith)

pub returns-then-out-whole : goal.returns-then-out-whole
returns-then-out-whole c =
    let a = c.args in
    let n = 16 + length a.copy.now + length a.text.now in
    let bytes = report_bytes a.version a.code a.copy.now a.text.now n in
    rw c.short.ensures (no_room n bytes a.out.now (omega arith) (omega arith))

pub returns : goal.returns
returns c =
    let a = c.args in
    let n = 16 + length a.copy.now + length a.text.now in
    let bytes = report_bytes a.version a.code a.copy.now a.text.now n in
    all_in n bytes a.out.now _ (omega arith) (omega arith) (report-length a.version a.code n a.copy.now a.text.now) c.put_error_report.ensures
