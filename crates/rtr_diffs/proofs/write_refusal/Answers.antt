-- `write_refusal`: 9 where the output is shorter than the three lines, else they stand at the front. Assumes nothing.
use mathlib.Core.Path.{sym, ◌∙◌}
use native.Mathlib.Nat.{zero-add}
use native.Mathlib.Omega.{arith}
use Rattle.rtr_listing.proofs.Calls.{too_short, wrote}
use Rattle.rtr_diffs.specs.Diffs.{refusal_lines}
use Rattle.rtr_diffs.proofs.Texts.{refusal-short}
use Rattle.rtr_diffs.proofs.write_refusal.Goals as goal

pub put_refusal-needed-requires : goal.put_refusal-needed-requires
put_refusal-needed-requires c = omega (arith, refusal-short c.args.file.now c.args.line c.requires)

pub returns-then-out-needed : goal.returns-then-out-needed
returns-then-out-needed c =
    let a = c.args in
    rw c.short.ensures (too_short (refusal_lines a.file.now a.line) a.out.now _ (sym (c.put_refusal-needed.ensures.place ∙ zero-add _)) c.if-out-needed.true)

pub returns : goal.returns
returns c =
    let a = c.args in
    wrote (refusal_lines a.file.now a.line) a.out.now _ _ _ (sym (c.put_refusal-needed.ensures.place ∙ zero-add _)) c.if-out-needed.false c.put_refusal.ensures
