-- `put_refusal`: three lines, one behind another. Assumes nothing.
use Prim.Native.Nat.{ℕ}
use mathlib.Core.List.{List}
use mathlib.Core.Path.{sym, subst}
use native.Mathlib.Omega.{arith}
use Rattle.rtr_listing.specs.Private.{Put}
use Rattle.rtr_listing.proofs.Puts.{put_then}
use Rattle.rtr_diffs.proofs.Texts.{refusal_is, refusal-parts}
use Rattle.rtr_diffs.proofs.put_refusal.Goals as goal

pub put_number-at_file-requires : goal.put_number-at_file-requires
put_number-at_file-requires c = omega (arith, c.requires, refusal-parts c.args.file.now c.args.line)

pub put_line-at_line-requires : goal.put_line-at_line-requires
put_line-at_line-requires c = omega (arith, c.requires, refusal-parts c.args.file.now c.args.line, c.put_number-at_file.ensures.place, c.put_number-at_file.auto.out)

pub put_number-requires : goal.put_number-requires
put_number-requires c = omega (arith, c.requires, refusal-parts c.args.file.now c.args.line, c.put_line-at_line.ensures.place, c.put_line-at_line.auto.out, c.put_number-at_file.ensures.place, c.put_number-at_file.auto.out)

pub returns : goal.returns
returns c =
    let a = c.args in
    subst (λ (b : List ℕ). Put a.out.now 0 b c.put_number.result c.put_number.new.out) (sym (refusal_is a.file.now a.line))
    (put_then (omega arith) (put_then (omega arith) c.put_number-at_file.ensures c.put_line-at_line.ensures) c.put_number.ensures)
