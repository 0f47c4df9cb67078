-- `put_change`: the first line, and the record's behind it. Assumes nothing.
use Prim.Native.Nat.{ℕ}
use mathlib.Core.List.{List}
use mathlib.Core.Path.{sym, subst}
use native.Mathlib.Omega.{arith}
use Rattle.rtr_listing.specs.Private.{Put}
use Rattle.rtr_listing.proofs.Puts.{put_then}
use Rattle.rtr_diffs.proofs.Texts.{word-length, change-is, change-length-is}
use Rattle.rtr_diffs.proofs.put_change.Goals as goal

pub put_word-next-requires : goal.put_word-next-requires
put_word-next-requires c = omega (arith, c.requires, change-length-is c.args.announced c.args.r, word-length c.args.announced)

pub put_record-requires : goal.put_record-requires
put_record-requires c = omega (arith, c.requires, change-length-is c.args.announced c.args.r, word-length c.args.announced, c.put_word-next.ensures.place, c.put_word-next.auto.out)

pub returns : goal.returns
returns c =
    let a = c.args in
    subst (λ (b : List ℕ). Put a.out.now a.at b c.put_record.result c.put_record.new.out) (sym (change-is a.announced a.r))
    (put_then (omega (arith, c.requires)) c.put_word-next.ensures c.put_record.ensures)
