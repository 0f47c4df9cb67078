-- `put_word`: both words have eight letters. Assumes nothing.
use mathlib.Core.Bool.{Bool, true, false}
use mathlib.Core.Path.{sym, subst}
use native.Mathlib.Omega.{arith}
use Rattle.rtr_listing.specs.Listing.{text, line_of}
use Rattle.rtr_listing.specs.Private.{Put}
use Rattle.rtr_diffs.specs.Diffs.{change_word}
use Rattle.rtr_diffs.proofs.Texts.{word-length}
use Rattle.rtr_diffs.proofs.put_word.Goals as goal

pub put_line-requires : goal.put_line-requires
put_line-requires c = omega (arith, c.requires, word-length c.args.announced, word-length true)

pub returns-then-announced : goal.returns-then-announced
returns-then-announced c =
    let a = c.args in
    subst (λ (b : Bool). Put a.out.now a.at (line_of (text "change=") (change_word b)) c.put_line.result c.put_line.new.out) (sym c.if-announced.true) c.put_line.ensures

pub put_line-requires-2 : goal.put_line-requires-2
put_line-requires-2 c = omega (arith, c.requires, word-length c.args.announced, word-length false)

pub returns : goal.returns
returns c =
    let a = c.args in
    subst (λ (b : Bool). Put a.out.now a.at (line_of (text "change=") (change_word b)) c.put_line-2.result c.put_line-2.new.out) (sym c.if-announced.false) c.put_line-2.ensures
