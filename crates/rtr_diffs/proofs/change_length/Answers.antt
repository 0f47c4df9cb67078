-- `change_length`: no change is longer than what is written aside. Assumes nothing.
use mathlib.Core.Path.{◌∙◌}
use native.Mathlib.Nat.{zero-add}
use native.Mathlib.Omega.{arith}
use lib.ListN.{length}
use Rattle.rtr_diffs.specs.Diffs.{change_lines}
use Rattle.rtr_diffs.proofs.Texts.{change-at-most}
use Rattle.rtr_diffs.proofs.change_length.Goals as goal

pub put_change-requires : goal.put_change-requires
put_change-requires c = let a = c.args in omega (arith, change-at-most a.announced a.r)

pub returns : goal.returns
returns c = let a = c.args in (c.put_change.ensures.place ∙ zero-add (length (change_lines a.announced a.r)), omega (arith, c.put_change.ensures.place, change-at-most a.announced a.r))
