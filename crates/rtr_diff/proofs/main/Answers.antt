-- `main`: the rooms and the output have their sizes. Assumes nothing.
use mathlib.Core.Path.{refl}
use native.Mathlib.Nat.{le_refl}
use Rattle.rtr_diff.proofs.main.Goals as goal

pub diff_text-k-requires : goal.diff_text-k-requires
diff_text-k-requires c = record { old-size = refl; new-size = refl; out-size = le_refl _ }
