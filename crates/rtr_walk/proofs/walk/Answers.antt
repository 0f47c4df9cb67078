-- `walk` gives what the walk of the reading in use says: level 0 is refused, or walked from with all levels left. Assumes nothing.
use mathlib.Core.Path.{sym, ◌∙◌}
use Rattle.std.proofs.lemmas.Result.{err_from_is_err_and}
use Rattle.rtr_codec.specs.Reading.{in_use}
use Rattle.rtr_walk.proofs.Steps.{walk-read, walk_refused}
use Rattle.rtr_walk.proofs.walk.Goals as goal

pub returns-in_err-pdu : goal.returns-in_err-pdu
returns-in_err-pdu c =
    let p = err_from_is_err_and c.from_residual.result c.from_residual.ensures.1 in rw (p.1, p.2) (sym (walk_refused in_use _ _ (sym c.in_err-pdu.ensures)))

pub returns : goal.returns
returns c = c.walk_pdu.ensures ∙ sym (walk-read in_use _ _ _ (sym c.in_ok-pdu.ensures))
