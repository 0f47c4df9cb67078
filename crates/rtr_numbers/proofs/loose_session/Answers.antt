-- `loose_session` guesses part by part. Assumes nothing.
use mathlib.Core.Path.{ap, ◌∙◌}
use Rattle.rtr_numbers.specs.Back.{loose_version, loose_session}
use Rattle.rtr_numbers.proofs.loose_session.Goals as goal

pub returns : goal.returns
unfolding loose_session
returns c =
    let version = c.loose_version.ensures ∙ ap loose_version c.at.ensures in
    let limit = c.at-2.ensures in
    let live = c.at-3.ensures in
    let working = c.at-4.ensures in
    let held = c.at-5.ensures in
    λ i. record { life = record { version = version i; limit = limit i }; phase = c.loose_phase.ensures i; table = c.loose_table.ensures i; note = c.loose_note.ensures i; live = record { records = live i }; working = record { records = working i }; held = held i }
