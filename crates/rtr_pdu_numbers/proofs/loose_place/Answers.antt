-- `loose_place` takes two numbers. Assumes nothing.
use Rattle.rtr_pdu_numbers.proofs.loose_place.Goals as goal

pub returns : goal.returns
returns c =
    let start = c.at.ensures in
    let len = c.at-2.ensures in
    λ i. record { start = start i; len = len i }
