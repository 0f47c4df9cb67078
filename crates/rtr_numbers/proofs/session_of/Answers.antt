-- `session_of` guesses, writes the guess again and compares. Assumes nothing.
use Rattle.rtr_numbers.specs.Numbers.{session_numbers}
use Rattle.rtr_numbers.specs.Back.{session_if}
use Rattle.rtr_numbers.proofs.Founds.{guess-by-test}
use Rattle.rtr_numbers.proofs.session_of.Goals as goal

pub returns : goal.returns
unfolding session_if
returns c =
    let guess = c.loose_session-s in
    let said = c.session_numbers-said in
    guess-by-test session_numbers _ _ _ _ _ c.then_some.result guess.ensures said.ensures c.is_alike.ensures c.then_some.ensures
