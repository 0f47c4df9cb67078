-- `table_of` guesses, writes the guess again and compares. Assumes nothing.
use Rattle.rtr_numbers.specs.Numbers.{table_numbers_of}
use Rattle.rtr_numbers.specs.Back.{table_if}
use Rattle.rtr_numbers.proofs.Founds.{guess-by-test}
use Rattle.rtr_numbers.proofs.table_of.Goals as goal

pub returns : goal.returns
unfolding table_if
returns c =
    let guess = c.low_table-t in
    let said = c.table_numbers-said in
    guess-by-test table_numbers_of _ _ _ _ _ c.then_some.result guess.ensures said.ensures c.is_alike.ensures c.then_some.ensures
