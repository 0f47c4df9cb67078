-- `rtr_text::character_at` meets its contract: at each return the rows before it failed (`row-fails`, one after another: `past-1` to `past-9`), and its own row fits (`row_fits`). At the last
-- return no row is left. Assumes nothing.
use Prim.Native.Nat.{ℕ}
use mathlib.Core.List.{List, []}
use mathlib.Core.Path.{◌≡◌, refl, ◌∙◌}
use lib.ListN.{drop}
use Rattle.rtr_text.specs.Utf8.{rows, character}
use Rattle.rtr_text.proofs.Begins.{row_fits, row-fails}
use Rattle.rtr_text.proofs.character_at.Goals as goal

-- so many rows have failed: the answer is that of the rows behind them
abbrev Past : ℕ → List ℕ → Type 0
Past k text = character (drop k rows) text ≡ character rows text

pub row_1-requires : goal.row_1-requires
row_1-requires c = c.requires

-- no row is left: 0
none-left : (text : List ℕ) → 0 ≡ character [] text
unfolding character
none-left text = refl

pub returns-then-row_1 : goal.returns-then-row_1
returns-then-row_1 c = row_fits _ _ _ c.row_1.ensures c.if-row_1.true refl

pub row_2-requires : goal.row_2-requires
row_2-requires c = c.requires

pub returns-then-row_2 : goal.returns-then-row_2
returns-then-row_2 c =
    let past-1 : Past 1 (drop c.args.at c.args.text.now) = row-fails _ _ _ c.row_1.ensures c.if-row_1.false refl in
    row_fits _ _ _ c.row_2.ensures c.if-row_2.true refl ∙ past-1

pub row_3-requires : goal.row_3-requires
row_3-requires c = c.requires

pub returns-then-row_3 : goal.returns-then-row_3
returns-then-row_3 c =
    let past-1 : Past 1 (drop c.args.at c.args.text.now) = row-fails _ _ _ c.row_1.ensures c.if-row_1.false refl in
    let past-2 : Past 2 (drop c.args.at c.args.text.now) = row-fails _ _ _ c.row_2.ensures c.if-row_2.false refl ∙ past-1 in
    row_fits _ _ _ c.row_3.ensures c.if-row_3.true refl ∙ past-2

pub row_4-requires : goal.row_4-requires
row_4-requires c = c.requires

pub returns-then-row_4 : goal.returns-then-row_4
returns-then-row_4 c =
    let past-1 : Past 1 (drop c.args.at c.args.text.now) = row-fails _ _ _ c.row_1.ensures c.if-row_1.false refl in
    let past-2 : Past 2 (drop c.args.at c.args.text.now) = row-fails _ _ _ c.row_2.ensures c.if-row_2.false refl ∙ past-1 in
    let past-3 : Past 3 (drop c.args.at c.args.text.now) = row-fails _ _ _ c.row_3.ensures c.if-row_3.false refl ∙ past-2 in
    row_fits _ _ _ c.row_4.ensures c.if-row_4.true refl ∙ past-3

pub row_5-requires : goal.row_5-requires
row_5-requires c = c.requires

pub returns-then-row_5 : goal.returns-then-row_5
returns-then-row_5 c =
    let past-1 : Past 1 (drop c.args.at c.args.text.now) = row-fails _ _ _ c.row_1.ensures c.if-row_1.false refl in
    let past-2 : Past 2 (drop c.args.at c.args.text.now) = row-fails _ _ _ c.row_2.ensures c.if-row_2.false refl ∙ past-1 in
    let past-3 : Past 3 (drop c.args.at c.args.text.now) = row-fails _ _ _ c.row_3.ensures c.if-row_3.false refl ∙ past-2 in
    let past-4 : Past 4 (drop c.args.at c.args.text.now) = row-fails _ _ _ c.row_4.ensures c.if-row_4.false refl ∙ past-3 in
    row_fits _ _ _ c.row_5.ensures c.if-row_5.true refl ∙ past-4

pub row_6-requires : goal.row_6-requires
row_6-requires c = c.requires

pub returns-then-row_6 : goal.returns-then-row_6
returns-then-row_6 c =
    let past-1 : Past 1 (drop c.args.at c.args.text.now) = row-fails _ _ _ c.row_1.ensures c.if-row_1.false refl in
    let past-2 : Past 2 (drop c.args.at c.args.text.now) = row-fails _ _ _ c.row_2.ensures c.if-row_2.false refl ∙ past-1 in
    let past-3 : Past 3 (drop c.args.at c.args.text.now) = row-fails _ _ _ c.row_3.ensures c.if-row_3.false refl ∙ past-2 in
    let past-4 : Past 4 (drop c.args.at c.args.text.now) = row-fails _ _ _ c.row_4.ensures c.if-row_4.false refl ∙ past-3 in
    let past-5 : Past 5 (drop c.args.at c.args.text.now) = row-fails _ _ _ c.row_5.ensures c.if-row_5.false refl ∙ past-4 in
    row_fits _ _ _ c.row_6.ensures c.if-row_6.true refl ∙ past-5

pub row_7-requires : goal.row_7-requires
row_7-requires c = c.requires

pub returns-then-row_7 : goal.returns-then-row_7
returns-then-row_7 c =
    let past-1 : Past 1 (drop c.args.at c.args.text.now) = row-fails _ _ _ c.row_1.ensures c.if-row_1.false refl in
    let past-2 : Past 2 (drop c.args.at c.args.text.now) = row-fails _ _ _ c.row_2.ensures c.if-row_2.false refl ∙ past-1 in
    let past-3 : Past 3 (drop c.args.at c.args.text.now) = row-fails _ _ _ c.row_3.ensures c.if-row_3.false refl ∙ past-2 in
    let past-4 : Past 4 (drop c.args.at c.args.text.now) = row-fails _ _ _ c.row_4.ensures c.if-row_4.false refl ∙ past-3 in
    let past-5 : Past 5 (drop c.args.at c.args.text.now) = row-fails _ _ _ c.row_5.ensures c.if-row_5.false refl ∙ past-4 in
    let past-6 : Past 6 (drop c.args.at c.args.text.now) = row-fails _ _ _ c.row_6.ensures c.if-row_6.false refl ∙ past-5 in
    row_fits _ _ _ c.row_7.ensures c.if-row_7.true refl ∙ past-6

pub row_8-requires : goal.row_8-requires
row_8-requires c = c.requires

pub returns-then-row_8 : goal.returns-then-row_8
returns-then-row_8 c =
    let past-1 : Past 1 (drop c.args.at c.args.text.now) = row-fails _ _ _ c.row_1.ensures c.if-row_1.false refl in
    let past-2 : Past 2 (drop c.args.at c.args.text.now) = row-fails _ _ _ c.row_2.ensures c.if-row_2.false refl ∙ past-1 in
    let past-3 : Past 3 (drop c.args.at c.args.text.now) = row-fails _ _ _ c.row_3.ensures c.if-row_3.false refl ∙ past-2 in
    let past-4 : Past 4 (drop c.args.at c.args.text.now) = row-fails _ _ _ c.row_4.ensures c.if-row_4.false refl ∙ past-3 in
    let past-5 : Past 5 (drop c.args.at c.args.text.now) = row-fails _ _ _ c.row_5.ensures c.if-row_5.false refl ∙ past-4 in
    let past-6 : Past 6 (drop c.args.at c.args.text.now) = row-fails _ _ _ c.row_6.ensures c.if-row_6.false refl ∙ past-5 in
    let past-7 : Past 7 (drop c.args.at c.args.text.now) = row-fails _ _ _ c.row_7.ensures c.if-row_7.false refl ∙ past-6 in
    row_fits _ _ _ c.row_8.ensures c.if-row_8.true refl ∙ past-7

pub row_9-requires : goal.row_9-requires
row_9-requires c = c.requires

pub returns-then-row_9 : goal.returns-then-row_9
returns-then-row_9 c =
    let past-1 : Past 1 (drop c.args.at c.args.text.now) = row-fails _ _ _ c.row_1.ensures c.if-row_1.false refl in
    let past-2 : Past 2 (drop c.args.at c.args.text.now) = row-fails _ _ _ c.row_2.ensures c.if-row_2.false refl ∙ past-1 in
    let past-3 : Past 3 (drop c.args.at c.args.text.now) = row-fails _ _ _ c.row_3.ensures c.if-row_3.false refl ∙ past-2 in
    let past-4 : Past 4 (drop c.args.at c.args.text.now) = row-fails _ _ _ c.row_4.ensures c.if-row_4.false refl ∙ past-3 in
    let past-5 : Past 5 (drop c.args.at c.args.text.now) = row-fails _ _ _ c.row_5.ensures c.if-row_5.false refl ∙ past-4 in
    let past-6 : Past 6 (drop c.args.at c.args.text.now) = row-fails _ _ _ c.row_6.ensures c.if-row_6.false refl ∙ past-5 in
    let past-7 : Past 7 (drop c.args.at c.args.text.now) = row-fails _ _ _ c.row_7.ensures c.if-row_7.false refl ∙ past-6 in
    let past-8 : Past 8 (drop c.args.at c.args.text.now) = row-fails _ _ _ c.row_8.ensures c.if-row_8.false refl ∙ past-7 in
    row_fits _ _ _ c.row_9.ensures c.if-row_9.true refl ∙ past-8

pub returns : goal.returns
returns c =
    let past-1 : Past 1 (drop c.args.at c.args.text.now) = row-fails _ _ _ c.row_1.ensures c.if-row_1.false refl in
    let past-2 : Past 2 (drop c.args.at c.args.text.now) = row-fails _ _ _ c.row_2.ensures c.if-row_2.false refl ∙ past-1 in
    let past-3 : Past 3 (drop c.args.at c.args.text.now) = row-fails _ _ _ c.row_3.ensures c.if-row_3.false refl ∙ past-2 in
    let past-4 : Past 4 (drop c.args.at c.args.text.now) = row-fails _ _ _ c.row_4.ensures c.if-row_4.false refl ∙ past-3 in
    let past-5 : Past 5 (drop c.args.at c.args.text.now) = row-fails _ _ _ c.row_5.ensures c.if-row_5.false refl ∙ past-4 in
    let past-6 : Past 6 (drop c.args.at c.args.text.now) = row-fails _ _ _ c.row_6.ensures c.if-row_6.false refl ∙ past-5 in
    let past-7 : Past 7 (drop c.args.at c.args.text.now) = row-fails _ _ _ c.row_7.ensures c.if-row_7.false refl ∙ past-6 in
    let past-8 : Past 8 (drop c.args.at c.args.text.now) = row-fails _ _ _ c.row_8.ensures c.if-row_8.false refl ∙ past-7 in
    let past-9 : Past 9 (drop c.args.at c.args.text.now) = row-fails _ _ _ c.row_9.ensures c.if-row_9.false refl ∙ past-8 in
    none-left (drop c.args.at c.args.text.now) ∙ past-9
