-- `read_head`: the stop, then no table, or its five numbers and the count. Assumes nothing.
use mathlib.Core.Path.{◌∙◌}
use native.Mathlib.Omega.{arith}
use Rattle.rtr_listed.proofs.Heads.{start, begins, stop-stands, second_none, second-table, count-stands}
use Rattle.rtr_listed.proofs.read_head.Goals as goal

pub returns-then-none : goal.returns-then-none
returns-then-none c =
    let a = c.args in
    let s = a.listing.now in
    let stop = c.stop_line-stop in
    let none = c.none_line-none in
    record {
      stands = begins a.limit s ∙ stop-stands a.limit s start _ _ stop.ensures.0 ∙ second_none a.limit stop.result.value s _ _ none.ensures.0 c.if-none.true;
      within = omega arith;
      inside = none.ensures.1.at;
      line = omega (arith, stop.ensures.1.1.line, none.ensures.1.line);
    }

pub returns : goal.returns
returns c =
    let a = c.args in
    let s = a.listing.now in
    let stop = c.stop_line-stop in
    let none = c.none_line-none in
    let table = c.read_table-read in
    let count = c.count_line-count in
    let v = stop.result.value in
    record {
      stands =
          begins a.limit s
          ∙ stop-stands a.limit s start _ _ stop.ensures.0
          ∙ second-table a.limit v s _ _ none.ensures.0 c.if-none.false
          ∙ table.ensures.0 a.limit v
          ∙ count-stands a.limit v table.result.table s _ _ _ count.ensures.0;
      within = count.ensures.1.0;
      inside = count.ensures.1.1.at;
      line = omega (arith, stop.ensures.1.1.line, table.ensures.1.line, count.ensures.1.1.line);
    }
