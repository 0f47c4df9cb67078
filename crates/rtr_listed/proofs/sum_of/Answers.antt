use Prim.Native.Nat.{ℕ}
use mathlib.Core.Path.{sym, ap, ◌∙◌}
use native.Mathlib.Nat.{pow-suc}
use native.Mathlib.Numerals.{add-one}
use native.Mathlib.Omega.{arith}
use Rattle.rtr_listing.specs.Digits.{value_of}
use Rattle.rtr_listed.specs.Listed.{fitting}
use Rattle.rtr_listed.specs.Listed.Fit.{fits}
use Rattle.rtr_listed.proofs.Values.{below-0, above-9, sum-next, sum-not, sum_done}
use Rattle.rtr_listed.proofs.sum_of.Goals as goal

pub returns-then-c-lt48 : goal.returns-then-c-lt48
returns-then-c-lt48 c =
    let l = c.loop-c in
    sum-not c.args.value.now l.c-index l.sum (omega arith) (below-0 _ c.if-c-lt48.true) l.invariant.1

pub returns-then-c-gt57 : goal.returns-then-c-gt57
returns-then-c-gt57 c =
    let l = c.loop-c in
    sum-not c.args.value.now l.c-index l.sum (omega arith) (above-9 _ c.if-c-gt57.true) l.invariant.1

pub loop-c-preserved : goal.loop-c-preserved
loop-c-preserved c =
    let l = c.loop-c in
    rw add-one
    (omega (arith, l.invariant.0, pow-suc 10 l.c-index), sum-next c.args.value.now l.c-index l.sum (omega arith) (omega arith) (omega arith) l.invariant.1)

pub returns : goal.returns
returns c =
    let a = c.args in
    let l = c.loop-c in
    let all = sum_done a.value.now l.c-index l.sum (omega arith) l.invariant.1 in
    sym ((λ i. fitting (all.0 i) (value_of a.value.now 0)) ∙ ap (λ (n : ℕ). fits n) all.1)
