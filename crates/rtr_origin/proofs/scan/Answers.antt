use Prim.Native.Nat.{◌≤◌}
use mathlib.Core.Path.{◌≡◌, ap, ◌∙◌}
use native.Mathlib.Omega.{arith}
use Rattle.rtr_room.specs.Room.{records, record_at}
use Rattle.rtr_origin.specs.Judged.{strength, strongest}
use Rattle.rtr_origin.proofs.Judging.{each_within, all-within, strongest-within, one_more}
use Rattle.rtr_origin.proofs.scan.Goals as goal
use Rattle.rtr_origin.proofs.scan.Goals.{After-judge-next}

-- how strong the record at the place speaks
spoken : (c : After-judge-next) →
    (c.judge-next.result ≡ strength c.args.a (record_at c.args.live.now c.loop-i.i)) × (c.judge-next.result ≤ strongest c.args.a (records c.args.count c.args.live.now))
spoken c =
    let a = c.args in
    let told = c.judge-next.ensures ∙ ap (strength a.a) c.record_of.ensures in
    (told, omega (arith, told, each_within a.a a.live.now a.count c.loop-i.i (omega arith)))

pub returns-then-next-eq2 : goal.returns-then-next-eq2
returns-then-next-eq2 c =
    let a = c.args in
    omega (arith, spoken (goal.at.returns-then-next-eq2 c).After-judge-next, c.if-next-eq2.true, strongest-within a.a a.live.now a.count)

pub loop-i-preserved : goal.loop-i-preserved
loop-i-preserved c =
    let a = c.args in
    let at-loop = c.loop-i in
    let next = spoken (goal.at.loop-i-preserved c).After-judge-next in
    let higher = c.higher-best.ensures in (
      one_more (λ k. strength a.a (record_at a.live.now k)) at-loop.i at-loop.best c.higher-best.result at-loop.invariant.0 higher.0 (omega (arith, next.0, higher.1)),
      higher.2 _ at-loop.invariant.1 next.1,
    )

pub returns : goal.returns
returns c =
    let a = c.args in
    let at-loop = c.loop-i in
    omega (arith, at-loop.invariant.1, all-within a.a a.live.now a.count at-loop.best (λ k l. at-loop.invariant.0 k (omega arith)))
