use Prim.Native.Nat.{◌≤◌, ◌<◌}
use mathlib.Core.Bool.{true}
use mathlib.Core.Path.{◌≡◌, sym, ap, ◌∙◌}
use native.Mathlib.Omega.{arith}
use borrow.Author.Tests.{leb-true}
use Rattle.rtr_room.specs.Table.{family_of, rank}
use Rattle.rtr_room.specs.Room.{records, record_at}
use Rattle.rtr_room.specs.declared.Record.{Record}
use Rattle.rtr_origin.specs.Origin.{words, agree}
use Rattle.rtr_origin.specs.Judged.{Ran, strength, strongest}
use Rattle.rtr_origin.proofs.Judging.{each_within, strength-within, few-in-common, one-more-from}
use Rattle.rtr_origin.proofs.Tabled.{size}
use Rattle.rtr_origin.proofs.Engine.{run_ends}
use Rattle.rtr_origin.proofs.run.Goals as goal
use Rattle.rtr_origin.proofs.run.Goals.{At-loop-i, After-judge_alike-more}

pub record_of-x-requires : goal.record_of-x-requires
record_of-x-requires c = (let a = c.args in omega (arith, size a.live.now a.count c.requires.0))

-- where the place is at the table's end, at another family or at fewer bits in common, no record behind it covers either
ended : (c : At-loop-i) →
    (c.loop-i.i < c.args.count → family_of (record_at c.args.live.now c.loop-i.i) ≡ family_of c.args.a → agree c.args.loose (words (record_at c.args.live.now c.loop-i.i)) (words c.args.a) ≡ true → ⊥) →
    Ran c.args.loose c.args.a c.args.live.now c.args.count c.loop-i.best
ended c over =
    let a = c.args in
    let at-loop = c.loop-i in
    let begins = c.rank_of-i.ensures.0 ∙ ap (λ (r : Record). rank r (records a.count a.live.now)) c.probe.ensures in
    record {
      there = at-loop.invariant.1;
      all-loose = λ q least k u m l e. run_ends a.live.now a.count c.requires.0 q a.a k least a.loose u c.requires.1 _ at-loop.i at-loop.best begins at-loop.invariant.0 m l e at-loop.auto.i over;
    }

pub returns-then-family : goal.returns-then-family
returns-then-family c =
    ended (goal.at.returns-then-family c).At-loop-i (λ n f g. c.if-family.true (c.family.ensures ∙ ap family_of c.record_of-x.ensures ∙ f ∙ sym c.family-in-loop-i.ensures))

pub returns-then-bits-loose : goal.returns-then-bits-loose
returns-then-bits-loose c =
    let a = c.args in
    ended (goal.at.returns-then-bits-loose c).At-loop-i
    (λ n f g.
    omega (
      arith,
      c.if-bits-loose.true,
      leb-true a.loose c.common-bits.result (sym (c.common-bits.ensures.exactly a.loose c.requires.1)
          ∙ ap (λ (x : Record). agree a.loose (words x) (words a.a)) c.record_of-x.ensures ∙ g),
    ))

pub loop-i-preserved-then-prefix_length-bits : goal.loop-i-preserved-then-prefix_length-bits
loop-i-preserved-then-prefix_length-bits c =
    let at-loop = c.loop-i in
    let a = c.args in
    let none = few-in-common a.a _ _ _ c.common-bits.ensures c.prefix_length.ensures c.if-prefix_length-bits.true ∙ ap (strength a.a) c.record_of-x.ensures in (
      one-more-from (λ k. strength a.a (record_at a.live.now k)) _ at-loop.i at-loop.best at-loop.best at-loop.invariant.0 (omega arith) (omega (arith, none)),
      at-loop.invariant.1,
    )

-- how strong the record at the place speaks
spoken : (c : After-judge_alike-more) →
    (c.judge_alike-more.result ≡ strength c.args.a (record_at c.args.live.now c.loop-i.i)) × (c.judge_alike-more.result ≤ strongest c.args.a (records c.args.count c.args.live.now))
spoken c =
    let a = c.args in
    let told = c.judge_alike-more.ensures ∙ ap (strength a.a) c.record_of-x.ensures in
    (told, omega (arith, told, each_within a.a a.live.now a.count c.loop-i.i (omega arith)))

pub returns-then-more-eq2 : goal.returns-then-more-eq2
returns-then-more-eq2 c =
    let a = c.args in
    record {
      there = omega (arith, spoken (goal.at.returns-then-more-eq2 c).After-judge_alike-more, c.if-more-eq2.true);
      all-loose = λ q least k u m l e. strength-within a.a (record_at a.live.now m);
    }

pub loop-i-preserved : goal.loop-i-preserved
loop-i-preserved c =
    let a = c.args in
    let at-loop = c.loop-i in
    let more = spoken (goal.at.loop-i-preserved c).After-judge_alike-more in
    let higher = c.higher-best.ensures in (
      one-more-from (λ k. strength a.a (record_at a.live.now k)) _ at-loop.i at-loop.best c.higher-best.result at-loop.invariant.0 higher.0 (omega (arith, more.0, higher.1)),
      higher.2 _ at-loop.invariant.1 more.1,
    )

pub returns : goal.returns
returns c = ended (goal.at.returns c).At-loop-i (λ n f g. omega (arith, c.loop-i-test.false))
