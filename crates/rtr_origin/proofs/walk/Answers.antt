use Prim.Native.Nat.{ℕ, ◌+◌, ◌-◌, ◌*◌}
use mathlib.Core.Path.{sym, ap, ◌∙◌, subst}
use native.Mathlib.Omega.{arith}
use Rattle.rtr_room.specs.Table.{family_of, rank}
use Rattle.rtr_room.specs.Room.{records, record_at}
use Rattle.rtr_room.specs.declared.Record.{Record}
use Rattle.rtr_origin.specs.Origin.{words}
use Rattle.rtr_origin.specs.Judged.{Common, strength, probe_of}
use Rattle.rtr_origin.proofs.Judging.{each_within, strength-within}
use Rattle.rtr_origin.proofs.Tabled.{size}
use Rattle.rtr_origin.proofs.Engine.{starts, covered, ends-at-family, jumped}
use Rattle.rtr_origin.proofs.walk.Goals as goal

pub high_probe-requires : goal.high_probe-requires
high_probe-requires c = omega (arith, c.prefix_length.ensures)

pub rank_of-p-requires : goal.rank_of-p-requires
rank_of-p-requires c = c.requires

pub loop-p-init : goal.loop-p-init
loop-p-init c =
    let a = c.args in
    let s = a.live.now in (
      c.rank_of-p.ensures.1,
      omega arith,
      omega arith,
      λ q loose k u.
          starts s a.count c.requires q a.a k c.rank_of-p.result
          (c.rank_of-p.ensures.0 ∙ ap (λ (r : Record). rank r (records a.count s)) c.high_probe.ensures
          ∙ ap (λ (n : ℕ). rank (probe_of a.a n (n * 256 + 255) 4294967295) (records a.count s)) c.prefix_length.ensures)
          c.rank_of-p.ensures.1,
    )

pub record_of-x-requires : goal.record_of-x-requires
record_of-x-requires c = (let a = c.args in omega (arith, size a.live.now a.count c.requires))

pub returns-then-family : goal.returns-then-family
returns-then-family c =
    let a = c.args in
    let at-loop = c.loop-p in
    record {
      there = at-loop.invariant.2;
      all_plain = λ q loose k u.
          ends-at-family a.live.now a.count c.requires q a.a k at-loop.best at-loop.p c.loop-p-test.true at-loop.invariant.0 (at-loop.invariant.3 q loose k u)
          (λ e. c.if-family.true (c.family.ensures ∙ ap family_of c.record_of-x.ensures ∙ e ∙ sym c.family-in-loop-p.ensures));
    }

pub judge_alike-next-requires : goal.judge_alike-next-requires
judge_alike-next-requires c = (sym c.family.ensures ∙ c.if-family.false ∙ c.family-in-loop-p.ensures, c.common-bits.ensures)

pub returns-then-next-eq2 : goal.returns-then-next-eq2
returns-then-next-eq2 c =
    let a = c.args in
    let at-loop = c.loop-p in
    let told = c.judge_alike-next.ensures ∙ ap (strength a.a) c.record_of-x.ensures in
    record {
      there = omega (arith, told, c.if-next-eq2.true, each_within a.a a.live.now a.count (at-loop.p - 1) (omega arith));
      all_plain = λ q loose k u i l e. strength-within a.a (record_at a.live.now i);
    }

pub loop-p-preserved-then-next-eq1 : goal.loop-p-preserved-then-next-eq1
loop-p-preserved-then-next-eq1 c =
    let a = c.args in
    let at-loop = c.loop-p in
    let told = c.judge_alike-next.ensures ∙ ap (strength a.a) c.record_of-x.ensures in (
      omega arith,
      omega arith,
      omega (arith, told, c.if-next-eq1.true, each_within a.a a.live.now a.count (at-loop.p - 1) (omega arith)),
      λ q loose k u.
          covered a.live.now a.count c.requires q a.a k at-loop.best at-loop.p c.loop-p-test.true at-loop.invariant.1 (sym told ∙ c.if-next-eq1.true) (at-loop.invariant.3 q loose k u),
    )

pub jump-at-requires : goal.jump-at-requires
jump-at-requires c = (c.requires, c.loop-p.invariant.0, c.common-bits.ensures.within)

pub scan-requires : goal.scan-requires
scan-requires c = (let a = c.args in size a.live.now a.count c.requires)

pub returns-then-at-p : goal.returns-then-at-p
returns-then-at-p c =
    let a = c.args in
    record {
      there = omega (arith, c.scan.ensures);
      all_plain = λ q loose k u i l e. omega (arith, c.scan.ensures, each_within a.a a.live.now a.count i l);
    }

pub loop-p-preserved : goal.loop-p-preserved
loop-p-preserved c =
    let a = c.args in
    let at-loop = c.loop-p in
    let read = c.record_of-x.ensures in
    let told = c.judge_alike-next.ensures ∙ ap (strength a.a) read in (
      omega arith,
      at-loop.invariant.1,
      at-loop.invariant.2,
      λ q loose k u.
          jumped a.live.now a.count c.requires q a.a k at-loop.best at-loop.p c.loop-p-test.true at-loop.invariant.0 (at-loop.invariant.3 q loose k u)
          (sym (c.family.ensures ∙ ap family_of read) ∙ c.if-family.false ∙ c.family-in-loop-p.ensures)
          (omega (arith, told, c.if-next-eq2.false, c.if-next-eq1.false, strength-within a.a (record_at a.live.now (at-loop.p - 1))))
          a.least loose u _ c.jump-at.result
          (subst (λ (x : Record). Common (words x) (words a.a) c.common-bits.result) read c.common-bits.ensures)
          c.if-at-p.false c.jump-at.ensures,
    )

pub returns : goal.returns
returns c =
    let at-loop = c.loop-p in
    record { there = at-loop.invariant.2; all_plain = λ q loose k u i l e. (at-loop.invariant.3 q loose k u).judged i (omega (arith, c.loop-p-test.false)) l e }
