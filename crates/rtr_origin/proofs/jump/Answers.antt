-- `jump`: fewer bits in common than any plain record has end the walk, others lead to the next place or to their probe. Assumes nothing.
use mathlib.Core.Logic.{inl, inr}
use mathlib.Core.Path.{refl, ap, ◌∙◌}
use native.Mathlib.Omega.{arith}
use Rattle.rtr_room.specs.Table.{rank}
use Rattle.rtr_room.specs.Room.{records}
use Rattle.rtr_room.specs.declared.Record.{Record}
use Rattle.rtr_origin.proofs.Tabled.{size}
use Rattle.rtr_origin.proofs.jump.Goals as goal

pub returns-then-bits-least : goal.returns-then-bits-least
returns-then-bits-least c = record { ends = λ h. refl; goes = λ h. absurd (omega (arith, c.if-bits-least.true)) }

pub record_of-requires : goal.record_of-requires
record_of-requires c = omega (arith, size c.args.live.now c.args.count c.requires.0, c.requires.1, c.if-p-gt1.true)

pub returns-then-common-bits : goal.returns-then-common-bits
returns-then-common-bits c = record { ends = λ h. absurd (omega (arith, c.if-bits-least.false)); goes = λ h. inr refl }

pub returns : goal.returns
returns c =
    let a = c.args in
    record {
      ends = λ h. absurd (omega (arith, c.if-bits-least.false));
      goes = λ h. inl (c.rank_of.ensures.0 ∙ ap (λ (k : Record). rank k (records a.count a.live.now)) c.high_probe.ensures);
    }
