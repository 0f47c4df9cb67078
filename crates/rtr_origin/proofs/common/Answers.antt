-- `common`: the first word that differs decides; the words before it are 32 bits each. Assumes nothing.
use mathlib.Core.List.{[], ◌∷◌}
use Prim.Native.Nat.{◌+◌}
use mathlib.Core.Path.{refl}
use native.Mathlib.Omega.{arith}
use Rattle.rtr_origin.proofs.Bits.{common-here, common-next, common-all}
use Rattle.rtr_origin.proofs.common.Goals as goal

pub returns-then-x-y : goal.returns-then-x-y
returns-then-x-y c = common-here _ _ _ _ _ c.if-x-y.true c.leading_alike.ensures

pub returns-then-x-y-2 : goal.returns-then-x-y-2
returns-then-x-y-2 c =
    common-next _ _ _ _ _ _ refl c.if-x-y.false (omega (arith, c.leading_alike-then-x-y-2.ensures.within))
    (common-here _ _ _ _ _ c.if-x-y-2.true c.leading_alike-then-x-y-2.ensures)

pub returns-then-x-y-3 : goal.returns-then-x-y-3
returns-then-x-y-3 c =
    common-next _ _ _ _ (32 + c.leading_alike-then-x-y-3.result) _ (omega arith) c.if-x-y.false (omega (arith, c.leading_alike-then-x-y-3.ensures.within))
    (common-next _ _ _ _ _ _ refl c.if-x-y-2.false (omega (arith, c.leading_alike-then-x-y-3.ensures.within))
    (common-here _ _ _ _ _ c.if-x-y-3.true c.leading_alike-then-x-y-3.ensures))

pub returns-then-x-y-4 : goal.returns-then-x-y-4
returns-then-x-y-4 c =
    common-next _ _ _ _ (64 + c.leading_alike-then-x-y-4.result) _ (omega arith) c.if-x-y.false (omega (arith, c.leading_alike-then-x-y-4.ensures.within))
    (common-next _ _ _ _ (32 + c.leading_alike-then-x-y-4.result) _ (omega arith) c.if-x-y-2.false (omega (arith, c.leading_alike-then-x-y-4.ensures.within))
    (common-next _ _ _ _ _ _ refl c.if-x-y-3.false (omega (arith, c.leading_alike-then-x-y-4.ensures.within))
    (common-here _ _ _ _ _ c.if-x-y-4.true c.leading_alike-then-x-y-4.ensures)))

pub returns : goal.returns
returns c = common-all _ _ (λ i. c.if-x-y.false i ∷ c.if-x-y-2.false i ∷ c.if-x-y-3.false i ∷ c.if-x-y-4.false i ∷ [])
