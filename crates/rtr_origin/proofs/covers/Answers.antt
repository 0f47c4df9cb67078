-- `covers`: family, length and the bits in common. Assumes nothing.
use mathlib.Core.Path.{sym, ap, ◌∙◌}
use native.Mathlib.Omega.{arith}
use lib.Dec.{leb}
use Prim.Native.Nat.{ℕ}
use Rattle.rtr_origin.proofs.Judging.{other-family, longer, as-common}
use Rattle.rtr_origin.proofs.covers.Goals as goal

pub returns-then-family : goal.returns-then-family
returns-then-family c =
    let a = c.args in
    other-family a.a a.x (λ e. c.if-family.true (c.family.ensures ∙ sym e ∙ sym c.family-2.ensures))

pub returns-then-length-prefix_length : goal.returns-then-length-prefix_length
returns-then-length-prefix_length c =
    let a = c.args in
    longer a.a a.x (sym c.family-2.ensures ∙ sym c.if-family.false ∙ c.family.ensures) (omega (arith, c.prefix_length-length.ensures, c.prefix_length.ensures))

pub returns : goal.returns
returns c =
    let a = c.args in
    ap (λ (n : ℕ). leb n c.common.result) c.prefix_length-length.ensures
    ∙ as-common a.a a.x (sym c.family-2.ensures ∙ sym c.if-family.false ∙ c.family.ensures) (omega (arith, c.prefix_length-length.ensures, c.prefix_length.ensures, c.if-length-prefix_length.false))
    c.common.result c.common.ensures
