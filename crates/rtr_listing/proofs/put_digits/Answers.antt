use Prim.Native.Nat.{ℕ, suc, ◌+◌, ◌-◌, ◌/◌}
use mathlib.Core.Path.{◌≡◌, sym, ap, ◌∙◌}
use native.Mathlib.Omega.{arith}
use lib.ListN.{set}
use Rattle.rtr_base.specs.Over.{over}
use Rattle.rtr_listing.specs.Listing.{digits}
use Rattle.rtr_listing.proofs.Digits.{digits-length, digits_more, digits-done}
use Rattle.rtr_listing.proofs.put_digits.Goals as goal

pub loop-i-preserved : goal.loop-i-preserved
loop-i-preserved c =
    let a = c.args in
    let l = c.loop-i in
    let one_less : l.i ≡ suc (l.i - 1) = omega arith in
    ap (λ (g : ℕ). over (set l.out (a.at + (l.i - 1)) g) a.at (digits a.base (l.i - 1) (l.rest / a.base))) c.glyph.ensures
    ∙ digits_more l.out a.at a.base (l.i - 1) l.rest (omega arith)
    ∙ ap (λ (i : ℕ). over l.out a.at (digits a.base i l.rest)) (sym one_less)
    ∙ l.invariant

pub returns : goal.returns
returns c =
    let a = c.args in
    let l = c.loop-i in
    record {
      place = ap (λ (k : ℕ). a.at + k) (sym (digits-length a.base a.k a.n));
      content = sym (digits-done l.out a.at a.base l.i l.rest (omega arith)) ∙ l.invariant;
    }
