-- The guess stands where its numbers are those given, and nowhere else. Assumes nothing.
use Rattle.std.specs.Prelude.{Option, Some, None}
use Rattle.std.specs.Bool.{then_some}
use Prim.Native.Nat.{ℕ}
use mathlib.Core.Bool.{Bool, true, false, cond}
use mathlib.Core.List.{List}
use mathlib.Core.Path.{◌≡◌, refl, ap, ◌∙◌}
use lib.ListN.{get_or}
use Rattle.rtr_models.specs.declared.RtrPdu.{RtrPdu}
use Rattle.rtr_numbers.specs.Back.{alike}
use Rattle.rtr_pdu_numbers.specs.Numbers.{pdu_numbers}
use Rattle.rtr_pdu_numbers.specs.Back.{pdu_if}

by-case : (b : Bool) (x : RtrPdu × ℕ) → then_some b x ≡ cond b (Some x) None
by-case true x = refl
by-case false x = refl

pub pdu-by-test : (pdu : RtrPdu) (k : ℕ) (said n : List ℕ) (t : Bool) (r : Option (RtrPdu × ℕ)) → k ≡ get_or n 2 0 → said ≡ pdu_numbers pdu k → t ≡ alike said n → r ≡ then_some t (pdu, k) → r ≡ pdu_if pdu n
unfolding pdu_if
pdu-by-test pdu k said n t r c p q e =
    e
    ∙ by-case t (pdu, k)
    ∙ ap (λ (x : Bool). cond x (Some (pdu, k)) None) (q ∙ ap (λ (l : List ℕ). alike l n) p)
    ∙ ap (λ (j : ℕ). cond (alike (pdu_numbers pdu j) n) (Some (pdu, j)) None) c
