-- `error_value` goes by the place; behind the third there is none. Assumes nothing.
use mathlib.Core.Path.{sym, ap, ◌∙◌}
use Prim.Native.Nat.{ℕ}
use native.Mathlib.Omega.{arith}
use Rattle.rtr_codec.specs.Answers.{refusal}
use Rattle.rtr_numbers.specs.Numbers.{value_of}
use Rattle.rtr_numbers.specs.declared.PhaseNumbers.{PhaseNumbers}
use Rattle.rtr_numbers.proofs.Values.{stop-value, no-more-values}
use Rattle.rtr_numbers.proofs.error_value.Goals as goal

pub returns-in-0 : goal.returns-in-0
returns-in-0 c = ap (λ (p : PhaseNumbers). p.first) c.error_numbers-p.ensures ∙ stop-value (refusal c.args.error) 0 ∙ sym (ap (λ (j : ℕ). value_of j (refusal c.args.error)) c.in-0.is)

pub returns-in-1 : goal.returns-in-1
returns-in-1 c = ap (λ (p : PhaseNumbers). p.second) c.error_numbers-p.ensures ∙ stop-value (refusal c.args.error) 1 ∙ sym (ap (λ (j : ℕ). value_of j (refusal c.args.error)) c.in-1.is)

pub returns-in-2 : goal.returns-in-2
returns-in-2 c = ap (λ (p : PhaseNumbers). p.third) c.error_numbers-p.ensures ∙ stop-value (refusal c.args.error) 2 ∙ sym (ap (λ (j : ℕ). value_of j (refusal c.args.error)) c.in-2.is)

pub returns-in_default : goal.returns-in_default
returns-in_default c = no-more-values c.args.error c.args.i (omega (arith, c.in_default.in_default-own.rest.1, c.in_default.in_default-own.rest.0.1, c.in_default.in_default-own.rest.0.0.1))
