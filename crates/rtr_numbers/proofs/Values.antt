-- A refusal has three values at the most. Assumes nothing.
use Prim.Native.Nat.{ℕ, ◌≤◌}
use mathlib.Core.List.{[], ◌∷◌}
use mathlib.Core.Path.{◌≡◌, refl, sym}
use native.Mathlib.Omega.{arith}
use lib.ListN.{get_or-eq_default}
use Rattle.rtr_codec.specs.Read.{Verdict}
use Rattle.rtr_codec.specs.Answers.{refusal}
use Rattle.rtr_codec.specs.declared.RtrError.{RtrError}
use Rattle.rtr_codec.specs.declared.RtrError.TheVariants.{IncompletePdu, InvalidProtocolVersion, InvalidPduType, InvalidLength, RouterKeyInV0, InvalidPrefixLength, InvalidErrorCode, InvalidUtf8}
use Rattle.rtr_receiver.specs.Promises.{stopped_by}
use Rattle.rtr_numbers.specs.Numbers.{stage_value, value_of}

pub stop-value : (v : Verdict) (i : ℕ) → stage_value i (stopped_by v) ≡ value_of i v
stop-value (Verdict.accepted pdu n) i = refl
stop-value (Verdict.refused k x) i = refl

pub no-more-values : (e : RtrError) (i : ℕ) → 3 ≤ i → 0 ≡ value_of i (refusal e)
no-more-values (IncompletePdu a n) i h = sym (get_or-eq_default (a ∷ n ∷ []) 0 {n = i} (omega arith))
no-more-values (InvalidPduType t) i h = sym (get_or-eq_default (t ∷ []) 0 {n = i} (omega arith))
no-more-values (InvalidProtocolVersion v) i h = sym (get_or-eq_default (v ∷ []) 0 {n = i} (omega arith))
no-more-values (InvalidErrorCode c) i h = sym (get_or-eq_default (c ∷ []) 0 {n = i} (omega arith))
no-more-values (InvalidLength a b c) i h = sym (get_or-eq_default (a ∷ b ∷ c ∷ []) 0 {n = i} (omega arith))
no-more-values (InvalidPrefixLength a b c) i h = sym (get_or-eq_default (a ∷ b ∷ c ∷ []) 0 {n = i} (omega arith))
no-more-values InvalidUtf8 i h = sym (get_or-eq_default [] 0 {n = i} (omega arith))
no-more-values RouterKeyInV0 i h = sym (get_or-eq_default [] 0 {n = i} (omega arith))
