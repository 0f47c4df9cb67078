-- `loose_response` takes number after number. Assumes nothing.
use mathlib.Core.Path.{ap, ◌∙◌}
use Prim.Native.Nat.{ℕ, ◌%◌}
use Rattle.rtr_models.specs.declared.RtrPdu.TheVariants.{CacheResponse}
use Rattle.rtr_pdu_numbers.proofs.loose_response.Goals as goal

pub returns : goal.returns
returns c =
    let session-id = c.low.ensures ∙ ap (λ (n : ℕ). n % 65536) c.at.ensures in
    λ i. CacheResponse (record { version = c.args.version; session_id = session-id i })
