-- `loose_key` takes number after number. Assumes nothing.
use mathlib.Core.Path.{ap, ◌∙◌}
use Prim.Native.Nat.{ℕ, ◌%◌}
use Rattle.rtr_models.specs.declared.RtrPdu.TheVariants.{RouterKey}
use Rattle.rtr_pdu_numbers.proofs.loose_key.Goals as goal

pub returns : goal.returns
returns c =
    let flags = c.low.ensures ∙ ap (λ (n : ℕ). n % 256) c.at.ensures in
    let subject-key-identifier = c.loose_place.ensures in
    let asn = c.low-2.ensures ∙ ap (λ (n : ℕ). n % 4294967296) c.at-2.ensures in
    let subject-public-key-info = c.loose_place-2.ensures in
    λ i. RouterKey (record { version = c.args.version; flags = flags i; subject_key_identifier = subject-key-identifier i; asn = asn i; subject_public_key_info = subject-public-key-info i })
