-- `loose_ipv4` takes number after number. Assumes nothing.
use mathlib.Core.Path.{ap, ◌∙◌}
use Prim.Native.Nat.{ℕ, ◌%◌}
use Rattle.rtr_models.specs.declared.RtrPdu.TheVariants.{IPv4Prefix}
use Rattle.rtr_pdu_numbers.proofs.loose_ipv4.Goals as goal

pub returns : goal.returns
returns c =
    let flags = c.low.ensures ∙ ap (λ (n : ℕ). n % 256) c.at.ensures in
    let prefix-length = c.low-2.ensures ∙ ap (λ (n : ℕ). n % 256) c.at-2.ensures in
    let max-length = c.low-3.ensures ∙ ap (λ (n : ℕ). n % 256) c.at-3.ensures in
    let prefix = c.low-4.ensures ∙ ap (λ (n : ℕ). n % 4294967296) c.at-4.ensures in
    let asn = c.low-5.ensures ∙ ap (λ (n : ℕ). n % 4294967296) c.at-5.ensures in
    λ i. IPv4Prefix (record { version = c.args.version; flags = flags i; prefix_length = prefix-length i; max_length = max-length i; prefix = prefix i; asn = asn i })
