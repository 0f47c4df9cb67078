-- `loose_ipv6` takes number after number. Assumes nothing.
use mathlib.Core.Path.{ap, ◌∙◌}
use Prim.Native.Nat.{ℕ, ◌%◌}
use Rattle.rtr_models.specs.declared.RtrPdu.TheVariants.{IPv6Prefix}
use Rattle.rtr_pdu_numbers.proofs.loose_ipv6.Goals as goal

pub returns : goal.returns
returns c =
    let flags = c.low.ensures ∙ ap (λ (n : ℕ). n % 256) c.at.ensures in
    let prefix-length = c.low-2.ensures ∙ ap (λ (n : ℕ). n % 256) c.at-2.ensures in
    let max-length = c.low-3.ensures ∙ ap (λ (n : ℕ). n % 256) c.at-3.ensures in
    let w0 = c.low-4.ensures ∙ ap (λ (n : ℕ). n % 4294967296) c.at-4.ensures in
    let w1 = c.low-5.ensures ∙ ap (λ (n : ℕ). n % 4294967296) c.at-5.ensures in
    let w2 = c.low-6.ensures ∙ ap (λ (n : ℕ). n % 4294967296) c.at-6.ensures in
    let w3 = c.low-7.ensures ∙ ap (λ (n : ℕ). n % 4294967296) c.at-7.ensures in
    let asn = c.low-8.ensures ∙ ap (λ (n : ℕ). n % 4294967296) c.at-8.ensures in
    λ i. IPv6Prefix (record { version = c.args.version; flags = flags i; prefix_length = prefix-length i; max_length = max-length i; prefix = record { w0 = w0 i; w1 = w1 i; w2 = w2 i; w3 = w3 i }; asn = asn i })
