-- `put_prefix`: by the family. Assumes nothing.
use Prim.Native.Nat.{ℕ}
use mathlib.Core.List.{[]}
use mathlib.Core.Path.{◌≡◌, sym, ap, ◌∙◌, subst}
use Rattle.rtr_models.specs.declared.RtrPdu.{RtrPdu}
use Rattle.rtr_codec.specs.Reading.{in_use}
use Rattle.rtr_encode.specs.Encode.{encoding}
use Rattle.rtr_listing.specs.Private.{Fits, Put}
use Rattle.rtr_cache.specs.Cache.{sent_ipv4, sent_ipv6, sent_prefix}
use Rattle.rtr_cache.specs.Private.{sided}
use Rattle.rtr_cache.proofs.NoPayload.{prefix-four, prefix-other}
use Rattle.rtr_cache.proofs.put_prefix.Goals as goal

pub put_ipv4-requires : goal.put_ipv4-requires
put_ipv4-requires c =
    let flags : ℕ = c.flags_of-flags.result in
    let pdu : RtrPdu = sent_prefix c.args.version (sided c.args.announced c.args.r) in
    let four : pdu ≡ sent_ipv4 c.args.version flags c.args.r = let a = c.args in
    prefix-four a.version (sided a.announced a.r) (sym c.family.ensures ∙ c.if-family-eq4.true)
    ∙ ap (λ (n : ℕ). sent_ipv4 a.version n a.r) (sym c.flags_of-flags.ensures) in
    subst (λ (x : RtrPdu). Fits c.args.out.now c.args.at (encoding in_use x [])) four c.requires

pub returns-then-family-eq4 : goal.returns-then-family-eq4
returns-then-family-eq4 c =
    let flags : ℕ = c.flags_of-flags.result in
    let pdu : RtrPdu = sent_prefix c.args.version (sided c.args.announced c.args.r) in
    let four : pdu ≡ sent_ipv4 c.args.version flags c.args.r = let a = c.args in
    prefix-four a.version (sided a.announced a.r) (sym c.family.ensures ∙ c.if-family-eq4.true)
    ∙ ap (λ (n : ℕ). sent_ipv4 a.version n a.r) (sym c.flags_of-flags.ensures) in
    let a = c.args in
    subst (λ (x : RtrPdu). Put a.out.now a.at (encoding in_use x []) c.put_ipv4.result c.put_ipv4.new.out) (sym four) c.put_ipv4.ensures

pub put_ipv6-requires : goal.put_ipv6-requires
put_ipv6-requires c =
    let flags : ℕ = c.flags_of-flags.result in
    let pdu : RtrPdu = sent_prefix c.args.version (sided c.args.announced c.args.r) in
    let other : pdu ≡ sent_ipv6 c.args.version flags c.args.r = let a = c.args in
    prefix-other a.version (sided a.announced a.r) (λ e. c.if-family-eq4.false (c.family.ensures ∙ e))
    ∙ ap (λ (n : ℕ). sent_ipv6 a.version n a.r) (sym c.flags_of-flags.ensures) in
    subst (λ (x : RtrPdu). Fits c.args.out.now c.args.at (encoding in_use x [])) other c.requires

pub returns : goal.returns
returns c =
    let flags : ℕ = c.flags_of-flags.result in
    let pdu : RtrPdu = sent_prefix c.args.version (sided c.args.announced c.args.r) in
    let other : pdu ≡ sent_ipv6 c.args.version flags c.args.r = let a = c.args in
    prefix-other a.version (sided a.announced a.r) (λ e. c.if-family-eq4.false (c.family.ensures ∙ e))
    ∙ ap (λ (n : ℕ). sent_ipv6 a.version n a.r) (sym c.flags_of-flags.ensures) in
    let a = c.args in
    subst (λ (x : RtrPdu). Put a.out.now a.at (encoding in_use x []) c.put_ipv6.result c.put_ipv6.new.out) (sym other) c.put_ipv6.ensures
