-- `loose_pdu` goes by the type. Assumes nothing.
use mathlib.Core.Path.{sym, ap, ◌∙◌}
use borrow.Author.Tests.{ne_eqb}
use Rattle.rtr_models.specs.declared.RtrProtocolVersion.{RtrProtocolVersion}
use Rattle.rtr_models.specs.declared.RtrPdu.TheVariants.{SerialNotify, SerialQuery, ResetQuery, CacheResponse, IPv4Prefix, IPv6Prefix, EndOfData, CacheReset, RouterKey, ErrorReport}
use Rattle.rtr_numbers.specs.Back.{loose_version}
use Rattle.rtr_pdu_numbers.specs.Back.{loose_notify, loose_query, loose_response, loose_ipv4, loose_ipv6, loose_end, loose_key, loose_report, loose_pdu}
use Rattle.rtr_pdu_numbers.proofs.loose_pdu.Goals as goal

pub returns-in-0 : goal.returns-in-0
unfolding loose_pdu
returns-in-0 c =
    let version = c.loose_version-version.ensures ∙ ap loose_version c.at.ensures in
    rw (sym c.at-kind.ensures ∙ c.in-0.is) (c.loose_notify.ensures ∙ ap (λ (v : RtrProtocolVersion). SerialNotify (loose_notify v c.args.n.now)) version)

pub returns-in-1 : goal.returns-in-1
unfolding loose_pdu
returns-in-1 c =
    let version = c.loose_version-version.ensures ∙ ap loose_version c.at.ensures in
    rw (sym c.at-kind.ensures ∙ c.in-1.is) (c.loose_query.ensures ∙ ap (λ (v : RtrProtocolVersion). SerialQuery (loose_query v c.args.n.now)) version)

pub returns-in-2 : goal.returns-in-2
unfolding loose_pdu
returns-in-2 c =
    let version = c.loose_version-version.ensures ∙ ap loose_version c.at.ensures in
    rw (sym c.at-kind.ensures ∙ c.in-2.is) (λ i. ResetQuery (record { version = version i }))

pub returns-in-3 : goal.returns-in-3
unfolding loose_pdu
returns-in-3 c =
    let version = c.loose_version-version.ensures ∙ ap loose_version c.at.ensures in
    rw (sym c.at-kind.ensures ∙ c.in-3.is) (c.loose_response.ensures ∙ ap (λ (v : RtrProtocolVersion). CacheResponse (loose_response v c.args.n.now)) version)

pub returns-in-4 : goal.returns-in-4
unfolding loose_pdu
returns-in-4 c =
    let version = c.loose_version-version.ensures ∙ ap loose_version c.at.ensures in
    rw (sym c.at-kind.ensures ∙ c.in-4.is) (c.loose_ipv4.ensures ∙ ap (λ (v : RtrProtocolVersion). IPv4Prefix (loose_ipv4 v c.args.n.now)) version)

pub returns-in-6 : goal.returns-in-6
unfolding loose_pdu
returns-in-6 c =
    let version = c.loose_version-version.ensures ∙ ap loose_version c.at.ensures in
    rw (sym c.at-kind.ensures ∙ c.in-6.is) (c.loose_ipv6.ensures ∙ ap (λ (v : RtrProtocolVersion). IPv6Prefix (loose_ipv6 v c.args.n.now)) version)

pub returns-in-7 : goal.returns-in-7
unfolding loose_pdu
returns-in-7 c =
    let version = c.loose_version-version.ensures ∙ ap loose_version c.at.ensures in
    rw (sym c.at-kind.ensures ∙ c.in-7.is) (c.loose_end.ensures ∙ ap (λ (v : RtrProtocolVersion). EndOfData (loose_end v c.args.n.now)) version)

pub returns-in-8 : goal.returns-in-8
unfolding loose_pdu
returns-in-8 c =
    let version = c.loose_version-version.ensures ∙ ap loose_version c.at.ensures in
    rw (sym c.at-kind.ensures ∙ c.in-8.is) (λ i. CacheReset (record { version = version i }))

pub returns-in-9 : goal.returns-in-9
unfolding loose_pdu
returns-in-9 c =
    let version = c.loose_version-version.ensures ∙ ap loose_version c.at.ensures in
    rw (sym c.at-kind.ensures ∙ c.in-9.is) (c.loose_key.ensures ∙ ap (λ (v : RtrProtocolVersion). RouterKey (loose_key v c.args.n.now)) version)

pub returns-in_default : goal.returns-in_default
unfolding loose_pdu
returns-in_default c =
    let version = c.loose_version-version.ensures ∙ ap loose_version c.at.ensures in
    simp (
      ne_eqb _ _ (λ e. c.in_default.in_default-own.rest.1 (c.at-kind.ensures ∙ e)),
      ne_eqb _ _ (λ e. c.in_default.in_default-own.rest.0.1 (c.at-kind.ensures ∙ e)),
      ne_eqb _ _ (λ e. c.in_default.in_default-own.rest.0.0.1 (c.at-kind.ensures ∙ e)),
      ne_eqb _ _ (λ e. c.in_default.in_default-own.rest.0.0.0.1 (c.at-kind.ensures ∙ e)),
      ne_eqb _ _ (λ e. c.in_default.in_default-own.rest.0.0.0.0.1 (c.at-kind.ensures ∙ e)),
      ne_eqb _ _ (λ e. c.in_default.in_default-own.rest.0.0.0.0.0.1 (c.at-kind.ensures ∙ e)),
      ne_eqb _ _ (λ e. c.in_default.in_default-own.rest.0.0.0.0.0.0.1 (c.at-kind.ensures ∙ e)),
      ne_eqb _ _ (λ e. c.in_default.in_default-own.rest.0.0.0.0.0.0.0.1 (c.at-kind.ensures ∙ e)),
      ne_eqb _ _ (λ e. c.in_default.in_default-own.rest.0.0.0.0.0.0.0.0.1 (c.at-kind.ensures ∙ e)),
    ) (c.loose_report.ensures ∙ ap (λ (v : RtrProtocolVersion). ErrorReport (loose_report v c.args.n.now)) version)
