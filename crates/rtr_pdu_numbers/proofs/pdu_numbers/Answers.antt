-- `pdu_numbers` goes by the kind. Assumes nothing.
use mathlib.Core.Path.{sym, ap, ◌∙◌}
use Rattle.rtr_models.specs.declared.RtrPdu.{RtrPdu}
use Rattle.rtr_pdu_numbers.specs.Numbers.{pdu_numbers}
use Rattle.rtr_pdu_numbers.proofs.pdu_numbers.Goals as goal

pub returns-in-SerialNotify : goal.returns-in-SerialNotify
returns-in-SerialNotify c = c.serial_notify_numbers.ensures ∙ sym (ap (λ (p : RtrPdu). pdu_numbers p c.args.consumed) c.in-SerialNotify.is)

pub returns-in-SerialQuery : goal.returns-in-SerialQuery
returns-in-SerialQuery c = c.serial_query_numbers.ensures ∙ sym (ap (λ (p : RtrPdu). pdu_numbers p c.args.consumed) c.in-SerialQuery.is)

pub returns-in-ResetQuery : goal.returns-in-ResetQuery
returns-in-ResetQuery c = c.reset_query_numbers.ensures ∙ sym (ap (λ (p : RtrPdu). pdu_numbers p c.args.consumed) c.in-ResetQuery.is)

pub returns-in-CacheResponse : goal.returns-in-CacheResponse
returns-in-CacheResponse c = c.cache_response_numbers.ensures ∙ sym (ap (λ (p : RtrPdu). pdu_numbers p c.args.consumed) c.in-CacheResponse.is)

pub returns-in-IPv4Prefix : goal.returns-in-IPv4Prefix
returns-in-IPv4Prefix c = c.ipv4_prefix_numbers.ensures ∙ sym (ap (λ (p : RtrPdu). pdu_numbers p c.args.consumed) c.in-IPv4Prefix.is)

pub returns-in-IPv6Prefix : goal.returns-in-IPv6Prefix
returns-in-IPv6Prefix c = c.ipv6_prefix_numbers.ensures ∙ sym (ap (λ (p : RtrPdu). pdu_numbers p c.args.consumed) c.in-IPv6Prefix.is)

pub returns-in-EndOfData : goal.returns-in-EndOfData
returns-in-EndOfData c = c.end_of_data_numbers.ensures ∙ sym (ap (λ (p : RtrPdu). pdu_numbers p c.args.consumed) c.in-EndOfData.is)

pub returns-in-CacheReset : goal.returns-in-CacheReset
returns-in-CacheReset c = c.cache_reset_numbers.ensures ∙ sym (ap (λ (p : RtrPdu). pdu_numbers p c.args.consumed) c.in-CacheReset.is)

pub returns-in-RouterKey : goal.returns-in-RouterKey
returns-in-RouterKey c = c.router_key_numbers.ensures ∙ sym (ap (λ (p : RtrPdu). pdu_numbers p c.args.consumed) c.in-RouterKey.is)

pub returns-in-ErrorReport : goal.returns-in-ErrorReport
returns-in-ErrorReport c = c.error_report_numbers.ensures ∙ sym (ap (λ (p : RtrPdu). pdu_numbers p c.args.consumed) c.in-ErrorReport.is)
