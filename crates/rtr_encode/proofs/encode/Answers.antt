-- `encode` goes by the kind; a kind without payloads does not look at the slice. Assumes nothing.
use mathlib.Core.Path.{◌∙◌, ap, sym}
use Rattle.rtr_models.specs.declared.RtrPdu.{RtrPdu}
use Rattle.rtr_codec.specs.Reading.{in_use}
use Rattle.rtr_encode.specs.Encode.{encoded_length, encoding, encode_says, encode}
use Rattle.rtr_encode.proofs.Written.{end-any-slice}
use Rattle.rtr_encode.proofs.encode.Goals as goal

pub returns-in-SerialNotify : goal.returns-in-SerialNotify
unfolding encode encode_says encoded_length encoding
returns-in-SerialNotify c =
    let a = c.args in
    c.encode_serial_notify.ensures
    ∙ sym (ap (λ (p : RtrPdu). encode in_use p a.input.now a.out.now) c.in-SerialNotify.is)

pub returns-in-SerialQuery : goal.returns-in-SerialQuery
unfolding encode encode_says encoded_length encoding
returns-in-SerialQuery c =
    let a = c.args in
    c.encode_serial_query.ensures
    ∙ sym (ap (λ (p : RtrPdu). encode in_use p a.input.now a.out.now) c.in-SerialQuery.is)

pub returns-in-ResetQuery : goal.returns-in-ResetQuery
unfolding encode encode_says encoded_length encoding
returns-in-ResetQuery c =
    let a = c.args in
    c.encode_reset_query.ensures
    ∙ sym (ap (λ (p : RtrPdu). encode in_use p a.input.now a.out.now) c.in-ResetQuery.is)

pub returns-in-CacheResponse : goal.returns-in-CacheResponse
unfolding encode encode_says encoded_length encoding
returns-in-CacheResponse c =
    let a = c.args in
    c.encode_cache_response.ensures
    ∙ sym (ap (λ (p : RtrPdu). encode in_use p a.input.now a.out.now) c.in-CacheResponse.is)

pub returns-in-IPv4Prefix : goal.returns-in-IPv4Prefix
unfolding encode encode_says encoded_length encoding
returns-in-IPv4Prefix c =
    let a = c.args in
    c.encode_ipv4_prefix.ensures
    ∙ sym (ap (λ (p : RtrPdu). encode in_use p a.input.now a.out.now) c.in-IPv4Prefix.is)

pub returns-in-IPv6Prefix : goal.returns-in-IPv6Prefix
unfolding encode encode_says encoded_length encoding
returns-in-IPv6Prefix c =
    let a = c.args in
    c.encode_ipv6_prefix.ensures
    ∙ sym (ap (λ (p : RtrPdu). encode in_use p a.input.now a.out.now) c.in-IPv6Prefix.is)

pub returns-in-EndOfData : goal.returns-in-EndOfData
returns-in-EndOfData c =
    let a = c.args in
    c.encode_end_of_data.ensures
    ∙ end-any-slice in_use _ a.input.now a.out.now
    ∙ sym (ap (λ (p : RtrPdu). encode in_use p a.input.now a.out.now) c.in-EndOfData.is)

pub returns-in-CacheReset : goal.returns-in-CacheReset
unfolding encode encode_says encoded_length encoding
returns-in-CacheReset c =
    let a = c.args in
    c.encode_cache_reset.ensures
    ∙ sym (ap (λ (p : RtrPdu). encode in_use p a.input.now a.out.now) c.in-CacheReset.is)

pub returns-in-RouterKey : goal.returns-in-RouterKey
returns-in-RouterKey c =
    let a = c.args in
    c.encode_router_key.ensures
    ∙ sym (ap (λ (p : RtrPdu). encode in_use p a.input.now a.out.now) c.in-RouterKey.is)

pub returns-in-ErrorReport : goal.returns-in-ErrorReport
returns-in-ErrorReport c =
    let a = c.args in
    c.encode_error_report.ensures
    ∙ sym (ap (λ (p : RtrPdu). encode in_use p a.input.now a.out.now) c.in-ErrorReport.is)
