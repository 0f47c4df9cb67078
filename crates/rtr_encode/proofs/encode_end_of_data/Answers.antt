-- `encode_end_of_data` goes by the version; in version 1 each interval is the one that is there or its default. Assumes nothing.
use mathlib.Core.List.{[]}
use mathlib.Core.Path.{refl, ap, sym, ◌∙◌}
use Rattle.rtr_text.proofs.Laws.{empty-is-well-formed}
use Rattle.rtr_models.specs.declared.RtrProtocolVersion.{RtrProtocolVersion}
use Rattle.rtr_models.specs.declared.RtrProtocolVersion.TheVariants.{V0}
use Rattle.rtr_models.specs.declared.RtrPdu.TheVariants.{EndOfData}
use Rattle.rtr_codec.specs.Reading.{in_use}
use Rattle.rtr_encode.specs.Encode.{bytes_of, encoded_length, encoding, encode}
use Rattle.rtr_encode.specs.Private.{with_version}
use Rattle.rtr_encode.proofs.Written.{filled}
use Rattle.rtr_encode.proofs.Checks.{plain-encodes}
use Rattle.rtr_encode.proofs.encode_end_of_data.Goals as goal

pub returns-in-V0 : goal.returns-in-V0
unfolding bytes_of encoded_length encoding
returns-in-V0 c =
    let a = c.args in
    c.encode_serial.ensures
    ∙ plain-encodes in_use (EndOfData (with_version V0 a.pdu)) [] a.out.now _ _ refl empty-is-well-formed refl refl
    ∙ sym (ap (λ (v : RtrProtocolVersion). encode in_use (EndOfData (with_version v a.pdu)) [] a.out.now) c.in-V0.is)

pub returns-in-V1 : goal.returns-in-V1
returns-in-V1 c =
    let a = c.args in
    c.encode_end_of_data_v1.ensures
    ∙ filled in_use a.pdu [] a.out.now _ _ _ c.refresh_interval_or_default-refresh.ensures c.retry_interval_or_default-retry.ensures c.expire_interval_or_default-expire.ensures
    ∙ sym (ap (λ (v : RtrProtocolVersion). encode in_use (EndOfData (with_version v a.pdu)) [] a.out.now) c.in-V1.is)
