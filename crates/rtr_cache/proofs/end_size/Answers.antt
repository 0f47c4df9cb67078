-- `end_size`: by the version. Assumes nothing.
use mathlib.Core.List.{[]}
use mathlib.Core.Path.{sym, ap, ◌∙◌}
use native.Mathlib.Omega.{arith}
use lib.ListN.{length}
use Rattle.rtr_models.specs.declared.RtrProtocolVersion.{RtrProtocolVersion}
use Rattle.rtr_codec.specs.Reading.{in_use}
use Rattle.rtr_encode.specs.Encode.{encoding}
use Rattle.rtr_cache.specs.Cache.{sent_end}
use Rattle.rtr_cache.proofs.NoPayload.{end-v0-long, end-v1-long}
use Rattle.rtr_cache.proofs.end_size.Goals as goal

pub returns-in-V0 : goal.returns-in-V0
returns-in-V0 c = (λ end. sym (ap (λ (v : RtrProtocolVersion). length (encoding in_use (sent_end v end) [])) c.in-V0.is ∙ end-v0-long end), omega arith)

pub returns-in-V1 : goal.returns-in-V1
returns-in-V1 c = (λ end. sym (ap (λ (v : RtrProtocolVersion). length (encoding in_use (sent_end v end) [])) c.in-V1.is ∙ end-v1-long end), omega arith)
