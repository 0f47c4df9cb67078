-- `interval_of`: by the version. Assumes nothing.
use mathlib.Core.Path.{sym, ap}
use Rattle.rtr_models.specs.declared.RtrProtocolVersion.{RtrProtocolVersion}
use Rattle.rtr_cache.specs.Cache.{interval_of}
use Rattle.rtr_cache.proofs.interval_of.Goals as goal

pub returns-in-V1 : goal.returns-in-V1
returns-in-V1 c =
    let a = c.args in
    sym (ap (λ (v : RtrProtocolVersion). interval_of v a.seconds) c.in-V1.is)
