-- `RtrPdu::version` goes by the kind, as `version_of` does. Assumes nothing.
use mathlib.Core.Path.{sym, ap}
use Rattle.rtr_models.specs.Values.{version_of}
use Rattle.rtr_models.proofs.RtrPdu.version.Goals as goal

pub returns-in-IPv6Prefix : goal.returns-in-IPv6Prefix
returns-in-IPv6Prefix c = sym (ap version_of c.in-IPv6Prefix.is)
