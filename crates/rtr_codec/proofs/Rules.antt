-- Check 6, told from what was read: a prefix that is accepted has its lengths in rule, as it stands there. Assumes nothing.
use Prim.Native.Nat.{ℕ, ◌≤◌}
use mathlib.Core.List.{List}
use mathlib.Core.Path.{◌≡◌}
use Rattle.rtr_models.specs.declared.RtrPdu.{RtrPdu}
use Rattle.rtr_models.specs.declared.RtrPdu.TheVariants.{SerialNotify, SerialQuery, ResetQuery, CacheResponse, IPv4Prefix, IPv6Prefix, EndOfData, CacheReset, RouterKey, ErrorReport}
use Rattle.rtr_codec.specs.Reading.{Reading}
use Rattle.rtr_codec.specs.Read.{read}
use Rattle.rtr_codec.specs.Read.Verdict.{accepted}
use Rattle.rtr_codec.specs.Stands.{KindStands}
use Rattle.rtr_codec.proofs.Exactly.{stands_read}

-- a prefix's lengths are in rule; of other PDUs nothing is asked
abbrev pub LengthsInRule : RtrPdu → Type 0
LengthsInRule (SerialNotify p) = Unit {0}
LengthsInRule (SerialQuery p) = Unit {0}
LengthsInRule (ResetQuery p) = Unit {0}
LengthsInRule (CacheResponse p) = Unit {0}
LengthsInRule (IPv4Prefix p) = (p.prefix_length ≤ p.max_length) × (p.max_length ≤ 32)
LengthsInRule (IPv6Prefix p) = (p.prefix_length ≤ p.max_length) × (p.max_length ≤ 128)
LengthsInRule (EndOfData p) = Unit {0}
LengthsInRule (CacheReset p) = Unit {0}
LengthsInRule (RouterKey p) = Unit {0}
LengthsInRule (ErrorReport p) = Unit {0}

stand-in-rule : (R : Reading) (s : List ℕ) (pdu : RtrPdu) → KindStands R s pdu → LengthsInRule pdu
stand-in-rule R s (SerialNotify p) k = tt
stand-in-rule R s (SerialQuery p) k = tt
stand-in-rule R s (ResetQuery p) k = tt
stand-in-rule R s (CacheResponse p) k = tt
stand-in-rule R s (IPv4Prefix p) k = (k.6, k.7)
stand-in-rule R s (IPv6Prefix p) k = (k.9, k.10)
stand-in-rule R s (EndOfData p) k = tt
stand-in-rule R s (CacheReset p) k = tt
stand-in-rule R s (RouterKey p) k = tt
stand-in-rule R s (ErrorReport p) k = tt

pub accepted-in-rule : (R : Reading) (s : List ℕ) (pdu : RtrPdu) (n : ℕ) → read R s ≡ accepted pdu n → LengthsInRule pdu
accepted-in-rule R s pdu n e = stand-in-rule R s pdu (stands_read R s pdu n e).kind
