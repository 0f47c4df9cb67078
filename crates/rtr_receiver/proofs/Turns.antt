-- What the table of turns says, read off it phase by phase, and the order of the tests before a PDU's deed: whatever holds of each stop, and of the deed where it is due, holds of what comes of the PDU.
-- Assumes nothing.
use Rattle.std.proofs.Common.{◌≡◌, ℕ, Bool, true, false, cond, eqb, List, [], refl}
use mathlib.Core.Bool.{false≢true}
use Rattle.rtr_models.specs.Codes.{version_number}
use Rattle.rtr_models.specs.Values.{type_of, version_of}
use Rattle.rtr_models.specs.declared.RtrPduType.{RtrPduType}
use Rattle.rtr_models.specs.declared.RtrPdu.{RtrPdu}
use Rattle.rtr_models.specs.declared.RtrPdu.TheVariants.{SerialNotify, SerialQuery, ResetQuery, CacheResponse, IPv4Prefix, IPv6Prefix, EndOfData, CacheReset, RouterKey, ErrorReport}
use Rattle.rtr_codec.specs.Read.{Verdict}
use Rattle.rtr_receiver.specs.Receiver.{Stage, Receiver, Deed, is_due, stop, no_update, deed_of, on_kind, on_pdu, listens}
use Rattle.rtr_receiver.specs.Receiver.Stage.{idle, must_reset, asked_full, asked_change, loading, stopped}
use Rattle.rtr_receiver.specs.Promises.{is_loading, stop_said, stopped_by, stage_of}
use Rattle.rtr_receiver.specs.declared.LoadKind.{LoadKind}
use Rattle.rtr_receiver.specs.declared.Phase.{Phase}

-- a Serial Notify is due in any phase but Stopped
pub notify-due : (stage : Stage) → listens stage ≡ true → is_due RtrPduType.SerialNotify stage ≡ true
notify-due idle on = refl
notify-due must_reset on = refl
notify-due asked_full on = refl
notify-due asked_change on = refl
notify-due (loading kind session) on = refl
notify-due (stopped number values) on = absurd (false≢true on)

-- what a cache never sends a router, and an Error Report, are due in none
pub never-due : (stage : Stage) → (is_due RtrPduType.SerialQuery stage ≡ false) × (is_due RtrPduType.ResetQuery stage ≡ false) × (is_due RtrPduType.ErrorReport stage ≡ false)
never-due idle = (refl, refl, refl)
never-due must_reset = (refl, refl, refl)
never-due asked_full = (refl, refl, refl)
never-due asked_change = (refl, refl, refl)
never-due (loading kind session) = (refl, refl, refl)
never-due (stopped number values) = (refl, refl, refl)

-- prefixes of both families are due in the same phases
pub prefixes-alike : (stage : Stage) → is_due RtrPduType.IPv6Prefix stage ≡ is_due RtrPduType.IPv4Prefix stage
prefixes-alike idle = refl
prefixes-alike must_reset = refl
prefixes-alike asked_full = refl
prefixes-alike asked_change = refl
prefixes-alike (loading kind session) = refl
prefixes-alike (stopped number values) = refl

-- records and Router Keys are due in a load
pub load-turn : (p : Phase) → (is_loading p ≡ is_due RtrPduType.IPv4Prefix (stage_of p)) × (is_loading p ≡ is_due RtrPduType.RouterKey (stage_of p))
load-turn Phase.Idle = (refl, refl)
load-turn Phase.MustReset = (refl, refl)
load-turn Phase.AskedFull = (refl, refl)
load-turn Phase.AskedChange = (refl, refl)
load-turn (Phase.Loading kind session) = (refl, refl)
load-turn (Phase.Stopped why) = go (stop_said why)
  where
    go : (v : Verdict) → (false ≡ is_due RtrPduType.IPv4Prefix (stopped_by v)) × (false ≡ is_due RtrPduType.RouterKey (stopped_by v))
    go (Verdict.accepted pdu n) = (refl, refl)
    go (Verdict.refused n v) = (refl, refl)

pub not-loading : (p : Phase) → ((kind : LoadKind) (session : ℕ) → p ≡ Phase.Loading kind session → ⊥) → is_loading p ≡ false
not-loading Phase.Idle h = refl
not-loading Phase.MustReset h = refl
not-loading Phase.AskedFull h = refl
not-loading Phase.AskedChange h = refl
not-loading (Phase.Loading kind session) h = absurd (h kind session refl)
not-loading (Phase.Stopped why) h = refl

-- an Error Report first, then the version, then the turn, then the deed
module _ (limit : ℕ) (r : Receiver) (P : Deed → Type 0) where
  tested : (d : Deed) (version due : Bool) →
      (version ≡ false → P (no_update (stop 14 [] r))) →
      (due ≡ false → P (no_update (stop 13 [] r))) →
      (version ≡ true → due ≡ true → P d) →
      P (cond version (cond due d (no_update (stop 13 [] r))) (no_update (stop 14 [] r)))
  tested d true true other out deed = deed refl refl
  tested d true false other out deed = out refl
  tested d false due other out deed = other refl

  pub pdu-by : (pdu : RtrPdu) →
      (is_due (type_of pdu) r.stage ≡ false → (x : List ℕ) → P (no_update (stop 19 x r))) →
      (eqb (version_number (version_of pdu)) (version_number r.version) ≡ false → P (no_update (stop 14 [] r))) →
      (is_due (type_of pdu) r.stage ≡ false → P (no_update (stop 13 [] r))) →
      (eqb (version_number (version_of pdu)) (version_number r.version) ≡ true → is_due (type_of pdu) r.stage ≡ true → P (deed_of limit pdu r)) →
      P (on_pdu limit pdu r)
  unfolding on_pdu on_kind deed_of
  pdu-by (ErrorReport p) report other out deed = report (never-due r.stage).2 _
  pdu-by (SerialNotify p) report other out deed = tested _ _ _ other out deed
  pdu-by (SerialQuery p) report other out deed = tested _ _ _ other out deed
  pdu-by (ResetQuery p) report other out deed = tested _ _ _ other out deed
  pdu-by (CacheResponse p) report other out deed = tested _ _ _ other out deed
  pdu-by (IPv4Prefix p) report other out deed = tested _ _ _ other out deed
  pdu-by (IPv6Prefix p) report other out deed = tested _ _ _ other out deed
  pdu-by (EndOfData p) report other out deed = tested _ _ _ other out deed
  pdu-by (CacheReset p) report other out deed = tested _ _ _ other out deed
  pdu-by (RouterKey p) report other out deed = tested _ _ _ other out deed
