-- A PDU by what it is: what the definition makes of each kind, and that the code decides the same. By the cases of the PDU. Assumes nothing.
use Rattle.std.specs.Prelude.{Option, ⊤, Some, None, Result}
use Rattle.std.proofs.Common.{◌≡◌, ℕ, ◌+◌, Bool, true, false, cond, eqb, [], ◌∷◌, sym, refl, ap, ◌∙◌, ap₂}
use mathlib.Core.Bool.{false≢true}
use Rattle.rtr_models.specs.Codes.{version_number, code_number}
use Rattle.rtr_models.specs.Values.{announces, version_of}
use Rattle.rtr_models.specs.declared.RtrPduType.{RtrPduType}
use Rattle.rtr_models.specs.declared.RtrPdu.{RtrPdu}
use Rattle.rtr_models.specs.declared.RtrPdu.TheVariants.{SerialNotify, SerialQuery, ResetQuery, CacheResponse, IPv4Prefix, IPv6Prefix, EndOfData, CacheReset, RouterKey, ErrorReport}
use Rattle.rtr_models.specs.declared.RtrSerialNotify.{RtrSerialNotify}
use Rattle.rtr_models.specs.declared.RtrCacheResponse.{RtrCacheResponse}
use Rattle.rtr_models.specs.declared.RtrIPv4Prefix.{RtrIPv4Prefix}
use Rattle.rtr_models.specs.declared.RtrIPv6Prefix.{RtrIPv6Prefix}
use Rattle.rtr_models.specs.declared.RtrEndOfData.{RtrEndOfData}
use Rattle.rtr_models.specs.declared.RtrCacheReset.{RtrCacheReset}
use Rattle.rtr_models.specs.declared.RtrRouterKey.{RtrRouterKey}
use Rattle.rtr_models.specs.declared.RtrErrorReport.{RtrErrorReport}
use Rattle.rtr_models.specs.declared.RtrProtocolVersion.{RtrProtocolVersion}
use Rattle.rtr_room.specs.declared.Record.{Record}
use Rattle.rtr_room.specs.Table.{ipv4_record, ipv6_record}
use Rattle.rtr_receiver.specs.Receiver.{Receiver, Deed, is_due, stop, on_serial_notify, on_record, no_update, deed_of, on_kind, of_version, on_pdu, listens}
use Rattle.rtr_receiver.specs.Promises.{is_loading}
use Rattle.rtr_receiver.specs.Private.{response_in, record_in, key_in, reset_in, end_in, carried_by, carried_out, placed, Decides, Updates, goes_on_in, after_pdu}
use Rattle.rtr_receiver.specs.declared.Doing.{Doing}
use Rattle.rtr_receiver.specs.declared.Stop.{Stop}
use Rattle.rtr_receiver.specs.declared.Phase.{Phase}
use Rattle.rtr_receiver.specs.declared.DeedDone.{DeedDone}
use Rattle.rtr_receiver.proofs.Turns.{notify-due, never-due, prefixes-alike, load-turn}
use Rattle.rtr_receiver.specs.declared.Table.{Table}
use Rattle.rtr_receiver.specs.declared.FeedError.{FeedError}

-- no update either way
no-update-either : (b : Bool) (x y : Receiver) → cond b (no_update x) (no_update y) ≡ no_update (cond b x y)
no-update-either true x y = refl
no-update-either false x y = refl

-- what the definition makes of a PDU of each kind
module _ (limit : ℕ) (r : Receiver) (pdu : RtrPdu) where
  pub kind-notify : listens r.stage ≡ true → (p : RtrSerialNotify) → pdu ≡ SerialNotify p → on_kind limit pdu r ≡ no_update (on_serial_notify p.session_id p.serial_number r)
  unfolding on_kind deed_of
  kind-notify on p e =
      ap (λ (x : RtrPdu). on_kind limit x r) e
      ∙ ap (λ (b : Bool). cond b (no_update (on_serial_notify p.session_id p.serial_number r)) (no_update (stop 13 [] r))) (notify-due r.stage on)

  pub kind-response : (p : RtrCacheResponse) → pdu ≡ CacheResponse p → on_kind limit pdu r ≡ no_update (response_in r.stage p.session_id r)
  unfolding on_kind deed_of
  kind-response p e = ap (λ (x : RtrPdu). on_kind limit x r) e ∙ no-update-either (is_due RtrPduType.CacheResponse r.stage) _ _

  pub kind-end : (p : RtrEndOfData) → pdu ≡ EndOfData p → on_kind limit pdu r ≡ end_in r.stage p r
  unfolding on_kind deed_of
  kind-end p e = ap (λ (x : RtrPdu). on_kind limit x r) e

  pub kind-reset : (p : RtrCacheReset) → pdu ≡ CacheReset p → on_kind limit pdu r ≡ no_update (reset_in r.stage r)
  unfolding on_kind deed_of
  kind-reset p e = ap (λ (x : RtrPdu). on_kind limit x r) e ∙ no-update-either (is_due RtrPduType.CacheReset r.stage) _ _

  pub kind-key : (p : RtrRouterKey) → pdu ≡ RouterKey p → on_kind limit pdu r ≡ no_update (key_in r.stage r)
  unfolding on_kind deed_of
  kind-key p e = ap (λ (x : RtrPdu). on_kind limit x r) e ∙ no-update-either (is_due RtrPduType.RouterKey r.stage) _ _

  pub pdu-report : (p : RtrErrorReport) → pdu ≡ ErrorReport p → on_pdu limit pdu r ≡ no_update (stop 19 (code_number p.error_code ∷ []) r)
  unfolding on_pdu deed_of
  pdu-report p e = ap (λ (x : RtrPdu). on_pdu limit x r) e

-- what `carried_by` makes of a PDU
module _ (pdu : RtrPdu) where
  pub carried-ipv4 : (p : RtrIPv4Prefix) → pdu ≡ IPv4Prefix p → (announced : Bool) → announced ≡ announces p.flags →
      (x : Record) → x ≡ ipv4_record p.prefix_length p.max_length p.prefix p.asn → Some (announced, x) ≡ carried_by pdu
  unfolding carried_by
  carried-ipv4 p e announced f x g = ap₂ (λ (b : Bool) (y : Record). Some (b, y)) f g ∙ ap carried_by (sym e)

  pub carried-ipv6 : (p : RtrIPv6Prefix) → pdu ≡ IPv6Prefix p → (announced : Bool) → announced ≡ announces p.flags →
      (x : Record) → x ≡ ipv6_record p.prefix_length p.max_length p.prefix.w0 p.prefix.w1 p.prefix.w2 p.prefix.w3 p.asn → Some (announced, x) ≡ carried_by pdu
  unfolding carried_by
  carried-ipv6 p e announced f x g = ap₂ (λ (b : Bool) (y : Record). Some (b, y)) f g ∙ ap carried_by (sym e)

pub carried_none : (pdu : RtrPdu) → ((p : RtrIPv4Prefix) → pdu ≡ IPv4Prefix p → ⊥) → ((p : RtrIPv6Prefix) → pdu ≡ IPv6Prefix p → ⊥) → None ≡ carried_by pdu
unfolding carried_by
carried_none (SerialNotify p) a b = refl
carried_none (SerialQuery p) a b = refl
carried_none (ResetQuery p) a b = refl
carried_none (CacheResponse p) a b = refl
carried_none (IPv4Prefix p) a b = absurd (a p refl)
carried_none (IPv6Prefix p) a b = absurd (b p refl)
carried_none (EndOfData p) a b = refl
carried_none (CacheReset p) a b = refl
carried_none (RouterKey p) a b = refl
carried_none (ErrorReport p) a b = refl

-- what the definition makes of a PDU that carries a record
deed-of : ℕ → Receiver → Deed → Option (Bool × Record) → Deed
deed-of limit r deed (Some (announced, x)) = no_update (record_in limit r.stage announced x r)
deed-of limit r deed None = deed

-- an IPv6 prefix is due where an IPv4 one is
ipv6-turn : (r to : Receiver) → cond (is_due RtrPduType.IPv6Prefix r.stage) (no_update to) (no_update (stop 13 [] r)) ≡ no_update (cond (is_due RtrPduType.IPv4Prefix r.stage) to (stop 13 [] r))
ipv6-turn r to =
    no-update-either (is_due RtrPduType.IPv6Prefix r.stage) to (stop 13 [] r)
    ∙ ap (λ (b : Bool). no_update (cond b to (stop 13 [] r))) (prefixes-alike r.stage)

kind-carried : (limit : ℕ) (r : Receiver) (pdu : RtrPdu) → on_kind limit pdu r ≡ deed-of limit r (on_kind limit pdu r) (carried_by pdu)
unfolding on_kind deed_of carried_by deed-of
kind-carried limit r (SerialNotify p) = refl
kind-carried limit r (SerialQuery p) = refl
kind-carried limit r (ResetQuery p) = refl
kind-carried limit r (CacheResponse p) = refl
kind-carried limit r (IPv4Prefix p) = no-update-either (is_due RtrPduType.IPv4Prefix r.stage) _ _
kind-carried limit r (IPv6Prefix p) =
    ipv6-turn r (on_record limit (announces p.flags) (ipv6_record p.prefix_length p.max_length p.prefix.w0 p.prefix.w1 p.prefix.w2 p.prefix.w3 p.asn) r)
kind-carried limit r (EndOfData p) = refl
kind-carried limit r (CacheReset p) = refl
kind-carried limit r (RouterKey p) = refl
kind-carried limit r (ErrorReport p) = refl

pub kind-record : (limit : ℕ) (r : Receiver) (pdu : RtrPdu) (announced : Bool) (x : Record) → carried_by pdu ≡ Some (announced, x) →
    on_kind limit pdu r ≡ no_update (record_in limit r.stage announced x r)
unfolding deed-of
kind-record limit r pdu announced x e = kind-carried limit r pdu ∙ ap (deed-of limit r (on_kind limit pdu r)) e

-- what a cache never sends a router
carries-none : Option (Bool × Record) → Bool
carries-none (Some (announced, x)) = false
carries-none None = true

pub kind-out : (limit : ℕ) (r : Receiver) (pdu : RtrPdu) → ((p : RtrSerialNotify) → pdu ≡ SerialNotify p → ⊥) → ((p : RtrCacheResponse) → pdu ≡ CacheResponse p → ⊥) → ((p : RtrEndOfData) → pdu ≡ EndOfData p → ⊥) → ((p : RtrCacheReset) → pdu ≡ CacheReset p → ⊥) → ((p : RtrRouterKey) → pdu ≡ RouterKey p → ⊥) → carried_by pdu ≡ None →
    on_kind limit pdu r ≡ no_update (stop 13 [] r)
unfolding on_kind deed_of carried_by carries-none
kind-out limit r (SerialNotify p) a b c d k e = absurd (a p refl)
kind-out limit r (SerialQuery p) a b c d k e = ap (λ (b : Bool). cond b (no_update r) (no_update (stop 13 [] r))) (never-due r.stage).0
kind-out limit r (ResetQuery p) a b c d k e = ap (λ (b : Bool). cond b (no_update r) (no_update (stop 13 [] r))) (never-due r.stage).1
kind-out limit r (CacheResponse p) a b c d k e = absurd (b p refl)
kind-out limit r (IPv4Prefix p) a b c d k e = absurd (false≢true (ap carries-none e))
kind-out limit r (IPv6Prefix p) a b c d k e = absurd (false≢true (ap carries-none e))
kind-out limit r (EndOfData p) a b c d k e = absurd (c p refl)
kind-out limit r (CacheReset p) a b c d k e = absurd (d p refl)
kind-out limit r (RouterKey p) a b c d k e = absurd (k p refl)
kind-out limit r (ErrorReport p) a b c d k e = ap (λ (b : Bool). cond b (deed_of limit (ErrorReport p) r) (no_update (stop 13 [] r))) (never-due r.stage).2

-- every PDU but an Error Report is judged by its version first
by-version : (limit : ℕ) (r : Receiver) (pdu : RtrPdu) → ((p : RtrErrorReport) → pdu ≡ ErrorReport p → ⊥) → on_pdu limit pdu r ≡ of_version (version_of pdu) r (on_kind limit pdu r)
unfolding on_pdu
by-version limit r (SerialNotify p) h = refl
by-version limit r (SerialQuery p) h = refl
by-version limit r (ResetQuery p) h = refl
by-version limit r (CacheResponse p) h = refl
by-version limit r (IPv4Prefix p) h = refl
by-version limit r (IPv6Prefix p) h = refl
by-version limit r (EndOfData p) h = refl
by-version limit r (CacheReset p) h = refl
by-version limit r (RouterKey p) h = refl
by-version limit r (ErrorReport p) h = absurd (h p refl)

pub of-version : (limit : ℕ) (r : Receiver) (pdu : RtrPdu) → ((p : RtrErrorReport) → pdu ≡ ErrorReport p → ⊥) →
    (v : RtrProtocolVersion) → v ≡ version_of pdu → (same : Bool) → same ≡ eqb (version_number v) (version_number r.version) → (known : Bool) → same ≡ known →
    on_pdu limit pdu r ≡ cond known (on_kind limit pdu r) (no_update (stop 14 [] r))
of-version limit r pdu h v e same f known k =
    by-version limit r pdu h
    ∙ ap (λ (x : RtrProtocolVersion). of_version x r (on_kind limit pdu r)) (sym e)
    ∙ ap (λ (x : Bool). cond x (on_kind limit pdu r) (no_update (stop 14 [] r))) (sym f ∙ k)

-- ---- what is decided

-- in turn, else 13
in-turn : (limit : ℕ) (r : Receiver) (doing : Doing) (to : Receiver) (due : Bool) → carried_out limit doing r ≡ no_update to →
    carried_out limit (cond due doing (Doing.Stops Stop.OutOfTurn)) r ≡ no_update (cond due to (stop 13 [] r))
in-turn limit r doing to true e = e
in-turn limit r doing to false e = refl

-- a record, and a Router Key, in a load and out of one
module _ (phase : Phase) (table : Option Table) (pdu : RtrPdu) (d : Doing) where
  pub takes-record : (announced : Bool) (x : Record) → carried_by pdu ≡ Some (announced, x) → d ≡ cond (is_loading phase) (Doing.Takes announced x) (Doing.Stops Stop.OutOfTurn) →
      Decides phase table d (λ limit r. on_kind limit pdu r)
  takes-record announced x e f limit r =
      let q = placed phase table r in
      ap (λ (y : Doing). carried_out limit y q) f
      ∙ in-turn limit q (Doing.Takes announced x) (on_record limit announced x q) (is_loading phase) refl
      ∙ ap (λ (b : Bool). no_update (cond b (on_record limit announced x q) (stop 13 [] q))) (load-turn phase).0
      ∙ sym (kind-record limit q pdu announced x e)

  pub passes-key : (p : RtrRouterKey) → pdu ≡ RouterKey p → d ≡ cond (is_loading phase) Doing.Passes (Doing.Stops Stop.OutOfTurn) →
      Decides phase table d (λ limit r. on_kind limit pdu r)
  passes-key p e f limit r =
      let q = placed phase table r in
      ap (λ (y : Doing). carried_out limit y q) f
      ∙ in-turn limit q Doing.Passes q (is_loading phase) refl
      ∙ ap (λ (b : Bool). no_update (cond b q (stop 13 [] q))) (load-turn phase).1
      ∙ sym (kind-key limit q pdu p e)

-- what finishes no update
pub none-finished : (d : Doing) → ((p : RtrEndOfData) → d ≡ Doing.Finishes p → ⊥) → Updates d 0
none-finished Doing.Passes h limit r = refl
none-finished (Doing.Notes id serial) h limit r = refl
none-finished Doing.Resets h limit r = refl
none-finished (Doing.Stops why) h limit r = refl
none-finished (Doing.Begins kind id) h limit r = refl
none-finished (Doing.Takes announced x) h limit r = refl
none-finished (Doing.Finishes p) h limit r = absurd (h p refl)

-- ---- after a PDU

-- every phase but Stopped goes on
pub goes_on : (p : Phase) → ((stop : Stop) → p ≡ Phase.Stopped stop → ⊥) → goes_on_in p ≡ None
goes_on Phase.Idle h = refl
goes_on Phase.MustReset h = refl
goes_on Phase.AskedFull h = refl
goes_on Phase.AskedChange h = refl
goes_on (Phase.Loading kind session) h = refl
goes_on (Phase.Stopped why) h = absurd (h why refl)

pub step_is : (d : DeedDone) (next updates : ℕ) (then : Option (Result ⊤ FeedError)) → then ≡ goes_on_in d.session.phase → record { session = d.session; next = next; updates = updates + d.updates; then = then } ≡ after_pdu d next updates
step_is d next updates then e = ap (λ (x : Option (Result ⊤ FeedError)). record { session = d.session; next = next; updates = updates + d.updates; then = x }) e
