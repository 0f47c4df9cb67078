-- The PDUs of a run are encoded whatever their numbers are: they hold no places and no text, and have 32 bytes at most. How long each is. Assumes nothing.
use Prim.Native.Nat.{ℕ, ◌+◌, ◌≤◌}
use mathlib.Core.Bool.{Bool, true, false, cond}
use mathlib.Core.List.{[]}
use mathlib.Core.Path.{◌≡◌, refl, ap, ◌∙◌}
use native.Mathlib.Omega.{arith}
use borrow.Author.Tests.{eq-eqb, ne_eqb}
use lib.Dec.{eqb}
use lib.ListN.{length}
use Rattle.rtr_text.specs.Utf8.{well_formed}
use Rattle.rtr_text.proofs.Laws.{empty-is-well-formed}
use Rattle.rtr_models.specs.declared.RtrProtocolVersion.{RtrProtocolVersion}
use Rattle.rtr_models.specs.declared.RtrProtocolVersion.TheVariants.{V0, V1}
use Rattle.rtr_models.specs.declared.RtrPdu.{RtrPdu}
use Rattle.rtr_codec.specs.Reading.{in_use}
use Rattle.rtr_codec.specs.Layout.{length_of}
use Rattle.rtr_encode.specs.Encode.{layout_of, behind_length, encoded_length, encoding, places_inside, text_of, text_in}
use Rattle.rtr_encode.proofs.Laws.{encoded-length-is}
use Rattle.rtr_room.specs.Table.{family_of}
use Rattle.rtr_room.specs.declared.Record.{Record}
use Rattle.rtr_receiver.specs.History.{Changed}
use Rattle.rtr_receiver.specs.declared.Table.{Table}
use Rattle.rtr_round.proofs.RoundTrip.{length-encoding}
use Rattle.rtr_cache.specs.Cache.{flags_of, sent_response, sent_ipv4, sent_ipv6, sent_prefix, sent_end}

pub record NoPayload (pdu : RtrPdu) : Type 0 where
  pub places : places_inside pdu [] ≡ true
  pub text : text_in pdu [] ≡ true
  pub short : encoded_length in_use pdu ≤ 32
  pub long : length (encoding in_use pdu []) ≡ encoded_length in_use pdu

-- as long as its picture says
long_of : (pdu : RtrPdu) → places_inside pdu [] ≡ true → length (encoding in_use pdu []) ≡ length_of (layout_of in_use pdu) + behind_length pdu
long_of pdu places = length-encoding in_use pdu [] places ∙ encoded-length-is in_use pdu

no-payload-of : (pdu : RtrPdu) → places_inside pdu [] ≡ true → text_of pdu [] ≡ [] → length_of (layout_of in_use pdu) + behind_length pdu ≤ 32 → NoPayload pdu
no-payload-of pdu places none short =
    record {
      places = places;
      text = ap well_formed none ∙ empty-is-well-formed;
      short = omega (arith, encoded-length-is in_use pdu);
      long = length-encoding in_use pdu [] places;
    }

module _ (v : RtrProtocolVersion) where
  pub no-payload-response : (session : ℕ) → NoPayload (sent_response v session)
  no-payload-response session = no-payload-of (sent_response v session) refl refl (omega arith)

  pub response-long : (session : ℕ) → length (encoding in_use (sent_response v session) []) ≡ 8
  response-long session = long_of (sent_response v session) refl

  pub no-payload-ipv4 : (flags : ℕ) (r : Record) → NoPayload (sent_ipv4 v flags r)
  no-payload-ipv4 flags r = no-payload-of (sent_ipv4 v flags r) refl refl (omega arith)

  pub no-payload-ipv6 : (flags : ℕ) (r : Record) → NoPayload (sent_ipv6 v flags r)
  no-payload-ipv6 flags r = no-payload-of (sent_ipv6 v flags r) refl refl (omega arith)

  pub ipv4-long : (flags : ℕ) (r : Record) → length (encoding in_use (sent_ipv4 v flags r) []) ≡ 20
  ipv4-long flags r = long_of (sent_ipv4 v flags r) refl

  pub ipv6-long : (flags : ℕ) (r : Record) → length (encoding in_use (sent_ipv6 v flags r) []) ≡ 32
  ipv6-long flags r = long_of (sent_ipv6 v flags r) refl

  -- of either family
  pub no-payload-prefix : (c : Changed) → NoPayload (sent_prefix v c)
  no-payload-prefix c = go (eqb (family_of c.what) 4)
    where
      go : (four : Bool) → NoPayload (cond four (sent_ipv4 v (flags_of c.announced) c.what) (sent_ipv6 v (flags_of c.announced) c.what))
      go true = no-payload-ipv4 (flags_of c.announced) c.what
      go false = no-payload-ipv6 (flags_of c.announced) c.what

  -- which PDU it is, by the family
  pub prefix-four : (c : Changed) → family_of c.what ≡ 4 → sent_prefix v c ≡ sent_ipv4 v (flags_of c.announced) c.what
  prefix-four c e = simp (eq-eqb (family_of c.what) 4 e)

  pub prefix-other : (c : Changed) → (family_of c.what ≡ 4 → ⊥) → sent_prefix v c ≡ sent_ipv6 v (flags_of c.announced) c.what
  prefix-other c h = simp (ne_eqb (family_of c.what) 4 h)

  pub prefix-four-long : (c : Changed) → family_of c.what ≡ 4 → length (encoding in_use (sent_prefix v c) []) ≡ 20
  prefix-four-long c e = ap (λ (pdu : RtrPdu). length (encoding in_use pdu [])) (prefix-four c e) ∙ ipv4-long (flags_of c.announced) c.what

  pub prefix-other-long : (c : Changed) → (family_of c.what ≡ 4 → ⊥) → length (encoding in_use (sent_prefix v c) []) ≡ 32
  prefix-other-long c h = ap (λ (pdu : RtrPdu). length (encoding in_use pdu [])) (prefix-other c h) ∙ ipv6-long (flags_of c.announced) c.what

-- of either version
pub no-payload-end : (v : RtrProtocolVersion) (end : Table) → NoPayload (sent_end v end)
no-payload-end V0 end = no-payload-of (sent_end V0 end) refl refl (omega arith)
no-payload-end V1 end = no-payload-of (sent_end V1 end) refl refl (omega arith)

pub end-v0-long : (end : Table) → length (encoding in_use (sent_end V0 end) []) ≡ 12
end-v0-long end = long_of (sent_end V0 end) refl

pub end-v1-long : (end : Table) → length (encoding in_use (sent_end V1 end) []) ≡ 24
end-v1-long end = long_of (sent_end V1 end) refl
