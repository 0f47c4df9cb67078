-- What an accepted read says of the PDU that it gives: its version, type and values are the numbers at their places, what follows the fixed fields is named where it stands, its encoding is at most as long as the PDU read, its kind's
-- rules hold, and it is its own reading back. `Found` says so; by the kinds, from how the PDU stands in the slice (`read-exactly` of rtr_codec). Assumes nothing.
use Rattle.std.specs.Prelude.{Option, Some}
use Prim.Native.Nat.{ℕ, ◌+◌, ◌-◌, ◌≤◌}
use mathlib.Core.Bool.{Bool, true, false}
use mathlib.Core.List.{List, [], ◌++◌}
use mathlib.Core.Logic.{◌↔◌}
use mathlib.Core.Path.{◌≡◌, refl, sym, ap, ◌∙◌, subst}
use native.Mathlib.Omega.{arith}
use borrow.Author.Tests.{eq-eqb, le-leb}
use lib.ListN.{length, take, drop}
use Rattle.rtr_text.proofs.Laws.{empty-is-well-formed}
use Rattle.rtr_models.specs.Codes.{version_number, type_number}
use Rattle.rtr_models.specs.Values.{seconds_or, type_of, version_of}
use Rattle.rtr_models.specs.declared.RtrProtocolVersion.{RtrProtocolVersion}
use Rattle.rtr_models.specs.declared.RtrProtocolVersion.TheVariants.{V0, V1}
use Rattle.rtr_models.specs.declared.RtrEndOfData.{RtrEndOfData}
use Rattle.rtr_models.specs.declared.RtrRouterKey.{RtrRouterKey}
use Rattle.rtr_models.specs.declared.RtrErrorReport.{RtrErrorReport}
use Rattle.rtr_models.specs.declared.Place.{Place}
use Rattle.rtr_models.specs.declared.RtrPdu.{RtrPdu}
use Rattle.rtr_models.specs.declared.RtrPdu.TheVariants.{SerialNotify, SerialQuery, ResetQuery, CacheResponse, IPv4Prefix, IPv6Prefix, EndOfData, CacheReset, RouterKey, ErrorReport}
use Rattle.rtr_codec.specs.Bytes.{number}
use Rattle.rtr_codec.specs.Reading.{Reading}
use Rattle.rtr_codec.specs.Layout.{end_layout, length_of, place, place_of, value_of}
use Rattle.rtr_codec.specs.Layout.Label.{flags, as_number, key_identifier}
use Rattle.rtr_codec.specs.Read.{header_length, key_fields, read}
use Rattle.rtr_codec.specs.Read.Verdict.{accepted}
use Rattle.rtr_codec.specs.Stands.{EndStands, KeyStands, ReportStands, Stands}
use Rattle.rtr_codec.proofs.Exactly.{ends-within, stands_read}
use Rattle.rtr_encode.specs.Encode.{bytes_of, layout_of, given, end_values, values_in, behind, behind_length, encoded_length, places_inside, text_in}
use Rattle.rtr_encode.proofs.Laws.{encoded-length-is}
use Rattle.rtr_round.specs.RoundTrip.{Bytes, NothingBehind, KindInRule, end_back, read_back}
use Rattle.rtr_round.proofs.Bytes.{bytes-of-number, part-split}
use Rattle.rtr_round.proofs.Fields.{Standing}

pub record Found (R : Reading) (s : List ℕ) (pdu : RtrPdu) (n : ℕ) : Type 0 where
  pub version : version_number (version_of pdu) ≡ number s 0 1
  pub type : type_number (type_of pdu) ≡ number s 1 1
  pub values : Standing 2 (layout_of R pdu) (given (values_in pdu)) s
  pub rest : behind pdu s ≡ take (behind_length pdu) (drop (length_of (layout_of R pdu)) s)
  pub fits : encoded_length R pdu ≤ n
  pub last : (encoded_length R pdu ≡ n) ↔ NothingBehind pdu n
  pub places : places_inside pdu s ≡ true
  pub text : text_in pdu s ≡ true
  pub kind : KindInRule R pdu
  pub back : read_back R pdu ≡ pdu

-- an End of Data of either version: its length, its values, and that it is its own reading back
end-length : (v : RtrProtocolVersion) (p : RtrEndOfData) (s : List ℕ) → EndStands v p s → header_length s ≡ length_of (end_layout v)
end-length V0 p s k = k.0
end-length V1 p s k = k.0

end-values : (v : RtrProtocolVersion) (p : RtrEndOfData) (s : List ℕ) → EndStands v p s → Standing 2 (end_layout v) (given (end_values v p)) s
end-values V0 p s k = (k.1, (k.2, tt))
end-values V1 p s k = (k.1, (k.2, (ap (seconds_or 3600) k.3, (ap (seconds_or 600) k.4, (ap (seconds_or 7200) k.5, tt)))))

-- an interval that was read needs no default
no_default : (default n : ℕ) (i : Option ℕ) → Some n ≡ i → Some (seconds_or default i) ≡ i
no_default default n i e = ap (λ (j : Option ℕ). Some (seconds_or default j)) (sym e) ∙ e

end-is-back : (v : RtrProtocolVersion) (p : RtrEndOfData) (s : List ℕ) → v ≡ p.version → EndStands v p s → end_back v p ≡ p
end-is-back V0 p s v k =
    λ i. record { version = v i; session_id = p.session_id; serial_number = p.serial_number; refresh_interval = k.3 i; retry_interval = k.4 i; expire_interval = k.5 i }
end-is-back V1 p s v k =
    λ i. record { version = v i; session_id = p.session_id; serial_number = p.serial_number; refresh_interval = no_default 3600 _ _ k.3 i; retry_interval = no_default 600 _ _ k.4 i; expire_interval = no_default 7200 _ _ k.5 i }

-- where a Router Key's identifier stands, in either arrangement
abbrev key_place : Bool → Place
key_place by_crate = place_of (key_fields by_crate) key_identifier

-- a Router Key as it stands
abbrev key_at : Bool → List ℕ → RtrRouterKey
key_at by_crate s =
    record {
      version = V1;
      flags = value_of (key_fields by_crate) s flags;
      subject_key_identifier = key_place by_crate;
      asn = value_of (key_fields by_crate) s as_number;
      subject_public_key_info = place (length_of (key_fields by_crate)) (header_length s - length_of (key_fields by_crate));
    }

-- a Router Key's values are the three of its picture, in either arrangement
key-values : (by_crate : Bool) (s : List ℕ) → Standing 2 (key_fields by_crate) (given (values_in (RouterKey (key_at by_crate s)))) s
key-values true s = (refl, (refl, (refl, tt)))
key-values false s = (refl, (refl, (refl, tt)))

-- its key identifier lies in its fixed fields
key-place : (by_crate : Bool) → ((key_place by_crate).len ≡ 20) × ((key_place by_crate).start + (key_place by_crate).len ≤ length_of (key_fields by_crate))
key-place true = (refl, omega arith)
key-place false = (refl, omega arith)

key-is : (by_crate : Bool) (p : RtrRouterKey) (s : List ℕ) → V1 ≡ p.version → KeyStands by_crate p s → key_at by_crate s ≡ p
key-is true p s v k = λ i. record { version = v i; flags = k.1 i; subject_key_identifier = k.2 i; asn = k.3 i; subject_public_key_info = k.4 i }
key-is false p s v k = λ i. record { version = v i; flags = k.1 i; subject_key_identifier = k.2 i; asn = k.3 i; subject_public_key_info = k.4 i }

key-long : (by_crate : Bool) (p : RtrRouterKey) (s : List ℕ) → KeyStands by_crate p s → length_of (key_fields by_crate) ≤ header_length s
key-long true p s k = k.0
key-long false p s k = k.0

module _ (R : Reading) (s : List ℕ) (n : ℕ) where
  -- a PDU of fixed fields alone, as long as they are
  exactly : (pdu : RtrPdu) → Stands R s pdu n → Standing 2 (layout_of R pdu) (given (values_in pdu)) s → behind pdu s ≡ [] → behind_length pdu ≡ 0 → NothingBehind pdu n
      → places_inside pdu s ≡ true → text_in pdu s ≡ true → KindInRule R pdu → read_back R pdu ≡ pdu → header_length s ≡ length_of (layout_of R pdu) → Found R s pdu n
  exactly pdu k values none zero nothing places text kind back h =
      let same : encoded_length R pdu ≡ n = omega (arith, encoded-length-is R pdu, k.total) in
      record {
        version = sym k.version;
        type = sym k.type;
        values = values;
        rest = rw zero none;
        fits = omega arith;
        last = (λ _. nothing, λ _. same);
        places = places;
        text = text;
        kind = kind;
        back = back;
      }

  key-found : number s 0 1 ≡ 1 → number s 1 1 ≡ 9 → n ≡ header_length s → n ≤ length s → length_of (key_fields R.key_by_crate) ≤ header_length s → Found R s (RouterKey (key_at R.key_by_crate s)) n
  key-found version type total whole long =
      let b : Bool = R.key_by_crate in
      let long' : encoded_length R (RouterKey (key_at b s)) ≡ n = omega (arith, encoded-length-is R (RouterKey (key_at b s))) in
      let key : (key_place b).start + (key_place b).len ≤ length s = omega (arith, (key-place b).1) in
      let info : length_of (key_fields b) + (header_length s - length_of (key_fields b)) ≤ length s = omega arith in
      record {
        version = sym version;
        type = sym type;
        values = key-values b s;
        rest = refl;
        fits = omega arith;
        last = (λ _. tt, λ _. long');
        places = simp (eq-eqb _ _ (key-place b).0, le-leb _ _ key, le-leb _ _ info);
        text = empty-is-well-formed;
        kind = refl;
        back = refl;
      }

  module _ (bs : Bytes s) where
    -- a report's copy, and its text behind its length, are the bytes behind the picture
    report-rest : (e t : ℕ) → t ≡ number s (12 + e) 4 → 16 + e + t ≤ length s
        → take e (drop 12 s) ++ bytes_of 4 t ++ take t (drop (16 + e) s) ≡ take (e + 4 + t) (drop 12 s)
    report-rest e t q h =
        let b : bytes_of 4 t ≡ take 4 (drop (12 + e) s) = rw q (bytes-of-number s bs (12 + e) 4 (omega arith)) in
        let i : 12 + (e + 4) ≡ 16 + e = omega arith in
        cc (part-split s 12 (e + 4) t, part-split s 12 e 4)

    report-found : (p : RtrErrorReport) → Stands R s (ErrorReport p) n → Found R s (ErrorReport p) n
    report-found p k =
        let e : ℕ = number s 8 4 in
        let t : ℕ = number s (12 + e) 4 in
        let x : ReportStands R p e t s = k.kind in
        let long : 16 + e + t ≤ header_length s = ends-within R.bytes_behind_text (16 + e + t) (header_length s) x.4 in
        let copy : 12 + e ≤ length s = omega (arith, k.total, k.whole) in
        let text : 16 + e + t ≤ length s = omega (arith, k.total, k.whole) in
        let standing : RtrErrorReport = record { version = p.version; error_code = p.error_code; erroneous_pdu = place 12 e; error_text = place (16 + e) t } in
        let length' : encoded_length R (ErrorReport standing) ≡ 12 + (e + 4 + t) = encoded-length-is R (ErrorReport standing) in
        subst (λ (pdu : RtrPdu). Found R s pdu n)
        (λ i. ErrorReport (record { version = p.version; error_code = p.error_code; erroneous_pdu = x.2 i; error_text = x.3 i }))
        (record {
          version = sym k.version;
          type = sym k.type;
          values = (x.0, (refl, tt));
          rest = report-rest e t refl text;
          fits = omega (arith, k.total);
          last = (λ z. omega arith, λ z. omega arith);
          places = simp (le-leb _ _ copy, le-leb _ _ text);
          text = x.5;
          kind = rw (← x.0) x.1;
          back = refl;
        })

    found : (pdu : RtrPdu) → Stands R s pdu n → Found R s pdu n
    found (SerialNotify p) k = exactly _ k (k.kind.1, (k.kind.2, tt)) refl refl tt refl empty-is-well-formed tt refl k.kind.0
    found (SerialQuery p) k = exactly _ k (k.kind.1, (k.kind.2, tt)) refl refl tt refl empty-is-well-formed tt refl k.kind.0
    found (ResetQuery p) k = exactly _ k tt refl refl tt refl empty-is-well-formed tt refl k.kind
    found (CacheResponse p) k = exactly _ k (k.kind.1, tt) refl refl tt refl empty-is-well-formed tt refl k.kind.0
    found (IPv4Prefix p) k =
        let x = k.kind in
        exactly _ k (x.1, (x.2, (x.3, (x.4, (x.5, tt))))) refl refl tt refl empty-is-well-formed (x.6, x.7) refl x.0
    found (IPv6Prefix p) k =
        let x = k.kind in
        exactly _ k (x.1, (x.2, (x.3, (x.4, (x.5, (x.6, (x.7, (x.8, tt)))))))) refl refl tt refl empty-is-well-formed (x.9, x.10) refl x.0
    found (EndOfData p) k =
        exactly _ k (end-values p.version p s k.kind) refl refl tt refl empty-is-well-formed tt (ap EndOfData (end-is-back p.version p s refl k.kind)) (end-length p.version p s k.kind)
    found (CacheReset p) k = exactly _ k tt refl refl tt refl empty-is-well-formed tt refl k.kind
    found (RouterKey p) k =
        let x = k.kind in
        subst (λ (q : RtrRouterKey). Found R s (RouterKey q) n) (key-is R.key_by_crate p s x.0 x.1)
        (key-found (k.version ∙ ap version_number (sym x.0)) k.type k.total k.whole (key-long R.key_by_crate p s x.1))
    found (ErrorReport p) k = report-found p k

pub accepted-found : (R : Reading) (s : List ℕ) (pdu : RtrPdu) (n : ℕ) → Bytes s → read R s ≡ accepted pdu n → Found R s pdu n
accepted-found R s pdu n bs e = found R s n bs pdu (stands_read R s pdu n e)
