-- A PDU whose places lie in a slice (check 11) has its payloads there, so that what is written of them is as long as the places say: by the
-- kinds, of which a Router Key and an Error Report alone have payloads. Assumes nothing.
use Prim.Native.Nat.{ℕ, ◌+◌, ◌≤◌}
use mathlib.Core.Bool.{Bool, true, false, ◌&&◌}
use mathlib.Core.List.{List}
use mathlib.Core.Path.{◌≡◌, refl}
use native.Mathlib.Omega.{arith}
use borrow.Author.Tests.{leb-true, eqb-true}
use lib.Dec.{eqb}
use lib.ListN.{length, length-append}
use Rattle.rtr_models.specs.Parts.{inside, key_inside}
use Rattle.rtr_models.specs.declared.Place.{Place}
use Rattle.rtr_models.specs.declared.RtrProtocolVersion.{RtrProtocolVersion}
use Rattle.rtr_models.specs.declared.RtrProtocolVersion.TheVariants.{V0, V1}
use Rattle.rtr_models.specs.declared.RtrPdu.{RtrPdu}
use Rattle.rtr_models.specs.declared.RtrPdu.TheVariants.{SerialNotify, SerialQuery, ResetQuery, CacheResponse, IPv4Prefix, IPv6Prefix, EndOfData, CacheReset, RouterKey, ErrorReport}
use Rattle.rtr_codec.specs.Reading.{Reading}
use Rattle.rtr_codec.specs.Layout.{Label, end_layout}
use Rattle.rtr_codec.specs.Layout.Label.{key_identifier}
use Rattle.rtr_codec.specs.Read.{key_fields}
use Rattle.rtr_encode.specs.Encode.{at, layout_of, given, end_values, values_in, behind, behind_length, places_inside}
use Rattle.rtr_round.proofs.Bytes.{length-bytes, length_part}
use Rattle.rtr_round.proofs.Fields.{PayloadsIn}

pub both_true : (a b : Bool) → (a && b) ≡ true → (a ≡ true) × (b ≡ true)
both_true true true e = (refl, refl)
both_true true false e = (refl, e)
both_true false b e = absurd (let z : ◌≡◌ {A = ℕ} 0 1 = cc in omega arith)

-- the payloads among the fixed fields lie in the slice: a Router Key's key identifier
end-payloads : (v : RtrProtocolVersion) (values : Label → ℕ) (s : List ℕ) → PayloadsIn (end_layout v) values s
end-payloads V0 values s = tt
end-payloads V1 values s = tt

key-payloads : (by_crate : Bool) (values : Label → ℕ) (s : List ℕ) → values key_identifier + 20 ≤ length s → PayloadsIn (key_fields by_crate) values s
key-payloads true values s h = (h, tt)
key-payloads false values s h = (h, tt)

pub payloads-inside : (R : Reading) (pdu : RtrPdu) (s : List ℕ) → places_inside pdu s ≡ true → PayloadsIn (layout_of R pdu) (given (values_in pdu)) s
payloads-inside R (SerialNotify p) s h = tt
payloads-inside R (SerialQuery p) s h = tt
payloads-inside R (ResetQuery p) s h = tt
payloads-inside R (CacheResponse p) s h = tt
payloads-inside R (IPv4Prefix p) s h = tt
payloads-inside R (IPv6Prefix p) s h = tt
payloads-inside R (EndOfData p) s h = end-payloads p.version (given (end_values p.version p)) s
payloads-inside R (CacheReset p) s h = tt
payloads-inside R (RouterKey p) s h =
    let k : Place = p.subject_key_identifier in
    let outer = both_true (key_inside k s) (inside p.subject_public_key_info s) h in
    let inner = both_true (eqb k.len 20) (inside k s) outer.0 in
    key-payloads R.key_by_crate (given (values_in (RouterKey p))) s (omega (arith, eqb-true k.len 20 inner.0, leb-true (k.start + k.len) (length s) inner.1))
payloads-inside R (ErrorReport p) s h = tt

-- what follows the fixed fields is as long as its places say
pub length-behind : (pdu : RtrPdu) (s : List ℕ) → places_inside pdu s ≡ true → length (behind pdu s) ≡ behind_length pdu
length-behind (SerialNotify p) s h = refl
length-behind (SerialQuery p) s h = refl
length-behind (ResetQuery p) s h = refl
length-behind (CacheResponse p) s h = refl
length-behind (IPv4Prefix p) s h = refl
length-behind (IPv6Prefix p) s h = refl
length-behind (EndOfData p) s h = refl
length-behind (CacheReset p) s h = refl
length-behind (RouterKey p) s h =
    let i : Place = p.subject_public_key_info in
    length_part s i.start i.len (leb-true (i.start + i.len) (length s) (both_true (key_inside p.subject_key_identifier s) (inside i s) h).1)
length-behind (ErrorReport p) s h =
    let c : Place = p.erroneous_pdu in
    let x : Place = p.error_text in
    let i = both_true (inside c s) (inside x s) h in
    let copy : length (at c s) ≡ c.len = length_part s c.start c.len (leb-true (c.start + c.len) (length s) i.0) in
    let text : length (at x s) ≡ x.len = length_part s x.start x.len (leb-true (x.start + x.len) (length s) i.1) in
    simp (length-append, length-bytes) (omega arith)
