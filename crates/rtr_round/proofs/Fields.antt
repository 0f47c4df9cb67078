-- Fields that were read are written as the bytes they were read from, exactly if the ignored ones among them are zero (`fields_back`): field
-- by field, a number is written as its bytes, the length too, since it stands at byte 4 in every picture (`total-at-4`), and a payload is
-- the part itself. Written fields are as long as their widths where their payloads lie in the slice. Assumes nothing.
use Prim.Native.Nat.{ℕ, ◌+◌, ◌≤◌}
use mathlib.Core.Bool.{Bool, true, false}
use mathlib.Core.List.{List, [], ◌∷◌, ◌++◌}
use mathlib.Core.Logic.{◌↔◌}
use mathlib.Core.Path.{◌≡◌, refl, sym, ap, ◌∙◌}
use native.Mathlib.Omega.{arith}
use lib.ListN.{length, take, drop, replicate, length-append, length-replicate}
use Rattle.rtr_models.specs.declared.RtrProtocolVersion.{RtrProtocolVersion}
use Rattle.rtr_models.specs.declared.RtrProtocolVersion.TheVariants.{V0, V1}
use Rattle.rtr_models.specs.declared.RtrPdu.{RtrPdu}
use Rattle.rtr_models.specs.declared.RtrPdu.TheVariants.{SerialNotify, SerialQuery, ResetQuery, CacheResponse, IPv4Prefix, IPv6Prefix, EndOfData, CacheReset, RouterKey, ErrorReport}
use Rattle.rtr_codec.specs.Reading.{Reading}
use Rattle.rtr_codec.specs.Bytes.{number}
use Rattle.rtr_codec.specs.Layout.{Label, Field, widths, end_layout}
use Rattle.rtr_codec.specs.Layout.Field.{ignored, total, value, payload}
use Rattle.rtr_codec.specs.Read.{header_length, key_fields}
use Rattle.rtr_codec.proofs.Laws.{header_is}
use Rattle.rtr_encode.specs.Encode.{bytes_of, field_bytes, layout_of}
use Rattle.rtr_round.specs.RoundTrip.{Bytes, IgnoredZero}
use Rattle.rtr_round.proofs.Bytes.{length-bytes, bytes-of-number, length_part, front-and-rest}

-- the length stands at byte 4, once (`seen` says that it did)
abbrev pub TotalAt4 : Bool → ℕ → List Field → Type 0
TotalAt4 seen at [] = seen ≡ true
TotalAt4 seen at (ignored n ∷ fs) = TotalAt4 seen (at + n) fs
TotalAt4 seen at (total ∷ fs) = (at ≡ 4) × TotalAt4 true (at + 4) fs
TotalAt4 seen at (value l n ∷ fs) = TotalAt4 seen (at + n) fs
TotalAt4 seen at (payload l n ∷ fs) = TotalAt4 seen (at + n) fs

-- in every picture the length stands at byte 4
end-at-4 : (v : RtrProtocolVersion) → TotalAt4 false 2 (end_layout v)
end-at-4 V0 = (refl, refl)
end-at-4 V1 = (refl, refl)

key-at-4 : (by_crate : Bool) → TotalAt4 false 2 (key_fields by_crate)
key-at-4 true = (refl, refl)
key-at-4 false = (refl, refl)

pub total-at-4 : (R : Reading) (pdu : RtrPdu) → TotalAt4 false 2 (layout_of R pdu)
total-at-4 R (SerialNotify p) = (refl, refl)
total-at-4 R (SerialQuery p) = (refl, refl)
total-at-4 R (ResetQuery p) = (refl, refl)
total-at-4 R (CacheResponse p) = (refl, refl)
total-at-4 R (IPv4Prefix p) = (refl, refl)
total-at-4 R (IPv6Prefix p) = (refl, refl)
total-at-4 R (EndOfData p) = end-at-4 p.version
total-at-4 R (CacheReset p) = (refl, refl)
total-at-4 R (RouterKey p) = key-at-4 R.key_by_crate
total-at-4 R (ErrorReport p) = (refl, refl)

-- so they reach to byte 8 at least
pub fields-long : (at : ℕ) (fs : List Field) → TotalAt4 false at fs → 8 ≤ at + widths fs
fields-long at [] t = absurd (let z : ◌≡◌ {A = ℕ} 0 1 = cc in omega arith)
fields-long at (ignored n ∷ fs) t = omega (arith, fields-long (at + n) fs t)
fields-long at (total ∷ fs) t = omega (arith, t.0)
fields-long at (value l n ∷ fs) t = omega (arith, fields-long (at + n) fs t)
fields-long at (payload l n ∷ fs) t = omega (arith, fields-long (at + n) fs t)

-- the payloads that the values name lie in s
abbrev pub PayloadsIn : List Field → (Label → ℕ) → List ℕ → Type 0
PayloadsIn [] values s = Unit {0}
PayloadsIn (ignored n ∷ fs) values s = PayloadsIn fs values s
PayloadsIn (total ∷ fs) values s = PayloadsIn fs values s
PayloadsIn (value l n ∷ fs) values s = PayloadsIn fs values s
PayloadsIn (payload l n ∷ fs) values s = (values l + n ≤ length s) × PayloadsIn fs values s

-- the values are those that the fields have in s from `at` on, and a payload is named where it stands
abbrev pub Standing : ℕ → List Field → (Label → ℕ) → List ℕ → Type 0
Standing at [] values s = Unit {0}
Standing at (ignored n ∷ fs) values s = Standing (at + n) fs values s
Standing at (total ∷ fs) values s = Standing (at + 4) fs values s
Standing at (value l n ∷ fs) values s = (number s at n ≡ values l) × Standing (at + n) fs values s
Standing at (payload l n ∷ fs) values s = (at ≡ values l) × Standing (at + n) fs values s

module _ (s : List ℕ) where
  pub length_fields : (fs : List Field) (whole : ℕ) (values : Label → ℕ) → PayloadsIn fs values s → length (field_bytes fs whole values s) ≡ widths fs
  length_fields [] whole values h = refl
  length_fields (ignored n ∷ fs) whole values h = simp (length-append, length-replicate, length_fields fs whole values h)
  length_fields (total ∷ fs) whole values h = simp (length-append, length-bytes, length_fields fs whole values h)
  length_fields (value l n ∷ fs) whole values h = simp (length-append, length-bytes, length_fields fs whole values h)
  length_fields (payload l n ∷ fs) whole values h =
      simp (length-append, length_part s (values l) n h.0, length_fields fs whole values h.1)

  -- a front that is always its part leaves the rest to decide
  given-front : {Z : Type 0} (x y : List ℕ) (at w k : ℕ) → length x ≡ w → at + w ≤ length s → x ≡ take w (drop at s)
      → (y ≡ take k (drop (at + w) s)) ↔ Z → (x ++ y ≡ take (w + k) (drop at s)) ↔ Z
  given-front x y at w k e h p i =
      (λ q. i.0 ((front-and-rest s x y at w k e h).0 q).1, λ z. (front-and-rest s x y at w k e h).1 (p, i.1 z))

  module _ (bs : Bytes s) where
    pub fields_back : (seen : Bool) (at : ℕ) (fs : List Field) (values : Label → ℕ) → Standing at fs values s → at + widths fs ≤ length s → TotalAt4 seen at fs
        → (field_bytes fs (header_length s) values s ≡ take (widths fs) (drop at s)) ↔ IgnoredZero at fs s
    fields_back seen at [] values k h t = (λ _. tt, λ _. refl)
    fields_back seen at (ignored n ∷ fs) values k h t =
        let i = front-and-rest s (replicate n 0) (field_bytes fs (header_length s) values s) at n (widths fs) (length-replicate n 0) (omega arith) in
        let r = fields_back seen (at + n) fs values k (omega arith) t in
        (λ q. (sym (i.0 q).0, r.0 (i.0 q).1), λ z. i.1 (sym z.0, r.1 z.1))
    fields_back seen at (total ∷ fs) values k h t =
        let here : bytes_of 4 (header_length s) ≡ take 4 (drop at s) = ap (bytes_of 4) (header_is s) ∙ rw t.0 (bytes-of-number s bs 4 4 (omega arith)) in
        given-front _ _ at 4 (widths fs) (length-bytes 4 (header_length s)) (omega arith) here (fields_back true (at + 4) fs values k (omega arith) t.1)
    fields_back seen at (value l n ∷ fs) values k h t =
        given-front _ _ at n (widths fs) (length-bytes n (values l)) (omega arith) (ap (bytes_of n) (sym k.0) ∙ bytes-of-number s bs at n (omega arith))
        (fields_back seen (at + n) fs values k.1 (omega arith) t)
    fields_back seen at (payload l n ∷ fs) values k h t =
        let here : take n (drop (values l) s) ≡ take n (drop at s) = ap (λ (i : ℕ). take n (drop i s)) (sym k.0) in
        given-front _ _ at n (widths fs) (ap length here ∙ length_part s at n (omega arith)) (omega arith) here (fields_back seen (at + n) fs values k.1 (omega arith) t)
