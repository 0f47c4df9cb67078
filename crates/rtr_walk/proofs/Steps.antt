-- One step of the walk for each case that the code tells apart: a PDU ends it or holds bytes; bytes are none, too deep, read or refused;
-- the slice is read or refused. Each unfolds the definition once, at the case's equations. An error is a refusal by its number, and the
-- level, 16 less the levels left, rises by one where they fall by one. Assumes nothing.
use Prim.Native.Nat.{ℕ, zero, suc, ◌+◌, ◌-◌, ◌≤◌}
use mathlib.Core.List.{List, [], ◌∷◌}
use mathlib.Core.Path.{◌≡◌, refl, ◌∙◌}
use native.Mathlib.Omega.{arith}
use lib.ListN.{length}
use denote.Enum.Declared.{tag_of}
use types.Run.{OneOf, miss}
use Rattle.rtr_models.specs.Values.{type_of}
use Rattle.rtr_models.specs.declared.RtrPdu.{RtrPdu}
use Rattle.rtr_models.specs.declared.RtrPdu.TheVariants.{SerialNotify, SerialQuery, ResetQuery, CacheResponse, IPv4Prefix, IPv6Prefix, EndOfData, CacheReset, RouterKey, ErrorReport}
use Rattle.rtr_models.specs.contracts.RtrPdu as pdu-enum
use Rattle.rtr_codec.specs.Reading.{Reading}
use Rattle.rtr_codec.specs.Read.{Verdict, read}
use Rattle.rtr_codec.specs.Answers.{refusal, number_of}
use Rattle.rtr_codec.specs.declared.RtrError.{RtrError}
use Rattle.rtr_codec.proofs.Laws.{refusal_is}
use Rattle.rtr_walk.specs.Walk.{End, refused_walk, walk, inner, bytes_inside, walk_from}
use Rattle.rtr_walk.specs.Private.{walk_inside}
use Rattle.rtr_walk.specs.Walk.End.{plain, empty, refused_by, too_deep}
use Rattle.rtr_walk.specs.Walk.Inner.{ends}
use Rattle.rtr_walk.specs.Walk.WalkVerdict.{walked, refused}

-- the kinds before the report, by place in their enum
abbrev others : List ℕ
others = 0 ∷ 1 ∷ 2 ∷ 3 ∷ 4 ∷ 5 ∷ 6 ∷ 7 ∷ 8 ∷ []

-- a PDU of any kind but the last, the report, ends the walk with its type
pub other-ends : (pdu : RtrPdu) (s : List ℕ) → OneOf others (tag_of pdu-enum.the_type pdu) → inner pdu s ≡ ends (plain (type_of pdu))
other-ends (SerialNotify p) s h = refl
other-ends (SerialQuery p) s h = refl
other-ends (ResetQuery p) s h = refl
other-ends (CacheResponse p) s h = refl
other-ends (IPv4Prefix p) s h = refl
other-ends (IPv6Prefix p) s h = refl
other-ends (EndOfData p) s h = refl
other-ends (CacheReset p) s h = refl
other-ends (RouterKey p) s h = refl
other-ends (ErrorReport p) s h = absurd (miss others 9 tt h)

module _ (R : Reading) where
  -- from a PDU that ends the walk, and from one that holds bytes
  pub from_end : (left level : ℕ) (pdu : RtrPdu) (s : List ℕ) (e : End) → inner pdu s ≡ ends e → walk_from R left level pdu s ≡ walked level e
  unfolding walk_from
  from_end zero level pdu s e p = rw (p, walk_from)
  from_end (suc left) level pdu s e p = rw (p, walk_from)

  pub from-inside : (left level : ℕ) (pdu : RtrPdu) (s bytes : List ℕ) → inner pdu s ≡ bytes_inside bytes → walk_from R left level pdu s ≡ walk_inside R left level bytes
  unfolding walk_from walk_inside
  from-inside left level pdu s [] p = from_end left level pdu s empty p
  from-inside zero level pdu s (b ∷ bs) p = rw (p, walk_from)
  from-inside (suc left) level pdu s (b ∷ bs) p = rw (p, walk_from)

  -- from a report's bytes: none, too deep, read, refused
  pub inside-empty : (left level : ℕ) (bytes : List ℕ) → length bytes ≡ 0 → walk_inside R left level bytes ≡ walked level empty
  unfolding walk_inside
  inside-empty left level [] h = refl
  inside-empty left level (b ∷ bs) h = absurd (omega arith)

  pub inside-deep : (left level : ℕ) (bytes : List ℕ) → (length bytes ≡ 0 → ⊥) → left ≡ 0 → walk_inside R left level bytes ≡ walked level too_deep
  unfolding walk_inside
  inside-deep left level [] h z = absurd (h refl)
  inside-deep zero level (b ∷ bs) h z = refl
  inside-deep (suc left) level (b ∷ bs) h z = absurd (omega arith)

  pub inside-read : (left : ℕ) (bytes : List ℕ) (pdu : RtrPdu) (n : ℕ) → (length bytes ≡ 0 → ⊥) → (left ≡ 0 → ⊥) → left ≤ 16 → read R bytes ≡ Verdict.accepted pdu n → walk_inside R left (16 - left) bytes ≡ walk_from R (left - 1) (16 - (left - 1)) pdu bytes
  unfolding walk_inside
  inside-read left [] pdu n h z l e = absurd (h refl)
  inside-read zero (b ∷ bs) pdu n h z l e = absurd (z refl)
  inside-read (suc left) (b ∷ bs) pdu n h z l e =
      let p : suc left - 1 ≡ left = omega arith in
      let q : 16 - suc left + 1 ≡ 16 - left = omega arith in
      rw (e, walk_inside, p, q)

  inside-number : (left level : ℕ) (bytes : List ℕ) (k : ℕ) (values : List ℕ) → (length bytes ≡ 0 → ⊥) → (left ≡ 0 → ⊥) → read R bytes ≡ Verdict.refused k values → walk_inside R left level bytes ≡ walked level (refused_by k)
  unfolding walk_inside
  inside-number left level [] k values h z e = absurd (h refl)
  inside-number zero level (b ∷ bs) k values h z e = absurd (z refl)
  inside-number (suc left) level (b ∷ bs) k values h z e = rw (e, walk_inside)

  pub inside-refused : (left level : ℕ) (bytes : List ℕ) (error : RtrError) (k : ℕ) → k ≡ number_of (refusal error) → (length bytes ≡ 0 → ⊥) → (left ≡ 0 → ⊥) → read R bytes ≡ refusal error → walk_inside R left level bytes ≡ walked level (refused_by k)
  inside-refused left level bytes error k n h z e = rw n (inside-number left level bytes _ _ h z (e ∙ (refusal_is error).1))

  -- from the slice: read, refused
  pub walk-read : (s : List ℕ) (pdu : RtrPdu) (n : ℕ) → read R s ≡ Verdict.accepted pdu n → walk R s ≡ walk_from R 16 0 pdu s
  unfolding walk
  walk-read s pdu n e = rw (e, walk)

  pub walk-unread : (s : List ℕ) (k : ℕ) (values : List ℕ) → read R s ≡ Verdict.refused k values → walk R s ≡ refused k values
  unfolding walk
  walk-unread s k values e = rw (e, walk)

  pub walk_refused : (s : List ℕ) (error : RtrError) → read R s ≡ refusal error → walk R s ≡ refused_walk (refusal error)
  walk_refused s error e = rw (refusal_is error).1 (walk-unread s _ _ (e ∙ (refusal_is error).1))
