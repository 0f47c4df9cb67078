-- What the walk says, over every `Reading`. A PDU stops the walk, holds bytes that are refused, or holds a deeper PDU; each law goes by
-- these three, and by the levels left. Assumes nothing.
use Prim.Native.Nat.{ℕ, zero, suc, ◌+◌, ◌-◌, ◌≤◌}
use mathlib.Core.List.{List, [], ◌∷◌}
use mathlib.Core.Logic.{◌↔◌}
use mathlib.Core.Path.{◌≡◌, refl, sym, ◌∙◌, subst}
use native.Mathlib.Omega.{arith}
use Rattle.rtr_models.specs.declared.RtrErrorReport.{RtrErrorReport}
use Rattle.rtr_models.specs.declared.RtrPdu.{RtrPdu}
use Rattle.rtr_models.specs.declared.RtrPdu.TheVariants.{SerialNotify, SerialQuery, ResetQuery, CacheResponse, IPv4Prefix, IPv6Prefix, EndOfData, CacheReset, RouterKey, ErrorReport}
use Rattle.rtr_codec.specs.Reading.{Reading}
use Rattle.rtr_codec.specs.Read.{Verdict, read}
use Rattle.rtr_walk.specs.Walk.{End, Inner, inner, bytes_inside, encapsulated, walk_from, walk, reads_from, AtLevel, HoldsAt, EndsAt}
use Rattle.rtr_walk.specs.Walk.End.{plain, empty, refused_by, too_deep}
use Rattle.rtr_walk.specs.Walk.Inner.{ends, holds}
use Rattle.rtr_walk.specs.Walk.WalkVerdict.{walked, refused}
use Rattle.rtr_walk.specs.Walk.AtLevel.{first, next}
use Rattle.rtr_walk.proofs.Steps.{from_end, walk-read, walk-unread}

-- the ways of a walk from a PDU at a level, read from s, with so many levels left: it stops there, no level is left for the bytes inside,
-- they are refused, or they are a deeper PDU from which it goes on
data Way (R : Reading) (level : ℕ) (end : End) : ℕ → ℕ → RtrPdu → List ℕ → Type 0 where
  stops : {left at : ℕ} {pdu : RtrPdu} {s : List ℕ} → level ≡ at → inner pdu s ≡ ends end → Way R level end left at pdu s
  deep : {at : ℕ} {pdu : RtrPdu} {s bytes : List ℕ} → level ≡ at → end ≡ too_deep → inner pdu s ≡ holds bytes → Way R level end 0 at pdu s
  unread : {left at k : ℕ} {pdu : RtrPdu} {s bytes values : List ℕ} → level ≡ at → end ≡ refused_by k → inner pdu s ≡ holds bytes → read R bytes ≡ Verdict.refused k values → Way R level end (suc left) at pdu s
  deeper : {left at n : ℕ} {pdu below : RtrPdu} {s bytes : List ℕ} → inner pdu s ≡ holds bytes → read R bytes ≡ Verdict.accepted below n → Way R level end left (at + 1) below bytes → Way R level end (suc left) at pdu s

same-level : {a b : ℕ} {e f : End} → walked a e ≡ walked b f → a ≡ b
same-level p = cc

same_end : {a b : ℕ} {e f : End} → walked a e ≡ walked b f → e ≡ f
same_end p = cc

never-refused : (level : ℕ) (end : End) (k : ℕ) (values : List ℕ) → walked level end ≡ refused k values → ⊥
never-refused level end k values p = let z : ◌≡◌ {A = ℕ} 0 1 = cc in omega arith

same-refusal : {k k' : ℕ} {values values' : List ℕ} → refused k values ≡ refused k' values' → Verdict.refused k values ≡ Verdict.refused k' values'
same-refusal p = cc

-- the levels left below level k
left-of : (k : ℕ) → k ≤ 16 → (left : ℕ) × (left + k ≡ 16)
left-of k h = (16 - k, omega (arith, h))

-- what a PDU means for the walk is never a refusal or `too_deep`, and holds bytes only of a report
abbrev Means : RtrPdu → List ℕ → Inner → Type 0
Means pdu s (ends (plain type)) = Unit
Means pdu s (ends empty) = Unit
Means pdu s (ends (refused_by k)) = ⊥
Means pdu s (ends too_deep) = ⊥
Means pdu s (holds bytes) = (report : RtrErrorReport) × (pdu ≡ ErrorReport report) × (encapsulated report s ≡ bytes)

means : (pdu : RtrPdu) (s : List ℕ) → Means pdu s (inner pdu s)
means (SerialNotify p) s = tt
means (SerialQuery p) s = tt
means (ResetQuery p) s = tt
means (CacheResponse p) s = tt
means (IPv4Prefix p) s = tt
means (IPv6Prefix p) s = tt
means (EndOfData p) s = tt
means (CacheReset p) s = tt
means (RouterKey p) s = tt
means (ErrorReport p) s = go (encapsulated p s) refl
  where
    go : (bytes : List ℕ) → encapsulated p s ≡ bytes → Means (ErrorReport p) s (bytes_inside bytes)
    go [] e = tt
    go (b ∷ bs) e = (p, refl, e)

module _ (R : Reading) where
  from_deep : (level : ℕ) (pdu : RtrPdu) (s : List ℕ) {bytes : List ℕ} → inner pdu s ≡ holds bytes → walk_from R 0 level pdu s ≡ walked level too_deep
  unfolding walk_from
  from_deep level pdu s h = rw (h, walk_from)

  from-unread : (left level : ℕ) (pdu : RtrPdu) (s bytes : List ℕ) {k : ℕ} {values : List ℕ} → inner pdu s ≡ holds bytes → read R bytes ≡ Verdict.refused k values → walk_from R (suc left) level pdu s ≡ walked level (refused_by k)
  unfolding walk_from
  from-unread left level pdu s bytes h e = rw (h, walk_from, e)

  from-deeper : (left level : ℕ) (pdu : RtrPdu) (s bytes : List ℕ) {below : RtrPdu} {n : ℕ} → inner pdu s ≡ holds bytes → read R bytes ≡ Verdict.accepted below n → walk_from R (suc left) level pdu s ≡ walk_from R left (level + 1) below bytes
  unfolding walk_from
  from-deeper left level pdu s bytes h e = rw (h, walk_from, e)

  reads_none : (levels : ℕ) (s : List ℕ) {k : ℕ} {values : List ℕ} → read R s ≡ Verdict.refused k values → reads_from R levels s ≡ 0
  unfolding reads_from
  reads_none zero s e = refl
  reads_none (suc levels) s e = rw (e, reads_from)

  reads-zero : (s : List ℕ) → reads_from R 0 s ≡ 0
  unfolding reads_from
  reads-zero s = refl

  reads-one : (levels : ℕ) (s : List ℕ) {pdu : RtrPdu} {n : ℕ} {end : End} → read R s ≡ Verdict.accepted pdu n → inner pdu s ≡ ends end → reads_from R (suc levels) s ≡ 1
  unfolding reads_from
  reads-one levels s e h = rw (e, reads_from, h)

  reads_more : (levels : ℕ) (s : List ℕ) {pdu : RtrPdu} {n : ℕ} {bytes : List ℕ} → read R s ≡ Verdict.accepted pdu n → inner pdu s ≡ holds bytes → reads_from R (suc levels) s ≡ suc (reads_from R levels bytes)
  unfolding reads_from
  reads_more levels s e h = rw (e, reads_from, h)

  -- every walk from a PDU goes one of the ways, to an end at a level
  abbrev Found : ℕ → ℕ → RtrPdu → List ℕ → Type 0
  Found left at pdu s = (level : ℕ) × (end : End) × (walk_from R left at pdu s ≡ walked level end) × Way R level end left at pdu s

  find : (left at : ℕ) (pdu : RtrPdu) (s : List ℕ) → Found left at pdu s
  find zero at pdu s = go (inner pdu s) refl
    where
      go : (i : Inner) → inner pdu s ≡ i → Found 0 at pdu s
      go (ends e) h = (at, e, from_end R 0 at pdu s e h, stops refl h)
      go (holds bytes) h = (at, too_deep, from_deep at pdu s h, deep refl refl h)
  find (suc left) at pdu s = go (inner pdu s) refl (find left (at + 1))
    where
      by_read : (bytes : List ℕ) (v : Verdict) → inner pdu s ≡ holds bytes → read R bytes ≡ v → ((below : RtrPdu) (b : List ℕ) → Found left (at + 1) below b) → Found (suc left) at pdu s
      by_read bytes (Verdict.accepted below n) h e rest =
          let f : Found left (at + 1) below bytes = rest below bytes in
          (f.0, f.1, from-deeper left at pdu s bytes h e ∙ f.2, deeper h e f.3)
      by_read bytes (Verdict.refused k values) h e rest = (at, refused_by k, from-unread left at pdu s bytes h e, unread refl refl h e)

      go : (i : Inner) → inner pdu s ≡ i → ((below : RtrPdu) (b : List ℕ) → Found left (at + 1) below b) → Found (suc left) at pdu s
      go (ends e) h rest = (at, e, from_end R (suc left) at pdu s e h, stops refl h)
      go (holds bytes) h rest = by_read bytes (read R bytes) h refl rest

  way : (left at : ℕ) (pdu : RtrPdu) (s : List ℕ) (level : ℕ) (end : End) → walk_from R left at pdu s ≡ walked level end → Way R level end left at pdu s
  way left at pdu s level end w =
      let f : Found left at pdu s = find left at pdu s in
      let q : walked level end ≡ walked f.0 f.1 = sym w ∙ f.2 in
      rw (same-level q, same_end q) f.3

  counts : {level : ℕ} {end : End} {left at : ℕ} {pdu : RtrPdu} {s : List ℕ} {n : ℕ} → read R s ≡ Verdict.accepted pdu n → Way R level end left at pdu s → level + 1 ≡ at + reads_from R (suc left) s
  counts {left} {s = s} p (stops same h) = omega (arith, reads-one left s p h)
  counts {s = s} p (deep {bytes = bytes} same e h) = omega (arith, reads_more 0 s p h, reads-zero bytes)
  counts {s = s} p (unread {left} {bytes = bytes} same e h f) = omega (arith, reads_more (suc left) s p h, reads_none (suc left) bytes f)
  counts {s = s} p (deeper {left} h f rest) = omega (arith, reads_more (suc left) s p h, counts f rest)

  within : {level : ℕ} {end : End} {left at : ℕ} {pdu : RtrPdu} {s : List ℕ} → Way R level end left at pdu s → level ≤ at + left
  within (stops same h) = omega arith
  within (deep same e h) = omega arith
  within (unread same e h f) = omega arith
  within (deeper h f rest) = omega (arith, within rest)

  -- level 0 of a walk is read, and the walk goes one of the ways from there
  start : (s : List ℕ) (level : ℕ) (end : End) → walk R s ≡ walked level end → (pdu : RtrPdu) × (n : ℕ) × (read R s ≡ Verdict.accepted pdu n) × Way R level end 16 0 pdu s
  start s level end w = go (read R s) refl
    where
      go : (v : Verdict) → read R s ≡ v → (pdu : RtrPdu) × (n : ℕ) × (read R s ≡ Verdict.accepted pdu n) × Way R level end 16 0 pdu s
      go (Verdict.accepted pdu n) e = (pdu, n, e, way 16 0 pdu s level end (sym (walk-read R s pdu n e) ∙ w))
      go (Verdict.refused k values) e = absurd (never-refused level end k values (sym w ∙ walk-unread R s k values e))

  -- where a walk ends
  stopped : {s : List ℕ} {at : ℕ} {pdu : RtrPdu} {bytes : List ℕ} (end : End) → AtLevel R s at pdu bytes → at ≤ 16 → inner pdu bytes ≡ ends end → EndsAt R s at end
  stopped {pdu = pdu} {bytes} (plain type) a e h = (e, (pdu, bytes, a, h))
  stopped {pdu = pdu} {bytes} empty a e h = (e, (pdu, bytes, a, h))
  stopped {pdu = pdu} {bytes} (refused_by k) a e h = absurd (subst (Means pdu bytes) h (means pdu bytes))
  stopped {pdu = pdu} {bytes} too_deep a e h = absurd (subst (Means pdu bytes) h (means pdu bytes))

  reaches : {s : List ℕ} {level : ℕ} {end : End} {left at : ℕ} {pdu : RtrPdu} {bytes : List ℕ} → Way R level end left at pdu bytes → AtLevel R s at pdu bytes → at + left ≡ 16 → EndsAt R s level end
  reaches {end = end} (stops same h) a e = rw same (stopped end a (omega arith) h)
  reaches {pdu = pdu} {bytes} (deep {bytes = inside} same f h) a e = rw (f, same) (omega arith, (pdu, bytes, inside, a, h))
  reaches {pdu = pdu} {bytes} (unread {bytes = inside} {values} same f h g) a e = rw (f, same) (omega arith, (pdu, bytes, inside, values, a, h, g))
  reaches (deeper h f rest) a e = reaches rest (next a h f) (omega arith)

  -- the walk is the walk from each of its levels
  walk_at : {s : List ℕ} {k : ℕ} {pdu : RtrPdu} {bytes : List ℕ} → AtLevel R s k pdu bytes → (left : ℕ) → left + k ≡ 16 → walk R s ≡ walk_from R left k pdu bytes
  walk_at (first p) left e = let all : left ≡ 16 = omega arith in rw all (walk-read R _ _ _ p)
  walk_at (next {k} {pdu} {bytes = bytes} {inside} a h f) left e = walk_at a (suc left) (omega arith) ∙ from-deeper left k pdu bytes inside h f

  returns : (s : List ℕ) (k : ℕ) (end : End) → EndsAt R s k end → walk R s ≡ walked k end
  returns s k (plain type) h = let l : _ = left-of k h.0 in walk_at h.1.2 l.0 l.1 ∙ from_end R l.0 k _ _ (plain type) h.1.3
  returns s k empty h = let l : _ = left-of k h.0 in walk_at h.1.2 l.0 l.1 ∙ from_end R l.0 k _ _ empty h.1.3
  returns s k (refused_by n) h = let l : _ = left-of (k + 1) (omega (arith, h.0)) in walk_at h.1.4 (suc l.0) (omega (arith, l.1)) ∙ from-unread l.0 k _ _ _ h.1.5 h.1.6
  returns s k too_deep h = rw h.0 (walk_at (subst (λ n. AtLevel R s n h.1.0 h.1.1) h.0 h.1.3) 0 refl ∙ from_deep 16 _ _ h.1.4)

-- the level that a walk ends at is one less than the reads that succeed, one inside the other
pub level-counts-reads : (R : Reading) (s : List ℕ) (level : ℕ) (end : End) → walk R s ≡ walked level end → level + 1 ≡ reads_from R 17 s
level-counts-reads R s level end w = let f : _ = start R s level end w in omega (arith, counts R f.2 f.3)

-- no walk goes below level 16
pub level-at-most-16 : (R : Reading) (s : List ℕ) (level : ℕ) (end : End) → walk R s ≡ walked level end → level ≤ 16
level-at-most-16 R s level end w = omega (arith, within R (start R s level end w).3)

-- a walk ends at a level in one of document 01's four ways exactly where that level of the slice is so
pub walk-exactly : (R : Reading) (s : List ℕ) (level : ℕ) (end : End) → walk R s ≡ walked level end ↔ EndsAt R s level end
walk-exactly R s level end = (λ w. let f : _ = start R s level end w in reaches R f.3 (first f.2) refl, returns R s level end)

-- a walk is too deep only at level 16
pub too-deep-at-16 : (R : Reading) (s : List ℕ) (level : ℕ) → walk R s ≡ walked level too_deep → level ≡ 16
too-deep-at-16 R s level w = ((walk-exactly R s level too_deep).0 w).0

-- it is too deep exactly where level 16 is a report with bytes inside
pub too-deep-exactly : (R : Reading) (s : List ℕ) → walk R s ≡ walked 16 too_deep ↔ HoldsAt R s 16
too-deep-exactly R s = (λ w. ((walk-exactly R s 16 too_deep).0 w).1, λ h. (walk-exactly R s 16 too_deep).1 (refl, h))

-- a walk is refused exactly where level 0 is, by the same number and values
pub refused-at-once : (R : Reading) (s : List ℕ) (k : ℕ) (values : List ℕ) → walk R s ≡ refused k values ↔ read R s ≡ Verdict.refused k values
refused-at-once R s k values = (λ w. go w (read R s) refl, walk-unread R s k values)
  where
    go : walk R s ≡ refused k values → (v : Verdict) → read R s ≡ v → read R s ≡ Verdict.refused k values
    go w (Verdict.accepted pdu n) e = let f : _ = find R 16 0 pdu s in absurd (never-refused f.0 f.1 k values (sym f.2 ∙ sym (walk-read R s pdu n e) ∙ w))
    go w (Verdict.refused k' values') e = let q : refused k' values' ≡ refused k values = sym (walk-unread R s k' values' e) ∙ w in e ∙ same-refusal q
