-- What a walk costs: at most 17 reads and 35 frames, on every input. By the levels left: no function of the cycle makes more reads than those, or has
-- more frames than its measure and one. What the answer says tells both numbers. Assumes nothing.
use Prim.Native.Nat.{ℕ, zero, suc, ◌+◌, ◌*◌, ◌≤◌}
use mathlib.Core.List.{List, [], ◌∷◌}
use mathlib.Core.Path.{◌≡◌, refl, sym, ap, ◌∙◌}
use native.Mathlib.Omega.{arith}
use lib.ListN.{length}
use Rattle.rtr_models.specs.declared.RtrPdu.{RtrPdu}
use Rattle.rtr_models.specs.declared.RtrPdu.TheVariants.{SerialNotify, SerialQuery, ResetQuery, CacheResponse, IPv4Prefix, IPv6Prefix, EndOfData, CacheReset, RouterKey, ErrorReport}
use Rattle.rtr_codec.specs.Reading.{Reading, in_use}
use Rattle.rtr_codec.specs.Read.{Verdict, read}
use Rattle.rtr_walk.specs.Walk.{End, WalkVerdict, deepest, encapsulated, walk_from, walk, walk_said}
use Rattle.rtr_walk.specs.Walk.End.{too_deep}
use Rattle.rtr_walk.specs.Walk.WalkVerdict.{walked}
use Rattle.rtr_walk.specs.Cost.{Cost, Handed, Falling, handed, called, reading, handed_cost, pdu_cost, read_cost, report_cost, walk_cost, pdu_measure, report_measure, reads_said, frames_said}
use Rattle.rtr_walk.specs.Cost.Handed.{nobody, part}
use Rattle.rtr_walk.specs.Cost.Falling.{none, call}
use Rattle.rtr_walk.specs.Private.{walk_inside}
use Rattle.rtr_walk.proofs.Steps.{from_end, from-inside, walk-read, walk-unread}
use Rattle.rtr_walk.proofs.Laws.{too-deep-at-16}
use Rattle.rtr_walk.proofs.walk.Reads as walk-reads
use Rattle.rtr_walk.proofs.walk_pdu.Reads as walk-pdu-reads
use Rattle.rtr_walk.proofs.walk_report.Reads as walk-report-reads

-- ---- By the measures alone: what the proof of the cycle shows of each call of the code

-- calls one inside the other are no more than the measure that they start below
pub falling-at-most : {t : ℕ} {measures : List ℕ} → Falling t measures → length measures ≤ t
falling-at-most none = omega arith
falling-at-most (call below rest) = omega (arith, below, falling-at-most rest)

-- the code enters its functions at these measures at the most
pub pdu-entered : (κs : _) (a : _) → walk-pdu-reads.Pre κs a → pdu_measure a.1.1.0 ≤ 33
pdu-entered κs a pre = omega (arith, pre.0)

pub report-entered : (κs : _) (a : _) → walk-report-reads.Pre κs a → report_measure a.1.0 ≤ 32
report-entered κs a pre = omega (arith, pre)

-- so below `walk` stand 34 frames at the most
pub calls-at-most-34 : {measures : List ℕ} → Falling (pdu_measure deepest + 1) measures → length measures ≤ 34
calls-at-most-34 f = falling-at-most f

-- ---- At most 17 reads and 35 frames

-- no more reads than levels left, and no more frames than the measure and one
Within : ℕ → ℕ → Cost → Type 0
Within reads frames c = (c.reads ≤ reads) × (c.frames ≤ frames)

module _ (R : Reading) where
  module _ (left : ℕ) (report : (bytes : List ℕ) → Within left (report_measure left + 1) (report_cost R left bytes)) where
    handed-within : (h : Handed) → Within left (report_measure left + 1) (handed_cost (report_cost R left) h)
    unfolding Within
    handed-within nobody = (omega arith, omega arith)
    handed-within (part bytes) = report bytes

    read-within : (s : List ℕ) (v : Verdict) → Within left (pdu_measure left + 1) (read_cost (report_cost R left) s v)
    unfolding Within
    read-within s (Verdict.accepted pdu n) = let h = handed-within (handed pdu s) in (h.0, omega (arith, h.1))
    read-within s (Verdict.refused k values) = (omega arith, omega arith)

  report-within : (left : ℕ) (bytes : List ℕ) → Within left (report_measure left + 1) (report_cost R left bytes)
  unfolding report_cost Within
  report-within zero bytes = (omega arith, omega arith)
  report-within (suc left) [] = (omega arith, omega arith)
  report-within (suc left) (b ∷ bs) =
      let r = read-within left (report-within left) (b ∷ bs) (read R (b ∷ bs)) in
      (omega (arith, r.0), omega (arith, r.1))

  -- `walk_report` and `walk_pdu` with so many levels left: no more reads than those, and no more frames than the measure and one
  pub report-at-most : (left : ℕ) (bytes : List ℕ) → ((report_cost R left bytes).reads ≤ left) × ((report_cost R left bytes).frames ≤ report_measure left + 1)
  unfolding Within
  report-at-most = report-within

  pub pdu-at-most : (left : ℕ) (pdu : RtrPdu) (s : List ℕ) → ((pdu_cost (report_cost R left) pdu s).reads ≤ left) × ((pdu_cost (report_cost R left) pdu s).frames ≤ pdu_measure left + 1)
  unfolding Within
  pdu-at-most left pdu s = read-within left (report-within left) s (Verdict.accepted pdu 0)

  pub at-most-17-reads : (s : List ℕ) → (walk_cost R s).reads ≤ 17
  unfolding walk_cost Within
  at-most-17-reads s = omega (arith, (read-within deepest (report-within deepest) s (read R s)).0)

  pub at-most-35-frames : (s : List ℕ) → (walk_cost R s).frames ≤ 35
  unfolding walk_cost Within
  at-most-35-frames s = omega (arith, (read-within deepest (report-within deepest) s (read R s)).1)

  -- ---- The answer tells the cost

  -- with so many reads and frames around it, a call's cost is what the answer says
  Tells : ℕ → ℕ → Cost → WalkVerdict → Type 0
  Tells reads frames c v = (c.reads + reads ≡ reads_said v) × (c.frames + frames ≡ frames_said v)

  pdu-tells : (left at : ℕ) → ((bytes : List ℕ) → Tells (at + 1) (2 * at + 2) (report_cost R left bytes) (walk_inside R left at bytes)) → (pdu : RtrPdu) (s : List ℕ) → Tells (at + 1) (2 * at + 1) (pdu_cost (report_cost R left) pdu s) (walk_from R left at pdu s)
  unfolding Tells
  pdu-tells left at report (SerialNotify p) s = rw (from_end R left at (SerialNotify p) s _ refl) (omega arith, omega arith)
  pdu-tells left at report (SerialQuery p) s = rw (from_end R left at (SerialQuery p) s _ refl) (omega arith, omega arith)
  pdu-tells left at report (ResetQuery p) s = rw (from_end R left at (ResetQuery p) s _ refl) (omega arith, omega arith)
  pdu-tells left at report (CacheResponse p) s = rw (from_end R left at (CacheResponse p) s _ refl) (omega arith, omega arith)
  pdu-tells left at report (IPv4Prefix p) s = rw (from_end R left at (IPv4Prefix p) s _ refl) (omega arith, omega arith)
  pdu-tells left at report (IPv6Prefix p) s = rw (from_end R left at (IPv6Prefix p) s _ refl) (omega arith, omega arith)
  pdu-tells left at report (EndOfData p) s = rw (from_end R left at (EndOfData p) s _ refl) (omega arith, omega arith)
  pdu-tells left at report (CacheReset p) s = rw (from_end R left at (CacheReset p) s _ refl) (omega arith, omega arith)
  pdu-tells left at report (RouterKey p) s = rw (from_end R left at (RouterKey p) s _ refl) (omega arith, omega arith)
  pdu-tells left at report (ErrorReport p) s =
      let t = report (encapsulated p s) in
      rw (from-inside R left at (ErrorReport p) s (encapsulated p s) refl) (t.0, omega (arith, t.1))

  inside-more : (left at : ℕ) (b : ℕ) (bs : List ℕ) {pdu : RtrPdu} {n : ℕ} → read R (b ∷ bs) ≡ Verdict.accepted pdu n → walk_inside R (suc left) at (b ∷ bs) ≡ walk_from R left (at + 1) pdu (b ∷ bs)
  unfolding walk_inside
  inside-more left at b bs e = rw (e, walk_inside)

  inside-unread : (left at : ℕ) (b : ℕ) (bs : List ℕ) {k : ℕ} {values : List ℕ} → read R (b ∷ bs) ≡ Verdict.refused k values → walk_inside R (suc left) at (b ∷ bs) ≡ walked at (End.refused_by k)
  unfolding walk_inside
  inside-unread left at b bs e = rw (e, walk_inside)

  report-tells : (left at : ℕ) (bytes : List ℕ) → Tells (at + 1) (2 * at + 2) (report_cost R left bytes) (walk_inside R left at bytes)
  unfolding report_cost walk_inside Tells
  report-tells zero at [] = (omega arith, omega arith)
  report-tells zero at (b ∷ bs) = (omega arith, omega arith)
  report-tells (suc left) at [] = (omega arith, omega arith)
  report-tells (suc left) at (b ∷ bs) = go (read R (b ∷ bs)) refl (report-tells left (at + 1))
    where
      go : (v : Verdict) → read R (b ∷ bs) ≡ v → ((bytes : List ℕ) → Tells (at + 1 + 1) (2 * (at + 1) + 2) (report_cost R left bytes) (walk_inside R left (at + 1) bytes)) → Tells (at + 1) (2 * at + 2) (called (reading (read_cost (report_cost R left) (b ∷ bs) (read R (b ∷ bs))))) (walk_inside R (suc left) at (b ∷ bs))
      go (Verdict.accepted pdu n) e rest =
          let t = pdu-tells left (at + 1) rest pdu (b ∷ bs) in
          rw (inside-more left at b bs e, e) (omega (arith, t.0), omega (arith, t.1))
      go (Verdict.refused k values) e rest = rw (inside-unread left at b bs e, e) (omega arith, omega arith)

  walk-tells : (s : List ℕ) → Tells 0 0 (walk_cost R s) (walk R s)
  unfolding walk_cost Tells
  walk-tells s = go (read R s) refl
    where
      go : (v : Verdict) → read R s ≡ v → Tells 0 0 (called (reading (read_cost (report_cost R deepest) s (read R s)))) (walk R s)
      go (Verdict.accepted pdu n) e =
          let t = pdu-tells deepest 0 (report-tells deepest 0) pdu s in
          rw (walk-read R s pdu n e, e) (omega (arith, t.0), omega (arith, t.1))
      go (Verdict.refused k values) e = rw (walk-unread R s k values e, e) (omega arith, omega arith)

  pub reads-are-told : (s : List ℕ) → (walk_cost R s).reads ≡ reads_said (walk R s)
  unfolding Tells
  reads-are-told s = omega (arith, (walk-tells s).0)

  pub frames-are-told : (s : List ℕ) → (walk_cost R s).frames ≡ frames_said (walk R s)
  unfolding Tells
  frames-are-told s = omega (arith, (walk-tells s).1)

  -- a walk that is too deep made all 17 reads, in 35 frames
  pub too-deep-costs : (s : List ℕ) (level : ℕ) → walk R s ≡ walked level too_deep → ((walk_cost R s).reads ≡ 17) × ((walk_cost R s).frames ≡ 35)
  too-deep-costs s level w =
      let e = too-deep-at-16 R s level w in
      (reads-are-told s ∙ ap reads_said w ∙ omega arith, frames-are-told s ∙ ap frames_said w ∙ omega arith)

-- so the code's answer tells what its slice costs
pub walk-costs : (κs : _) (a : _) (r : _) (s : _) → walk-reads.Post κs a r s → ((walk_cost in_use a.0.now).reads ≡ reads_said (walk_said r)) × ((walk_cost in_use a.0.now).frames ≡ frames_said (walk_said r))
walk-costs κs a r s p = (reads-are-told in_use a.0.now ∙ ap reads_said (sym p), frames-are-told in_use a.0.now ∙ ap frames_said (sym p))
