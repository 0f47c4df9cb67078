-- The proof of the cycle of calls {walk_pdu, walk_report}. Each way through a body is one step of the walk, of Steps.antt; what a callee promises is
-- the rest of it. Each function calls the other at a smaller measure, and there are two such measures. By levels: `walk_pdu` hands the same `left` to
-- `walk_report`, which calls back with one fewer. By bytes: `walk_report` hands its slice to `walk_pdu`, which calls back with a part that is at
-- least 16 bytes shorter (`shorter-part`). Assumes nothing.
use Prim.Native.Nat.{ℕ, ◌+◌, ◌-◌, ◌≤◌, ◌<◌}
use mathlib.Core.Path.{◌≡◌, sym, ap, ◌∙◌}
use native.Mathlib.Omega.{arith}
use lib.ListN.{length}
use borrow.Author.Rules.{rules}
use borrow.Fn.Kinds.{In}
use borrow.Fn.PlainCycle.{Measures, is, falls, and}
use Rattle.rtr_models.specs.declared.RtrPdu.{RtrPdu}
use Rattle.rtr_codec.specs.Reading.{in_use}
use Rattle.rtr_codec.specs.Read.{Verdict}
use Rattle.rtr_codec.specs.Read.Verdict.{accepted}
use Rattle.rtr_codec.specs.Answers.{refusal}
use Rattle.rtr_codec.proofs.RtrError.number.Reads as number-reads
use Rattle.rtr_codec.proofs.parse_rtr_pdu.Reads as parse-rtr-pdu-reads
use Rattle.rtr_models.proofs.RtrErrorReport.erroneous_pdu_part.Reads as erroneous-pdu-part-reads
use Rattle.rtr_models.proofs.RtrPdu.pdu_type.Reads as pdu-type-reads
use Rattle.rtr_walk.specs.Cost.{pdu_measure, report_measure, pdu_bytes, report_bytes}
use Rattle.rtr_walk.proofs.Shorter.{copy-shorter}
use Rattle.rtr_walk.proofs.Steps.{other-ends, from_end, from-inside, inside-empty, inside-deep, inside-read, inside-refused}
use Rattle.rtr_walk.proofs.walk_pdu.Reads as walk-pdu
use Rattle.rtr_walk.proofs.walk_pdu.Kinds as walk-pdu-kinds
use Rattle.rtr_walk.proofs.+walk_pdu_walk_report.Lts-walk_pdu as walk-pdu-lts
use Rattle.rtr_walk.proofs.walk_report.Reads as walk-report
use Rattle.rtr_walk.proofs.walk_report.Kinds as walk-report-kinds
use Rattle.rtr_walk.proofs.+walk_pdu_walk_report.Lts-walk_report as walk-report-lts
use Rattle.rtr_walk.proofs.+walk_pdu_walk_report.{statement}
use Rattle.rtr_walk.proofs.+walk_pdu_walk_report.Tie.{close}

below : {a b t : ℕ} → b ≡ t → a < b → a < t
below e h = omega arith

-- a read that gives a PDU gives the one that is handed on, which is the same
also-read : {handed pdu : RtrPdu} {consumed : ℕ} {v : Verdict} → handed ≡ pdu → accepted pdu consumed ≡ v → v ≡ accepted handed consumed
also-read {consumed = consumed} same gives = sym gives ∙ ap (λ (p : RtrPdu). accepted p consumed) (sym same)

-- a measure of `walk_pdu` and one of `walk_report`, by the levels left and the bytes of the slice: it falls where a shorter part is handed over, and
-- where a level is used up
module _
    (m-pdu m-report : ℕ → ℕ → ℕ)
    (part_falls : (left size part : ℕ) → part + 16 ≤ size → m-report left part < m-pdu left size)
    (level-falls : (left size : ℕ) → 1 ≤ left → m-pdu (left - 1) size < m-report left size)
  where
    abbrev μ-walk-pdu : Measures 1 walk-pdu-kinds.ps ℕ
    μ-walk-pdu κs a = m-pdu a.1.1.0 (length a.1.0.now)

    abbrev μ-walk-report : Measures 1 walk-report-kinds.ps ℕ
    μ-walk-report κs a = m-report a.1.0 (length a.0.now)

    -- what each is given at the measure t, and what its callees ask and give: the other one is called below t
    abbrev walk-pdu-at : ℕ → In 1 walk-pdu-kinds.ps
    walk-pdu-at t = and 1 walk-pdu-kinds.ps (is 1 walk-pdu-kinds.ps μ-walk-pdu t) walk-pdu.Pre

    abbrev walk-report-at : ℕ → In 1 walk-report-kinds.ps
    walk-report-at t = and 1 walk-report-kinds.ps (is 1 walk-report-kinds.ps μ-walk-report t) walk-report.Pre

    abbrev walk-pdu-calls : ℕ → walk-pdu-lts.Claims
    walk-pdu-calls t = (
      erroneous-pdu-part-reads.Asked,
      erroneous-pdu-part-reads.Learnt,
      and 1 walk-report-kinds.ps (falls 1 walk-report-kinds.ps ◌<◌ μ-walk-report t) walk-report.Pre,
      walk-report.Post,
      pdu-type-reads.Asked,
      pdu-type-reads.Learnt,
    )

    abbrev walk-report-calls : ℕ → walk-report-lts.Claims
    walk-report-calls t = (
      parse-rtr-pdu-reads.Asked,
      parse-rtr-pdu-reads.Learnt,
      and 1 walk-pdu-kinds.ps (falls 1 walk-pdu-kinds.ps ◌<◌ μ-walk-pdu t) walk-pdu.Pre,
      walk-pdu.Post,
      number-reads.Asked,
      number-reads.Learnt,
    )

    walk-pdu-enum-known-pdu : (t : ℕ) → walk-pdu-lts.Need-enum_known-pdu (walk-pdu-calls t) (walk-pdu-at t) walk-pdu.Post
    walk-pdu-enum-known-pdu t c = search rules

    walk-pdu-erroneous-pdu-part-requires : (t : ℕ) → walk-pdu-lts.Need-erroneous_pdu_part-requires (walk-pdu-calls t) (walk-pdu-at t) walk-pdu.Post
    walk-pdu-erroneous-pdu-part-requires t c κs = search rules

    -- where `walk_pdu` is entered at the measure t, it calls `walk_report` below t
    pub walk-pdu-walk-report-requires : (t : ℕ) → walk-pdu-lts.Need-walk_report-requires (walk-pdu-calls t) (walk-pdu-at t) walk-pdu.Post
    walk-pdu-walk-report-requires t c κs =
        let slice = c.args.input.now in
        let copy = copy-shorter in_use slice _ _ (c.requires.1.1.1 ∙ ap (λ (p : RtrPdu). accepted p c.requires.1.1.0) c.in-ErrorReport.is) in (
          below c.requires.0 (part_falls c.args.left (length slice) _ (omega (arith, copy.0, copy.1, ap length c.erroneous_pdu_part.ensures.0))),
          c.requires.1.0,
        )

    walk-pdu-overflow-sub-result : (t : ℕ) → walk-pdu-lts.Need-overflow_sub-result (walk-pdu-calls t) (walk-pdu-at t) walk-pdu.Post
    walk-pdu-overflow-sub-result t c = omega arith

    walk-pdu-pdu-type-requires : (t : ℕ) → walk-pdu-lts.Need-pdu_type-requires (walk-pdu-calls t) (walk-pdu-at t) walk-pdu.Post
    walk-pdu-pdu-type-requires t c κs = search rules

    walk-pdu-returns-in-error-report : (t : ℕ) → walk-pdu-lts.Need-returns-in-ErrorReport (walk-pdu-calls t) (walk-pdu-at t) walk-pdu.Post
    walk-pdu-returns-in-error-report t c =
        c.walk_report.ensures ∙ sym (from-inside in_use _ _ _ _ _ (simp (c.in-ErrorReport.is, c.erroneous_pdu_part.ensures.0)))

    walk-pdu-returns-in-default : (t : ℕ) → walk-pdu-lts.Need-returns-in_default (walk-pdu-calls t) (walk-pdu-at t) walk-pdu.Post
    walk-pdu-returns-in-default t c = rw c.pdu_type.ensures (sym (from_end in_use _ _ _ _ _ (other-ends c.args.pdu _ c.in_default.in_default-own.keys2)))

    walk-report-overflow-sub-level : (t : ℕ) → walk-report-lts.Need-overflow_sub-level (walk-report-calls t) (walk-report-at t) walk-report.Post
    walk-report-overflow-sub-level t c = omega arith

    walk-report-returns-then-part-eq0 : (t : ℕ) → walk-report-lts.Need-returns-then-part-eq0 (walk-report-calls t) (walk-report-at t) walk-report.Post
    walk-report-returns-then-part-eq0 t c = sym (inside-empty in_use _ _ _ c.if-part-eq0.true)

    walk-report-returns-then-left-eq0 : (t : ℕ) → walk-report-lts.Need-returns-then-left-eq0 (walk-report-calls t) (walk-report-at t) walk-report.Post
    walk-report-returns-then-left-eq0 t c = sym (inside-deep in_use _ _ _ c.if-part-eq0.false c.if-left-eq0.true)

    walk-report-parse-rtr-pdu-requires : (t : ℕ) → walk-report-lts.Need-parse_rtr_pdu-requires (walk-report-calls t) (walk-report-at t) walk-report.Post
    walk-report-parse-rtr-pdu-requires t c κs = search rules

    walk-report-enum-told-at-1 : (t : ℕ) → walk-report-lts.Need-enum_told_at-1 (walk-report-calls t) (walk-report-at t) walk-report.Post
    walk-report-enum-told-at-1 t c = search rules

    walk-report-way-copy-out-pdu : (t : ℕ) → walk-report-lts.Need-way_copy_out-pdu (walk-report-calls t) (walk-report-at t) walk-report.Post
    walk-report-way-copy-out-pdu t c = search rules

    walk-report-overflow-sub-left : (t : ℕ) → walk-report-lts.Need-overflow_sub-left (walk-report-calls t) (walk-report-at t) walk-report.Post
    walk-report-overflow-sub-left t c = omega arith

    -- where `walk_report` is entered at the measure t, it calls `walk_pdu` below t
    pub walk-report-walk-pdu-requires : (t : ℕ) → walk-report-lts.Need-walk_pdu-requires (walk-report-calls t) (walk-report-at t) walk-report.Post
    walk-report-walk-pdu-requires t c κs = (
      below c.requires.0 (level-falls c.args.left (length c.args.part.now) (omega (arith, c.if-left-eq0.false))),
      (omega arith, (_, also-read c.in-Ok.pdu-is c.in-Ok.ensures)),
    )

    walk-report-way-copy-out-error : (t : ℕ) → walk-report-lts.Need-way_copy_out-error (walk-report-calls t) (walk-report-at t) walk-report.Post
    walk-report-way-copy-out-error t c = search rules

    walk-report-number-requires : (t : ℕ) → walk-report-lts.Need-number-requires (walk-report-calls t) (walk-report-at t) walk-report.Post
    walk-report-number-requires t c κs = search rules

    walk-report-returns-in-ok : (t : ℕ) → walk-report-lts.Need-returns-in-Ok (walk-report-calls t) (walk-report-at t) walk-report.Post
    walk-report-returns-in-ok t c =
        c.walk_pdu.ensures ∙ sym (inside-read in_use _ _ _ _ c.if-part-eq0.false c.if-left-eq0.false (omega arith) (also-read c.in-Ok.pdu-is c.in-Ok.ensures))

    walk-report-returns-in-err : (t : ℕ) → walk-report-lts.Need-returns-in-Err (walk-report-calls t) (walk-report-at t) walk-report.Post
    walk-report-returns-in-err t c =
        sym (inside-refused in_use _ _ _ _ _ c.number.ensures c.if-part-eq0.false c.if-left-eq0.false (sym c.in-Err.ensures ∙ ap refusal (sym c.in-Err.error-is)))

    ends : {M : Type 1} → statement M
    ends =
        close μ-walk-pdu μ-walk-report
        (λ t. walk-pdu-lts.spec (walk-pdu-calls t) (walk-pdu-at t) walk-pdu.Post
        (walk-pdu-enum-known-pdu t)
        (walk-pdu-erroneous-pdu-part-requires t)
        (walk-pdu-walk-report-requires t)
        (walk-pdu-overflow-sub-result t)
        (walk-pdu-pdu-type-requires t)
        (walk-pdu-returns-in-error-report t)
        (walk-pdu-returns-in-default t))
        (λ t. walk-report-lts.spec (walk-report-calls t) (walk-report-at t) walk-report.Post
        (walk-report-overflow-sub-level t)
        (walk-report-returns-then-part-eq0 t)
        (walk-report-returns-then-left-eq0 t)
        (walk-report-parse-rtr-pdu-requires t)
        (walk-report-enum-told-at-1 t)
        (walk-report-way-copy-out-pdu t)
        (walk-report-overflow-sub-left t)
        (walk-report-walk-pdu-requires t)
        (walk-report-way-copy-out-error t)
        (walk-report-number-requires t)
        (walk-report-returns-in-ok t)
        (walk-report-returns-in-err t))

-- the cycle ends by the levels that are left
pub +walk_pdu_walk_report_spec : {M : Type 1} → statement M
+walk_pdu_walk_report_spec = ends (λ left size. pdu_measure left) (λ left size. report_measure left) (λ left size part h. omega arith) (λ left size h. omega arith)

-- and by the bytes of the slice, whatever levels are left
pub ends-by-bytes : {M : Type 1} → statement M
ends-by-bytes = ends (λ left size. pdu_bytes size) (λ left size. report_bytes size) (λ left size part h. omega arith) (λ left size h. omega arith)
