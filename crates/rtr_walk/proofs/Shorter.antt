-- Each part is at least 16 bytes shorter than the slice that its report was read from: of a report 16 bytes are its header and its two lengths, and
-- its text is no copy. So level k is read from at least 16 * k bytes fewer than the slice has. Assumes nothing.
use Prim.Native.Nat.{ℕ, ◌+◌, ◌*◌, ◌≤◌}
use mathlib.Core.Bool.{Bool, true, false}
use mathlib.Core.List.{List, [], ◌∷◌}
use mathlib.Core.Path.{◌≡◌, ap}
use native.Mathlib.Nat.{min-le_left}
use native.Mathlib.Omega.{arith}
use lib.ListN.{length, drop, length-take}
use Rattle.rtr_models.specs.Parts.{inside, part_if}
use Rattle.rtr_models.specs.declared.Place.{Place}
use Rattle.rtr_models.specs.declared.RtrErrorReport.{RtrErrorReport}
use Rattle.rtr_models.specs.declared.RtrPdu.{RtrPdu}
use Rattle.rtr_models.specs.declared.RtrPdu.TheVariants.{SerialNotify, SerialQuery, ResetQuery, CacheResponse, IPv4Prefix, IPv6Prefix, EndOfData, CacheReset, RouterKey, ErrorReport}
use Rattle.rtr_codec.specs.Bytes.{number}
use Rattle.rtr_codec.specs.Reading.{Reading}
use Rattle.rtr_codec.specs.Read.{Verdict, header_length, read}
use Rattle.rtr_codec.proofs.Exactly.{ends-within, read-exactly}
use Rattle.rtr_walk.specs.Walk.{AtLevel, encapsulated, inner, bytes_inside}
use Rattle.rtr_walk.specs.Walk.Inner.{holds}
use Rattle.rtr_walk.specs.Walk.AtLevel.{first, next}
use Rattle.rtr_walk.specs.Cost.{handed}
use Rattle.rtr_walk.specs.Cost.Handed.{nobody, part}

part-at-most : (fits : Bool) (p : Place) (s : List ℕ) → length (part_if fits p s) ≤ p.len
part-at-most true p s = rw (length-take) (min-le_left p.len (length (drop p.start s)))
part-at-most false p s = omega arith

-- a report's copy, as that part of the slice
pub copy-shorter : (R : Reading) (s : List ℕ) (report : RtrErrorReport) (n : ℕ) → read R s ≡ Verdict.accepted (ErrorReport report) n → (length (encapsulated report s) + 16 ≤ n) × (n ≤ length s)
copy-shorter R s report n e =
    let k = (read-exactly R s (ErrorReport report) n).0 e in
    let copy : ℕ = number s 8 4 in
    let text : ℕ = number s (12 + copy) 4 in
    let size : copy ≡ report.erroneous_pdu.len = ap (λ (p : Place). p.len) k.kind.2 in
    let within : 16 + copy + text ≤ header_length s = ends-within R.bytes_behind_text (16 + copy + text) (header_length s) k.kind.4 in
    (omega (arith, part-at-most (inside report.erroneous_pdu s) report.erroneous_pdu s, size, within, k.total), k.whole)

no_part : {A : Type 0} (bytes : List ℕ) → nobody ≡ part bytes → A
no_part bytes h = absurd (let z : ◌≡◌ {A = ℕ} 0 1 = cc in omega arith)

-- the bytes that are walked next lie in a report of 16 bytes more, which lies in the slice
pub shorter-part : (R : Reading) (s : List ℕ) (pdu : RtrPdu) (n : ℕ) (bytes : List ℕ) → read R s ≡ Verdict.accepted pdu n → handed pdu s ≡ part bytes → (length bytes + 16 ≤ n) × (n ≤ length s)
shorter-part R s (SerialNotify p) n bytes e h = no_part bytes h
shorter-part R s (SerialQuery p) n bytes e h = no_part bytes h
shorter-part R s (ResetQuery p) n bytes e h = no_part bytes h
shorter-part R s (CacheResponse p) n bytes e h = no_part bytes h
shorter-part R s (IPv4Prefix p) n bytes e h = no_part bytes h
shorter-part R s (IPv6Prefix p) n bytes e h = no_part bytes h
shorter-part R s (EndOfData p) n bytes e h = no_part bytes h
shorter-part R s (CacheReset p) n bytes e h = no_part bytes h
shorter-part R s (RouterKey p) n bytes e h = no_part bytes h
shorter-part R s (ErrorReport p) n bytes e h =
    let same : encapsulated p s ≡ bytes = cc in
    let short = copy-shorter R s p n e in
    (omega (arith, ap length same, short.0), short.1)

-- what a PDU holds is what is handed on
holds-handed : (pdu : RtrPdu) (s bytes : List ℕ) → inner pdu s ≡ holds bytes → handed pdu s ≡ part bytes
holds-handed (SerialNotify p) s bytes h = absurd (let z : ◌≡◌ {A = ℕ} 0 1 = cc in omega arith)
holds-handed (SerialQuery p) s bytes h = absurd (let z : ◌≡◌ {A = ℕ} 0 1 = cc in omega arith)
holds-handed (ResetQuery p) s bytes h = absurd (let z : ◌≡◌ {A = ℕ} 0 1 = cc in omega arith)
holds-handed (CacheResponse p) s bytes h = absurd (let z : ◌≡◌ {A = ℕ} 0 1 = cc in omega arith)
holds-handed (IPv4Prefix p) s bytes h = absurd (let z : ◌≡◌ {A = ℕ} 0 1 = cc in omega arith)
holds-handed (IPv6Prefix p) s bytes h = absurd (let z : ◌≡◌ {A = ℕ} 0 1 = cc in omega arith)
holds-handed (EndOfData p) s bytes h = absurd (let z : ◌≡◌ {A = ℕ} 0 1 = cc in omega arith)
holds-handed (CacheReset p) s bytes h = absurd (let z : ◌≡◌ {A = ℕ} 0 1 = cc in omega arith)
holds-handed (RouterKey p) s bytes h = absurd (let z : ◌≡◌ {A = ℕ} 0 1 = cc in omega arith)
holds-handed (ErrorReport p) s bytes h = go (encapsulated p s) h
  where
    go : (copy : List ℕ) → bytes_inside copy ≡ holds bytes → part copy ≡ part bytes
    go [] h = absurd (let z : ◌≡◌ {A = ℕ} 0 1 = cc in omega arith)
    go (b ∷ bs) h = let same : b ∷ bs ≡ bytes = cc in ap part same

-- so level k reads at least 16 * k bytes fewer than the slice has
pub shorter-at-level : {R : Reading} {s : List ℕ} {k : ℕ} {pdu : RtrPdu} {bytes : List ℕ} → AtLevel R s k pdu bytes → 16 * k + length bytes ≤ length s
shorter-at-level (first e) = omega arith
shorter-at-level {R} (next {k} {pdu} {deeper} {bytes} {inside} a h e) =
    let read_above = read_at a in
    let short = shorter-part R bytes pdu read_above.0 inside read_above.1 (holds-handed pdu bytes inside h) in
    omega (arith, shorter-at-level a, short.0, short.1)
  where
    read_at : {s : List ℕ} {k : ℕ} {pdu : RtrPdu} {bytes : List ℕ} → AtLevel R s k pdu bytes → (n : ℕ) × (read R bytes ≡ Verdict.accepted pdu n)
    read_at (first {consumed = n} e) = (n, e)
    read_at (next {consumed = n} a h e) = (n, e)
