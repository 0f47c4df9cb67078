-- The nest walk: document 01, "Nest walk". A slice is read, then what the report in it encapsulates, and so on: each read is one level further down.
use Rattle.std.specs.Prelude.{ℕ, zero, suc, ◌+◌, ◌≤◌, ◌<◌, List, [], ◌∷◌, ◌≡◌, Result, Ok, Err}
use Rattle.rtr_models.specs.Parts.{inside, part_if}
use Rattle.rtr_models.specs.declared.RtrPduType.{RtrPduType}
use Rattle.rtr_models.specs.declared.RtrErrorReport.{RtrErrorReport}
use Rattle.rtr_models.specs.declared.RtrPdu.{RtrPdu}
use Rattle.rtr_models.specs.declared.RtrPdu.TheVariants.{SerialNotify, SerialQuery, ResetQuery, CacheResponse, IPv4Prefix, IPv6Prefix, EndOfData, CacheReset, RouterKey, ErrorReport}
use Rattle.rtr_codec.specs.Reading.{Reading}
use Rattle.rtr_codec.specs.Read.{Verdict, read}
use Rattle.rtr_codec.specs.Answers.{refusal}
use Rattle.rtr_walk.specs.declared.WalkEnd.{WalkEnd}
use Rattle.rtr_walk.specs.declared.WalkEnd.TheVariants.{Plain, Empty, Refused, TooDeep}
use Rattle.rtr_codec.specs.declared.RtrError.{RtrError}

-- how a walk ends: at a PDU that is no report, at a report with nothing inside, at inner bytes that are refused by a number, or at level
-- 16 with bytes still inside
pub data End : Type 0 where
  plain : RtrPduType → End
  empty : End
  refused_by : ℕ → End
  too_deep : End

-- the level of the last PDU read and the end, or level 0's refusal with its values
pub data WalkVerdict : Type 0 where
  walked : ℕ → End → WalkVerdict
  refused : ℕ → List ℕ → WalkVerdict

-- levels below the first, at the most
abbrev pub deepest : ℕ
deepest = 16

-- a report's encapsulated bytes, as that part of the slice that the report was read from
abbrev pub encapsulated : RtrErrorReport → List ℕ → List ℕ
encapsulated r s = part_if (inside r.erroneous_pdu s) r.erroneous_pdu s

-- what a PDU means for the walk: its end, or inner bytes to read
pub data Inner : Type 0 where
  ends : End → Inner
  holds : List ℕ → Inner

abbrev pub bytes_inside : List ℕ → Inner
bytes_inside [] = ends empty
bytes_inside (b ∷ bs) = holds (b ∷ bs)

abbrev pub inner : RtrPdu → List ℕ → Inner
inner (SerialNotify p) s = ends (plain RtrPduType.SerialNotify)
inner (SerialQuery p) s = ends (plain RtrPduType.SerialQuery)
inner (ResetQuery p) s = ends (plain RtrPduType.ResetQuery)
inner (CacheResponse p) s = ends (plain RtrPduType.CacheResponse)
inner (IPv4Prefix p) s = ends (plain RtrPduType.IPv4Prefix)
inner (IPv6Prefix p) s = ends (plain RtrPduType.IPv6Prefix)
inner (EndOfData p) s = ends (plain RtrPduType.EndOfData)
inner (CacheReset p) s = ends (plain RtrPduType.CacheReset)
inner (RouterKey p) s = ends (plain RtrPduType.RouterKey)
inner (ErrorReport p) s = bytes_inside (encapsulated p s)

-- the walk from a PDU at a level, read from s, with so many levels left below it
unfoldable pub walk_from : Reading → ℕ → ℕ → RtrPdu → List ℕ → WalkVerdict
walk_from R zero level pdu s = elim (inner pdu s) [ ends e ↦ walked level e | holds bytes ↦ walked level too_deep ]
walk_from R (suc left) level pdu s =
    elim (inner pdu s) [
      | ends e ↦ walked level e
      | holds bytes ↦
          elim (read R bytes) [
            | Verdict.accepted deeper consumed ↦ walk_from R left (level + 1) deeper bytes
            | Verdict.refused number values ↦ walked level (refused_by number)
          ]
    ]

-- the walk: a refused read at level 0 refuses it
unfoldable pub walk : Reading → List ℕ → WalkVerdict
walk R s =
    elim (read R s) [ Verdict.accepted pdu consumed ↦ walk_from R deepest 0 pdu s | Verdict.refused number values ↦ refused number values ]

-- what the code's answers say
abbrev pub end_said : WalkEnd → End
end_said (Plain type) = plain type
end_said Empty = empty
end_said (Refused number) = refused_by number
end_said TooDeep = too_deep

abbrev pub refused_walk : Verdict → WalkVerdict
refused_walk (Verdict.accepted pdu consumed) = refused 0 []
refused_walk (Verdict.refused number values) = refused number values

abbrev pub walk_said : Result (ℕ × WalkEnd) RtrError → WalkVerdict
walk_said (Ok (level, end)) = walked level (end_said end)
walk_said (Err error) = refused_walk (refusal error)

-- Below: what the laws say of the walk without it.

-- how many reads succeed, one inside the other, from a slice, in so many levels at the most
unfoldable pub reads_from : Reading → ℕ → List ℕ → ℕ
reads_from R zero s = 0
reads_from R (suc levels) s =
    elim (read R s) [
      | Verdict.accepted pdu consumed ↦ elim (inner pdu s) [ ends e ↦ 1 | holds bytes ↦ suc (reads_from R levels bytes) ]
      | Verdict.refused number values ↦ 0
    ]

-- level k of the slice is this PDU, read from these bytes
pub data AtLevel (R : Reading) (s : List ℕ) : ℕ → RtrPdu → List ℕ → Type 0 where
  first : {pdu : RtrPdu} {consumed : ℕ} → read R s ≡ Verdict.accepted pdu consumed → AtLevel R s 0 pdu s
  next : {k : ℕ} {pdu deeper : RtrPdu} {bytes inside : List ℕ} {consumed : ℕ} →
      AtLevel R s k pdu bytes →
      inner pdu bytes ≡ holds inside →
      read R inside ≡ Verdict.accepted deeper consumed →
      AtLevel R s (k + 1) deeper inside

-- level k of the slice is a report with bytes inside
abbrev pub HoldsAt : Reading → List ℕ → ℕ → Type 0
HoldsAt R s k = (pdu : RtrPdu) × (bytes : List ℕ) × (inside : List ℕ) × AtLevel R s k pdu bytes × (inner pdu bytes ≡ holds inside)

-- level k of the slice stops the walk there
abbrev pub StopsAt : Reading → List ℕ → ℕ → End → Type 0
StopsAt R s k end = (pdu : RtrPdu) × (bytes : List ℕ) × AtLevel R s k pdu bytes × (inner pdu bytes ≡ ends end)

-- level k of the slice is a report whose bytes are refused by a number
abbrev pub RefusedAt : Reading → List ℕ → ℕ → ℕ → Type 0
RefusedAt R s k number =
    (pdu : RtrPdu)
    × (bytes : List ℕ)
    × (inside : List ℕ)
    × (values : List ℕ)
    × AtLevel R s k pdu bytes
    × (inner pdu bytes ≡ holds inside)
    × (read R inside ≡ Verdict.refused number values)

-- document 01's four ends at level k: a PDU that is no report, a report with nothing inside, a report above level 16 whose bytes are refused,
-- or a report at level 16 with bytes inside
abbrev pub EndsAt : Reading → List ℕ → ℕ → End → Type 0
EndsAt R s k (plain type) = (k ≤ deepest) × StopsAt R s k (plain type)
EndsAt R s k empty = (k ≤ deepest) × StopsAt R s k empty
EndsAt R s k (refused_by number) = (k < deepest) × RefusedAt R s k number
EndsAt R s k too_deep = (k ≡ deepest) × HoldsAt R s k
