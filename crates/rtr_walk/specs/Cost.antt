-- What a walk costs: the reads that it makes, and the frames of its own functions that stand on the stack at once (document 01, "Nest walk": "at most 16
-- levels below the first"). By the calls of src/lib.rt: `walk` reads and calls `walk_pdu`; that hands a report's part to `walk_report`; that reads the part
-- and calls `walk_pdu`. What reading needs of the stack is not counted: it calls nothing of the walk.
use Rattle.std.specs.Prelude.{ℕ, zero, suc, ◌+◌, ◌*◌, ◌<◌, List, [], ◌∷◌}
use Rattle.rtr_models.specs.declared.RtrPdu.{RtrPdu}
use Rattle.rtr_models.specs.declared.RtrPdu.TheVariants.{SerialNotify, SerialQuery, ResetQuery, CacheResponse, IPv4Prefix, IPv6Prefix, EndOfData, CacheReset, RouterKey, ErrorReport}
use Rattle.rtr_codec.specs.Reading.{Reading}
use Rattle.rtr_codec.specs.Read.{Verdict, read}
use Rattle.rtr_walk.specs.Walk.{End, WalkVerdict, deepest, encapsulated}

-- the reads of a call and of the calls inside it, and the frames from it on
pub record Cost : Type 0 where
  pub reads : ℕ
  pub frames : ℕ

-- nothing is read or called
abbrev pub nothing : Cost
nothing = record { reads = 0; frames = 0 }

-- a call: one frame around what it calls
abbrev pub called : Cost → Cost
called inside = record { reads = inside.reads; frames = inside.frames + 1 }

-- a read before it
abbrev pub reading : Cost → Cost
reading after = record { reads = after.reads + 1; frames = after.frames }

-- what `walk_pdu` hands to `walk_report`: a report's part, empty or not; nothing of any other PDU
pub data Handed : Type 0 where
  nobody : Handed
  part : List ℕ → Handed

abbrev pub handed : RtrPdu → List ℕ → Handed
handed (SerialNotify p) s = nobody
handed (SerialQuery p) s = nobody
handed (ResetQuery p) s = nobody
handed (CacheResponse p) s = nobody
handed (IPv4Prefix p) s = nobody
handed (IPv6Prefix p) s = nobody
handed (EndOfData p) s = nobody
handed (CacheReset p) s = nobody
handed (RouterKey p) s = nobody
handed (ErrorReport p) s = part (encapsulated p s)

-- `walk_pdu` on a PDU that was read from s, by what `walk_report` costs on a part
abbrev pub handed_cost : (List ℕ → Cost) → Handed → Cost
handed_cost report nobody = nothing
handed_cost report (part bytes) = report bytes

abbrev pub pdu_cost : (List ℕ → Cost) → RtrPdu → List ℕ → Cost
pdu_cost report pdu s = called (handed_cost report (handed pdu s))

-- what follows a read of s
abbrev pub read_cost : (List ℕ → Cost) → List ℕ → Verdict → Cost
read_cost report s (Verdict.accepted pdu consumed) = pdu_cost report pdu s
read_cost report s (Verdict.refused number values) = nothing

-- `walk_report` on a part, with so many levels left
unfoldable pub report_cost : Reading → ℕ → List ℕ → Cost
report_cost R zero bytes = called nothing
report_cost R (suc left) [] = called nothing
report_cost R (suc left) (b ∷ bs) = called (reading (read_cost (report_cost R left) (b ∷ bs) (read R (b ∷ bs))))

-- `walk` on a slice
unfoldable pub walk_cost : Reading → List ℕ → Cost
walk_cost R s = called (reading (read_cost (report_cost R deepest) s (read R s)))

-- ---- the measures by which the cycle of calls {walk_pdu, walk_report} is proved to end: every call inside has a smaller one

-- of `walk_pdu` and of `walk_report` with so many levels left
abbrev pub pdu_measure : ℕ → ℕ
pdu_measure left = 2 * left + 1

abbrev pub report_measure : ℕ → ℕ
report_measure left = 2 * left

-- of the same on so many bytes: a part is shorter than the slice that its report was read from (any two numbers that fall as these do would serve)
abbrev pub pdu_bytes : ℕ → ℕ
pdu_bytes size = 2 * size

abbrev pub report_bytes : ℕ → ℕ
report_bytes size = 2 * size + 1

-- calls that stand one inside the other: each has a smaller measure than the one that made it
pub data Falling : ℕ → List ℕ → Type 0 where
  none : {t : ℕ} → Falling t []
  call : {t measure : ℕ} {rest : List ℕ} → measure < t → Falling measure rest → Falling t (measure ∷ rest)

-- ---- what an answer tells of the cost

-- the last read is one that succeeded, or the refused one behind it
abbrev pub reads_to : End → ℕ → ℕ
reads_to (End.plain type) level = level + 1
reads_to End.empty level = level + 1
reads_to (End.refused_by number) level = level + 2
reads_to End.too_deep level = level + 1

abbrev pub reads_said : WalkVerdict → ℕ
reads_said (WalkVerdict.walked level end) = reads_to end level
reads_said (WalkVerdict.refused number values) = 1

-- two frames for each level and `walk`'s own, but for the last PDU's part where it has none
abbrev pub frames_to : End → ℕ → ℕ
frames_to (End.plain type) level = 2 * level + 2
frames_to End.empty level = 2 * level + 3
frames_to (End.refused_by number) level = 2 * level + 3
frames_to End.too_deep level = 2 * level + 3

abbrev pub frames_said : WalkVerdict → ℕ
frames_said (WalkVerdict.walked level end) = frames_to end level
frames_said (WalkVerdict.refused number values) = 1
