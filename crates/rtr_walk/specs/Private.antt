-- What the private functions `walk_pdu` and `walk_report` ask and promise; no public promise rests on this page.
use Rattle.std.specs.Prelude.{ℕ, zero, suc, ◌+◌, List, [], ◌∷◌, ◌≡◌}
use Rattle.rtr_models.specs.declared.RtrPdu.{RtrPdu}
use Rattle.rtr_codec.specs.Reading.{Reading}
use Rattle.rtr_codec.specs.Read.{Verdict, read}
use Rattle.rtr_walk.specs.Walk.{WalkVerdict, walk_from}
use Rattle.rtr_walk.specs.Walk.End.{empty, refused_by, too_deep}
use Rattle.rtr_walk.specs.Walk.WalkVerdict.{walked}

-- the PDU is what a read of these bytes gives
abbrev pub ReadFrom : Reading → RtrPdu → List ℕ → Type 0
ReadFrom R pdu s = (consumed : ℕ) × (read R s ≡ Verdict.accepted pdu consumed)

-- the walk from a report's encapsulated bytes, with so many levels left below the report
unfoldable pub walk_inside : Reading → ℕ → ℕ → List ℕ → WalkVerdict
walk_inside R left level [] = walked level empty
walk_inside R zero level (b ∷ bs) = walked level too_deep
walk_inside R (suc left) level (b ∷ bs) =
    elim (read R (b ∷ bs)) [
      | Verdict.accepted deeper consumed ↦ walk_from R left (level + 1) deeper (b ∷ bs)
      | Verdict.refused number values ↦ walked level (refused_by number)
    ]
