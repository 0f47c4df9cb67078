-- Every line of the table holds: each by the sample or the law of the floor that it is about. Assumes nothing.
use mathlib.Core.Path.{◌≡◌, refl}
use native.Mathlib.Omega.{arith}
use lib.ListN.{drop}
use Rattle.rtr_models.specs.declared.RtrProtocolVersion.TheVariants.{V1}
use Rattle.rtr_models.specs.declared.RtrPduType.{RtrPduType}
use Rattle.rtr_models.specs.declared.RtrPdu.TheVariants.{ResetQuery}
use Rattle.rtr_codec.specs.Reading.{in_use}
use Rattle.rtr_codec.proofs.Samples.{nothing_read, query-read, query-of-no-length, missing-before-version, version-before-type, type-unknown-read, key-in-version-0, code-nine, copy-past-the-end, behind-in-crate, report-of-query}
use Rattle.rtr_encode.proofs.Samples.{behind-not-written}
use Rattle.rtr_walk.specs.Walk.{walk}
use Rattle.rtr_walk.specs.Walk.End.{plain}
use Rattle.rtr_walk.specs.Walk.WalkVerdict.{walked}
use Rattle.rtr_walk.specs.Walk.AtLevel.{first, next}
use Rattle.rtr_walk.proofs.Laws.{walk-exactly}
use Rattle.rtr_receiver.proofs.Examples.{past-the-largest, halfway-round}
use Rattle.rtr_edges.specs.Edges.{AllHold, report_of_query, edges}

-- a report about a Reset Query: its level 1 is that query, which ends the walk
query-at-level-1 : walk in_use report_of_query ≡ walked 1 (plain RtrPduType.ResetQuery)
query-at-level-1 =
    (walk-exactly in_use report_of_query 1 (plain RtrPduType.ResetQuery)).1
    (omega arith, (ResetQuery (record { version = V1 }), _, next (first report-of-query) refl query-read, refl))

-- the lines from an unknown type on
later-edges : AllHold (drop 5 edges)
later-edges = (type-unknown-read, (key-in-version-0, (code-nine, (copy-past-the-end, (behind-in-crate, (rw behind-in-crate behind-not-written, (query-at-level-1, (past-the-largest, (halfway-round, tt)))))))))

-- document 01's edges hold
pub edges-hold : AllHold edges
edges-hold = (nothing_read, (query-read, (query-of-no-length, (missing-before-version, (version-before-type, later-edges)))))
