use native.Mathlib.Numerals.{add-one}
use Rattle.rtr_origin.proofs.Surveys.{looked-at-none, looked-at-one-more}
use Rattle.rtr_origin.proofs.peer.survey.Goals as goal

pub loop-i-init : goal.loop-i-init
loop-i-init c =
    let a = c.args in
    (looked-at-none 4 a.live.now, looked-at-none 6 a.live.now)

pub loop-i-preserved : goal.loop-i-preserved
loop-i-preserved c =
    let a = c.args in
    let l = c.loop-i in
    let record_is = c.record_of-x.ensures in (
      rw add-one (looked-at-one-more 4 l.i a.live.now _ _ _ l.invariant.0 record_is c.with_record-four.ensures),
      rw add-one (looked-at-one-more 6 l.i a.live.now _ _ _ l.invariant.1 record_is c.with_record-six.ensures),
    )
