use native.Mathlib.Omega.{arith}
use lib.ListN.{take}
use Rattle.rtr_room.specs.Room.{record_found}
use Rattle.rtr_listing.specs.Listing.{head_of}
use Rattle.rtr_listing.proofs.Laws.{head-at-most}
use Rattle.rtr_table.proofs.Prints.{part-at-most, shown-length, shows-none, shows-next}
use Rattle.rtr_table.proofs.table_text.Goals as goal

pub loop-i-init : goal.loop-i-init
loop-i-init c =
    let head = c.head_text-n in
    (shows-none _ _ _ head.ensures.within, omega (arith, shown-length head.ensures, head-at-most (head_of c.args.s)))

pub loop-i-preserved : goal.loop-i-preserved
loop-i-preserved c =
    let text = c.text_at-more in
    let loop = c.loop-i in
    let head = c.head_text-n in (
      shows-next (take head.result head.new.lines) _ loop.i _ loop.invariant.0 text.ensures,
      omega (arith, part-at-most (record_found _ _) text.ensures, loop.invariant.1),
    )
