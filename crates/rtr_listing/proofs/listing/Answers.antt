-- `listing` adds up what the head and the records need, refuses by 22 and by 9, and else writes the head and then the records. Assumes nothing.
use mathlib.Core.Path.{ap, ◌∙◌}
use native.Mathlib.Omega.{arith}
use mathlib.Core.List.{◌++◌}
use lib.ListN.{length-append}
use Rattle.rtr_room.specs.Room.{records}
use Rattle.rtr_listing.specs.Listing.{head_lines, all_lines}
use Rattle.rtr_listing.specs.declared.Head.{Head}
use Rattle.rtr_listing.proofs.Puts.{put_then}
use Rattle.rtr_listing.proofs.Calls.{fails, holds, too_short, wrote, listed-size, refused-by-22, listed-by-head}
use Rattle.rtr_listing.proofs.listing.Goals as goal

pub returns-then-not-is_listed : goal.returns-then-not-is_listed
returns-then-not-is_listed c =
    let a = c.args in
    refused-by-22 a.s.life.limit a.s a.live.now a.out.now (fails c.is_listed.ensures c.if-not-is_listed.true-raw)

pub records_length-requires : goal.records_length-requires
records_length-requires c =
    let a = c.args in
    let size = listed-size a.s.life.limit a.s a.live.now (holds c.is_listed.ensures c.if-not-is_listed.false-raw) in
    omega (arith, size.0, size.1, size.2, ap (λ (h : Head). h.count) c.head_of-head.ensures)

pub overflow_add-needed : goal.overflow_add-needed
overflow_add-needed c =
    let a = c.args in
    let size = listed-size a.s.life.limit a.s a.live.now (holds c.is_listed.ensures c.if-not-is_listed.false-raw) in
    omega (arith, size.1, size.2, ap (λ (h : Head). h.count) c.head_of-head.ensures)

pub returns-then-out-needed : goal.returns-then-out-needed
returns-then-out-needed c =
    let a = c.args in
    let head = c.head_of-head.result in
    let lines = head_lines head ++ all_lines (records head.count a.live.now) in
    let long = length-append (head_lines head) (all_lines (records head.count a.live.now)) in
    rw c.short.ensures
    (too_short lines a.out.now _ (omega (arith, long, c.head_length.ensures.0, c.records_length.ensures.0)) c.if-out-needed.true
    ∙ listed-by-head a.s.life.limit a.s a.live.now c.head_of-head.result a.out.now c.head_of-head.ensures (holds c.is_listed.ensures c.if-not-is_listed.false-raw))

pub put_records-requires : goal.put_records-requires
put_records-requires c =
    let a = c.args in
    let size = listed-size a.s.life.limit a.s a.live.now (holds c.is_listed.ensures c.if-not-is_listed.false-raw) in
    omega (arith, size.0, size.1, size.2, ap (λ (h : Head). h.count) c.head_of-head.ensures, c.put_head-next.ensures.place, c.put_head-next.auto, c.head_length.ensures.0, c.records_length.ensures.0, c.if-out-needed.false)

pub returns : goal.returns
returns c =
    let a = c.args in
    let head = c.head_of-head.result in
    let lines = head_lines head ++ all_lines (records head.count a.live.now) in
    let long = length-append (head_lines head) (all_lines (records head.count a.live.now)) in
    wrote lines a.out.now _ _ _ (omega (arith, long, c.head_length.ensures.0, c.records_length.ensures.0)) c.if-out-needed.false
    (put_then (omega arith) c.put_head-next.ensures c.put_records.ensures)
    ∙ listed-by-head a.s.life.limit a.s a.live.now c.head_of-head.result a.out.now c.head_of-head.ensures (holds c.is_listed.ensures c.if-not-is_listed.false-raw)
