-- `read_record`: five lines, one behind another. Assumes nothing.
use mathlib.Core.List.{List, [], ◌∷◌, ◌++◌}
use mathlib.Core.Path.{sym, ap, ◌∙◌, subst}
use native.Mathlib.Omega.{arith}
use Rattle.rtr_room.specs.Room.{records}
use Rattle.rtr_room.specs.Table.{ordered}
use Rattle.rtr_room.specs.declared.Record.{Record}
use Rattle.rtr_listed.specs.Private.{RecordTook, narrowed}
use Rattle.rtr_listed.specs.declared.NumberRead.{NumberRead}
use Rattle.rtr_listed.proofs.Records.{record-took}
use Rattle.rtr_listed.proofs.read_record.Goals as goal

pub number_line-asn-requires : goal.number_line-asn-requires
number_line-asn-requires c =
    let n4 = c.max_line-longest.ensures.1.1 in
    let n3 = c.number_line-shortest.ensures.1.1 in
    let n2 = c.address_line-address.ensures.1 in
    let n1 = c.family_line-family.ensures.1.1 in
    (n4.at, (omega (arith, n4.line, n3.line, n2.line, n1.line, c.requires.0.1), omega arith))

pub record_of-entry-requires : goal.record_of-entry-requires
record_of-entry-requires c = (c.family_line-family.ensures.1.0, (c.number_line-shortest.ensures.1.0, (c.max_line-longest.ensures.1.0, c.number_line-asn.ensures.1.0)))

pub is_above-requires : goal.is_above-requires
is_above-requires c = c.requires.1

pub returns : goal.returns
returns c =
    let a = c.args in
    let t : List Record = records a.count a.room.now in
    let family = c.family_line-family in
    let address = c.address_line-address in
    let shortest = c.number_line-shortest in
    let longest = c.max_line-longest in
    let asn = c.number_line-asn in
    let made = c.record_of-entry in
    let test = c.is_above.ensures ∙ ap (λ (r : Record). ordered (t ++ r ∷ [])) made.ensures in
    let next = ap (λ (x : NumberRead). x.next) (c.narrow-last.ensures ∙ ap (narrowed longest.result.next asn.result) test) in
    subst (λ (r : Record). RecordTook a.listing.now a.c t (record { entry = r; next = c.narrow-last.result.next })) (sym made.ensures)
    (record-took a.listing.now a.c t family.result address.result shortest.result longest.result asn.result _ family.ensures address.ensures shortest.ensures longest.ensures asn.ensures next)
