-- `max_line`: a number's line, and one test more. Assumes nothing.
use Prim.Native.Nat.{ℕ}
use mathlib.Core.Bool.{Bool, true, ◌&&◌}
use mathlib.Core.Path.{◌≡◌, sym, ap, ◌∙◌, subst}
use borrow.Author.Tests.{le-leb}
use lib.Dec.{leb}
use Rattle.rtr_room.proofs.Laws.Tests.{first_of}
use Rattle.rtr_listing.specs.Listing.{text}
use Rattle.rtr_listed.specs.Listed.{named, number_in, widest}
use Rattle.rtr_listed.specs.Private.{NumberTook, narrowed}
use Rattle.rtr_listed.proofs.Cursors.{narrow-took}
use Rattle.rtr_listed.proofs.max_line.Goals as goal

pub returns : goal.returns
returns c =
    let a = c.args in
    let read = c.number_line-read in
    let q : ℕ → Bool = λ n. leb n 255 && (leb a.shortest n && leb n (widest a.family)) in
    let took = narrow-took a.listing.now a.c (text "max=") 255 q (λ n h. first_of (leb n 255) _ h) read.result c.requires.0 read.ensures in
    let low : leb read.result.value 255 ≡ true = le-leb read.result.value 255 read.ensures.1.0 in
    let test : c.are_lengths.result ≡ q read.result.value =
    c.are_lengths.ensures ∙ sym (ap (λ (b : Bool). b && (leb a.shortest read.result.value && leb read.result.value (widest a.family))) low) in
    subst (NumberTook (named (text "max=") (number_in q)) a.listing.now a.c 255) (sym (c.narrow.ensures ∙ ap (narrowed a.c read.result) test)) took
