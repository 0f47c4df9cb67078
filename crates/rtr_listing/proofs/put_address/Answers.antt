-- `put_address`: the first number alone in family 4, else all four, one behind the other. Assumes nothing.
use mathlib.Core.Path.{sym, ◌∙◌}
use native.Mathlib.Omega.{arith}
use Rattle.rtr_listing.proofs.Puts.{put_then}
use Rattle.rtr_listing.proofs.Digits.{digits-length}
use Rattle.rtr_listing.proofs.Lines.{four-address, four-length, other-address, other_length}
use Rattle.rtr_listing.proofs.put_address.Goals as goal

pub put_word-requires : goal.put_word-requires
put_word-requires c = omega (arith, four-length c.args.r (sym c.family.ensures ∙ c.if-family-eq4.true))

pub returns-then-family-eq4 : goal.returns-then-family-eq4
returns-then-family-eq4 c = rw (four-address c.args.r (sym c.family.ensures ∙ c.if-family-eq4.true)) c.put_word.ensures

pub put_word-second-requires : goal.put_word-second-requires
put_word-second-requires c = omega (arith, other_length c.args.r (λ e. c.if-family-eq4.false (c.family.ensures ∙ e)))

pub put_word-third-requires : goal.put_word-third-requires
put_word-third-requires c =
    let r = c.args.r in
    omega (arith, other_length r (λ e. c.if-family-eq4.false (c.family.ensures ∙ e)), digits-length 16 8 r.w0)

pub put_word-fourth-requires : goal.put_word-fourth-requires
put_word-fourth-requires c =
    let r = c.args.r in
    omega (arith, other_length r (λ e. c.if-family-eq4.false (c.family.ensures ∙ e)), digits-length 16 8 r.w0, digits-length 16 8 r.w1)

pub put_word-requires-2 : goal.put_word-requires-2
put_word-requires-2 c =
    let r = c.args.r in
    omega (arith, other_length r (λ e. c.if-family-eq4.false (c.family.ensures ∙ e)), digits-length 16 8 r.w0, digits-length 16 8 r.w1, digits-length 16 8 r.w2)

pub returns : goal.returns
returns c =
    let a = c.args in
    let other = other_length a.r (λ e. c.if-family-eq4.false (c.family.ensures ∙ e)) in
    rw (other-address a.r (λ e. c.if-family-eq4.false (c.family.ensures ∙ e)))
    (put_then (omega (arith, c.requires))
    (put_then (omega (arith, c.requires))
    (put_then (omega (arith, c.requires)) c.put_word-second.ensures c.put_word-third.ensures)
    c.put_word-fourth.ensures)
    c.put_word-2.ensures)
