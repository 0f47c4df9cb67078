use Prim.Native.Nat.{suc}
use mathlib.Core.Bool.{Bool, ◌&&◌}
use mathlib.Core.Path.{sym, ap, ◌∙◌}
use native.Mathlib.Numerals.{add-one}
use native.Mathlib.Omega.{arith}
use borrow.Author.Tests.{eq-eqb, ne_eqb}
use lib.ListN.{get_or, drop}
use Rattle.rtr_listed.specs.Listed.{same_text}
use Rattle.rtr_listed.proofs.Texts.{length-other, same_next, same-done}
use Rattle.rtr_listed.proofs.is_text.Goals as goal

pub returns-then-s-t : goal.returns-then-s-t
returns-then-s-t c = sym (length-other c.args.s.now c.args.t.now c.if-s-t.true)

pub returns-then-b-t : goal.returns-then-b-t
returns-then-b-t c =
    let a = c.args in
    let l = c.loop-i in
    sym (l.invariant ∙ same_next a.s.now a.t.now l.i (omega arith) (omega arith) ∙ ap (λ (b : Bool). b && same_text (drop (suc l.i) a.s.now) (drop (suc l.i) a.t.now)) (ne_eqb (get_or a.s.now l.i 0) (get_or a.t.now l.i 0) c.if-b-t.true))

pub loop-i-preserved : goal.loop-i-preserved
loop-i-preserved c =
    let a = c.args in
    let l = c.loop-i in
    let here = eq-eqb (get_or a.s.now l.i 0) (get_or a.t.now l.i 0) c.if-b-t.false in
    rw add-one (l.invariant ∙ same_next a.s.now a.t.now l.i (omega arith) (omega arith) ∙ ap (λ (b : Bool). b && same_text (drop (suc l.i) a.s.now) (drop (suc l.i) a.t.now)) here)

pub returns : goal.returns
returns c =
    let a = c.args in
    let l = c.loop-i in
    sym (l.invariant ∙ same-done a.s.now a.t.now (omega arith) l.i (omega arith))
