-- `may_gather` makes the three tests. Assumes nothing.
use Rattle.std.proofs.Common.{ap, eq-eqb, ne_eqb, le-leb}
use borrow.Author.Tests.{lt-leb}
use Rattle.rtr_receiver.specs.Promises.{is_loading}
use Rattle.rtr_receiver.proofs.Turns.{not-loading}
use Rattle.rtr_receiver.proofs.may_gather.Goals as goal

pub returns-then-s-ne0 : goal.returns-then-s-ne0
returns-then-s-ne0 c = simp (ne_eqb c.args.s.held 0 c.if-s-ne0.true)

pub returns-then-hold_len-lt32 : goal.returns-then-hold_len-lt32
returns-then-hold_len-lt32 c = let a = c.args in simp (eq-eqb a.s.held 0 c.if-s-ne0.false, lt-leb 32 a.hold_len c.if-hold_len-lt32.true)

pub returns-in-Loading : goal.returns-in-Loading
returns-in-Loading c =
    let a = c.args in
    simp (eq-eqb a.s.held 0 c.if-s-ne0.false, le-leb 32 a.hold_len c.if-hold_len-lt32.false, ap is_loading c.in-Loading.is)

pub returns-in_default : goal.returns-in_default
returns-in_default c =
    let a = c.args in
    simp (eq-eqb a.s.held 0 c.if-s-ne0.false, le-leb 32 a.hold_len c.if-hold_len-lt32.false, not-loading a.s.phase c.in_default.not-Loading)
