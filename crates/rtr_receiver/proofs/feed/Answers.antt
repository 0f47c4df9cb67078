use Rattle.std.proofs.Common.{◌≡◌, ℕ, true, sym, refl, ap, ◌∙◌, subst, arith}
use borrow.Author.Tests.{not-true, not-false}
use Rattle.rtr_receiver.specs.Promises.{is_receiver, fed_to}
use Rattle.rtr_receiver.specs.Private.{feed_here, SteppedTo}
use Rattle.rtr_receiver.proofs.Memory.{limit-of}
use Rattle.rtr_receiver.proofs.Stepping.{feed-refused, feed-taken, feed-stopped, other-listens}
use Rattle.rtr_receiver.proofs.feed.Goals as goal

pub returns-then-not-is_receiver : goal.returns-then-not-is_receiver
returns-then-not-is_receiver c =
    let a = c.args in
    (feed-refused a.s.life.limit a.s a.live.now a.working.now a.hold.now a.piece.now (sym c.is_receiver.ensures ∙ not-true _ c.if-not-is_receiver.true-raw), refl)

pub returns-in-Stopped : goal.returns-in-Stopped
returns-in-Stopped c =
    let a = c.args in
    (feed-stopped a.s.life.limit a.s a.live.now a.working.now a.hold.now a.piece.now c.in-Stopped.stop c.in-Stopped.is (sym c.is_receiver.ensures ∙ not-false _ c.if-not-is_receiver.false-raw), refl)

pub loop-done-init : goal.loop-done-init
loop-done-init c =
    let a = c.args in
    (sym c.is_receiver.ensures ∙ not-false _ c.if-not-is_receiver.false-raw, other-listens a.s.phase c.in_default.not-Stopped, omega arith, omega arith, refl, refl, refl, refl, refl)

pub next_step-step-requires : goal.next_step-step-requires
next_step-step-requires c =
    let l = c.loop-done in
    (l.invariant.0, l.invariant.1, l.invariant.2, l.invariant.3)

pub loop-done-smaller : goal.loop-done-smaller
loop-done-smaller c =
    let a = c.args in
    let l = c.loop-done in
    let t = c.next_step-step.result in
    let live' = c.next_step-step.new.live in
    let working' = c.next_step-step.new.working in
    let hold' = c.next_step-step.new.hold in
    let f = feed_here l.session.life.limit l.session l.live l.working l.hold a.piece.now l.at l.updates in
    let stepped = subst (SteppedTo l.session.life.limit f a.piece.now l.at t.session t.next t.updates live' working' hold') c.in_default-then.is c.next_step-step.ensures in
    omega (arith, stepped.2, stepped.3)

pub loop-done-preserved : goal.loop-done-preserved
loop-done-preserved c =
    let a = c.args in
    let l = c.loop-done in
    let t = c.next_step-step.result in
    let live' = c.next_step-step.new.live in
    let working' = c.next_step-step.new.working in
    let hold' = c.next_step-step.new.hold in
    let f = feed_here l.session.life.limit l.session l.live l.working l.hold a.piece.now l.at l.updates in
    let stepped = subst (SteppedTo l.session.life.limit f a.piece.now l.at t.session t.next t.updates live' working' hold') c.in_default-then.is c.next_step-step.ensures in
    let same : t.session.life.limit ≡ l.session.life.limit = limit-of l.session.life.limit t.session live' working' hold' stepped.0 in
    (subst (λ (n : ℕ). is_receiver n t.session live' working' hold' ≡ true) (sym same) stepped.0, stepped.1, stepped.3, stepped.4, omega (arith, c.live-1.given, l.invariant.4), omega (arith, c.working-1.given, l.invariant.5), omega (arith, c.hold-1.given, l.invariant.6), ap (λ (n : ℕ). feed_here n t.session live' working' hold' a.piece.now t.next t.updates) same ∙ stepped.5 ∙ l.invariant.7, same ∙ l.invariant.8)

pub returns : goal.returns
returns c =
    let a = c.args in
    let l = c.loop-done in
    let t = c.next_step-step.result in
    let live' = c.next_step-step.new.live in
    let working' = c.next_step-step.new.working in
    let hold' = c.next_step-step.new.hold in
    let f = feed_here l.session.life.limit l.session l.live l.working l.hold a.piece.now l.at l.updates in
    let stepped = subst (SteppedTo l.session.life.limit f a.piece.now l.at t.session t.next t.updates live' working' hold') c.in-Some.is c.next_step-step.ensures in
    (stepped ∙ ap (fed_to l.session.life.limit) l.invariant.7 ∙ ap (λ (n : ℕ). fed_to n (feed_here a.s.life.limit a.s a.live.now a.working.now a.hold.now a.piece.now 0 0)) l.invariant.8 ∙ feed-taken a.s.life.limit a.s a.live.now a.working.now a.hold.now a.piece.now (sym c.is_receiver.ensures ∙ not-false _ c.if-not-is_receiver.false-raw), omega arith)
