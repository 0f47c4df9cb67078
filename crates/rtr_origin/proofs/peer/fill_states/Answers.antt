use Prim.Native.Nat.{ℕ, ◌+◌, ◌*◌, ◌≤◌}
use mathlib.Core.Path.{◌≡◌, sym, ap, ◌∙◌}
use native.Mathlib.Omega.{arith}
use lib.ListN.{length, drop, length-append, length-drop}
use Rattle.std.specs.Iterator.Adapters.{enumerate_count}
use Rattle.rtr_base.proofs.Overs.{over_nothing}
use Rattle.rtr_base.specs.Over.{over}
use Rattle.rtr_origin.specs.Peer.{route_count}
use Rattle.rtr_origin.proofs.Tabled.{size}
use Rattle.rtr_origin.proofs.Lists.{states-none, six_taken, filled_next}
use Rattle.rtr_origin.proofs.peer.fill_states.Goals as goal

pub survey-v-requires : goal.survey-v-requires
survey-v-requires c = size c.args.live.now c.args.count c.requires.0

pub loop-i-init : goal.loop-i-init
loop-i-init c =
    let a = c.args in
    let none : enumerate_count c.into_iter-i-iterator.result ≡ 0 = cc in
    record {
      in_sixes = cc;
      within = rw none (omega arith);
      left = rw none (cc);
      filled = rw none (sym (ap (over a.states.now 0) (states-none _ a.routes.now) ∙ over_nothing a.states.now 0));
    }

pub loop-i-preserved : goal.loop-i-preserved
loop-i-preserved c =
    let a = c.args in
    let l = c.loop-i in
    let step = c.in-Some.ensures.steps in
    let one_more : enumerate_count c.next.new.self ≡ c.in-Some.i + 1 = omega (arith, step) in
    let six = six_taken a.routes.now _ c.in-Some.numbers.now _ c.in-Some.i (l.invariant.left ∙ ap (λ (k : ℕ). drop (6 * k) a.routes.now) (sym step.1)) step.0.1.0 (step.0.1.1 ∙ l.invariant.in_sixes) in
    let fits : 6 * enumerate_count c.next.new.self ≤ length a.routes.now = omega (arith, step, ap length l.invariant.left, ap length step.0.1.0, length-drop {A = ℕ}, length-append {A = ℕ}) in
    record {
      in_sixes = step.0.0 ∙ l.invariant.in_sixes;
      within = fits;
      left = rw one_more six.1;
      filled = rw one_more (filled_next _ a.routes.now a.states.now l.states c.in-Some.i _ _ (rw (sym step.1) at l.invariant.filled) (omega arith) six.0 c.place_of.ensures);
    }

pub returns : goal.returns
returns c =
    let a = c.args in
    let l = c.loop-i in
    let all : enumerate_count l.i-iterator ≡ route_count a.routes.now = omega (arith, c.in-None.ensures.steps, ap length l.invariant.left, length-drop {A = ℕ}) in
    rw all at l.invariant.filled
