use Prim.Native.Nat.{ℕ}
use mathlib.Core.Path.{refl, sym, ap, ◌∙◌, subst}
use native.Mathlib.Omega.{arith}
use borrow.Author.Tests.{not-true, not-false}
use Rattle.rtr_stream.specs.Search.{outcome_of}
use Rattle.rtr_stream.specs.Private.{TurnedTo, search_here}
use Rattle.rtr_stream.proofs.Judge.{stream-is}
use Rattle.rtr_stream.proofs.Turns.{lies-in-hold, outcomes-alike, not-a-stream, a-stream}
use Rattle.rtr_stream.proofs.search.Goals as goal

pub returns-then-not-is_stream : goal.returns-then-not-is_stream
returns-then-not-is_stream c =
    let a = c.args in record {
      says = not-a-stream a.hold.now a.piece.now a.stream.held a.at (sym c.is_stream.ensures ∙ not-true _ c.if-not-is_stream.true-raw);
      hold_len_unchanged = refl;
    }

pub search_piece-requires : goal.search_piece-requires
search_piece-requires c =
    let a = c.args in
    (stream-is a.hold.now a.stream.held (sym c.is_stream.ensures ∙ not-false _ c.if-not-is_stream.false-raw)).size

pub returns-then-held-eq0 : goal.returns-then-held-eq0
returns-then-held-eq0 c =
    let a = c.args in
    let hold = a.hold.now in
    let piece = a.piece.now in record {
      says = c.search_piece.ensures
          ∙ ap (λ (k : ℕ). outcome_of k a.at (search_here hold k piece a.at)) (sym c.if-held-eq0.true)
          ∙ a-stream hold piece a.stream.held a.at (sym c.is_stream.ensures ∙ not-false _ c.if-not-is_stream.false-raw);
      hold_len_unchanged = omega arith;
    }

pub loop-done-init : goal.loop-done-init
loop-done-init c = (sym c.is_stream.ensures ∙ not-false _ c.if-not-is_stream.false-raw, refl, refl, (λ n. refl), omega arith)

pub one_turn-t-requires : goal.one_turn-t-requires
one_turn-t-requires c = (c.loop-done.invariant.0, c.loop-done.invariant.4)

pub loop-done-smaller : goal.loop-done-smaller
loop-done-smaller c =
    let a = c.args in
    let l = c.loop-done in
    let t = c.one_turn-t.result in
    let turned = subst (TurnedTo l.hold l.held a.piece.now l.next t.held t.next c.one_turn-t.new.hold) c.in_default.is c.one_turn-t.ensures in
    omega (arith, turned.3, turned.4)

pub loop-done-preserved : goal.loop-done-preserved
loop-done-preserved c =
    let a = c.args in
    let l = c.loop-done in
    let t = c.one_turn-t.result in
    let turned = subst (TurnedTo l.hold l.held a.piece.now l.next t.held t.next c.one_turn-t.new.hold) c.in_default.is c.one_turn-t.ensures in (
      turned.0,
      omega arith,
      turned.5 ∙ l.invariant.2,
      (λ n. lies-in-hold t.held t.next n turned.2 ∙ sym (lies-in-hold l.held l.next n turned.1) ∙ l.invariant.3 n),
      turned.2,
    )

pub returns : goal.returns
returns c =
    let a = c.args in
    let l = c.loop-done in
    let t = c.one_turn-t.result in
    let turned = subst (TurnedTo l.hold l.held a.piece.now l.next t.held t.next c.one_turn-t.new.hold) c.in-Some.is c.one_turn-t.ensures in record {
      says = turned
          ∙ outcomes-alike l.held a.stream.held l.next a.at l.invariant.3 (search_here l.hold l.held a.piece.now l.next)
          ∙ ap (outcome_of a.stream.held a.at) l.invariant.2
          ∙ a-stream a.hold.now a.piece.now a.stream.held a.at (sym c.is_stream.ensures ∙ not-false _ c.if-not-is_stream.false-raw);
      hold_len_unchanged = omega arith;
    }
