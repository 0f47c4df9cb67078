use Prim.Native.Nat.{ℕ, ◌+◌, ◌-◌, ◌≤◌, ◌<◌}
use mathlib.Core.Path.{◌≡◌}
use mathlib.Core.Bool.{true}
use mathlib.Core.List.{List, [], ◌∷◌}
use native.Mathlib.Omega.{arith}
use lib.ListN.{length, drop, length-drop}
use Rattle.rtr_text.specs.Utf8.{◌to◌, rows, begins}
use Rattle.rtr_text.proofs.Begins.{character-at-most}
use Rattle.rtr_text.proofs.Steps.{up-to-stop, up-to-further, row-1-further}
use Rattle.rtr_text.proofs.well_formed_up_to.Invariants.{Reached}
use Rattle.rtr_text.proofs.well_formed_up_to.Goals as goal

-- over a run of row 1
run : (text : List ℕ) (at end : ℕ) → Reached text at → (at ≤ end) × (end ≤ length text) → ((i : ℕ) → at ≤ i → i < end → begins (0x00 to 0x7f ∷ []) (drop i text) ≡ true) → Reached text end
run text at end r h b =
    let e : at + (end - at) ≡ end = omega arith in
    (h.1, rw e at (row-1-further text at (end - at) r.1 (λ i k l. b i k (omega arith))))

pub loop-at-init : goal.loop-at-init
loop-at-init c = run c.args.text.now 0 c.row_1_run-at.result (omega arith, omega arith) c.row_1_run-at.ensures.lower_bound c.row_1_run-at.ensures.by_index

pub character_at-n-requires : goal.character_at-n-requires
character_at-n-requires c = c.loop-at.invariant.0

pub returns-then-n-eq0 : goal.returns-then-n-eq0
returns-then-n-eq0 c = omega (arith, up-to-stop (drop c.loop-at.at c.args.text.now) c.character_at-n.result c.character_at-n.ensures c.if-n-eq0.true)

pub overflow_add-at : goal.overflow_add-at
overflow_add-at c =
    let further : Reached c.args.text.now (c.loop-at.at + c.character_at-n.result) = let text = c.args.text.now in
    let at = c.loop-at.at in
    (omega (arith, character-at-most rows (drop at text), length-drop at text), up-to-further text at c.character_at-n.result c.loop-at.invariant.1 c.character_at-n.ensures c.if-n-eq0.false) in
    omega (arith, further)

pub row_1_run-at-requires-then-n-eq1 : goal.row_1_run-at-requires-then-n-eq1
row_1_run-at-requires-then-n-eq1 c =
    let further : Reached c.args.text.now (c.loop-at.at + c.character_at-n.result) = let text = c.args.text.now in
    let at = c.loop-at.at in
    (omega (arith, character-at-most rows (drop at text), length-drop at text), up-to-further text at c.character_at-n.result c.loop-at.invariant.1 c.character_at-n.ensures c.if-n-eq0.false) in
    further.0

pub loop-at-smaller-then-n-eq1 : goal.loop-at-smaller-then-n-eq1
loop-at-smaller-then-n-eq1 c =
    let further : Reached c.args.text.now (c.loop-at.at + c.character_at-n.result) = let text = c.args.text.now in
    let at = c.loop-at.at in
    (omega (arith, character-at-most rows (drop at text), length-drop at text), up-to-further text at c.character_at-n.result c.loop-at.invariant.1 c.character_at-n.ensures c.if-n-eq0.false) in
    omega (arith, further, c.row_1_run-at-then-n-eq1.ensures.lower_bound)

pub loop-at-preserved-then-n-eq1 : goal.loop-at-preserved-then-n-eq1
loop-at-preserved-then-n-eq1 c =
    let further : Reached c.args.text.now (c.loop-at.at + c.character_at-n.result) = let text = c.args.text.now in
    let at = c.loop-at.at in
    (omega (arith, character-at-most rows (drop at text), length-drop at text), up-to-further text at c.character_at-n.result c.loop-at.invariant.1 c.character_at-n.ensures c.if-n-eq0.false) in
    run _ _ _ further c.row_1_run-at-then-n-eq1.ensures.lower_bound c.row_1_run-at-then-n-eq1.ensures.by_index

pub loop-at-smaller : goal.loop-at-smaller
loop-at-smaller c =
    let further : Reached c.args.text.now (c.loop-at.at + c.character_at-n.result) = let text = c.args.text.now in
    let at = c.loop-at.at in
    (omega (arith, character-at-most rows (drop at text), length-drop at text), up-to-further text at c.character_at-n.result c.loop-at.invariant.1 c.character_at-n.ensures c.if-n-eq0.false) in
    omega (arith, further)

pub loop-at-preserved : goal.loop-at-preserved
loop-at-preserved c =
    let further : Reached c.args.text.now (c.loop-at.at + c.character_at-n.result) = let text = c.args.text.now in
    let at = c.loop-at.at in
    (omega (arith, character-at-most rows (drop at text), length-drop at text), up-to-further text at c.character_at-n.result c.loop-at.invariant.1 c.character_at-n.ensures c.if-n-eq0.false) in
    further
