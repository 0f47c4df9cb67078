use Prim.Native.Nat.{ℕ, ◌-◌}
use mathlib.Core.Path.{◌≡◌, ap, ◌∙◌}
use native.Mathlib.Omega.{arith}
use lib.Dec.{eqb}
use lib.ListN.{length, take, drop}
use borrow.Author.Tests.{tests}
use Rattle.std.proofs.Common.{rules}
use Rattle.std.proofs.lemmas.Iterator.{YieldsList-from_slice}
use Rattle.std.proofs.lemmas.Iterator.Search.{position_from_yields_List}
use Rattle.std.proofs.lemmas.Slice.{between_to_end}
use Rattle.std.specs.List.{position}
use Rattle.std.specs.Prelude.{Option}
use Rattle.std.specs.Option.{unwrap_or}
use Rattle.rtr_listed.specs.Private.{line_length}
use Rattle.rtr_listed.proofs.Lines.{length-within, length-position}
use Rattle.rtr_listed.proofs.line_end.Goals as goal

pub returns : goal.returns
returns c =
    let s = c.args.listing.now in
    let at = c.args.at in
    let rest : take (length s - at) (drop at s) ≡ drop at s = between_to_end s at (length s) (omega arith) in
    let found : c.position.result ≡ position (λ b. eqb b 10) (take (length s - at) (drop at s)) =
    position_from_yields_List (λ b. eqb b 10) _ _ c.position.result c.position.ensures.ran (YieldsList-from_slice (take (length s - at) (drop at s)) cc) (λ x b q k. search (rules, tests)) in
    let here : c.unwrap_or.result ≡ line_length (drop at s) =
    c.unwrap_or.ensures
    ∙ ap (λ (o : Option ℕ). unwrap_or o (length (take (length s - at) (drop at s)))) found
    ∙ length-position (take (length s - at) (drop at s))
    ∙ ap line_length rest in
    (omega (arith, here), omega (arith, here, length-within (drop at s), ap length rest))
