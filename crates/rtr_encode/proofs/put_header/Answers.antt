-- `put_header` writes from the front, one part behind the other. Assumes nothing.
use Rattle.rtr_encode.specs.Encode.{bytes_of}
use Rattle.rtr_base.specs.Over.{over}
use Prim.Native.Nat.{ℕ}
use mathlib.Core.List.{[], ◌∷◌}
use mathlib.Core.Path.{refl, ap, ◌∙◌}
use native.Mathlib.Omega.{arith}
use Rattle.rtr_base.proofs.Overs.{next, stored-2}
use Rattle.rtr_encode.proofs.put_header.Goals as goal

pub returns : goal.returns
unfolding bytes_of
returns c =
    let a = c.args in
    let head = stored-2 a.out.now 0 _ _ (omega arith) ∙ ap (λ (v : ℕ). over a.out.now 0 (v ∷ a.pdu_type ∷ [])) c.to_u8.ensures in
    next a.out.now _ _ _ _ 4 (next a.out.now _ _ _ _ 2 head refl c.put16.ensures) refl c.put32.ensures
