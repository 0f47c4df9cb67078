-- One side written change by change. Assumes nothing.
use Prim.Native.Nat.{ℕ, suc, ◌≤◌}
use mathlib.Core.Bool.{Bool}
use mathlib.Core.List.{List, [], ◌∷◌, ◌++◌, append_assoc, append-nil}
use mathlib.Core.Path.{◌≡◌, refl, sym, ap, ◌∙◌, subst}
use native.Mathlib.Omega.{arith}
use lib.ListN.{length, drop, length-append}
use Rattle.rtr_room.specs.declared.Record.{Record}
use Rattle.rtr_listing.specs.Private.{Fits, Put}
use Rattle.rtr_listing.proofs.Puts.{put-nothing, put_then}
use Rattle.rtr_changes.specs.Changes.{without}
use Rattle.rtr_diffs.specs.Diffs.{change_lines}
use Rattle.rtr_diffs.specs.Private.{side_lines}
use Rattle.rtr_diffs.proofs.Texts.{side-none, side-next}

-- what was written up to place i of the first table, and what is left
pub record Side (announced : Bool) (s t : List Record) (out : List ℕ) (at i : ℕ) (cur : List ℕ) (next : ℕ) : Type 0 where
  pub done : List ℕ
  pub put : Put out at done next cur
  pub rest : side_lines announced s t ≡ done ++ side_lines announced (drop i s) t

module _ (announced : Bool) (s t : List Record) (out : List ℕ) (at : ℕ) where
  pub side-starts : Side announced s t out at 0 out at
  side-starts = record { done = []; put = put-nothing out at; rest = refl }

  module _ (i : ℕ) (cur : List ℕ) (next : ℕ) (side : Side announced s t out at i cur next) where
    left_is : (p : ℕ) (r : Record) → without (drop i s) t ≡ r ∷ without (drop (suc p) s) t → side_lines announced s t ≡ (side.done ++ change_lines announced r) ++ side_lines announced (drop (suc p) s) t
    left_is p r e =
        side.rest
        ∙ ap (λ (b : List ℕ). side.done ++ b) (side-next announced (drop i s) (drop (suc p) s) t r e)
        ∙ sym (append_assoc side.done (change_lines announced r) (side_lines announced (drop (suc p) s) t))

    -- the next change has room where all have
    pub side-fits : (p : ℕ) (r : Record) → Fits out at (side_lines announced s t) → without (drop i s) t ≡ r ∷ without (drop (suc p) s) t → length cur ≡ length out → Fits cur next (change_lines announced r)
    side-fits p r h e l =
        let whole = ap length (left_is p r e) ∙ length-append (side.done ++ change_lines announced r) (side_lines announced (drop (suc p) s) t) in
        omega (arith, h, whole, length-append side.done (change_lines announced r), side.put.place, l)

    pub side-goes-on : (p : ℕ) (r : Record) (cur' : List ℕ) (next' : ℕ) → at ≤ length out → without (drop i s) t ≡ r ∷ without (drop (suc p) s) t → Put cur next (change_lines announced r) next' cur' → Side announced s t out at (suc p) cur' next'
    side-goes-on p r cur' next' h e q = record { done = side.done ++ change_lines announced r; put = put_then h side.put q; rest = left_is p r e }

    pub side-ends : without (drop i s) t ≡ [] → Put out at (side_lines announced s t) next cur
    side-ends e =
        subst (λ (b : List ℕ). Put out at b next cur)
        (sym (side.rest ∙ ap (λ (b : List ℕ). side.done ++ b) (side-none announced (drop i s) t e) ∙ append-nil side.done))
        side.put
