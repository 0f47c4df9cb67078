-- One side written prefix by prefix. Assumes nothing.
use Prim.Native.Nat.{ℕ, suc, ◌≤◌}
use mathlib.Core.Bool.{Bool}
use mathlib.Core.List.{List, [], ◌∷◌, ◌++◌, append_assoc, append-nil}
use mathlib.Core.Path.{◌≡◌, refl, sym, ap, ◌∙◌, subst}
use native.Mathlib.Omega.{arith}
use lib.ListN.{length, drop, length-append}
use Rattle.rtr_models.specs.declared.RtrProtocolVersion.{RtrProtocolVersion}
use Rattle.rtr_room.specs.declared.Record.{Record}
use Rattle.rtr_listing.specs.Private.{Fits, Put}
use Rattle.rtr_listing.proofs.Puts.{put-nothing, put_then}
use Rattle.rtr_changes.specs.Changes.{without}
use Rattle.rtr_cache.specs.Private.{side_bytes}
use Rattle.rtr_cache.proofs.RunParts.{prefix_part, side-none, side-next}

-- what was written up to place i of the first table, and what is left
pub record Side (v : RtrProtocolVersion) (announced : Bool) (s t : List Record) (out : List ℕ) (at i : ℕ) (cur : List ℕ) (next : ℕ) : Type 0 where
  pub done : List ℕ
  pub put : Put out at done next cur
  pub rest : side_bytes v announced s t ≡ done ++ side_bytes v announced (drop i s) t

pub side-starts : (v : RtrProtocolVersion) (announced : Bool) (s t : List Record) (out : List ℕ) (at : ℕ) → Side v announced s t out at 0 out at
side-starts v announced s t out at = record { done = []; put = put-nothing out at; rest = refl }

module _ {v : RtrProtocolVersion} {announced : Bool} {s t : List Record} {out cur : List ℕ} {at i next : ℕ} (side : Side v announced s t out at i cur next) where
  -- the next prefix is that of record r, which stands at place p
  module _ (p : ℕ) (r : Record) (e : without (drop i s) t ≡ r ∷ without (drop (suc p) s) t) where
    left_is : side_bytes v announced s t ≡ side.done ++ prefix_part v announced r ++ side_bytes v announced (drop (suc p) s) t
    left_is =
        side.rest
        ∙ ap (λ (b : List ℕ). side.done ++ b) (side-next v announced (drop i s) t (drop (suc p) s) r e)
        ∙ sym (append_assoc side.done (prefix_part v announced r) (side_bytes v announced (drop (suc p) s) t))

    -- it has room where all have
    pub side-fits : Fits out at (side_bytes v announced s t) → length cur ≡ length out → Fits cur next (prefix_part v announced r)
    side-fits h l =
        let whole = ap length left_is ∙ length-append (side.done ++ prefix_part v announced r) (side_bytes v announced (drop (suc p) s) t) in
        omega (arith, h, whole, length-append side.done (prefix_part v announced r), side.put.place, l)

    pub side-goes-on : (cur' : List ℕ) (next' : ℕ) → at ≤ length out → Put cur next (prefix_part v announced r) next' cur' → Side v announced s t out at (suc p) cur' next'
    side-goes-on cur' next' h q = record { done = side.done ++ prefix_part v announced r; put = put_then h side.put q; rest = left_is }

  pub side-ends : without (drop i s) t ≡ [] → Put out at (side_bytes v announced s t) next cur
  side-ends e =
      subst (λ (b : List ℕ). Put out at b next cur)
      (sym (side.rest ∙ ap (λ (b : List ℕ). side.done ++ b) (side-none v announced (drop i s) t e) ∙ append-nil side.done))
      side.put
