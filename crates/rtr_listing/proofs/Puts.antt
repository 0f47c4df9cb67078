-- Bytes written one behind the other are one write of all of them, and a write keeps the output's length. Assumes nothing.
use Prim.Native.Nat.{ℕ, ◌≤◌}
use mathlib.Core.List.{List, [], ◌++◌}
use mathlib.Core.Path.{◌≡◌, sym, ap, ◌∙◌}
use native.Mathlib.Nat.{add-zero}
use native.Mathlib.Omega.{arith}
use lib.ListN.{length, length-append}
use Rattle.rtr_base.proofs.Overs.{length_over, over_nothing, behind}
use Rattle.rtr_listing.specs.Private.{Fits, Put}

pub put-nothing : (o : List ℕ) (at : ℕ) → Put o at [] at o
put-nothing o at = record { place = sym (add-zero at); content = sym (over_nothing o at) }

pub put_then : {o m l a b : List ℕ} {at k n : ℕ} → at ≤ length o → Put o at a k m → Put m k b n l → Put o at (a ++ b) n l
put_then {o} {m} {l} {a} {b} {at} {k} {n} h p q =
    record {
      place = omega (arith, p.place, q.place, length-append a b);
      content = behind o m l a b at k h p.content (sym p.place) q.content;
    }

pub put_keeps : (o l b : List ℕ) (at n : ℕ) → Fits o at b → Put o at b n l → length l ≡ length o
put_keeps o l b at n h p = ap length p.content ∙ length_over o at b h
