-- A part copied in blocks, each the store of a vector (`block-stored`): one block right behind another (`more`), and a last block that ends with the part and may lie over
-- what was stored before (`ends`). Assumes nothing.
use Prim.Native.Nat.{ℕ, ◌+◌, ◌-◌, ◌≤◌}
use mathlib.Core.List.{List, ◌++◌, append_assoc}
use mathlib.Core.Path.{◌≡◌, sym, ap, ◌∙◌}
use native.Mathlib.Omega.{arith}
use lib.ListN.{length, take, drop, length-take, length-drop, take-append-drop}
use lib.Seq.{length-take-le, take-add, take_all, drop-drop}
use Rattle.std.specs.Simd.Lanes.{put_chunk}
use Rattle.std.proofs.lemmas.Simd.{put_chunk_is}
use Rattle.rtr_base.specs.Over.{over}
use Rattle.rtr_base.proofs.Overs.{over-is, length_over, over-over, over-same, behind}

-- a store of a vector is a store of its elements
pub block-stored : (l : List ℕ) (at : ℕ) (b : List ℕ) → at + length b ≤ length l → put_chunk at l b ≡ over l at b
block-stored l at b h =
    put_chunk_is at l b h
    ∙ ap (λ (x : List ℕ). take at l ++ (b ++ x)) (drop-drop (length b) at l)
    ∙ sym (append_assoc (take at l) b (drop (at + length b) l))
    ∙ sym (over-is l at b)

-- the slice of a part from k on
rest : (p : List ℕ) (k : ℕ) → take (length p - k) (drop k p) ≡ drop k p
rest p k = take_all (length p - k) (drop k p) (simp length-drop (omega arith))

-- the part's first m are in, and then its next w
pub more : (o cur out p : List ℕ) (at m w : ℕ) → at ≤ length o → m ≤ length p → cur ≡ over o at (take m p) → out ≡ over cur (at + m) (take w (take (length p - m) (drop m p)))
    → out ≡ over o at (take (m + w) p)
more o cur out p at m w h f e q =
    behind o cur out (take m p) (take w (drop m p)) at (at + m) h e (ap (λ (n : ℕ). at + n) (length-take-le m p f)) (q ∙ ap (λ (x : List ℕ). over cur (at + m) (take w x)) (rest p m))
    ∙ ap (over o at) (sym (take-add m w p))

-- the part's first m are in, and then its last w, from k on: all of it is in
pub ends : (o cur out p : List ℕ) (at m k w : ℕ) → at + length p ≤ length o → k ≤ m → m ≤ length p → k + w ≡ length p
    → cur ≡ over o at (take m p) → out ≡ over cur (at + k) (take w (take (length p - k) (drop k p))) → out ≡ over o at p
ends o cur out p at m k w h f g s e q =
    let before : List ℕ = over o at (take k p) in
    let between : List ℕ = take (m - k) (drop k p) in
    let long : at + length (take k p) ≡ at + k = ap (λ (n : ℕ). at + n) (length-take-le k p (omega arith)) in
    let whole : take w (take (length p - k) (drop k p)) ≡ drop k p = ap (take w) (rest p k) ∙ take_all w (drop k p) (simp length-drop (omega arith)) in
    let sum : m ≡ k + (m - k) = omega arith in
    let split : take m p ≡ take k p ++ between = ap (λ (n : ℕ). take n p) sum ∙ take-add k (m - k) p in
    let stored : cur ≡ over before (at + k) between = e ∙ ap (over o at) split ∙ sym (over-over o at (at + k) (take k p) between (omega arith) long) in
    let room : at + k ≤ length before = omega (arith, length_over o at (take k p) (omega arith)) in
    let short : length between ≤ length (drop k p) = simp length-take (omega arith) in
    q
    ∙ ap (over cur (at + k)) whole
    ∙ ap (λ (x : List ℕ). over x (at + k) (drop k p)) stored
    ∙ over-same before (at + k) between (drop k p) room short
    ∙ over-over o at (at + k) (take k p) (drop k p) (omega arith) long
    ∙ ap (over o at) (take-append-drop k p)
