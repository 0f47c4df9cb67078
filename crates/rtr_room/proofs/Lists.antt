-- What is left where numbers are written: six stores one behind the other, a part put in the front's place, and the two shifts. Assumes nothing.
use Prim.Native.Nat.{ℕ, ◌+◌, ◌-◌, ◌≤◌}
use mathlib.Core.List.{List, [], ◌∷◌, ◌++◌, append_assoc}
use mathlib.Core.Path.{◌≡◌, ap, ◌∙◌}
use native.Mathlib.Numerals.{add-one, add-two, add-three, add-four, add_five}
use native.Mathlib.Omega.{arith}
use lib.ListN.{length, take, drop, set}
use lib.Seq.{length-take-le, take-append-le, take-take, drop_at, sets-eq}

-- six stores one behind the other
pub stored_6 : (l : List ℕ) (i a b c d e f : ℕ) → i + 6 ≤ length l
    → set (set (set (set (set (set l i a) (i + 1) b) (i + 2) c) (i + 3) d) (i + 4) e) (i + 5) f
    ≡ take i l ++ ((a ∷ b ∷ c ∷ d ∷ e ∷ f ∷ []) ++ drop (i + 6) l)
stored_6 l i a b c d e f h =
    rw (add-one i, add-two i, add-three i, add-four i, add_five i)
    (sets-eq (a ∷ b ∷ c ∷ d ∷ e ∷ f ∷ []) l i h ∙ append_assoc (take i l) (a ∷ b ∷ c ∷ d ∷ e ∷ f ∷ []) (drop (i + 6) l))

-- a part of the front gives way to what is put there, up to where the front ends
pub put-seam : (s new rest : List ℕ) (p q : ℕ) → p ≤ q → q ≤ length s
    → take p (take q s ++ rest) ++ (new ++ drop q (take q s ++ rest)) ≡ take p s ++ (new ++ rest)
put-seam s new rest p q h k =
    let long : length (take q s) ≡ q = length-take-le q s k in
    let a : take p (take q s ++ rest) ≡ take p s = take-append-le p (take q s) rest (omega arith) ∙ take-take p q s h in
    let b : drop q (take q s ++ rest) ≡ rest = drop_at (take q s) rest q long in
    ap (λ (x : List ℕ). x ++ (new ++ drop q (take q s ++ rest))) a ∙ ap (λ (x : List ℕ). take p s ++ (new ++ x)) b

-- ---- numbers that stand six further, down to a place

abbrev pub up : List ℕ → ℕ → ℕ → List ℕ
up s at end = take (at + 6) s ++ (take (end - at) (drop at s) ++ drop (end + 6) s)

-- ---- numbers that stand six nearer, up to a place

abbrev pub down : List ℕ → ℕ → ℕ → List ℕ
down s to at = take to s ++ (take (at - to) (drop (to + 6) s) ++ drop at s)
