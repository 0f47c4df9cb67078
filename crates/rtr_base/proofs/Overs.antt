-- Stores one behind the other are one store of all their elements: `over-over`. From there a run of stores from the front is
-- `over out 0 elements`, which is the elements and then what stood behind them. Assumes nothing.
use Prim.Native.Nat.{ℕ, ◌+◌, ◌-◌, ◌≤◌, ◌<◌}
use mathlib.Core.List.{List, [], ◌∷◌, ◌++◌, append_assoc, append-nil}
use mathlib.Core.Path.{◌≡◌, refl, sym, ap, ◌∙◌}
use native.Mathlib.Nat.{add_assoc, add-zero, zero-add}
use native.Mathlib.Numerals.{add-one}
use native.Mathlib.Omega.{arith}
use lib.ListN.{length, take, drop, set, length-append, length-drop, length-set, take-append-drop}
use lib.Seq.{length-take-le, take_at, take-take, take-length, take-append-le, drop_at, drop-append-add, drop-drop, set_split, append_snoc, paste}
use Rattle.rtr_base.specs.Over.{over}

-- what it is, in three parts
pub over-is : (l : List ℕ) (at : ℕ) (b : List ℕ) → over l at b ≡ take at l ++ b ++ drop (at + length b) l
unfolding over
over-is l at b = refl

pub length_over : (l : List ℕ) (at : ℕ) (b : List ℕ) → at + length b ≤ length l → length (over l at b) ≡ length l
unfolding over
length_over l at b h = simp (length-append, length-drop, length-take-le at l (omega arith)) (omega arith)

pub set-over : (l : List ℕ) (i a : ℕ) → i < length l → set l i a ≡ over l i (a ∷ [])
unfolding over
set-over l i a h = set_split l i a h ∙ ap (λ (k : ℕ). take i l ++ a ∷ drop k l) (sym (add-one i)) ∙ sym (append_snoc (take i l) a (drop (i + 1) l))

pub over-over : (l : List ℕ) (at k : ℕ) (a b : List ℕ) → at ≤ length l → at + length a ≡ k → over (over l at a) k b ≡ over l at (a ++ b)
unfolding over
over-over l at k a b h e =
    let head : List ℕ = take at l ++ a in
    let rest : List ℕ = drop (at + length a) l in
    let long : length head ≡ k = length-append (take at l) a ∙ ap (λ (n : ℕ). n + length a) (length-take-le at l h) ∙ e in
    let first : take k (head ++ rest) ≡ head = take_at head rest k long in
    let last : drop (k + length b) (head ++ rest) ≡ drop (at + length (a ++ b)) l =
    ap (λ (n : ℕ). drop (n + length b) (head ++ rest)) (sym long)
    ∙ drop-append-add head rest (length b)
    ∙ drop-drop (length b) (at + length a) l
    ∙ ap (λ (n : ℕ). drop n l) (add_assoc at (length a) (length b) ∙ ap (λ (n : ℕ). at + n) (sym (length-append a b))) in
    ap (λ (x : List ℕ). x ++ b ++ drop (k + length b) (head ++ rest)) first
    ∙ ap (λ (x : List ℕ). head ++ b ++ x) last
    ∙ ap (λ (x : List ℕ). x ++ drop (at + length (a ++ b)) l) (append_assoc (take at l) a b)

-- from the front there is nothing to ask of the list
pub front : (l : List ℕ) (k : ℕ) (a b : List ℕ) → length a ≡ k → over (over l 0 a) k b ≡ over l 0 (a ++ b)
front l k a b e = over-over l 0 k a b (omega arith) (omega (arith, e))

pub stored-2 : (l : List ℕ) (i a b : ℕ) → i + 2 ≤ length l → set (set l i a) (i + 1) b ≡ over l i (a ∷ b ∷ [])
stored-2 l i a b h =
    set-over (set l i a) (i + 1) b (simp length-set (omega arith))
    ∙ ap (λ (x : List ℕ). over x (i + 1) (b ∷ [])) (set-over l i a (omega arith))
    ∙ over-over l i (i + 1) (a ∷ []) (b ∷ []) (omega arith) refl

pub stored-4 : (l : List ℕ) (i a b c d : ℕ) → i + 4 ≤ length l → set (set (set (set l i a) (i + 1) b) (i + 2) c) (i + 3) d ≡ over l i (a ∷ b ∷ c ∷ d ∷ [])
stored-4 l i a b c d h =
    set-over (set (set (set l i a) (i + 1) b) (i + 2) c) (i + 3) d (simp length-set (omega arith))
    ∙ ap (λ (x : List ℕ). over x (i + 3) (d ∷ []))
    (set-over (set (set l i a) (i + 1) b) (i + 2) c (simp length-set (omega arith))
    ∙ ap (λ (x : List ℕ). over x (i + 2) (c ∷ [])) (stored-2 l i a b (omega arith))
    ∙ over-over l i (i + 2) (a ∷ b ∷ []) (c ∷ []) (omega arith) refl)
    ∙ over-over l i (i + 3) (a ∷ b ∷ c ∷ []) (d ∷ []) (omega arith) refl

-- one store more, right behind those from the front
pub next : (o cur out a b : List ℕ) (k : ℕ) → cur ≡ over o 0 a → length a ≡ k → out ≡ over cur k b → out ≡ over o 0 (a ++ b)
next o cur out a b k p e q = q ∙ ap (λ (x : List ℕ). over x k b) p ∙ front o k a b e

-- a loop that copied all of s from `at` on stored s there
pub copied-whole : (d : List ℕ) (at : ℕ) (s : List ℕ) (j : ℕ) (cur : List ℕ) → cur ≡ paste d at s j → j ≡ length s → cur ≡ over d at s
unfolding over
copied-whole d at s j cur e q =
    e ∙ ap (paste d at s) q ∙ ap (λ (x : List ℕ). take at d ++ x ++ drop (at + length s) d) (take-length s)

-- a store of nothing leaves the list
pub over_nothing : (l : List ℕ) (at : ℕ) → over l at [] ≡ l
unfolding over
over_nothing l at = simp (append-nil, add-zero) (take-append-drop at l)

-- from the front: the elements, and then what stood behind them
pub over-front : (l b : List ℕ) → over l 0 b ≡ b ++ drop (length b) l
unfolding over
over-front l b = ap (λ (k : ℕ). b ++ drop k l) (zero-add (length b))

-- one store more, right behind another
pub behind : (o cur out a b : List ℕ) (at k : ℕ) → at ≤ length o → cur ≡ over o at a → at + length a ≡ k → out ≡ over cur k b → out ≡ over o at (a ++ b)
behind o cur out a b at k h p e q = q ∙ ap (λ (x : List ℕ). over x k b) p ∙ over-over o at k a b h e

-- and one right before another
pub over-before : (l : List ℕ) (at k : ℕ) (a b : List ℕ) → k + length b ≤ length l → at + length a ≡ k → over (over l k b) at a ≡ over l at (a ++ b)
unfolding over
over-before l at k a b h e =
    let rest : List ℕ = b ++ drop (k + length b) l in
    let long : length (take k l) ≡ k = length-take-le k l (omega arith) in
    let whole : take k l ++ b ++ drop (k + length b) l ≡ take k l ++ rest = append_assoc (take k l) b (drop (k + length b) l) in
    let first : take at (take k l ++ rest) ≡ take at l = take-append-le at (take k l) rest (omega arith) ∙ take-take at k l (omega arith) in
    let last : drop (at + length a) (take k l ++ rest) ≡ rest = ap (λ (n : ℕ). drop n (take k l ++ rest)) e ∙ drop_at (take k l) rest k long in
    let far : k + length b ≡ at + length (a ++ b) = omega (arith, length-append a b) in
    ap (λ (x : List ℕ). take at x ++ a ++ drop (at + length a) x) whole
    ∙ ap (λ (x : List ℕ). x ++ a ++ drop (at + length a) (take k l ++ rest)) first
    ∙ ap (λ (x : List ℕ). take at l ++ a ++ x) last
    ∙ sym (append_assoc (take at l ++ a) b (drop (k + length b) l))
    ∙ ap (λ (x : List ℕ). x ++ drop (k + length b) l) (append_assoc (take at l) a b)
    ∙ ap (λ (n : ℕ). take at l ++ (a ++ b) ++ drop n l) far

-- a store is gone under another that starts with it and is no shorter
pub over-same : (l : List ℕ) (at : ℕ) (a b : List ℕ) → at ≤ length l → length a ≤ length b → over (over l at a) at b ≡ over l at b
unfolding over
over-same l at a b h s =
    let head : List ℕ = take at l ++ a in
    let rest : List ℕ = drop (at + length a) l in
    let long : length head ≡ at + length a = length-append (take at l) a ∙ ap (λ (n : ℕ). n + length a) (length-take-le at l h) in
    let first : take at (head ++ rest) ≡ take at l = take-append-le at head rest (omega arith) ∙ take_at (take at l) a at (length-take-le at l h) in
    let k : ℕ = length b - length a in
    let far : at + length b ≡ length head + k = omega arith in
    let back : at + length a + k ≡ at + length b = omega arith in
    let last : drop (at + length b) (head ++ rest) ≡ drop (at + length b) l =
    ap (λ (n : ℕ). drop n (head ++ rest)) far
    ∙ drop-append-add head rest k
    ∙ drop-drop k (at + length a) l
    ∙ ap (λ (n : ℕ). drop n l) back in
    ap (λ (x : List ℕ). x ++ b ++ drop (at + length b) (head ++ rest)) first
    ∙ ap (λ (x : List ℕ). take at l ++ b ++ x) last
