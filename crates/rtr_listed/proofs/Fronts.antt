-- The first line that does not fit decides with the lines before it: what stands behind it is not looked at. Over the lines. Assumes nothing.
use Prim.Native.Nat.{ℕ, zero, suc, ◌+◌, ◌≤◌}
use mathlib.Core.List.{List, [], ◌∷◌}
use mathlib.Core.Logic.{◌⊎◌, inl, inr}
use mathlib.Core.Path.{◌≡◌, sym, ap, ◌∙◌, subst}
use native.Mathlib.Omega.{arith}
use lib.ListN.{take}
use Rattle.rtr_room.specs.declared.Record.{Record}
use Rattle.rtr_listing.specs.declared.Head.{Head}
use Rattle.rtr_listed.specs.Listed.{Line, Fit, Due, Read, Listed, lines_of, count_widths, at_end, or_misfit, fit_line, read_from, read_listing}
use Rattle.rtr_listed.specs.Listed.Fit.{fits, misfits}
use Rattle.rtr_listed.specs.Listed.Due.{stop_due, end_due}
use Rattle.rtr_listed.specs.Listed.Read.{listed, misfit}
use Rattle.rtr_listed.proofs.Whole.{ending}

-- a misfit is at the first line's number or behind it
misfit-from : (limit : ℕ) (p : Due) (n m : ℕ) (ls : List Line) → read_from count_widths limit p n ls ≡ misfit m → n ≤ m
unfolding read_from
misfit-from limit p n m [] e = go (ending p n)
  where
    go : (at_end p n ≡ misfit n) ⊎ ((h : Head) × (t : List Record) × (p ≡ end_due h t)) → n ≤ m
    go (inl k) = let same : n ≡ m = cc in omega arith
    go (inr (h, t, q)) =
        let end : at_end (end_due h t) n ≡ misfit m = ap (λ (x : Due). at_end x n) (sym q) ∙ e in
        let z : ◌≡◌ {A = ℕ} 0 1 = cc in
        absurd (omega arith)
misfit-from limit p n m (l ∷ ls) e = go (fit_line count_widths limit p l) (λ next. misfit-from limit next (suc n) m ls) e
  where
    go : (x : Fit Due) → ((next : Due) → read_from count_widths limit next (suc n) ls ≡ misfit m → suc n ≤ m)
        → or_misfit n x (λ next. read_from count_widths limit next (suc n) ls) ≡ misfit m → n ≤ m
    go (fits next) rest q = omega (arith, rest next q)
    go misfits rest q = let same : n ≡ m = cc in omega arith

-- two texts with one line in front, refused alike where they are behind it
alike : (n m : ℕ) (x : Fit Due) (rest other : Due → Read) → ((next : Due) → rest next ≡ misfit m → other next ≡ misfit m)
    → or_misfit n x rest ≡ misfit m → or_misfit n x other ≡ misfit m
alike n m (fits next) rest other h e = h next e
alike n m misfits rest other h e = e

front_same : (limit : ℕ) (p : Due) (n k m : ℕ) (ls ls' : List Line) → m ≡ n + k → read_from count_widths limit p n ls ≡ misfit m
    → take (suc k) ls' ≡ take (suc k) ls → read_from count_widths limit p n ls' ≡ misfit m
unfolding read_from
front_same limit p n k m [] [] a e f = e
front_same limit p n k m [] (l' ∷ ls') a e f = let z : ◌≡◌ {A = ℕ} 0 1 = cc in absurd (omega arith)
front_same limit p n k m (l ∷ ls) [] a e f = let z : ◌≡◌ {A = ℕ} 0 1 = cc in absurd (omega arith)
front_same limit p n zero m (l ∷ ls) (l' ∷ ls') a e f =
    let first : l' ≡ l = cc in
    ap (λ (x : Line). or_misfit n (fit_line count_widths limit p x) (λ next. read_from count_widths limit next (suc n) ls')) first
    ∙ alike n m (fit_line count_widths limit p l) _ (λ next. read_from count_widths limit next (suc n) ls')
    (λ next q. absurd (omega (arith, misfit-from limit next (suc n) m ls q))) e
front_same limit p n (suc k) m (l ∷ ls) (l' ∷ ls') a e f =
    let first : l' ≡ l = cc in
    let others : take (suc k) ls' ≡ take (suc k) ls = cc in
    ap (λ (x : Line). or_misfit n (fit_line count_widths limit p x) (λ next. read_from count_widths limit next (suc n) ls')) first
    ∙ alike n m (fit_line count_widths limit p l) _ (λ next. read_from count_widths limit next (suc n) ls')
    (λ next q. front_same limit next (suc n) k m ls ls' (omega arith) q others) e

pub front-decides : (limit m : ℕ) (s s' : List ℕ) → read_listing limit s ≡ misfit m → take m (lines_of s') ≡ take m (lines_of s) → read_listing limit s' ≡ misfit m
front-decides limit zero s s' e f = absurd (omega (arith, misfit-from limit stop_due 1 0 (lines_of s) e))
front-decides limit (suc k) s s' e f = front_same limit stop_due 1 k (suc k) (lines_of s) (lines_of s') (omega arith) e f

-- the lines before it alone: refused at it too, or a listing
abbrev pub RefusedOrListed : ℕ → Read → Type 0
RefusedOrListed m r = (r ≡ misfit m) ⊎ ((v : Listed) × (r ≡ listed v))

end-or : (p : Due) (n m : ℕ) → m ≡ n + 0 → RefusedOrListed m (at_end p n)
end-or p n m a = go (ending p n)
  where
    go : (at_end p n ≡ misfit n) ⊎ ((h : Head) × (t : List Record) × (p ≡ end_due h t)) → RefusedOrListed m (at_end p n)
    go (inl k) = let same : n ≡ m = omega arith in inl (k ∙ ap misfit same)
    go (inr (h, t, q)) = inr (record { stopped = h.stopped; table = h.table; records = t }, ap (λ (x : Due). at_end x n) q)

alike-or : (n m : ℕ) (x : Fit Due) (rest other : Due → Read) → ((next : Due) → rest next ≡ misfit m → RefusedOrListed m (other next))
    → or_misfit n x rest ≡ misfit m → RefusedOrListed m (or_misfit n x other)
alike-or n m (fits next) rest other h e = h next e
alike-or n m misfits rest other h e = inl e

before-only : (limit : ℕ) (p : Due) (n k m : ℕ) (ls : List Line) → m ≡ n + k → read_from count_widths limit p n ls ≡ misfit m
    → RefusedOrListed m (read_from count_widths limit p n (take k ls))
unfolding read_from
before-only limit p n zero m ls a e = end-or p n m a
before-only limit p n (suc k) m [] a e = inl e
before-only limit p n (suc k) m (l ∷ ls) a e =
    alike-or n m (fit_line count_widths limit p l) _ (λ next. read_from count_widths limit next (suc n) (take k ls))
    (λ next q. before-only limit next (suc n) k m ls (omega arith) q) e

pub front-alone : (limit k : ℕ) (s s' : List ℕ) → read_listing limit s ≡ misfit (suc k) → lines_of s' ≡ take k (lines_of s)
    → RefusedOrListed (suc k) (read_listing limit s')
front-alone limit k s s' e f =
    subst (λ (x : List Line). RefusedOrListed (suc k) (read_from count_widths limit stop_due 1 x)) (sym f)
    (before-only limit stop_due 1 k (suc k) (lines_of s) (omega arith) e)
