-- A listing that is cut is refused at the line of the cut, and bytes behind a listing are a line that does not fit. Over the bytes. Assumes nothing.
use Prim.Native.Nat.{ℕ, zero, suc, ◌+◌, ◌<◌}
use mathlib.Core.Bool.{Bool, true, false, cond}
use mathlib.Core.List.{List, [], ◌∷◌, ◌++◌}
use mathlib.Core.Logic.{◌⊎◌, inl, inr}
use mathlib.Core.Path.{◌≡◌, refl, sym, ap, ◌∙◌}
use native.Mathlib.Omega.{arith}
use lib.Dec.{eqb}
use lib.ListN.{length, take}
use Rattle.rtr_room.specs.declared.Record.{Record}
use Rattle.rtr_listing.specs.declared.Head.{Head}
use Rattle.rtr_listed.specs.Listed.{Fit, Due, Read, Listed, line_feeds, count_widths, on_line, at_end, or_misfit, read_listing}
use Rattle.rtr_listed.specs.Listed.Fit.{fits, misfits}
use Rattle.rtr_listed.specs.Listed.Due.{stop_due, end_due}
use Rattle.rtr_listed.specs.Listed.Read.{listed, misfit}
use Rattle.rtr_listed.proofs.Whole.{ending}
use Rattle.rtr_listed.proofs.Bytes.{last_bytes, read_bytes, read-bytes, end-bytes}

-- what a text comes to behind a line, by whether it fits
behind-line : (n : ℕ) (x : Fit Due) (v : Listed) (rest other : Due → Read) (m : ℕ) → ((next : Due) → rest next ≡ listed v → other next ≡ misfit m)
    → or_misfit n x rest ≡ listed v → or_misfit n x other ≡ misfit m
behind-line n (fits next) v rest other m h e = h next e
behind-line n misfits v rest other m h e = let z : ◌≡◌ {A = ℕ} 0 1 = cc in absurd (omega arith)

-- a byte read alike in two texts of which one is read and the other refused
module _ (limit : ℕ) (p : Due) (n : ℕ) (b : List ℕ) (c : ℕ) (s t u : List ℕ) (v : Listed) where
  byte-alike : ((next : Due) → read_bytes limit next (suc n) [] s ≡ listed v → read_bytes limit next (suc n) [] t ≡ misfit (suc n + line_feeds u))
      → (read_bytes limit p n (b ++ c ∷ []) s ≡ listed v → read_bytes limit p n (b ++ c ∷ []) t ≡ misfit (n + line_feeds u))
      → read_bytes limit p n b (c ∷ s) ≡ listed v → read_bytes limit p n b (c ∷ t) ≡ misfit (n + line_feeds (c ∷ u))
  unfolding read_bytes line_feeds
  byte-alike fed more e = go (eqb c 10) e
    where
      go : (d : Bool)
          → cond d (or_misfit n (on_line count_widths limit p b) (λ next. read_bytes limit next (suc n) [] s)) (read_bytes limit p n (b ++ c ∷ []) s) ≡ listed v
          → cond d (or_misfit n (on_line count_widths limit p b) (λ next. read_bytes limit next (suc n) [] t)) (read_bytes limit p n (b ++ c ∷ []) t)
          ≡ misfit (n + cond d (suc (line_feeds u)) (line_feeds u))
      go true q =
          let line : suc n + line_feeds u ≡ n + suc (line_feeds u) = omega arith in
          behind-line n (on_line count_widths limit p b) v _ _ (suc n + line_feeds u) fed q ∙ ap misfit line
      go false q = more q

-- where bytes are read there is no end
not_end : (limit : ℕ) (p : Due) (n : ℕ) (b : List ℕ) (c : ℕ) (s : List ℕ) (v : Listed) → read_bytes limit p n b (c ∷ s) ≡ listed v → last_bytes p n b ≡ misfit n
not_end limit p n (d ∷ b) c s v e = refl
not_end limit p n [] c s v e = go (ending p n)
  where
    go : (at_end p n ≡ misfit n) ⊎ ((h : Head) × (t : List Record) × (p ≡ end_due h t)) → at_end p n ≡ misfit n
    go (inl m) = m
    go (inr (h, t, q)) =
        let none : read_bytes limit p n [] (c ∷ s) ≡ misfit n = ap (λ (x : Due). read_bytes limit x n [] (c ∷ s)) q ∙ end-bytes limit h t n [] c s in
        let z : ◌≡◌ {A = ℕ} 0 1 = cc in
        absurd (omega arith)

cut-bytes : (limit : ℕ) (p : Due) (n k : ℕ) (b s : List ℕ) (v : Listed) → read_bytes limit p n b s ≡ listed v → k < length s
    → read_bytes limit p n b (take k s) ≡ misfit (n + line_feeds (take k s))
unfolding read_bytes line_feeds
cut-bytes limit p n k b [] v e h = absurd (omega arith)
cut-bytes limit p n zero b (c ∷ s) v e h = let here : n ≡ n + 0 = omega arith in not_end limit p n b c s v e ∙ ap misfit here
cut-bytes limit p n (suc k) b (c ∷ s) v e h =
    byte-alike limit p n b c s (take k s) (take k s) v (λ next q. cut-bytes limit next (suc n) k [] s v q (omega arith))
    (λ q. cut-bytes limit p n k (b ++ c ∷ []) s v q (omega arith)) e

more_bytes : (limit : ℕ) (p : Due) (n : ℕ) (b s : List ℕ) (c : ℕ) (more : List ℕ) (v : Listed) → read_bytes limit p n b s ≡ listed v
    → read_bytes limit p n b (s ++ c ∷ more) ≡ misfit (n + line_feeds s)
unfolding read_bytes line_feeds
more_bytes limit p n (d ∷ b) [] c more v e = let z : ◌≡◌ {A = ℕ} 0 1 = cc in absurd (omega arith)
more_bytes limit p n [] [] c more v e = go (ending p n)
  where
    go : (at_end p n ≡ misfit n) ⊎ ((h : Head) × (t : List Record) × (p ≡ end_due h t)) → read_bytes limit p n [] (c ∷ more) ≡ misfit (n + 0)
    go (inl m) = let z : ◌≡◌ {A = ℕ} 0 1 = cc in absurd (omega arith)
    go (inr (h, t, q)) =
        let here : n ≡ n + 0 = omega arith in
        ap (λ (x : Due). read_bytes limit x n [] (c ∷ more)) q ∙ end-bytes limit h t n [] c more ∙ ap misfit here
more_bytes limit p n b (d ∷ s) c more v e =
    byte-alike limit p n b d s (s ++ c ∷ more) s v (λ next q. more_bytes limit next (suc n) [] s c more v q)
    (λ q. more_bytes limit p n (b ++ d ∷ []) s c more v q) e

pub cut-is-refused : (limit k : ℕ) (s : List ℕ) (v : Listed) → read_listing limit s ≡ listed v → k < length s
    → read_listing limit (take k s) ≡ misfit (suc (line_feeds (take k s)))
cut-is-refused limit k s v e h =
    let line : 1 + line_feeds (take k s) ≡ suc (line_feeds (take k s)) = omega arith in
    read-bytes limit (take k s) ∙ cut-bytes limit stop_due 1 k [] s v (sym (read-bytes limit s) ∙ e) h ∙ ap misfit line

pub longer-is-refused : (limit : ℕ) (s : List ℕ) (b : ℕ) (more : List ℕ) (v : Listed) → read_listing limit s ≡ listed v
    → read_listing limit (s ++ b ∷ more) ≡ misfit (suc (line_feeds s))
longer-is-refused limit s b more v e =
    let line : 1 + line_feeds s ≡ suc (line_feeds s) = omega arith in
    read-bytes limit (s ++ b ∷ more) ∙ more_bytes limit stop_due 1 [] s b more v (sym (read-bytes limit s) ∙ e) ∙ ap misfit line
