-- The reader byte by byte, with the bytes since the last line feed: it reads what the reader by lines reads, for inductions over bytes. Assumes nothing.
use Prim.Native.Nat.{ℕ, suc}
use mathlib.Core.Bool.{Bool, true, false, cond}
use mathlib.Core.List.{List, [], ◌∷◌, ◌++◌, append-nil}
use mathlib.Core.Path.{◌≡◌, refl, sym, ap, ◌∙◌}
use borrow.Author.Tests.{eqb-true, eqb-false}
use lib.Dec.{eqb}
use lib.Seq.{append_snoc}
use Rattle.rtr_room.specs.declared.Record.{Record}
use Rattle.rtr_listing.specs.declared.Head.{Head}
use Rattle.rtr_listed.specs.Listed.{Fit, Due, Read, lines_of, count_widths, on_line, at_end, or_misfit, read_from, read_listing}
use Rattle.rtr_listed.specs.Listed.Fit.{fits, misfits}
use Rattle.rtr_listed.specs.Listed.Due.{stop_due, end_due}
use Rattle.rtr_listed.specs.Listed.Read.{misfit}
use Rattle.rtr_listed.proofs.Feeds.{no_feed, no-feed-append, no-feed-here, line_first, line-open}

-- no byte is left: bytes since the last line feed are a line without an end
abbrev pub last_bytes : Due → ℕ → List ℕ → Read
last_bytes p n [] = at_end p n
last_bytes p n (c ∷ b) = misfit n

unfoldable pub read_bytes : ℕ → Due → ℕ → List ℕ → List ℕ → Read
read_bytes limit p n b [] = last_bytes p n b
read_bytes limit p n b (c ∷ s) =
    cond (eqb c 10) (or_misfit n (on_line count_widths limit p b) (λ next. read_bytes limit next (suc n) [] s)) (read_bytes limit p n (b ++ c ∷ []) s)

last-open : (limit : ℕ) (p : Due) (n : ℕ) (b : List ℕ) → no_feed b ≡ true → read_from count_widths limit p n (lines_of b) ≡ last_bytes p n b
unfolding read_from lines_of
last-open limit p n [] plain = refl
last-open limit p n (c ∷ b) plain = ap (read_from count_widths limit p n) (line-open c b plain)

-- a byte behind a line so far
one_more : (b : List ℕ) (c : ℕ) → no_feed b ≡ true → eqb c 10 ≡ false → no_feed (b ++ c ∷ []) ≡ true
unfolding no_feed
one_more b c plain e = no-feed-append b (c ∷ []) plain (no-feed-here c [] (eqb-false c 10 e) refl)

bytes_read : (limit : ℕ) (p : Due) (n : ℕ) (b s : List ℕ) → no_feed b ≡ true → read_from count_widths limit p n (lines_of (b ++ s)) ≡ read_bytes limit p n b s
unfolding read_from read_bytes no_feed
bytes_read limit p n b [] plain = ap (λ (x : List ℕ). read_from count_widths limit p n (lines_of x)) (append-nil b) ∙ last-open limit p n b plain
bytes_read limit p n b (c ∷ s) plain =
    go (eqb c 10) refl (λ next. bytes_read limit next (suc n) [] s refl) (λ e. bytes_read limit p n (b ++ c ∷ []) s (one_more b c plain e))
  where
    fed : (x : Fit Due) → ((next : Due) → read_from count_widths limit next (suc n) (lines_of s) ≡ read_bytes limit next (suc n) [] s)
        → or_misfit n x (λ next. read_from count_widths limit next (suc n) (lines_of s)) ≡ or_misfit n x (λ next. read_bytes limit next (suc n) [] s)
    fed (fits next) rest = rest next
    fed misfits rest = refl

    go : (d : Bool) → eqb c 10 ≡ d
        → ((next : Due) → read_from count_widths limit next (suc n) (lines_of s) ≡ read_bytes limit next (suc n) [] s)
        → (eqb c 10 ≡ false → read_from count_widths limit p n (lines_of (b ++ c ∷ [] ++ s)) ≡ read_bytes limit p n (b ++ c ∷ []) s)
        → read_from count_widths limit p n (lines_of (b ++ c ∷ s))
        ≡ cond d (or_misfit n (on_line count_widths limit p b) (λ next. read_bytes limit next (suc n) [] s)) (read_bytes limit p n (b ++ c ∷ []) s)
    go true e rest more =
        ap (λ (y : ℕ). read_from count_widths limit p n (lines_of (b ++ y ∷ s))) (eqb-true c 10 e)
        ∙ ap (read_from count_widths limit p n) (line_first b s plain)
        ∙ fed (on_line count_widths limit p b) rest
    go false e rest more = ap (λ (y : List ℕ). read_from count_widths limit p n (lines_of y)) (sym (append_snoc b c s)) ∙ more e

pub read-bytes : (limit : ℕ) (s : List ℕ) → read_listing limit s ≡ read_bytes limit stop_due 1 [] s
unfolding no_feed
read-bytes limit s = bytes_read limit stop_due 1 [] s refl

-- some bytes since the last line feed, and none behind them
pub last_some : (p : Due) (n : ℕ) (b : List ℕ) (c : ℕ) → last_bytes p n (b ++ c ∷ []) ≡ misfit n
last_some p n [] c = refl
last_some p n (d ∷ b) c = refl

-- at the end no byte fits
pub end-bytes : (limit : ℕ) (h : Head) (t : List Record) (n : ℕ) (b : List ℕ) (c : ℕ) (s : List ℕ) → read_bytes limit (end_due h t) n b (c ∷ s) ≡ misfit n
unfolding read_bytes
end-bytes limit h t n b c [] = go (eqb c 10)
  where
    go : (d : Bool) → cond d (misfit n) (last_bytes (end_due h t) n (b ++ c ∷ [])) ≡ misfit n
    go true = refl
    go false = last_some (end_due h t) n b c
end-bytes limit h t n b c (d ∷ s) = go (eqb c 10) (end-bytes limit h t n (b ++ c ∷ []) d s)
  where
    go : (x : Bool) → read_bytes limit (end_due h t) n (b ++ c ∷ []) (d ∷ s) ≡ misfit n
        → cond x (misfit n) (read_bytes limit (end_due h t) n (b ++ c ∷ []) (d ∷ s)) ≡ misfit n
    go true k = refl
    go false k = k
