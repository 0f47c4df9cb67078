-- A whole text: the lines before the records, the records, and whether anything is left. Assumes nothing.
use Prim.Native.Nat.{ℕ, suc, ◌*◌, ◌≤◌, ◌<◌}
use mathlib.Core.Bool.{Bool, true, false, cond, ◌&&◌, false≢true}
use mathlib.Core.List.{List, [], ◌∷◌}
use mathlib.Core.Logic.{◌⊎◌, inl, inr}
use mathlib.Core.Path.{◌≡◌, refl, sym, ap, ◌∙◌}
use native.Mathlib.Omega.{arith}
use borrow.Author.Tests.{eqb-true, eqb-false, eq-eqb, ne_eqb}
use lib.Dec.{eqb}
use lib.ListN.{length, drop, get_or, replicate}
use lib.Seq.{drop-cons, drop-length}
use Rattle.rtr_room.specs.declared.Record.{Record}
use Rattle.rtr_room.proofs.Laws.Tests.{first_of, second-of}
use Rattle.rtr_listing.specs.declared.Head.{Head}
use Rattle.rtr_listed.specs.Listed.{Line, Due, in_front, lines_of, count_widths, next_record, at_end, or_misfit, read_from, read_listing}
use Rattle.rtr_listed.specs.Listed.Fit.{misfits}
use Rattle.rtr_listed.specs.Listed.Read.{listed, misfit}
use Rattle.rtr_listed.specs.Promises.{says, refused, read_leaves, listed_says}
use Rattle.rtr_listed.specs.Private.{read_on, AllRead}
use Rattle.rtr_listed.specs.Private.AllRead.{all, some}
use Rattle.rtr_listed.specs.declared.Cursor.{Cursor}
use Rattle.rtr_listed.proofs.Cursors.{read-on, read_off}

-- some text has a line
pub some-line : (b : ℕ) (s : List ℕ) → (l : Line) × (ls : List Line) × (lines_of (b ∷ s) ≡ l ∷ ls)
unfolding lines_of
some-line b s = go (eqb b 10) (lines_of s)
  where
    go : (c : Bool) (ls : List Line) → (l : Line) × (ls' : List Line) × (cond c (record { bytes = []; ended = true } ∷ ls) (in_front b ls) ≡ l ∷ ls')
    go true ls = (_, ls, refl)
    go false [] = (_, [], refl)
    go false (l ∷ ls) = (_, ls, refl)

-- no line fits at the end
pub end_line : (limit n : ℕ) (h : Head) (t : List Record) (l : Line) (ls : List Line) → read_from count_widths limit (Due.end_due h t) n (l ∷ ls) ≡ misfit n
unfolding read_from
end_line limit n h t l ls = go l.ended
  where
    go : (b : Bool) → or_misfit n (cond b misfits misfits) (λ next. read_from count_widths limit next (suc n) ls) ≡ misfit n
    go true = refl
    go false = refl

-- no line left: a misfit, but at the end
pub ending : (p : Due) (n : ℕ) → (at_end p n ≡ misfit n) ⊎ ((h : Head) × (t : List Record) × (p ≡ Due.end_due h t))
ending Due.stop_due n = inl refl
ending (Due.second_due stopped) n = inl refl
ending (Due.numbers_due stopped ns fs) n = inl refl
ending (Due.family_due h t) n = inl refl
ending (Due.address_due h t f) n = inl refl
ending (Due.length_due h t f w) n = inl refl
ending (Due.max_due h t f w l) n = inl refl
ending (Due.asn_due h t f w l m) n = inl refl
ending (Due.end_due h t) n = inr (h, t, refl)

end_none : (limit n : ℕ) (h : Head) (t : List Record) → read_from count_widths limit (Due.end_due h t) n (lines_of []) ≡ listed (record { stopped = h.stopped; table = h.table; records = t })
unfolding read_from lines_of
end_none limit n h t = refl

module _ (limit : ℕ) (s : List ℕ) (h : Head) (c : Cursor) (left : List ℕ) (next : Cursor) (begins : read_listing limit s ≡ read_on limit s (next_record h []) c) where
  pub all_listed : AllRead limit s h c left next → next.fits && eqb next.at (length s) ≡ true → read_leaves limit (read_listing limit s) ≡ record { answer = says h; room = left }
  all_listed (some off e) done = absurd (false≢true (sym off ∙ first_of next.fits _ done))
  all_listed (all t table long is e) done =
      let on : next.fits ≡ true = first_of next.fits _ done in
      let at : next.at ≡ length s = eqb-true next.at (length s) (second-of next.fits _ done) in
      let none : drop next.at s ≡ [] = ap (λ (n : ℕ). drop n s) at ∙ drop-length s in
      let read : read_listing limit s ≡ listed (record { stopped = h.stopped; table = h.table; records = t }) =
      begins
      ∙ e
      ∙ read-on limit s (Due.end_due h t) next on
      ∙ ap (λ (x : List ℕ). read_from count_widths limit (Due.end_due h t) next.line (lines_of x)) none
      ∙ end_none limit next.line h t in
      ap (read_leaves limit) read ∙ (λ i. record { answer = says (record { stopped = h.stopped; table = h.table; count = long i }); room = sym is i })

  left_over : (t : List Record) (b : Bool) → next.fits ≡ b → next.at ≤ length s → b && eqb next.at (length s) ≡ false → read_on limit s (Due.end_due h t) next ≡ misfit next.line
  left_over t false off w over = read_off limit s (Due.end_due h t) next off
  left_over t true on w over =
      let short : next.at < length s = short-of next.at (length s) w (eqb-false next.at (length s) over) in
      let line = some-line (get_or s next.at 0) (drop (suc next.at) s) in
      read-on limit s (Due.end_due h t) next on
      ∙ ap (read_from count_widths limit (Due.end_due h t) next.line) (ap lines_of (drop-cons s next.at 0 short) ∙ line.2)
      ∙ end_line limit next.line h t line.0 line.1
    where
      short-of : (a b : ℕ) → a ≤ b → (a ≡ b → ⊥) → a < b
      short-of a b p q = omega (arith, p, q)

  pub not_listed : AllRead limit s h c left next → next.at ≤ length s → next.fits && eqb next.at (length s) ≡ false → read_leaves limit (read_listing limit s) ≡ record { answer = refused 24 (next.line ∷ []); room = replicate (6 * limit) 0 }
  not_listed (some off e) w over = ap (read_leaves limit) (begins ∙ e)
  not_listed (all t table long is e) w over = ap (read_leaves limit) (begins ∙ e ∙ left_over t next.fits refl w over)

-- a room of another size stays
pub off-size : (limit : ℕ) (s lent : List ℕ) → (length lent ≡ 6 * limit → ⊥) → record { answer = refused 22 []; room = lent } ≡ listed_says limit s lent
unfolding listed_says
off-size limit s lent h = sym (ap (λ (b : Bool). cond b (read_leaves limit (read_listing limit s)) (record { answer = refused 22 []; room = lent })) (ne_eqb (length lent) (6 * limit) h))

pub of_size : (limit : ℕ) (s lent : List ℕ) → length lent ≡ 6 * limit → read_leaves limit (read_listing limit s) ≡ listed_says limit s lent
unfolding listed_says
of_size limit s lent h = sym (ap (λ (b : Bool). cond b (read_leaves limit (read_listing limit s)) (record { answer = refused 22 []; room = lent })) (eq-eqb (length lent) (6 * limit) h))

-- a room that was emptied again
pub emptied : (limit line : ℕ) (s lent mid zeros : List ℕ) → length lent ≡ 6 * limit → length mid ≡ 6 * limit → zeros ≡ replicate (length mid) 0
    → read_leaves limit (read_listing limit s) ≡ record { answer = refused 24 (line ∷ []); room = replicate (6 * limit) 0 }
    → record { answer = refused 24 (line ∷ []); room = zeros } ≡ listed_says limit s lent
emptied limit line s lent mid zeros size size' e read =
    (λ i. record { answer = refused 24 (line ∷ []); room = (e ∙ ap (λ (n : ℕ). replicate n 0) size') i }) ∙ sym read ∙ of_size limit s lent size
