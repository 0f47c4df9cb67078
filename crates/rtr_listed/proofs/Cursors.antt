-- A line taken or missed at a cursor, and what reading comes to from there. Assumes nothing.
use Rattle.std.specs.Prelude.{Option, Some, None}
use Prim.Native.Nat.{ℕ, suc, ◌-◌, ◌≤◌, ◌<◌}
use mathlib.Core.Bool.{Bool, true, false, cond, false≢true}
use mathlib.Core.List.{List, [], ◌∷◌, ◌++◌}
use mathlib.Core.Path.{◌≡◌, refl, sym, ap, ◌∙◌, subst}
use native.Mathlib.Omega.{arith}
use lib.Dec.{leb}
use lib.ListN.{length, take, drop, length-drop}
use lib.Seq.{length-take-le}
use Rattle.rtr_listing.specs.Listing.{Field}
use Rattle.rtr_listed.specs.Listed.{Line, Fit, Due, fitting, leading, same_text, named, number_in, address_in, words_in, count_widths, on_line, at_end, or_misfit, fit_line, read_from}
use Rattle.rtr_listed.specs.Listed.Fit.{fits, misfits}
use Rattle.rtr_listed.specs.Listed.Read.{misfit}
use Rattle.rtr_listed.specs.Private.{number_said, line_gives, behind, lines_at, read_on, refused_at, past_end, Near, Took, NumberTook, number_took, narrowed, between, ValueAt, ValueIs}
use Rattle.rtr_listed.specs.Private.Took.{took, missed}
use Rattle.rtr_listed.specs.declared.Cursor.{Cursor}
use Rattle.rtr_listed.specs.declared.NumberRead.{NumberRead}
use Rattle.rtr_listed.proofs.Texts.{same_refl, length-other, named_value, whole-line}
use Rattle.rtr_listed.specs.declared.Words.{Words}
use Rattle.rtr_listed.proofs.Numbers.{number_fits, number_by, number-none}
use Rattle.rtr_listed.proofs.Addresses.{address-words}

-- ---- a line at a cursor

pub refused-near : (s : List ℕ) (c : Cursor) → c.at ≤ length s → Near s 1 c (refused_at c)
refused-near s c h = record { at = h; line = omega arith }

pub past_near : (s : List ℕ) (c : Cursor) (end : ℕ) → end < length s → Near s 1 c (past_end c end)
past_near s c end h = record { at = h; line = omega arith }

module _ {A : Type 0} (reads : List ℕ → Fit A) (s : List ℕ) (c : Cursor) (name : List ℕ) where
  value-gives : (from end : ℕ) → ValueAt s c name from end → line_gives (named name reads) (lines_at s c) ≡ reads (between s from end)
  value-gives from end v = ap (line_gives (named name reads)) v.line ∙ named_value name (between s from end) reads

  pub value-took : (from end : ℕ) (a : A) → ValueAt s c name from end → reads (between s from end) ≡ fits a → Took (named name reads) s c a (past_end c end)
  value-took from end a v e = took v.fit (value-gives from end v ∙ e) (ap behind v.line) refl refl

  pub value-missed : (from end : ℕ) (a : A) → ValueAt s c name from end → reads (between s from end) ≡ misfits → Took (named name reads) s c a (refused_at c)
  value-missed from end a v e = missed (λ _. value-gives from end v ∙ e) refl

  pub nowhere-missed : (a : A) → ValueIs s c name None → Took (named name reads) s c a (refused_at c)
  nowhere-missed a none = missed (λ f. go (lines_at s c) (none f)) refl
    where
      other : (l : Line) (b : Bool) → l.ended ≡ b → (l.ended ≡ true → same_text (take (length name) l.bytes) name ≡ false) → cond b (named name reads l.bytes) misfits ≡ misfits
      other l true e h = ap (λ (x : Bool). cond x (reads (drop (length name) l.bytes)) misfits) (h e)
      other l false e h = refl

      go : (ls : List Line) → ((l : Line) (ls' : List Line) → ls ≡ l ∷ ls' → l.ended ≡ true → same_text (take (length name) l.bytes) name ≡ false) → line_gives (named name reads) ls ≡ misfits
      go [] h = refl
      go (l ∷ ls) h = other l l.ended refl (h l ls refl)

-- ---- a whole line

module _ (s : List ℕ) (c : Cursor) (name : List ℕ) where
  abbrev nothing-behind : List ℕ → Fit ℕ
  nothing-behind rest = fitting (same_text rest []) 0

  as-whole : (next : Cursor) → Took (named name nothing-behind) s c 0 next → Took {A = ℕ} (λ b. fitting (same_text b name) 0) s c 0 next
  as-whole next t = subst (λ (reads : List ℕ → Fit ℕ). Took reads s c 0 next) (λ i b. whole-line name b 0 i) t

  pub whole-took : (from end : ℕ) → ValueAt s c name from end → from ≡ end → Took {A = ℕ} (λ b. fitting (same_text b name) 0) s c 0 (past_end c end)
  whole-took from end v e =
      let none : between s from end ≡ [] = ap (λ (n : ℕ). take n (drop from s)) (no_span from end e) in
      as-whole (past_end c end) (value-took nothing-behind s c name from end 0 v (ap nothing-behind none ∙ ap (λ (b : Bool). fitting b 0) (same_refl [])))
    where
      no_span : (m n : ℕ) → m ≡ n → n - m ≡ 0
      no_span m n h = omega (arith, h)

  pub whole-other : (from end : ℕ) → ValueAt s c name from end → (from ≡ end → ⊥) → Took {A = ℕ} (λ b. fitting (same_text b name) 0) s c 0 (refused_at c)
  whole-other from end v e =
      let some : length (between s from end) ≡ end - from = length-take-le (end - from) (drop from s) (omega (arith, length-drop from s, v.order, v.inside)) in
      let other : same_text (between s from end) [] ≡ false = length-other (between s from end) [] (λ h. e (omega (arith, some, h, v.order))) in
      as-whole (refused_at c) (value-missed nothing-behind s c name from end 0 v (ap (λ (b : Bool). fitting b 0) other))

  pub whole-nowhere : ValueIs s c name None → Took {A = ℕ} (λ b. fitting (same_text b name) 0) s c 0 (refused_at c)
  whole-nowhere none = as-whole (refused_at c) (nowhere-missed nothing-behind s c name 0 none)

-- ---- numbers

module _ (reads : List ℕ → Fit ℕ) (s : List ℕ) (c : Cursor) (name : List ℕ) (most : ℕ) where
  pub number-took : (from end : ℕ) (r : Option ℕ) → ValueAt s c name from end → number_said r ≡ reads (between s from end) → ((n : ℕ) → reads (between s from end) ≡ fits n → n ≤ most) → c.at ≤ length s
      → NumberTook (named name reads) s c most (number_took c end r)
  number-took from end (Some n) v e low h = (value-took reads s c name from end n v (sym e), (low n (sym e), past_near s c end v.inside))
  number-took from end None v e low h = (value-missed reads s c name from end 0 v (sym e), (omega arith, refused-near s c h))

  pub number-nowhere : (end : ℕ) → ValueIs s c name None → c.at ≤ length s → NumberTook (named name reads) s c most (number_took c end None)
  number-nowhere end none h = (nowhere-missed reads s c name 0 none, (omega arith, refused-near s c h))

-- one test more
module _ (s : List ℕ) (c : Cursor) (name : List ℕ) (most : ℕ) (q : ℕ → Bool) (within : (n : ℕ) → q n ≡ true → leb n most ≡ true) where
  abbrev plain : List ℕ → Fit ℕ
  plain = named name (number_in (λ n. leb n most))

  abbrev tight : List ℕ → Fit ℕ
  tight = named name (number_in q)

  line-by : (l : Line) (n : ℕ) (a b : Bool) → cond a (cond b (number_in (λ k. leb k most) (drop (length name) l.bytes)) misfits) misfits ≡ fits n → cond a (cond b (number_in q (drop (length name) l.bytes)) misfits) misfits ≡ fitting (q n) n
  line-by l n true true e = number_by (λ k. leb k most) q (drop (length name) l.bytes) n e
  line-by l n true false e = let z : ◌≡◌ {A = ℕ} 0 1 = cc in absurd (omega arith)
  line-by l n false b e = let z : ◌≡◌ {A = ℕ} 0 1 = cc in absurd (omega arith)

  gives-by : (ls : List Line) (n : ℕ) → line_gives plain ls ≡ fits n → line_gives tight ls ≡ fitting (q n) n
  gives-by [] n e = let z : ◌≡◌ {A = ℕ} 0 1 = cc in absurd (omega arith)
  gives-by (l ∷ ls) n e = line-by l n l.ended (same_text (take (length name) l.bytes) name) e

  line-none : (l : Line) (a b : Bool) → cond a (cond b (number_in (λ k. leb k most) (drop (length name) l.bytes)) misfits) misfits ≡ misfits → cond a (cond b (number_in q (drop (length name) l.bytes)) misfits) misfits ≡ misfits
  line-none l true true e = number-none (λ k. leb k most) q (drop (length name) l.bytes) e within
  line-none l true false e = refl
  line-none l false b e = refl

  gives_none : (ls : List Line) → line_gives plain ls ≡ misfits → line_gives tight ls ≡ misfits
  gives_none [] e = refl
  gives_none (l ∷ ls) e = line-none l l.ended (same_text (take (length name) l.bytes) name) e

  narrow-by : (r : NumberRead) (b : Bool) → q r.value ≡ b → Took plain s c r.value r.next → Took tight s c (narrowed c r b).value (narrowed c r b).next
  narrow-by r true e (took f g t nf nl) = took f (gives-by (lines_at s c) r.value g ∙ ap (λ (x : Bool). fitting x r.value) e) t nf nl
  narrow-by r false e (took f g t nf nl) = missed (λ _. gives-by (lines_at s c) r.value g ∙ ap (λ (x : Bool). fitting x r.value) e) refl
  narrow-by r true e (missed m k) = missed (λ f. gives_none (lines_at s c) (m f)) k
  narrow-by r false e (missed m k) = missed (λ f. gives_none (lines_at s c) (m f)) refl

  narrow-near : (r : NumberRead) (b : Bool) → c.at ≤ length s → Near s 1 c r.next → Near s 1 c (narrowed c r b).next
  narrow-near r true h n = n
  narrow-near r false h n = refused-near s c h

  value-kept : (r : NumberRead) (b : Bool) → (narrowed c r b).value ≡ r.value
  value-kept r true = refl
  value-kept r false = refl

  pub narrow-took : (r : NumberRead) → c.at ≤ length s → NumberTook plain s c most r → NumberTook tight s c most (narrowed c r (q r.value))
  narrow-took r h t =
      (narrow-by r (q r.value) refl t.0, (omega (arith, t.1.0, value-kept r (q r.value)), narrow-near r (q r.value) h t.1.1))

-- ---- what reading comes to

-- ---- what reading comes to from a cursor on

-- where the lines before it fitted, what the lines there come to
pub read-on : (limit : ℕ) (s : List ℕ) (place : Due) (c : Cursor) → c.fits ≡ true → read_on limit s place c ≡ read_from count_widths limit place c.line (lines_at s c)
unfolding read_on
read-on limit s place c e = ap (λ (b : Bool). cond b (read_from count_widths limit place c.line (lines_at s c)) (misfit c.line)) e

-- a cursor that stays at a line is a misfit there
pub read_off : (limit : ℕ) (s : List ℕ) (place : Due) (c : Cursor) → c.fits ≡ false → read_on limit s place c ≡ misfit c.line
unfolding read_on
read_off limit s place c e = ap (λ (b : Bool). cond b (read_from count_widths limit place c.line (lines_at s c)) (misfit c.line)) e

module _ {A : Type 0} (reads : List ℕ → Fit A) (next : A → Due) (limit : ℕ) (place : Due) (due : (b : List ℕ) → on_line count_widths limit place b ≡ leading next (reads b)) (open' : (n : ℕ) → at_end place n ≡ misfit n) where
  line-leads : (l : Line) (b : Bool) → l.ended ≡ b → fit_line count_widths limit place l ≡ leading next (cond b (reads l.bytes) misfits)
  line-leads l true e = ap (λ (x : Bool). cond x (on_line count_widths limit place l.bytes) misfits) e ∙ due l.bytes
  line-leads l false e = ap (λ (x : Bool). cond x (on_line count_widths limit place l.bytes) misfits) e

  reads_on : (ls : List Line) (n : ℕ) (a : A) → line_gives reads ls ≡ fits a → read_from count_widths limit place n ls ≡ read_from count_widths limit (next a) (suc n) (behind ls)
  unfolding read_from
  reads_on [] n a e = let z : ◌≡◌ {A = ℕ} 0 1 = cc in absurd (omega arith)
  reads_on (l ∷ ls) n a e = ap (λ (x : Fit Due). or_misfit n x (λ p. read_from count_widths limit p (suc n) ls)) (line-leads l l.ended refl ∙ ap (leading next) e)

  reads-off : (ls : List Line) (n : ℕ) → line_gives reads ls ≡ misfits → read_from count_widths limit place n ls ≡ misfit n
  unfolding read_from
  reads-off [] n e = open' n
  reads-off (l ∷ ls) n e = ap (λ (x : Fit Due). or_misfit n x (λ p. read_from count_widths limit p (suc n) ls)) (line-leads l l.ended refl ∙ ap (leading next) e)

  pub took-stands : (s : List ℕ) (c : Cursor) (a : A) (c' : Cursor) → Took reads s c a c' → read_on limit s place c ≡ read_on limit s (next a) c'
  took-stands s c a c' (took f g t nf nl) = read-on limit s place c f ∙ reads_on (lines_at s c) c.line a g ∙ (λ i. read_from count_widths limit (next a) (sym nl i) (t i)) ∙ sym (read-on limit s (next a) c' nf)
  took-stands s c a c' (missed m e) = go c.fits refl ∙ sym (ap (λ (x : Cursor). read_on limit s (next a) x) e ∙ read_off limit s (next a) (refused_at c) refl)
    where
      go : (b : Bool) → c.fits ≡ b → read_on limit s place c ≡ misfit c.line
      go true f = read-on limit s place c f ∙ reads-off (lines_at s c) c.line (m f)
      go false f = read_off limit s place c f

-- one of the table's numbers
pub field-stands : (limit stopped : ℕ) (ns : List ℕ) (f : Field) (fs : List Field) (s : List ℕ) (c : Cursor) (n : ℕ) (c' : Cursor) → Took (named f.name (number_in (λ k. leb k f.most))) s c n c'
    → read_on limit s (Due.numbers_due stopped ns (f ∷ fs)) c ≡ read_on limit s (Due.numbers_due stopped (ns ++ n ∷ []) fs) c'
field-stands limit stopped ns f fs s c n c' t =
    took-stands (named f.name (number_in (λ k. leb k f.most))) (λ k. Due.numbers_due stopped (ns ++ k ∷ []) fs) limit (Due.numbers_due stopped ns (f ∷ fs)) (λ b. refl) (λ k. refl) s c n c' t

-- a line read as it fits says so of the lines before it
pub took-fits : {A : Type 0} (reads : List ℕ → Fit A) (s : List ℕ) (c : Cursor) (a : A) (c' : Cursor) → Took reads s c a c' → c'.fits ≡ true → (c.fits ≡ true) × (line_gives reads (lines_at s c) ≡ fits a)
took-fits reads s c a c' (took f g t nf nl) h = (f, g)
took-fits reads s c a c' (missed m e) h = absurd (false≢true (sym (ap (λ (x : Cursor). x.fits) e) ∙ h))

-- a line's number is allowed there
pub gives-allowed : (name : List ℕ) (q : ℕ → Bool) (ls : List Line) (n : ℕ) → line_gives (named name (number_in q)) ls ≡ fits n → q n ≡ true
gives-allowed name q [] n e = let z : ◌≡◌ {A = ℕ} 0 1 = cc in absurd (omega arith)
gives-allowed name q (l ∷ ls) n e = go l.ended (same_text (take (length name) l.bytes) name) e
  where
    go : (a b : Bool) → cond a (cond b (number_in q (drop (length name) l.bytes)) misfits) misfits ≡ fits n → q n ≡ true
    go true true k = (number_fits q (drop (length name) l.bytes) n k).1
    go true false k = let z : ◌≡◌ {A = ℕ} 0 1 = cc in absurd (omega arith)
    go false b k = let z : ◌≡◌ {A = ℕ} 0 1 = cc in absurd (omega arith)

-- an address's words are those of its family
pub gives-words : (name : List ℕ) (family : ℕ) (ls : List Line) (w : Words) → line_gives (named name (address_in family)) ls ≡ fits w → (s : List ℕ) × (w ≡ words_in family s)
gives-words name family [] w e = let z : ◌≡◌ {A = ℕ} 0 1 = cc in absurd (omega arith)
gives-words name family (l ∷ ls) w e = go l.ended (same_text (take (length name) l.bytes) name) e
  where
    go : (a b : Bool) → cond a (cond b (address_in family (drop (length name) l.bytes)) misfits) misfits ≡ fits w → (s : List ℕ) × (w ≡ words_in family s)
    go true true k = (drop (length name) l.bytes, address-words family (drop (length name) l.bytes) w k)
    go true false k = let z : ◌≡◌ {A = ℕ} 0 1 = cc in absurd (omega arith)
    go false b k = let z : ◌≡◌ {A = ℕ} 0 1 = cc in absurd (omega arith)
