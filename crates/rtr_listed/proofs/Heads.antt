-- The lines before the records, one behind another: the stop, then either the line of no table or five numbers and the count. Assumes nothing.
use Rattle.std.specs.Prelude.{Some}
use Prim.Native.Nat.{ℕ, suc}
use mathlib.Core.Bool.{Bool, true, false, cond, true≢false, false≢true}
use mathlib.Core.List.{List, [], ◌∷◌}
use mathlib.Core.Path.{◌≡◌, refl, sym, ap, ◌∙◌}
use native.Mathlib.Omega.{arith}
use Rattle.rtr_listing.specs.Listing.{text, table_fields, table_numbers}
use Rattle.rtr_receiver.specs.declared.Table.{Table}
use Rattle.rtr_listed.specs.Listed.{Line, Fit, Due, fitting, same_text, named, number_in, count_widths, count_in, may_stop, without_table, next_record, on_line, or_misfit, read_from, read_listing}
use Rattle.rtr_listed.specs.Listed.Fit.{fits, misfits}
use Rattle.rtr_listed.specs.Private.{line_gives, behind, lines_at, read_on, Took}
use Rattle.rtr_listed.specs.Private.Took.{took, missed}
use Rattle.rtr_listed.specs.declared.Cursor.{Cursor}
use Rattle.rtr_listed.proofs.Cursors.{read-on, read_off, took-stands}

abbrev pub start : Cursor
start = record { at = 0; line = 1; fits = true }

-- the line of no table
abbrev pub none_reads : List ℕ → Fit ℕ
none_reads b = fitting (same_text b (text "count=none")) 0

pub begins : (limit : ℕ) (s : List ℕ) → read_listing limit s ≡ read_on limit s Due.stop_due start
begins limit s = sym (read-on limit s Due.stop_due start refl)

pub stop-stands : (limit : ℕ) (s : List ℕ) (c : Cursor) (n : ℕ) (c' : Cursor) → Took (named (text "stopped=") (number_in may_stop)) s c n c' → read_on limit s Due.stop_due c ≡ read_on limit s (Due.second_due n) c'
stop-stands limit s = took-stands (named (text "stopped=") (number_in may_stop)) Due.second_due limit Due.stop_due (λ b. refl) (λ n. refl) s

pub count-stands : (limit stopped : ℕ) (t : Table) (s : List ℕ) (c : Cursor) (n : ℕ) (c' : Cursor) → Took (named (text "count=") (count_in count_widths limit)) s c n c'
    → read_on limit s (Due.numbers_due stopped (table_numbers t) []) c ≡ read_on limit s (next_record (record { stopped = stopped; table = Some t; count = n }) []) c'
count-stands limit stopped t s =
    took-stands (named (text "count=") (count_in count_widths limit)) (λ n. next_record (record { stopped = stopped; table = Some t; count = n }) []) limit (Due.numbers_due stopped (table_numbers t) []) (λ b. refl) (λ n. refl) s

module _ (limit stopped : ℕ) where
  second-on : (ls : List Line) (n : ℕ) → line_gives none_reads ls ≡ fits 0 → read_from count_widths limit (Due.second_due stopped) n ls ≡ read_from count_widths limit (Due.end_due (without_table stopped) []) (suc n) (behind ls)
  unfolding read_from
  second-on [] n e = let z : ◌≡◌ {A = ℕ} 0 1 = cc in absurd (omega arith)
  second-on (l ∷ ls) n e = go l.ended (same_text l.bytes (text "count=none")) e
    where
      go : (a b : Bool) → cond a (fitting {A = ℕ} b 0) misfits ≡ fits 0 →
          or_misfit n (cond a (cond b (fits (Due.end_due (without_table stopped) [])) (on_line count_widths limit (Due.numbers_due stopped [] table_fields) l.bytes)) misfits) (λ next. read_from count_widths limit next (suc n) ls)
          ≡ read_from count_widths limit (Due.end_due (without_table stopped) []) (suc n) ls
      go true true k = refl
      go true false k = let z : ◌≡◌ {A = ℕ} 0 1 = cc in absurd (omega arith)
      go false b k = let z : ◌≡◌ {A = ℕ} 0 1 = cc in absurd (omega arith)

  pub second-off : (ls : List Line) (n : ℕ) → line_gives none_reads ls ≡ misfits → read_from count_widths limit (Due.second_due stopped) n ls ≡ read_from count_widths limit (Due.numbers_due stopped [] table_fields) n ls
  unfolding read_from
  second-off [] n e = refl
  second-off (l ∷ ls) n e = go l.ended (same_text l.bytes (text "count=none")) e
    where
      go : (a b : Bool) → cond a (fitting {A = ℕ} b 0) misfits ≡ misfits →
          or_misfit n (cond a (cond b (fits (Due.end_due (without_table stopped) [])) (on_line count_widths limit (Due.numbers_due stopped [] table_fields) l.bytes)) misfits) (λ next. read_from count_widths limit next (suc n) ls)
          ≡ or_misfit n (cond a (on_line count_widths limit (Due.numbers_due stopped [] table_fields) l.bytes) misfits) (λ next. read_from count_widths limit next (suc n) ls)
      go true true k = let z : ◌≡◌ {A = ℕ} 0 1 = cc in absurd (omega arith)
      go true false k = refl
      go false b k = refl

  pub second_none : (s : List ℕ) (c c' : Cursor) → Took none_reads s c 0 c' → c'.fits ≡ true → read_on limit s (Due.second_due stopped) c ≡ read_on limit s (next_record (without_table stopped) []) c'
  second_none s c c' (took f g t nf nl) h =
      read-on limit s (Due.second_due stopped) c f
      ∙ second-on (lines_at s c) c.line g
      ∙ (λ i. read_from count_widths limit (Due.end_due (without_table stopped) []) (sym nl i) (t i))
      ∙ sym (read-on limit s (Due.end_due (without_table stopped) []) c' nf)
  second_none s c c' (missed m e) h = absurd (false≢true (sym (ap (λ (x : Cursor). x.fits) e) ∙ h))

  pub second-table : (s : List ℕ) (c c' : Cursor) → Took none_reads s c 0 c' → c'.fits ≡ false → read_on limit s (Due.second_due stopped) c ≡ read_on limit s (Due.numbers_due stopped [] table_fields) c
  second-table s c c' (took f g t nf nl) h = absurd (true≢false (sym nf ∙ h))
  second-table s c c' (missed m e) h = go c.fits refl
    where
      go : (b : Bool) → c.fits ≡ b → read_on limit s (Due.second_due stopped) c ≡ read_on limit s (Due.numbers_due stopped [] table_fields) c
      go true f = read-on limit s (Due.second_due stopped) c f ∙ second-off (lines_at s c) c.line (m f) ∙ sym (read-on limit s (Due.numbers_due stopped [] table_fields) c f)
      go false f = read_off limit s (Due.second_due stopped) c f ∙ sym (read_off limit s (Due.numbers_due stopped [] table_fields) c f)
