-- No text that was read is longer than a head and 1,024 records, so 131,201 bytes decide: a line that leads further does not fit. Assumes nothing.
use Prim.Native.Nat.{ℕ, zero, suc, ◌+◌, ◌*◌, ◌≤◌, ◌<◌}
use mathlib.Core.Bool.{Bool, true, false, cond}
use mathlib.Core.List.{List, [], ◌∷◌, ◌++◌}
use mathlib.Core.Path.{◌≡◌, refl, sym, ap, ◌∙◌}
use native.Mathlib.Omega.{arith}
use lib.Dec.{eqb}
use lib.ListN.{length, take, length-append}
use Rattle.rtr_room.specs.declared.Record.{Record}
use Rattle.rtr_listing.specs.Listing.{Field, text, decimal, line_of, line, table_fields, field_lines, head_lines, address_of, record_lines, all_lines}
use Rattle.rtr_listing.specs.declared.Head.{Head}
use Rattle.rtr_listing.proofs.Laws.{line-length, number-at-most, address-at-most, field-lines-next, field-lines-none, all_none, all_first, head-at-most, record-at-most}
use Rattle.rtr_listed.specs.Listed.{Fit, Due, count_widths, record_of, on_line, or_misfit, read_listing}
use Rattle.rtr_listed.specs.Listed.Fit.{fits, misfits}
use Rattle.rtr_listed.specs.Listed.Due.{stop_due, second_due, numbers_due, family_due, address_due, length_due, max_due, asn_due, end_due}
use Rattle.rtr_listed.specs.Listed.Read.{misfit}
use Rattle.rtr_listed.specs.declared.Words.{Words}
use Rattle.rtr_listed.proofs.Written.{ended, front, family_so, address_so, length_so, max_so, written, Within, Behind, Good, leads}
use Rattle.rtr_listed.proofs.Bytes.{read_bytes, read-bytes}

-- ---- how long a text is that was read

-- the most that fields take
abbrev room : List Field → ℕ
room [] = 0
room (f ∷ fs) = length f.name + 11 + room fs

fields-at-most : (before : List ℕ) (fs : List Field) (ns : List ℕ) → length ns ≤ length fs → length (field_lines before fs ns) ≤ length before + room fs
fields-at-most before fs [] h = let none : length (field_lines before fs []) ≡ length before = ap length (field-lines-none before fs) in omega arith
fields-at-most before [] (n ∷ ns) h = absurd (omega arith)
fields-at-most before (f ∷ fs) (n ∷ ns) h =
    let next = ap length (field-lines-next before f fs n ns) in
    omega (
      arith,
      next,
      fields-at-most (before ++ line_of f.name (decimal n)) fs ns (omega arith),
      length-append before (line_of f.name (decimal n)),
      number-at-most f.name n,
    )

within-length : (fs : List Field) (ns : List ℕ) → Within fs ns → length ns ≡ length fs
within-length [] [] w = refl
within-length [] (n ∷ ns) w = absurd w
within-length (f ∷ fs) [] w = absurd w
within-length (f ∷ fs) (n ∷ ns) w = ap suc (within-length fs ns w.1)

all-at-most : (t : List Record) → length (all_lines t) ≤ 128 * length t
all-at-most [] = let none : length (all_lines []) ≡ 0 = ap length all_none in omega arith
all-at-most (r ∷ t) = omega (arith, ap length (all_first r t), length-append (record_lines r) (all_lines t), record-at-most r, all-at-most t)

front-at-most : (h : Head) (t : List Record) → length (front h t) ≤ 128 + 128 * length t
front-at-most h t = omega (arith, length-append (head_lines h) (all_lines t), head-at-most h, all-at-most t)

address-most : (f : ℕ) (w : Words) → length (address_so f w) ≤ 59
address-most f w =
    omega (
      arith,
      length-append (family_so f) (line "address=" (address_of (record_of f w 0 0 0))),
      number-at-most (text "family=") f,
      line-length (text "address=") (address_of (record_of f w 0 0 0)),
      address-at-most (record_of f w 0 0 0),
    )

length_most : (f : ℕ) (w : Words) (l : ℕ) → length (length_so f w l) ≤ 77
length_most f w l = omega (arith, length-append (address_so f w) (line "length=" (decimal l)), address-most f w, number-at-most (text "length=") l)

max-most : (f : ℕ) (w : Words) (l m : ℕ) → length (max_so f w l m) ≤ 92
max-most f w l m = omega (arith, length-append (length_so f w l) (line "max=" (decimal m)), length_most f w l, number-at-most (text "max=") m)

-- a record's lines behind the records before it
so-most : (limit : ℕ) (h : Head) (t : List Record) (so : List ℕ) → Behind limit h t → length t < h.count → length so ≤ 128 → length (front h t ++ so) ≤ 131200
so-most limit h t so g few low = omega (arith, length-append (front h t) so, front-at-most h t, g.head.written)

pub written-at-most : (limit : ℕ) (p : Due) → Good limit p → length (written p) ≤ 131200
written-at-most limit stop_due g = omega arith
written-at-most limit (second_due n) g = omega (arith, number-at-most (text "stopped=") n)
written-at-most limit (numbers_due n ns fs) g =
    let done : List Field = g.1.0 in
    let five : length table_fields ≡ length done + length fs = ap length g.1.1 ∙ length-append done fs in
    omega (
      arith,
      length-append (line "stopped=" (decimal n)) (field_lines [] table_fields ns),
      number-at-most (text "stopped=") n,
      fields-at-most [] table_fields ns (omega (arith, five, within-length done ns g.1.2)),
    )
written-at-most limit (family_due h t) g = omega (arith, front-at-most h t, g.0.head.written, g.1)
written-at-most limit (address_due h t f) g = so-most limit h t (family_so f) g.0.0 g.0.1 (omega (arith, number-at-most (text "family=") f))
written-at-most limit (length_due h t f w) g = so-most limit h t (address_so f w) g.0.0.0 g.0.0.1 (omega (arith, address-most f w))
written-at-most limit (max_due h t f w l) g = so-most limit h t (length_so f w l) g.0.0.0.0 g.0.0.0.1 (omega (arith, length_most f w l))
written-at-most limit (asn_due h t f w l m) g = so-most limit h t (max_so f w l m) g.0.0.0.0.0 g.0.0.0.0.1 (omega (arith, max-most f w l m))
written-at-most limit (end_due h t) g = omega (arith, front-at-most h t, g.0.head.written, g.1)

-- ---- a line that is over it does not fit

-- where a line leads, the text before it is longer by it and its line feed
longer-by : (limit : ℕ) (b : List ℕ) (p next : Due) → Good limit p → on_line count_widths limit p b ≡ fits next
    → Good limit next × (length (written next) ≡ length (written p) + length b + 1)
longer-by limit b p next g e =
    let to = leads limit b next p g e in
    (to.1, ap length to.0 ∙ length-append (written p) (ended b) ∙ omega (arith, length-append b (10 ∷ [])))

over-misfits : (limit : ℕ) (p : Due) (n : ℕ) (b s : List ℕ) → Good limit p → 131200 < length (written p) + length b → read_bytes limit p n b s ≡ misfit n
unfolding read_bytes
over-misfits limit p n [] [] g h = absurd (omega (arith, written-at-most limit p g))
over-misfits limit p n (c ∷ b) [] g h = refl
over-misfits limit p n b (c ∷ s) g h =
    go (eqb c 10) (on_line count_widths limit p b) refl (over-misfits limit p n (b ++ c ∷ []) s g (omega (arith, length-append b (c ∷ []))))
  where
    go : (d : Bool) (x : Fit Due) → on_line count_widths limit p b ≡ x → read_bytes limit p n (b ++ c ∷ []) s ≡ misfit n
        → cond d (or_misfit n x (λ next. read_bytes limit next (suc n) [] s)) (read_bytes limit p n (b ++ c ∷ []) s) ≡ misfit n
    go true (fits next) e more = let l = longer-by limit b p next g e in absurd (omega (arith, l.1, written-at-most limit next l.0))
    go true misfits e more = refl
    go false x e more = more

enough-bytes : (limit : ℕ) (p : Due) (n k : ℕ) (b s : List ℕ) → Good limit p → 131200 < length (written p) + length b + k
    → read_bytes limit p n b (take k s) ≡ read_bytes limit p n b s
unfolding read_bytes
enough-bytes limit p n zero b s g h = over-misfits limit p n b [] g (omega arith) ∙ sym (over-misfits limit p n b s g (omega arith))
enough-bytes limit p n (suc k) b [] g h = refl
enough-bytes limit p n (suc k) b (c ∷ s) g h =
    go (eqb c 10) (on_line count_widths limit p b) refl
    (λ next to long. enough-bytes limit next (suc n) k [] s to (omega arith))
    (enough-bytes limit p n k (b ++ c ∷ []) s g (omega (arith, length-append b (c ∷ []))))
  where
    go : (d : Bool) (x : Fit Due) → on_line count_widths limit p b ≡ x
        → ((next : Due) → Good limit next → length (written next) ≡ length (written p) + length b + 1
        → read_bytes limit next (suc n) [] (take k s) ≡ read_bytes limit next (suc n) [] s)
        → read_bytes limit p n (b ++ c ∷ []) (take k s) ≡ read_bytes limit p n (b ++ c ∷ []) s
        → cond d (or_misfit n x (λ next. read_bytes limit next (suc n) [] (take k s))) (read_bytes limit p n (b ++ c ∷ []) (take k s))
        ≡ cond d (or_misfit n x (λ next. read_bytes limit next (suc n) [] s)) (read_bytes limit p n (b ++ c ∷ []) s)
    go true (fits next) e fed more = let l = longer-by limit b p next g e in fed next l.0 l.1
    go true misfits e fed more = refl
    go false x e fed more = more

pub front-is-enough : (limit n : ℕ) (s : List ℕ) → 131200 < n → read_listing limit (take n s) ≡ read_listing limit s
front-is-enough limit n s h = read-bytes limit (take n s) ∙ enough-bytes limit stop_due 1 n [] s refl (omega arith) ∙ sym (read-bytes limit s)
