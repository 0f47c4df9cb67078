-- The text that was read before a place, and what is known there: a line that fits makes the text that line longer, and keeps what is known. Assumes nothing.
use Rattle.std.specs.Prelude.{Option, Some, None}
use Prim.Native.Nat.{ℕ, ◌+◌, ◌≤◌, ◌<◌}
use mathlib.Core.Bool.{Bool, true, false, cond, ◌&&◌, ◌||◌}
use mathlib.Core.List.{List, [], ◌∷◌, ◌++◌, append_assoc, append-nil}
use mathlib.Core.Path.{◌≡◌, refl, sym, ap, ◌∙◌, subst}
use native.Mathlib.Omega.{arith}
use borrow.Author.Tests.{leb-true, eqb-true, eqb-false, ltb-true, ltb-false}
use lib.Dec.{leb, ltb, eqb}
use lib.ListN.{length, take, drop, length-append, length-drop}
use lib.Seq.{append_snoc, length-take-le}
use Rattle.rtr_room.specs.Table.{is_table, family_of, prefix_of, max_of, in_rule, ordered, WordsFit, AllFit}
use Rattle.rtr_room.specs.Table.AllFit.{none, one}
use Rattle.rtr_room.specs.declared.Record.{Record}
use Rattle.rtr_room.proofs.Laws.{empty-table, table-last}
use Rattle.rtr_room.proofs.Laws.Tests.{first_of, second-of}
use Rattle.rtr_receiver.specs.Fits.{TableNumbersFit}
use Rattle.rtr_listing.specs.Listing.{Field, text, digits, decimal, count_digits, line_of, line, table_fields, field_lines, table_lines, head_lines, address_of, record_lines, all_lines}
use Rattle.rtr_listing.specs.Digits.{are_hex}
use Rattle.rtr_listing.specs.declared.Head.{Head}
use Rattle.rtr_listing.proofs.Laws.{line-is, head-lines-are, no-table-line, table-lines-are, field-lines-next, field-lines-none, record-lines-are, all_none, all_first, all_append, four-address, other-address, four-length, other_length, address-lower-case, hex-below}
use Rattle.rtr_listed.specs.Listed.{Fit, Due, leading, same_text, named, number_in, count_widths, count_in, record_of, word_at, words_in, address_in, next_record, may_stop, table_from, without_table, on_numbers, widest, on_line}
use Rattle.rtr_listed.specs.Listed.Fit.{fits, misfits}
use Rattle.rtr_listed.specs.Listed.Due.{stop_due, second_due, numbers_due, family_due, address_due, length_due, max_due, asn_due, end_due}
use Rattle.rtr_listed.specs.declared.Words.{Words}
use Rattle.rtr_listed.proofs.Texts.{same-equal, named-fits}
use Rattle.rtr_listed.proofs.Numbers.{fitting-fits, number_fits, count_fits}
use Rattle.rtr_listed.proofs.Addresses.{hex-take, hex-drop, family-is, address-words}
use Rattle.rtr_listed.proofs.Records.{ruled}
use Rattle.rtr_receiver.specs.declared.Table.{Table}

-- ---- the text before a place

-- a line's bytes and its line feed
abbrev pub ended : List ℕ → List ℕ
ended b = b ++ 10 ∷ []

-- the head and the records that were read
abbrev pub front : Head → List Record → List ℕ
front h t = head_lines h ++ all_lines t

-- the lines of a record so far
abbrev pub family_so : ℕ → List ℕ
family_so f = line "family=" (decimal f)

abbrev pub address_so : ℕ → Words → List ℕ
address_so f w = family_so f ++ line "address=" (address_of (record_of f w 0 0 0))

abbrev pub length_so : ℕ → Words → ℕ → List ℕ
length_so f w l = address_so f w ++ line "length=" (decimal l)

abbrev pub max_so : ℕ → Words → ℕ → ℕ → List ℕ
max_so f w l m = length_so f w l ++ line "max=" (decimal m)

abbrev pub written : Due → List ℕ
written stop_due = []
written (second_due n) = line "stopped=" (decimal n)
written (numbers_due n ns fs) = line "stopped=" (decimal n) ++ field_lines [] table_fields ns
written (family_due h t) = front h t
written (address_due h t f) = front h t ++ family_so f
written (length_due h t f w) = front h t ++ address_so f w
written (max_due h t f w l) = front h t ++ length_so f w l
written (asn_due h t f w l m) = front h t ++ max_so f w l m
written (end_due h t) = front h t

-- ---- what is known there

-- each number is within its field
abbrev pub Within : List Field → List ℕ → Type 0
Within [] [] = ◌≡◌ {A = ℕ} 0 0
Within [] (n ∷ ns) = ⊥
Within (f ∷ fs) [] = ⊥
Within (f ∷ fs) (n ∷ ns) = (n ≤ f.most) × Within fs ns

-- without a table the count is 0
abbrev pub CountFits : Option Table → ℕ → Type 0
CountFits None count = count ≡ 0
CountFits (Some t) count = TableNumbersFit t

pub record HeadFits (limit : ℕ) (h : Head) : Type 0 where
  pub stopped : may_stop h.stopped ≡ true
  pub info : CountFits h.table h.count
  pub within : h.count ≤ limit
  pub written : h.count ≤ 1024

pub record Behind (limit : ℕ) (h : Head) (t : List Record) : Type 0 where
  pub head : HeadFits limit h
  pub table : is_table t ≡ true
  pub words : AllFit t

-- the words of an address's digits
pub record AreWords (f : ℕ) (w : Words) : Type 0 where
  pub digits : (s : List ℕ) × (w ≡ words_in f s)
  pub w0 : w.w0 ≤ 4294967295
  pub w1 : w.w1 ≤ 4294967295
  pub w2 : w.w2 ≤ 4294967295
  pub w3 : w.w3 ≤ 4294967295

abbrev pub AtFamily : ℕ → Head → List Record → Type 0
AtFamily limit h t = Behind limit h t × (length t < h.count)

abbrev pub AtAddress : ℕ → Head → List Record → ℕ → Type 0
AtAddress limit h t f = AtFamily limit h t × (eqb f 4 || eqb f 6 ≡ true)

abbrev pub AtLength : ℕ → Head → List Record → ℕ → Words → Type 0
AtLength limit h t f w = AtAddress limit h t f × AreWords f w

abbrev pub AtMax : ℕ → Head → List Record → ℕ → Words → ℕ → Type 0
AtMax limit h t f w l = AtLength limit h t f w × (l ≤ 255)

abbrev pub Good : ℕ → Due → Type 0
Good limit stop_due = ◌≡◌ {A = ℕ} 0 0
Good limit (second_due n) = may_stop n ≡ true
Good limit (numbers_due n ns fs) = (may_stop n ≡ true) × ((done : List Field) × (table_fields ≡ done ++ fs) × Within done ns)
Good limit (family_due h t) = AtFamily limit h t
Good limit (address_due h t f) = AtAddress limit h t f
Good limit (length_due h t f w) = AtLength limit h t f w
Good limit (max_due h t f w l) = AtMax limit h t f w l
Good limit (asn_due h t f w l m) = AtMax limit h t f w l × ((m ≤ 255) × (leb l m && leb m (widest f) ≡ true))
Good limit (end_due h t) = Behind limit h t × (length t ≡ h.count)

-- where a line leads: its text is behind, and as much is known
abbrev pub Leads : ℕ → List ℕ → Due → Type 0
Leads limit s p = (written p ≡ s) × Good limit p

-- ---- a line by its kind

leading-fits : {A B : Type 0} (next : A → B) (x : Fit A) (p : B) → leading next x ≡ fits p → (a : A) × (x ≡ fits a) × (p ≡ next a)
leading-fits next (fits a) p e = (a, refl, cc)
leading-fits next misfits p e = let z : ◌≡◌ {A = ℕ} 0 1 = cc in absurd (omega arith)

-- a value by its name, where what is read is the text that stands for it
named-line : {A B : Type 0} (next : A → B) (name : List ℕ) (reads : List ℕ → Fit A) (shown : A → List ℕ) (b : List ℕ) (p : B)
    → ((s : List ℕ) (a : A) → reads s ≡ fits a → s ≡ shown a)
    → leading next (named name reads b) ≡ fits p
    → (a : A) × (s : List ℕ) × (ended b ≡ line_of name (shown a)) × (reads s ≡ fits a) × (p ≡ next a)
named-line next name reads shown b p is e =
    let l = leading-fits next (named name reads b) p e in
    let v = named-fits name b reads l.0 l.1 in
    let whole : b ≡ name ++ shown l.0 = v.1 ∙ ap (λ (x : List ℕ). name ++ x) (is v.0 l.0 v.2) in
    (l.0, v.0, ap ended whole ∙ sym (line-is name (shown l.0)), v.2, l.2)

-- a number that is allowed there
number-line : {B : Type 0} (next : ℕ → B) (name : List ℕ) (q : ℕ → Bool) (b : List ℕ) (p : B)
    → leading next (named name (number_in q) b) ≡ fits p
    → (n : ℕ) × (ended b ≡ line_of name (decimal n)) × (q n ≡ true) × (p ≡ next n)
number-line next name q b p e =
    let l = named-line next name (number_in q) decimal b p is e in
    (l.0, l.2, (number_fits q l.1 l.0 l.3).1, l.4)
  where
    is : (s : List ℕ) (n : ℕ) → number_in q s ≡ fits n → s ≡ decimal n
    is s n f = let k = number_fits q s n f in same-equal s _ k.0 ∙ ap decimal k.2

-- eight hex digits stand for 32 bits
word_below : (s : List ℕ) (at : ℕ) → at + 8 ≤ length s → are_hex s ≡ true → word_at s at ≤ 4294967295
word_below s at h k =
    let eight : length (take 8 (drop at s)) ≡ 8 = length-take-le 8 (drop at s) (omega (arith, length-drop at s)) in
    omega (arith, rw eight at (hex-below (take 8 (drop at s)) (hex-take 8 (drop at s) (hex-drop at s k))))

address_is : (f : ℕ) (s : List ℕ) (w : Words) → address_in f s ≡ fits w → s ≡ address_of (record_of f w 0 0 0)
unfolding address_in
address_is f s w e =
    let k = fitting-fits (same_text s (address_of (record_of f (words_in f s) 0 0 0))) (words_in f s) w e in
    same-equal s _ k.0 ∙ ap (λ (x : Words). address_of (record_of f x 0 0 0)) k.1

are_words : (f : ℕ) (s : List ℕ) (w : Words) → address_in f s ≡ fits w → AreWords f w
are_words f s w e = go (eqb f 4) refl
  where
    same : s ≡ address_of (record_of f w 0 0 0)
    same = address_is f s w e

    hex : are_hex s ≡ true
    hex = ap are_hex same ∙ address-lower-case (record_of f w 0 0 0)

    go : (c : Bool) → eqb f 4 ≡ c → AreWords f w
    go true c =
        let words : words_in f s ≡ record { w0 = word_at s 0; w1 = 0; w2 = 0; w3 = 0 } = simp c in
        let long : length s ≡ 8 = ap length same ∙ four-length (record_of f w 0 0 0) (family-is f w ∙ eqb-true f 4 c) in
        subst (AreWords f) (sym words ∙ sym (address-words f s w e))
        (record { digits = (s, sym words); w0 = word_below s 0 (omega arith) hex; w1 = omega arith; w2 = omega arith; w3 = omega arith })
    go false c =
        let words : words_in f s ≡ record { w0 = word_at s 0; w1 = word_at s 8; w2 = word_at s 16; w3 = word_at s 24 } = simp c in
        let long : length s ≡ 32 = ap length same ∙ other_length (record_of f w 0 0 0) (λ h. eqb-false f 4 c (sym (family-is f w) ∙ h)) in
        subst (AreWords f) (sym words ∙ sym (address-words f s w e))
        (record {
          digits = (s, sym words);
          w0 = word_below s 0 (omega arith) hex;
          w1 = word_below s 8 (omega arith) hex;
          w2 = word_below s 16 (omega arith) hex;
          w3 = word_below s 24 (omega arith) hex;
        })

address_line : {B : Type 0} (next : Words → B) (f : ℕ) (b : List ℕ) (p : B) → leading next (named (text "address=") (address_in f) b) ≡ fits p
    → (w : Words) × (ended b ≡ line "address=" (address_of (record_of f w 0 0 0))) × AreWords f w × (p ≡ next w)
address_line next f b p e =
    let l = named-line next (text "address=") (address_in f) (λ w. address_of (record_of f w 0 0 0)) b p (address_is f) e in
    (l.0, l.2, are_words f l.1 l.0 l.3, l.4)

-- ---- the table's numbers

field-behind : (before : List ℕ) (done fs : List Field) (f : Field) (ns : List ℕ) (n : ℕ) → Within done ns
    → field_lines before (done ++ f ∷ fs) (ns ++ n ∷ []) ≡ field_lines before (done ++ f ∷ fs) ns ++ line_of f.name (decimal n)
field-behind before [] fs f [] n w =
    field-lines-next before f fs n []
    ∙ field-lines-none (before ++ line_of f.name (decimal n)) fs
    ∙ ap (λ (x : List ℕ). x ++ line_of f.name (decimal n)) (sym (field-lines-none before (f ∷ fs)))
field-behind before [] fs f (m ∷ ns) n w = absurd w
field-behind before (g ∷ done) fs f [] n w = absurd w
field-behind before (g ∷ done) fs f (m ∷ ns) n w =
    field-lines-next before g (done ++ f ∷ fs) m (ns ++ n ∷ [])
    ∙ field-behind (before ++ line_of g.name (decimal m)) done fs f ns n w.1
    ∙ ap (λ (x : List ℕ). x ++ line_of f.name (decimal n)) (sym (field-lines-next before g (done ++ f ∷ fs) m ns))

within-behind : (done : List Field) (f : Field) (ns : List ℕ) (n : ℕ) → Within done ns → n ≤ f.most → Within (done ++ f ∷ []) (ns ++ n ∷ [])
within-behind [] f [] n w h = (h, refl)
within-behind [] f (m ∷ ns) n w h = absurd w
within-behind (g ∷ done) f [] n w h = absurd w
within-behind (g ∷ done) f (m ∷ ns) n w h = (w.0, within-behind done f ns n w.1 h)

-- five of them are a table
table_of : (ns : List ℕ) (count : ℕ) → Within table_fields ns
    → CountFits (table_from ns) count × (table_lines (table_from ns) count ≡ field_lines [] table_fields ns ++ line "count=" (digits 10 count_digits count))
table_of [] count w = absurd w
table_of (a ∷ []) count w = absurd w.1
table_of (a ∷ b ∷ []) count w = absurd w.1.1
table_of (a ∷ b ∷ c ∷ []) count w = absurd w.1.1.1
table_of (a ∷ b ∷ c ∷ d ∷ []) count w = absurd w.1.1.1.1
table_of (a ∷ b ∷ c ∷ d ∷ e ∷ []) count w = (
  record { session = w.0; serial = w.1.0; refresh = w.1.1.0; retry = w.1.1.1.0; expire = w.1.1.1.1.0 },
  table-lines-are (record { session = a; serial = b; refresh = c; retry = d; expire = e }) count,
)
table_of (a ∷ b ∷ c ∷ d ∷ e ∷ (x ∷ ns)) count w = absurd w.1.1.1.1.1

-- ---- records

all_one : (r : Record) → all_lines (r ∷ []) ≡ record_lines r
all_one r = all_first r [] ∙ ap (λ (x : List ℕ). record_lines r ++ x) all_none ∙ append-nil (record_lines r)

front-none : (h : Head) → front h [] ≡ head_lines h
front-none h = ap (λ (x : List ℕ). head_lines h ++ x) all_none ∙ append-nil (head_lines h)

front-behind : (h : Head) (t : List Record) (r : Record) → front h (t ++ r ∷ []) ≡ front h t ++ record_lines r
front-behind h t r =
    ap (λ (x : List ℕ). head_lines h ++ x) (all_append t (r ∷ []) ∙ ap (λ (x : List ℕ). all_lines t ++ x) (all_one r))
    ∙ sym (append_assoc (head_lines h) (all_lines t) (record_lines r))

all-fit-behind : {t : List Record} {r : Record} → AllFit t → WordsFit r → AllFit (t ++ r ∷ [])
all-fit-behind none w = one w none
all-fit-behind (one x a) w = one x (all-fit-behind a w)

-- a record's parts are what was read
module _ (f : ℕ) (w : Words) (l m n : ℕ) (low : l ≤ 255) (high : m ≤ 255) where
  abbrev r : Record
  r = record_of f w l m n

  family-of : family_of r ≡ f
  family-of = omega arith

  address-alike : address_of r ≡ address_of (record_of f w 0 0 0)
  address-alike = go (eqb f 4) refl
    where
      go : (c : Bool) → eqb f 4 ≡ c → address_of r ≡ address_of (record_of f w 0 0 0)
      go true c = four-address r (family-of ∙ eqb-true f 4 c) ∙ sym (four-address (record_of f w 0 0 0) (family-is f w ∙ eqb-true f 4 c))
      go false c =
          other-address r (λ h. eqb-false f 4 c (sym family-of ∙ h))
          ∙ sym (other-address (record_of f w 0 0 0) (λ h. eqb-false f 4 c (sym (family-is f w) ∙ h)))

  pub record-so : record_lines r ≡ max_so f w l m ++ line "asn=" (decimal n)
  record-so =
      let prefix : prefix_of r ≡ l = omega arith in
      let max : max_of r ≡ m = omega arith in
      record-lines-are r
      ∙ (λ i.
      line "family=" (decimal (family-of i)) ++ line "address=" (address-alike i) ++ line "length=" (decimal (prefix i)) ++ line "max=" (decimal (max i))
      ++ line "asn=" (decimal n))

-- ---- where each line leads

-- a record's next line
so-next : (s so name b : List ℕ) → ended b ≡ name → s ++ (so ++ name) ≡ s ++ so ++ ended b
so-next s so name b e = sym (append_assoc s so name) ∙ ap (λ (x : List ℕ). s ++ so ++ x) (sym e)

next-leads : (limit : ℕ) (h : Head) (t : List Record) → Behind limit h t → length t ≤ h.count → Leads limit (front h t) (next_record h t)
next-leads limit h t g few = go (ltb (length t) h.count) refl
  where
    go : (c : Bool) → ltb (length t) h.count ≡ c → Leads limit (front h t) (cond c (family_due h t) (end_due h t))
    go true c = (refl, (g, ltb-true (length t) h.count c))
    go false c = (refl, (g, omega (arith, ltb-false (length t) h.count c)))

module _ (limit : ℕ) (b : List ℕ) (p : Due) where
  number-leads : (n : ℕ) (ns : List ℕ) (f : Field) (fs : List Field) → Good limit (numbers_due n ns (f ∷ fs))
      → on_numbers count_widths limit n ns (f ∷ fs) b ≡ fits p
      → Leads limit (written (numbers_due n ns (f ∷ fs)) ++ ended b) p
  number-leads n ns f fs g e =
      let k = number-line (λ x. numbers_due n (ns ++ x ∷ []) fs) f.name (λ x. leb x f.most) b p e in
      let done : List Field = g.1.0 in
      let behind : field_lines [] table_fields (ns ++ k.0 ∷ []) ≡ field_lines [] table_fields ns ++ ended b =
      ap (λ (x : List Field). field_lines [] x (ns ++ k.0 ∷ [])) g.1.1
      ∙ field-behind [] done fs f ns k.0 g.1.2
      ∙ (λ i. field_lines [] (sym g.1.1 i) ns ++ sym k.1 i) in
      subst (Leads limit (written (numbers_due n ns (f ∷ fs)) ++ ended b)) (sym k.3) (
        ap (λ (x : List ℕ). line "stopped=" (decimal n) ++ x) behind
            ∙ sym (append_assoc (line "stopped=" (decimal n)) (field_lines [] table_fields ns) (ended b)),
        (g.0, (done ++ f ∷ [], g.1.1 ∙ sym (append_snoc done f fs), within-behind done f ns k.0 g.1.2 (leb-true k.0 f.most k.2))),
      )

  count-leads : (n : ℕ) (ns : List ℕ) → Good limit (numbers_due n ns []) → on_numbers count_widths limit n ns [] b ≡ fits p
      → Leads limit (written (numbers_due n ns []) ++ ended b) p
  count-leads n ns g e =
      let k =
      named-line (λ c. next_record (record { stopped = n; table = table_from ns; count = c }) []) (text "count=") (count_in count_widths limit)
      (digits 10 count_digits) b p
      (λ s c f. (count_fits limit s c f).0) e in
      let h : Head = record { stopped = n; table = table_from ns; count = k.0 } in
      let low = count_fits limit k.1 k.0 k.3 in
      let all : table_fields ≡ g.1.0 = g.1.1 ∙ append-nil g.1.0 in
      let t = table_of ns k.0 (subst (λ (x : List Field). Within x ns) (sym all) g.1.2) in
      let next = next-leads limit h []
      (record { head = record { stopped = g.0; info = t.0; within = low.2; written = low.1 }; table = empty-table; words = none }) (omega arith) in
      let lines : head_lines h ≡ line "stopped=" (decimal n) ++ field_lines [] table_fields ns ++ ended b =
      head-lines-are h
      ∙ ap (λ (x : List ℕ). line "stopped=" (decimal n) ++ x) (t.1 ∙ ap (λ (x : List ℕ). field_lines [] table_fields ns ++ x) (sym k.2))
      ∙ sym (append_assoc (line "stopped=" (decimal n)) (field_lines [] table_fields ns) (ended b)) in
      subst (Leads limit (written (numbers_due n ns []) ++ ended b)) (sym k.4) (next.0 ∙ front-none h ∙ lines, next.1)

  numbers-lead : (n : ℕ) (ns : List ℕ) (fs : List Field) → Good limit (numbers_due n ns fs) → on_numbers count_widths limit n ns fs b ≡ fits p
      → Leads limit (written (numbers_due n ns fs) ++ ended b) p
  numbers-lead n ns [] g e = count-leads n ns g e
  numbers-lead n ns (f ∷ fs) g e = number-leads n ns f fs g e

  second-leads : (n : ℕ) → may_stop n ≡ true → on_line count_widths limit (second_due n) b ≡ fits p → Leads limit (line "stopped=" (decimal n) ++ ended b) p
  second-leads n g e = go (same_text b (text "count=none")) refl e
    where
      go : (c : Bool) → same_text b (text "count=none") ≡ c
          → cond c (fits (end_due (without_table n) [])) (on_numbers count_widths limit n [] table_fields b) ≡ fits p
          → Leads limit (line "stopped=" (decimal n) ++ ended b) p
      go true c k =
          let to : end_due (without_table n) [] ≡ p = cc in
          let none-line : line "count=" (text "none") ≡ ended b = line-is (text "count=") (text "none") ∙ ap ended (sym (same-equal b (text "count=none") c)) in
          let lines : head_lines (without_table n) ≡ line "stopped=" (decimal n) ++ ended b =
          head-lines-are (without_table n) ∙ ap (λ (x : List ℕ). line "stopped=" (decimal n) ++ x) (no-table-line 0 ∙ none-line) in
          subst (Leads limit (line "stopped=" (decimal n) ++ ended b)) to (
            front-none (without_table n) ∙ lines,
            (record { head = record { stopped = g; info = refl; within = omega arith; written = omega arith }; table = empty-table; words = none }, refl),
          )
      go false c k =
          let l = numbers-lead n [] table_fields (g, ([], refl, refl)) k in
          let before : line "stopped=" (decimal n) ++ field_lines [] table_fields [] ≡ line "stopped=" (decimal n) =
          ap (λ (x : List ℕ). line "stopped=" (decimal n) ++ x) (field-lines-none [] table_fields) ∙ append-nil (line "stopped=" (decimal n)) in
          (l.0 ∙ ap (λ (x : List ℕ). x ++ ended b) before, l.1)

  asn-leads : (h : Head) (t : List Record) (f : ℕ) (w : Words) (l m : ℕ) → Good limit (asn_due h t f w l m)
      → on_line count_widths limit (asn_due h t f w l m) b ≡ fits p
      → Leads limit (written (asn_due h t f w l m) ++ ended b) p
  asn-leads h t f w l m g e =
      let k = number-line (λ n. next_record h (t ++ record_of f w l m n ∷ [])) (text "asn=")
      (λ n. leb n 4294967295 && ordered (t ++ record_of f w l m n ∷ [])) b p e in
      let r : Record = record_of f w l m k.0 in
      let at : AtFamily limit h t = g.0.0.0.0 in
      let words : AreWords f w = g.0.0.1 in
      let in-rule : in_rule r ≡ true = ruled f w words.digits.0 l m k.0 g.0.0.0.1 words.digits.1 g.0.1 g.1.0 g.1.1 in
      let order : ordered (t ++ r ∷ []) ≡ true = second-of (leb k.0 4294967295) _ k.2 in
      let low : k.0 ≤ 4294967295 = leb-true k.0 4294967295 (first_of (leb k.0 4294967295) _ k.2) in
      let next =
      next-leads limit h (t ++ r ∷ [])
      (record {
        head = at.0.head;
        table = table-last r t at.0.table in-rule order;
        words = all-fit-behind at.0.words (record { w0 = words.w0; w1 = words.w1; w2 = words.w2; w3 = words.w3; asn = low });
      })
      (omega (arith, length-append t (r ∷ []), at.1)) in
      let lines : front h (t ++ r ∷ []) ≡ front h t ++ max_so f w l m ++ ended b =
      front-behind h t r ∙ ap (λ (x : List ℕ). front h t ++ x) (record-so f w l m k.0 g.0.1 g.1.0)
      ∙ so-next (front h t) (max_so f w l m) _ b k.1 in
      subst (Leads limit (front h t ++ max_so f w l m ++ ended b)) (sym k.3) (next.0 ∙ lines, next.1)

  pub leads : (from : Due) → Good limit from → on_line count_widths limit from b ≡ fits p → Leads limit (written from ++ ended b) p
  leads stop_due g e =
      let k = number-line second_due (text "stopped=") may_stop b p e in
      subst (Leads limit (ended b)) (sym k.3) (sym k.1, k.2)
  leads (second_due n) g e = second-leads n g e
  leads (numbers_due n ns fs) g e = numbers-lead n ns fs g e
  leads (family_due h t) g e =
      let k = number-line (address_due h t) (text "family=") (λ n. eqb n 4 || eqb n 6) b p e in
      subst (Leads limit (front h t ++ ended b)) (sym k.3) (ap (λ (x : List ℕ). front h t ++ x) (sym k.1), (g, k.2))
  leads (address_due h t f) g e =
      let k = address_line (length_due h t f) f b p e in
      subst (Leads limit (front h t ++ family_so f ++ ended b)) (sym k.3) (so-next (front h t) (family_so f) _ b k.1, (g, k.2))
  leads (length_due h t f w) g e =
      let k = number-line (max_due h t f w) (text "length=") (λ n. leb n 255) b p e in
      subst (Leads limit (front h t ++ address_so f w ++ ended b)) (sym k.3) (so-next (front h t) (address_so f w) _ b k.1, (g, leb-true k.0 255 k.2))
  leads (max_due h t f w l) g e =
      let k = number-line (asn_due h t f w l) (text "max=") (λ n. leb n 255 && (leb l n && leb n (widest f))) b p e in
      subst (Leads limit (front h t ++ length_so f w l ++ ended b)) (sym k.3) (
        so-next (front h t) (length_so f w l) _ b k.1,
        (g, (leb-true k.0 255 (first_of (leb k.0 255) _ k.2), second-of (leb k.0 255) _ k.2)),
      )
  leads (asn_due h t f w l m) g e = asn-leads h t f w l m g e
  leads (end_due h t) g e = let z : ◌≡◌ {A = ℕ} 0 1 = cc in absurd (omega arith)
