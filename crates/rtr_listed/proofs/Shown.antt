-- What a listing writes is read: its lines, one behind another, lead from the first place to the end, where the values fit. Assumes nothing.
use Rattle.std.specs.Prelude.{Option, Some, None}
use Prim.Native.Nat.{ℕ, suc, ◌≤◌}
use mathlib.Core.Bool.{Bool, true, false, cond, ◌&&◌, ◌||◌}
use mathlib.Core.List.{List, [], ◌∷◌, ◌++◌, append_assoc, append-nil}
use mathlib.Core.Logic.{◌⊎◌, inl, inr}
use mathlib.Core.Path.{◌≡◌, refl, sym, ap, ◌∙◌, subst}
use native.Mathlib.Omega.{arith}
use borrow.Author.Tests.{leb-true, le-leb, eq-eqb, ne_eqb, lt-ltb, le-ltb}
use lib.Dec.{leb, ltb, eqb}
use lib.ListN.{length, take, drop, length-append}
use lib.Seq.{append_snoc, take_at, drop_at}
use Rattle.rtr_room.specs.Table.{is_table, all_in_rule, in_rule, ordered, family_of, prefix_of, max_of, ipv4_record, WordsFit, AllFit}
use Rattle.rtr_room.specs.Table.AllFit.{one}
use Rattle.rtr_room.specs.declared.Record.{Record}
use Rattle.rtr_room.proofs.Laws.{kind-is, in-rule-four, in-rule-family, in-rule-lengths, ipv4-in-rule, ordered-front, all-in-rule-append, all-in-rule-one}
use Rattle.rtr_room.proofs.Laws.Tests.{first_of, second-of, both}
use Rattle.rtr_listing.specs.Listing.{Field, text, digits, decimal, count_digits, line_of, line, table_fields, table_numbers, field_lines, table_lines, head_lines, address_of, record_lines, all_lines}
use Rattle.rtr_listing.specs.Digits.{value_of, hex_of}
use Rattle.rtr_listing.specs.declared.Head.{Head}
use Rattle.rtr_listing.proofs.Laws.{line-is, head-lines-are, no-table-line, table-lines-are, field-lines-next, field-lines-none, record-lines-are, all_none, all_first, decimal-is-number, count-is-number, count-length, digits-are-decimal, digits-length, hex-is-number, four-address, other-address, four-length, other_length, address-lower-case}
use Rattle.rtr_listed.specs.Listed.{Fit, Due, Listed, lines_of, fitting, leading, same_text, named, number_in, count_widths, count_in, record_of, word_at, address_in, next_record, may_stop, without_table, widest, on_line, or_misfit, read_from, listing_text}
use Rattle.rtr_listed.specs.Listed.Fit.{fits}
use Rattle.rtr_listed.specs.Listed.Due.{stop_due, second_due, numbers_due, family_due, address_due, length_due, max_due, asn_due, end_due}
use Rattle.rtr_listed.specs.Listed.Read.{listed}
use Rattle.rtr_listed.specs.Fits.{InfoFits, ListingFits}
use Rattle.rtr_listed.specs.Private.{line_gives}
use Rattle.rtr_listed.specs.declared.Words.{Words}
use Rattle.rtr_listed.proofs.Texts.{same_refl, named_value}
use Rattle.rtr_listed.proofs.Numbers.{count_yes, stop-low}
use Rattle.rtr_listed.proofs.Addresses.{four-yes, six-yes}
use Rattle.rtr_listed.proofs.Heads.{none_reads, second-off}
use Rattle.rtr_listed.proofs.Feeds.{no_feed, no-feed-append, decimal-no-feed, hex-no-feed, line_first}
use Rattle.rtr_listed.proofs.Written.{Within, ended}
use Rattle.rtr_receiver.specs.declared.Table.{Table}

-- a text is read from a place on, whatever the number of its first line
abbrev pub Reads : ℕ → Due → List ℕ → Listed → Type 0
Reads limit p s v = (n : ℕ) → read_from count_widths limit p n (lines_of s) ≡ listed v

-- ---- a line

line_reads : (limit : ℕ) (p next : Due) (b rest : List ℕ) (v : Listed) → no_feed b ≡ true → on_line count_widths limit p b ≡ fits next
    → Reads limit next rest v → Reads limit p (ended b ++ rest) v
unfolding read_from
line_reads limit p next b rest v plain e r n =
    ap (λ (x : List ℕ). read_from count_widths limit p n (lines_of x)) (append_snoc b 10 rest)
    ∙ ap (read_from count_widths limit p n) (line_first b rest plain)
    ∙ ap (λ (x : Fit Due). or_misfit n x (λ q. read_from count_widths limit q (suc n) (lines_of rest))) e
    ∙ r (suc n)

-- of a name and a value
module _ {A : Type 0} (limit : ℕ) (p : Due) (name : List ℕ) (reads : List ℕ → Fit A) (next : A → Due) where
  value-reads : ((b : List ℕ) → on_line count_widths limit p b ≡ leading next (named name reads b)) → no_feed name ≡ true
      → (value : List ℕ) (a : A) (rest : List ℕ) (v : Listed) → no_feed value ≡ true → reads value ≡ fits a → Reads limit (next a) rest v
      → Reads limit p (line_of name value ++ rest) v
  value-reads is plain value a rest v plain' e r =
      let here : on_line count_widths limit p (name ++ value) ≡ fits (next a) = is (name ++ value) ∙ ap (leading next) (named_value name value reads ∙ e) in
      subst (λ (x : List ℕ). Reads limit p (x ++ rest) v) (sym (line-is name value))
      (line_reads limit p (next a) (name ++ value) rest v (no-feed-append name value plain plain') here r)

-- of a number that is allowed there
number-shown : (q : ℕ → Bool) (n : ℕ) → n ≤ 4294967295 → q n ≡ true → number_in q (decimal n) ≡ fits n
unfolding number_in
number-shown q n low may =
    let is : value_of (decimal n) 0 ≡ n = decimal-is-number n (omega arith) in
    ap (λ (k : ℕ). fitting (same_text (decimal n) (decimal k) && q k) k) is ∙ (λ i. fitting (same_refl (decimal n) i && may i) n)

module _ (limit : ℕ) (p : Due) (name : List ℕ) (q : ℕ → Bool) (next : ℕ → Due) where
  number-reads : ((b : List ℕ) → on_line count_widths limit p b ≡ leading next (named name (number_in q) b)) → no_feed name ≡ true
      → (n : ℕ) (rest : List ℕ) (v : Listed) → n ≤ 4294967295 → q n ≡ true → Reads limit (next n) rest v → Reads limit p (line_of name (decimal n) ++ rest) v
  number-reads is plain n rest v low may r =
      value-reads limit p name (number_in q) next is plain (decimal n) n rest v (decimal-no-feed (decimal n) (digits-are-decimal _ n))
      (number-shown q n low may) r

-- ---- a record

-- the words of a record
abbrev words_of : Record → Words
words_of r = record { w0 = r.w0; w1 = r.w1; w2 = r.w2; w3 = r.w3 }

-- eight digits of a text that are those of a number
word-shown : (s a c : List ℕ) (at n : ℕ) → n ≤ 4294967295 → s ≡ a ++ (digits 16 8 n ++ c) → length a ≡ at → word_at s at ≡ n
word-shown s a c at n low e l =
    let eight : take 8 (drop at s) ≡ digits 16 8 n =
    ap (λ (x : List ℕ). take 8 (drop at x)) e ∙ ap (take 8) (drop_at a (digits 16 8 n ++ c) at l) ∙ take_at (digits 16 8 n) c 8 (digits-length 16 8 n) in
    ap (λ (x : List ℕ). hex_of x 0) eight ∙ hex-is-number n (omega arith)

address-shown : (r : Record) → in_rule r ≡ true → WordsFit r → address_in (family_of r) (address_of r) ≡ fits (words_of r)
address-shown r rule fit = go (in-rule-family r rule)
  where
    go : (family_of r ≡ 4) ⊎ (family_of r ≡ 6) → address_in (family_of r) (address_of r) ≡ fits (words_of r)
    go (inl four) =
        let made : r ≡ ipv4_record (prefix_of r) (max_of r) r.w0 r.asn = in-rule-four r rule four in
        let w0 : word_at (address_of r) 0 ≡ r.w0 = word-shown (address_of r) [] [] 0 r.w0 fit.w0
        (four-address r four ∙ sym (append-nil (digits 16 8 r.w0))) refl in
        four-yes (family_of r) (address_of r) four (four-length r four) (address-lower-case r)
        ∙ (λ i. fits (record { w0 = w0 i; w1 = (sym made i).w1; w2 = (sym made i).w2; w3 = (sym made i).w3 }))
    go (inr six) =
        let other : family_of r ≡ 4 → ⊥ = λ h. omega (arith, six, h) in
        let parts = other-address r other in
        let d0 : List ℕ = digits 16 8 r.w0 in
        let d1 : List ℕ = digits 16 8 r.w1 in
        let d2 : List ℕ = digits 16 8 r.w2 in
        let d3 : List ℕ = digits 16 8 r.w3 in
        let l0 : length d0 ≡ 8 = digits-length 16 8 r.w0 in
        let l1 : length d1 ≡ 8 = digits-length 16 8 r.w1 in
        let l2 : length d2 ≡ 8 = digits-length 16 8 r.w2 in
        let w0 : word_at (address_of r) 0 ≡ r.w0 = word-shown (address_of r) [] (d1 ++ (d2 ++ d3)) 0 r.w0 fit.w0 (parts ∙ simp append_assoc) refl in
        let w1 : word_at (address_of r) 8 ≡ r.w1 = word-shown (address_of r) d0 (d2 ++ d3) 8 r.w1 fit.w1 (parts ∙ simp append_assoc) l0 in
        let w2 : word_at (address_of r) 16 ≡ r.w2 = word-shown (address_of r) (d0 ++ d1) d3 16 r.w2 fit.w2 (parts ∙ simp append_assoc)
        (omega (arith, length-append d0 d1)) in
        let w3 : word_at (address_of r) 24 ≡ r.w3 =
        word-shown (address_of r) (d0 ++ d1 ++ d2) [] 24 r.w3 fit.w3 (parts ∙ simp (append_assoc, append-nil))
        (omega (arith, length-append (d0 ++ d1) d2, length-append d0 d1)) in
        six-yes (family_of r) (address_of r) other (other_length r other) (address-lower-case r)
        ∙ (λ i. fits (record { w0 = w0 i; w1 = w1 i; w2 = w2 i; w3 = w3 i }))

-- what a record in rule has at `max=`
max-allowed : (r : Record) → in_rule r ≡ true → leb (max_of r) 255 && (leb (prefix_of r) (max_of r) && leb (max_of r) (widest (family_of r))) ≡ true
max-allowed r rule =
    let lengths = in-rule-lengths r rule in
    both _ _ (le-leb (max_of r) 255 (omega (arith, lengths.1))) (both _ _ (le-leb (prefix_of r) (max_of r) lengths.0) (go (in-rule-family r rule)))
  where
    go : (family_of r ≡ 4) ⊎ (family_of r ≡ 6) → leb (max_of r) (widest (family_of r)) ≡ true
    go (inl four) =
        let made : leb (prefix_of r) (max_of r) && leb (max_of r) 32 ≡ true =
        sym (ipv4-in-rule (prefix_of r) (max_of r) (omega arith) (omega arith) r.w0 r.asn) ∙ ap in_rule (sym (in-rule-four r rule four)) ∙ rule in
        ap (λ (x : Bool). leb (max_of r) (cond x 32 128)) (eq-eqb (family_of r) 4 four) ∙ second-of (leb (prefix_of r) (max_of r)) _ made
    go (inr six) =
        ap (λ (x : Bool). leb (max_of r) (cond x 32 128)) (ne_eqb (family_of r) 4 (λ h. omega (arith, six, h))) ∙ le-leb (max_of r) 128 (in-rule-lengths r rule).1

family-allowed : (r : Record) → in_rule r ≡ true → eqb (family_of r) 4 || eqb (family_of r) 6 ≡ true
family-allowed r rule = go (in-rule-family r rule)
  where
    go : (family_of r ≡ 4) ⊎ (family_of r ≡ 6) → eqb (family_of r) 4 || eqb (family_of r) 6 ≡ true
    go (inl four) = ap (λ (n : ℕ). eqb n 4 || eqb n 6) four
    go (inr six) = ap (λ (n : ℕ). eqb n 4 || eqb n 6) six

family-small : (r : Record) → in_rule r ≡ true → family_of r ≤ 4294967295
family-small r rule = go (in-rule-family r rule)
  where
    go : (family_of r ≡ 4) ⊎ (family_of r ≡ 6) → family_of r ≤ 4294967295
    go (inl four) = omega (arith, four)
    go (inr six) = omega (arith, six)

module _ (limit : ℕ) (h : Head) (t : List Record) (r : Record) (rest : List ℕ) (v : Listed) where
  record-reads : in_rule r ≡ true → WordsFit r → ordered (t ++ r ∷ []) ≡ true → Reads limit (next_record h (t ++ r ∷ [])) rest v
      → Reads limit (family_due h t) (record_lines r ++ rest) v
  unfolding no_feed
  record-reads rule fit order next =
      let f : ℕ = family_of r in
      let w : Words = words_of r in
      let l : ℕ = prefix_of r in
      let m : ℕ = max_of r in
      let same : r ≡ record_of f w l m r.asn = λ i. record { kind = kind-is r i; w0 = r.w0; w1 = r.w1; w2 = r.w2; w3 = r.w3; asn = r.asn } in
      let at-asn : Reads limit (asn_due h t f w l m) (line "asn=" (decimal r.asn) ++ rest) v =
      number-reads limit (asn_due h t f w l m) (text "asn=") (λ n. leb n 4294967295 && ordered (t ++ record_of f w l m n ∷ []))
      (λ n. next_record h (t ++ record_of f w l m n ∷ [])) (λ b. refl) refl
      r.asn rest v fit.asn
      (both _ _ (le-leb r.asn 4294967295 fit.asn) (ap (λ (x : Record). ordered (t ++ x ∷ [])) (sym same) ∙ order))
      (subst (λ (x : Record). Reads limit (next_record h (t ++ x ∷ [])) rest v) same next) in
      let at-max : Reads limit (max_due h t f w l) (line "max=" (decimal m) ++ (line "asn=" (decimal r.asn) ++ rest)) v =
      number-reads limit (max_due h t f w l) (text "max=") (λ n. leb n 255 && (leb l n && leb n (widest f))) (asn_due h t f w l) (λ b. refl) refl m _ v
      (omega arith) (max-allowed r rule) at-asn in
      let at_length : Reads limit (length_due h t f w) (line "length=" (decimal l) ++ (line "max=" (decimal m) ++ (line "asn=" (decimal r.asn) ++ rest))) v =
      number-reads limit (length_due h t f w) (text "length=") (λ n. leb n 255) (max_due h t f w) (λ b. refl) refl l _ v (omega arith)
      (le-leb l 255 (omega arith)) at-max in
      let at_address : Reads limit (address_due h t f)
      (line "address=" (address_of r) ++ (line "length=" (decimal l) ++ (line "max=" (decimal m) ++ (line "asn=" (decimal r.asn) ++ rest)))) v =
      value-reads limit (address_due h t f) (text "address=") (address_in f) (length_due h t f) (λ b. refl) refl (address_of r) w _ v
      (hex-no-feed (address_of r) (address-lower-case r)) (address-shown r rule fit) at_length in
      let at-family =
      number-reads limit (family_due h t) (text "family=") (λ n. eqb n 4 || eqb n 6) (address_due h t) (λ b. refl) refl f _ v (family-small r rule)
      (family-allowed r rule) at_address in
      subst (λ (x : List ℕ). Reads limit (family_due h t) x v) (sym (ap (λ (x : List ℕ). x ++ rest) (record-lines-are r) ∙ simp append_assoc)) at-family

-- ---- all records

all_read : (limit : ℕ) (h : Head) (t u : List Record) → is_table (t ++ u) ≡ true → AllFit u → length (t ++ u) ≡ h.count
    → Reads limit (next_record h t) (all_lines u) (record { stopped = h.stopped; table = h.table; records = t ++ u })
unfolding read_from lines_of
all_read limit h t [] table fit long = λ n.
    let same : t ++ [] ≡ t = append-nil t in
    let last : ltb (length t) h.count ≡ false = le-ltb (length t) h.count (omega (arith, ap length same)) in
    (λ i. read_from count_widths limit (cond (last i) (family_due h t) (end_due h t)) n (lines_of (all_none i)))
    ∙ ap (λ (x : List Record). listed (record { stopped = h.stopped; table = h.table; records = x })) (sym same)
all_read limit h t (r ∷ u) table (one x fit) long =
    let v : Listed = record { stopped = h.stopped; table = h.table; records = t ++ r ∷ u } in
    let same : t ++ r ∷ [] ++ u ≡ t ++ r ∷ u = append_snoc t r u in
    let rules = sym (all-in-rule-append t (r ∷ u)) ∙ first_of (all_in_rule (t ++ r ∷ u)) _ table in
    let rule : in_rule r ≡ true = first_of (in_rule r) _ (sym (all-in-rule-one r u) ∙ second-of (all_in_rule t) _ rules) in
    let order : ordered (t ++ r ∷ []) ≡ true = ordered-front (t ++ r ∷ []) u (ap ordered same ∙ second-of (all_in_rule (t ++ r ∷ u)) _ table) in
    let more : ltb (length t) h.count ≡ true = lt-ltb (length t) h.count (omega (arith, length-append t (r ∷ u))) in
    let next = all_read limit h (t ++ r ∷ []) u (ap (λ (y : List Record). is_table y) same ∙ table) fit (ap length same ∙ long) in
    let here : Reads limit (next_record h (t ++ r ∷ [])) (all_lines u) v =
    subst
    (λ (y : List Record). Reads limit (next_record h (t ++ r ∷ [])) (all_lines u) (record { stopped = h.stopped; table = h.table; records = y })) same next in
    subst (λ (b : Bool). Reads limit (cond b (family_due h t) (end_due h t)) (all_lines (r ∷ u)) v) (sym more)
    (subst (λ (y : List ℕ). Reads limit (family_due h t) y v) (sym (all_first r u)) (record-reads limit h t r (all_lines u) v rule x order here))

-- ---- the head

-- fields whose names are plain and whose numbers are of 32 bits
abbrev Ready : List Field → Type 0
Ready [] = ◌≡◌ {A = ℕ} 0 0
Ready (f ∷ fs) = (no_feed f.name ≡ true) × (f.most ≤ 4294967295) × Ready fs

all-ready : Ready table_fields
unfolding no_feed
all-ready = (refl, omega arith, (refl, omega arith, (refl, omega arith, (refl, omega arith, (refl, omega arith, refl)))))

fields-from : (before : List ℕ) (fs : List Field) (ns : List ℕ) → Within fs ns → field_lines before fs ns ≡ before ++ field_lines [] fs ns
fields-from before [] [] w = field-lines-none before [] ∙ sym (append-nil before) ∙ ap (λ (x : List ℕ). before ++ x) (sym (field-lines-none [] []))
fields-from before [] (n ∷ ns) w = absurd w
fields-from before (f ∷ fs) [] w = absurd w
fields-from before (f ∷ fs) (n ∷ ns) w =
    field-lines-next before f fs n ns
    ∙ fields-from (before ++ line_of f.name (decimal n)) fs ns w.1
    ∙ append_assoc before (line_of f.name (decimal n)) (field_lines [] fs ns)
    ∙ ap (λ (x : List ℕ). before ++ x) (sym (field-lines-next [] f fs n ns ∙ fields-from (line_of f.name (decimal n)) fs ns w.1))

-- the first field's line, and the others'
fields-first : (f : Field) (fs : List Field) (n : ℕ) (ns rest : List ℕ) → Within fs ns
    → field_lines [] (f ∷ fs) (n ∷ ns) ++ rest ≡ line_of f.name (decimal n) ++ (field_lines [] fs ns ++ rest)
fields-first f fs n ns rest w =
    ap (λ (x : List ℕ). x ++ rest) (field-lines-next [] f fs n ns ∙ fields-from (line_of f.name (decimal n)) fs ns w)
    ∙ append_assoc (line_of f.name (decimal n)) (field_lines [] fs ns) rest

fields_read : (limit stopped : ℕ) (done : List ℕ) (fs : List Field) (ns rest : List ℕ) (v : Listed) → Ready fs → Within fs ns
    → Reads limit (numbers_due stopped (done ++ ns) []) rest v
    → Reads limit (numbers_due stopped done fs) (field_lines [] fs ns ++ rest) v
fields_read limit stopped done [] [] rest v a w r =
    subst (λ (x : List ℕ). Reads limit (numbers_due stopped done []) (x ++ rest) v) (sym (field-lines-none [] []))
    (subst (λ (x : List ℕ). Reads limit (numbers_due stopped x []) rest v) (append-nil done) r)
fields_read limit stopped done [] (n ∷ ns) rest v a w r = absurd w
fields_read limit stopped done (f ∷ fs) [] rest v a w r = absurd w
fields_read limit stopped done (f ∷ fs) (n ∷ ns) rest v a w r =
    subst (λ (x : List ℕ). Reads limit (numbers_due stopped done (f ∷ fs)) x v) (sym (fields-first f fs n ns rest w.1))
    (number-reads limit (numbers_due stopped done (f ∷ fs)) f.name (λ k. leb k f.most) (λ k. numbers_due stopped (done ++ k ∷ []) fs) (λ b. refl) a.0
    n _ v (omega (arith, w.0, a.1)) (le-leb n f.most w.0)
    (fields_read limit stopped (done ++ n ∷ []) fs ns rest v a.2 w.1
    (subst (λ (x : List ℕ). Reads limit (numbers_due stopped x []) rest v) (sym (append_snoc done n ns)) r)))

-- the line of a table's first number is not that of no table
second_reads : (limit stopped n : ℕ) (s rest : List ℕ) (v : Listed) → s ≡ line "session=" (decimal n) ++ rest
    → Reads limit (numbers_due stopped [] table_fields) s v → Reads limit (second_due stopped) s v
unfolding same_text no_feed
second_reads limit stopped n s rest v e r k =
    let b : List ℕ = text "session=" ++ decimal n in
    let plain : no_feed b ≡ true = no-feed-append (text "session=") (decimal n) refl (decimal-no-feed (decimal n) (digits-are-decimal _ n)) in
    let lines : lines_of s ≡ record { bytes = b; ended = true } ∷ lines_of rest =
    ap lines_of (e ∙ ap (λ (x : List ℕ). x ++ rest) (line-is (text "session=") (decimal n)) ∙ append_snoc b 10 rest) ∙ line_first b rest plain in
    second-off limit stopped (lines_of s) k (ap (line_gives none_reads) lines) ∙ r k

count-shown : (limit n : ℕ) → n ≤ limit → n ≤ 1024 → count_in count_widths limit (digits 10 count_digits n) ≡ fits n
count-shown limit n within low =
    let is : value_of (digits 10 count_digits n) 0 ≡ n = count-is-number n (omega arith) in
    count_yes limit (digits 10 count_digits n) (count-length n) (digits-are-decimal count_digits n) (omega (arith, is)) (omega (arith, is))
    ∙ ap (λ (x : ℕ). fits x) is

table-reads : (limit stopped : ℕ) (x : Option Table) (t : List Record) (rest : List ℕ) (v : Listed) → InfoFits x t → length t ≤ limit → length t ≤ 1024
    → Reads limit (next_record (record { stopped = stopped; table = x; count = length t }) []) rest v
    → Reads limit (second_due stopped) (table_lines x (length t) ++ rest) v
unfolding same_text no_feed
table-reads limit stopped None t rest v info within low r =
    subst (λ (x : List ℕ). Reads limit (second_due stopped) (x ++ rest) v) (sym (no-table-line (length t) ∙ line-is (text "count=") (text "none")))
    (line_reads limit (second_due stopped) (end_due (without_table stopped) []) (text "count=none") rest v refl refl
    (subst (λ (n : ℕ). Reads limit (next_record (record { stopped = stopped; table = None; count = n }) []) rest v) (ap length info) r))
table-reads limit stopped (Some t) u rest v info within low r =
    let w : Within table_fields (table_numbers t) = (info.session, (info.serial, (info.refresh, (info.retry, (info.expire, refl))))) in
    let count : List ℕ = line "count=" (digits 10 count_digits (length u)) in
    let lines : table_lines (Some t) (length u) ++ rest ≡ field_lines [] table_fields (table_numbers t) ++ (count ++ rest) =
    ap (λ (x : List ℕ). x ++ rest) (table-lines-are t (length u)) ∙ append_assoc (field_lines [] table_fields (table_numbers t)) count rest in
    let at_count : Reads limit (numbers_due stopped (table_numbers t) []) (count ++ rest) v =
    value-reads limit (numbers_due stopped (table_numbers t) []) (text "count=") (count_in count_widths limit)
    (λ n. next_record (record { stopped = stopped; table = Some t; count = n }) [])
    (λ b. refl) refl (digits 10 count_digits (length u)) (length u) rest v (decimal-no-feed _ (digits-are-decimal count_digits (length u)))
    (count-shown limit (length u) within low) r in
    subst (λ (x : List ℕ). Reads limit (second_due stopped) x v) (sym lines)
    (second_reads limit stopped t.session _ _ v (fields-first _ _ t.session _ (count ++ rest) w.1)
    (fields_read limit stopped [] table_fields (table_numbers t) (count ++ rest) v all-ready w at_count))

-- ---- the whole

pub text-is : (v : Listed) → listing_text v ≡ head_lines (record { stopped = v.stopped; table = v.table; count = length v.records }) ++ all_lines v.records
unfolding listing_text
text-is v = refl

pub text-reads : (limit : ℕ) (v : Listed) → ListingFits limit v → Reads limit stop_due (listing_text v) v
unfolding no_feed
text-reads limit v f =
    let h : Head = record { stopped = v.stopped; table = v.table; count = length v.records } in
    let stop : List ℕ = line "stopped=" (decimal v.stopped) in
    let lines : listing_text v ≡ stop ++ (table_lines v.table (length v.records) ++ all_lines v.records) =
    text-is v ∙ ap (λ (x : List ℕ). x ++ all_lines v.records) (head-lines-are h)
    ∙ append_assoc stop (table_lines v.table (length v.records)) (all_lines v.records) in
    let low : v.stopped ≤ 19 = leb-true v.stopped 19 (stop-low v.stopped f.stopped) in
    subst (λ (x : List ℕ). Reads limit stop_due x v) (sym lines)
    (number-reads limit stop_due (text "stopped=") may_stop second_due (λ b. refl) refl v.stopped _ v (omega arith) f.stopped
    (table-reads limit v.stopped v.table v.records (all_lines v.records) v f.info f.within f.written
    (all_read limit h [] v.records f.table f.words refl)))
