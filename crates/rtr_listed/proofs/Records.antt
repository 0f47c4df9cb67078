-- A record's five lines, one behind another: what is read from the first on is what is read from behind the last, and a record whose lines all fit is in rule and above all before it. Assumes nothing.
use Prim.Native.Nat.{ℕ, ◌≤◌}
use mathlib.Core.Bool.{Bool, true, false, cond, ◌&&◌, ◌||◌}
use mathlib.Core.List.{List, [], ◌∷◌, ◌++◌}
use mathlib.Core.Path.{◌≡◌, refl, sym, ap, ◌∙◌, subst}
use native.Mathlib.Omega.{arith}
use borrow.Author.Tests.{le-leb, eqb-true}
use lib.Dec.{leb, eqb}
use Rattle.rtr_room.specs.Table.{in_rule, ordered}
use Rattle.rtr_room.specs.declared.Record.{Record}
use Rattle.rtr_room.proofs.Laws.{ipv4-in-rule, ipv6-in-rule}
use Rattle.rtr_room.proofs.Laws.Tests.{first_of, second-of}
use Rattle.rtr_listing.specs.Listing.{text}
use Rattle.rtr_listed.specs.Listed.{Due, named, number_in, record_of, word_at, words_in, address_in, widest, next_record}
use Rattle.rtr_listed.specs.Private.{lines_at, Near, Took, NumberTook, WordsTook, narrowed, RecordTook}
use Rattle.rtr_listed.specs.declared.Cursor.{Cursor}
use Rattle.rtr_listed.specs.declared.NumberRead.{NumberRead}
use Rattle.rtr_listed.specs.declared.Words.{Words}
use Rattle.rtr_listed.specs.declared.WordsRead.{WordsRead}
use Rattle.rtr_listed.proofs.Cursors.{took-stands, took-fits, gives-allowed, gives-words, narrow-took}

-- ---- in rule

ruled-four : (w : Words) (l m n : ℕ) → l ≤ 255 → m ≤ 255 → leb l m && leb m 32 ≡ true → w.w1 ≡ 0 → w.w2 ≡ 0 → w.w3 ≡ 0 → in_rule (record_of 4 w l m n) ≡ true
ruled-four w l m n low high rule e1 e2 e3 =
    (λ i. in_rule (record_of 4 (record { w0 = w.w0; w1 = e1 i; w2 = e2 i; w3 = e3 i }) l m n)) ∙ ipv4-in-rule l m (omega arith) (omega arith) w.w0 n ∙ rule

ruled-six : (w : Words) (l m n : ℕ) → l ≤ 255 → m ≤ 255 → leb l m && leb m 128 ≡ true → in_rule (record_of 6 w l m n) ≡ true
ruled-six w l m n low high rule = ipv6-in-rule l m (omega arith) (omega arith) w.w0 w.w1 w.w2 w.w3 n ∙ rule

pub ruled : (f : ℕ) (w : Words) (s : List ℕ) (l m n : ℕ) → eqb f 4 || eqb f 6 ≡ true → w ≡ words_in f s → l ≤ 255 → m ≤ 255 → leb l m && leb m (widest f) ≡ true → in_rule (record_of f w l m n) ≡ true
ruled f w s l m n may words low high rule = go (eqb f 4) refl may
  where
    go : (b : Bool) → eqb f 4 ≡ b → b || eqb f 6 ≡ true → in_rule (record_of f w l m n) ≡ true
    go true e k =
        let four : f ≡ 4 = eqb-true f 4 e in
        let zeros : w ≡ record { w0 = word_at s 0; w1 = 0; w2 = 0; w3 = 0 } = words ∙ simp e in
        let rule' : leb l m && leb m 32 ≡ true = sym (ap (λ (b : Bool). leb l m && leb m (cond b 32 128)) e) ∙ rule in
        ap (λ (x : ℕ). in_rule (record_of x w l m n)) four
        ∙ ruled-four w l m n low high rule' (ap (λ (x : Words). x.w1) zeros) (ap (λ (x : Words). x.w2) zeros) (ap (λ (x : Words). x.w3) zeros)
    go false e k =
        let rule' : leb l m && leb m 128 ≡ true = sym (ap (λ (b : Bool). leb l m && leb m (cond b 32 128)) e) ∙ rule in
        ap (λ (x : ℕ). in_rule (record_of x w l m n)) (eqb-true f 6 k) ∙ ruled-six w l m n low high rule'

-- ---- the five lines

module _ (s : List ℕ) (c : Cursor) (t : List Record) (family : NumberRead) (address : WordsRead) (shortest longest asn : NumberRead) where
  abbrev f : ℕ
  f = family.value

  abbrev w : Words
  w = address.words

  abbrev l : ℕ
  l = shortest.value

  abbrev m : ℕ
  m = longest.value

  abbrev entry : ℕ → Record
  entry n = record_of f w l m n

  abbrev above : ℕ → Bool
  above n = leb n 4294967295 && ordered (t ++ entry n ∷ [])

  pub record-took : (next : Cursor)
      → NumberTook (named (text "family=") (number_in (λ n. eqb n 4 || eqb n 6))) s c 6 family
      → WordsTook (named (text "address=") (address_in f)) s family.next address
      → NumberTook (named (text "length=") (number_in (λ n. leb n 255))) s address.next 255 shortest
      → NumberTook (named (text "max=") (number_in (λ n. leb n 255 && (leb l n && leb n (widest f))))) s shortest.next 255 longest
      → NumberTook (named (text "asn=") (number_in (λ n. leb n 4294967295))) s longest.next 4294967295 asn
      → next ≡ (narrowed longest.next asn (ordered (t ++ entry asn.value ∷ []))).next
      → RecordTook s c t (record { entry = entry asn.value; next = next })
  record-took next tf ta tl tm tn e =
      let n : ℕ = asn.value in
      let low : leb n 4294967295 ≡ true = le-leb n 4294967295 tn.1.0 in
      let test : ordered (t ++ entry n ∷ []) ≡ above n = sym (ap (λ (b : Bool). b && ordered (t ++ entry n ∷ [])) low) in
      let last = narrow-took s longest.next (text "asn=") 4294967295 above (λ k h. first_of (leb k 4294967295) _ h) asn tm.1.1.at tn in
      let at : next ≡ (narrowed longest.next asn (above n)).next = e ∙ ap (λ (b : Bool). (narrowed longest.next asn b).next) test in
      let value-is : (narrowed longest.next asn (above n)).value ≡ n = value-kept longest.next asn (above n) in
      let tn' : Took (named (text "asn=") (number_in above)) s longest.next n next =
      subst (λ (x : Cursor). Took (named (text "asn=") (number_in above)) s longest.next n x) (sym at)
      (subst (λ (k : ℕ). Took (named (text "asn=") (number_in above)) s longest.next k (narrowed longest.next asn (above n)).next) value-is last.0) in
      let near : Near s 1 longest.next next = subst (λ (x : Cursor). Near s 1 longest.next x) (sym at) last.1.1 in
      record {
        stands = λ limit h.
            took-stands (named (text "family=") (number_in (λ k. eqb k 4 || eqb k 6))) (Due.address_due h t) limit (Due.family_due h t) (λ b. refl) (λ k. refl) s c f family.next tf.0
            ∙ took-stands (named (text "address=") (address_in f)) (Due.length_due h t f) limit (Due.address_due h t f) (λ b. refl) (λ k. refl) s family.next w address.next ta.0
            ∙ took-stands (named (text "length=") (number_in (λ k. leb k 255))) (Due.max_due h t f w) limit (Due.length_due h t f w) (λ b. refl) (λ k. refl) s address.next l shortest.next tl.0
            ∙ took-stands (named (text "max=") (number_in (λ k. leb k 255 && (leb l k && leb k (widest f))))) (Due.asn_due h t f w l) limit (Due.max_due h t f w l) (λ b. refl) (λ k. refl) s shortest.next m longest.next tm.0
            ∙ took-stands (named (text "asn=") (number_in above)) (λ k. next_record h (t ++ entry k ∷ [])) limit (Due.asn_due h t f w l m) (λ b. refl) (λ k. refl) s longest.next n next tn';
        ordered = λ on. second-of (leb n 4294967295) _ (gives-allowed (text "asn=") above (lines_at s longest.next) n (took-fits (named (text "asn=") (number_in above)) s longest.next n next tn' on).1);
        ruled = λ on.
            let at-max = (took-fits (named (text "asn=") (number_in above)) s longest.next n next tn' on).0 in
            let the-max = took-fits (named (text "max=") (number_in (λ k. leb k 255 && (leb l k && leb k (widest f))))) s shortest.next m longest.next tm.0 at-max in
            let the-length = took-fits (named (text "length=") (number_in (λ k. leb k 255))) s address.next l shortest.next tl.0 the-max.0 in
            let the-address = took-fits (named (text "address=") (address_in f)) s family.next w address.next ta.0 the-length.0 in
            let the_family = took-fits (named (text "family=") (number_in (λ k. eqb k 4 || eqb k 6))) s c f family.next tf.0 the-address.0 in
            let words = gives-words (text "address=") f (lines_at s family.next) w the-address.1 in
            ruled f w words.0 l m n
            (gives-allowed (text "family=") (λ k. eqb k 4 || eqb k 6) (lines_at s c) f the_family.1)
            words.1 tl.1.0 tm.1.0
            (second-of (leb m 255) _ (gives-allowed (text "max=") (λ k. leb k 255 && (leb l k && leb k (widest f))) (lines_at s shortest.next) m the-max.1));
        near = record { at = near.at; line = omega (arith, near.line, tm.1.1.line, tl.1.1.line, ta.1.line, tf.1.1.line) };
      }
    where
      value-kept : (x : Cursor) (r : NumberRead) (b : Bool) → (narrowed x r b).value ≡ r.value
      value-kept x r true = refl
      value-kept x r false = refl
