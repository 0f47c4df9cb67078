-- The quick engine's turns, on the room of a table: what holds where the walk and the run begin, what each turn keeps, and what it comes to
-- where they end. By what `Walks` says of tables. Assumes nothing.
use Prim.Native.Nat.{ℕ, ◌+◌, ◌-◌, ◌*◌, ◌/◌, ◌%◌, ◌≤◌, ◌<◌}
use mathlib.Core.Bool.{Bool, true, false}
use mathlib.Core.List.{List, [], ◌∷◌}
use mathlib.Core.Logic.{⊎_elim}
use mathlib.Core.Path.{◌≡◌, refl, sym, ap, ◌∙◌, subst}
use native.Mathlib.Omega.{arith}
use lib.Dec.{ltb}
use lib.ListN.{length, get_or}
use borrow.Author.Tests.{ltb-true, ltb-false, leb-true}
use Rattle.rtr_room.specs.Table.{family_of, prefix_of, max_of, rank}
use Rattle.rtr_room.specs.Room.{records, record_at, is_room, limit_of}
use Rattle.rtr_room.specs.declared.Record.{Record}
use Rattle.rtr_room.proofs.Laws.Tests.{not-both}
use Rattle.rtr_origin.specs.Origin.{words, words_in, family_in, agree, covers}
use Rattle.rtr_origin.specs.Private.{cut, up_to, plain, Under, HighProbe, LowProbe}
use Rattle.rtr_origin.specs.Judged.{Asks, Common, Jumps, covers_by, strength, probe_of, cut_word}
use Rattle.rtr_origin.specs.declared.Route.{Route}
use Rattle.rtr_origin.proofs.Bits.{cut_word_lem, cut-nothing}
use Rattle.rtr_origin.proofs.Judging.{uncovered, silent, covers-is}
use Rattle.rtr_origin.proofs.Tabled.{table_is, length-is, record_is}
use Rattle.rtr_origin.proofs.Walks.{before-probe, under-first-probe, jump-misses-none, too-short-ends, other-family-ends, run-reaches}

lt_of_ne : {m n : ℕ} → m ≤ n → (m ≡ n → ⊥) → m < n
lt_of_ne {m} {n} h f = go (ltb m n) refl
  where
    go : (b : Bool) → ltb m n ≡ b → m < n
    go true e = ltb-true m n e
    go false e = absurd (f (omega (arith, ltb-false m n e)))

-- ---- probes

module _ (a : Record) (b low asn : ℕ) (l : low < 65536) where
  pub probe-words : words (probe_of a b low asn) ≡ cut b (words a)
  unfolding probe_of
  probe-words =
      sym (cut_word_lem b a.w0 _ ∙ ap (λ (w : List ℕ). cut_word b a.w0 ∷ w) (cut_word_lem (b - 32) a.w1 _
      ∙ ap (λ (w : List ℕ). cut_word (b - 32) a.w1 ∷ w) (cut_word_lem (b - 32 - 32) a.w2 _
      ∙ ap (λ (w : List ℕ). cut_word (b - 32 - 32) a.w2 ∷ w) (cut_word_lem (b - 32 - 32 - 32) a.w3 []
      ∙ ap (λ (w : List ℕ). cut_word (b - 32 - 32 - 32) a.w3 ∷ w) (cut-nothing (b - 32 - 32 - 32 - 32))))))

  probe-family : family_of (probe_of a b low asn) ≡ family_of a
  unfolding probe_of
  probe-family = omega arith

  probe-prefix : prefix_of (probe_of a b low asn) ≡ low / 256
  unfolding probe_of
  probe-prefix = omega arith

  probe-max : max_of (probe_of a b low asn) ≡ low % 256
  unfolding probe_of
  probe-max = omega arith

  probe-asn : (probe_of a b low asn).asn ≡ asn
  unfolding probe_of
  probe-asn = refl

module _ (q : Route) (a : Record) (k : Asks q a) where
  high-probe : (b : ℕ) → b ≤ 255 → HighProbe (family_in q.prefix) b (words_in q.prefix) (probe_of a b (b * 256 + 255) 4294967295)
  high-probe b h = record {
    family-is = probe-family a b (b * 256 + 255) 4294967295 (omega arith) ∙ k.family-is;
    words_are = probe-words a b (b * 256 + 255) 4294967295 (omega arith) ∙ ap (cut b) k.words_are;
    prefix-is = probe-prefix a b (b * 256 + 255) 4294967295 (omega arith) ∙ omega arith;
    max-is = probe-max a b (b * 256 + 255) 4294967295 (omega arith) ∙ omega arith;
  }

  low-probe : (b : ℕ) → LowProbe (family_in q.prefix) b (words_in q.prefix) (probe_of a b 0 0)
  low-probe b = record {
    family-is = probe-family a b 0 0 (omega arith) ∙ k.family-is;
    words_are = probe-words a b 0 0 (omega arith) ∙ ap (cut b) k.words_are;
    prefix-is = probe-prefix a b 0 0 (omega arith);
    max-is = probe-max a b 0 0 (omega arith);
    asn-is = probe-asn a b 0 0 (omega arith);
  }

-- ---- where a walk stands

-- records below the place are of no later family, and those of the family up to the route; plain records from the place on were judged
pub record Going (a : Record) (s : List ℕ) (count best p : ℕ) : Type 0 where
  pub below : (i : ℕ) → i < p → (family_of (record_at s i) ≤ family_of a) × (family_of (record_at s i) ≡ family_of a → up_to (words (record_at s i)) (words a) ≡ true)
  pub judged : (i : ℕ) → p ≤ i → i < count → plain (record_at s i) ≡ true → strength a (record_at s i) ≤ best

module _ (s : List ℕ) (count : ℕ) (h : is_room (limit_of s) count s ≡ true) (q : Route) (a : Record) (k : Asks q a) where
  abbrev t : List Record
  t = records count s

  abbrev d : Record
  d = record_at s 0

  at : (i : ℕ) → i < count → record_at s i ≡ get_or t i d
  at i l = record_is s count h i d l

  inside : (i : ℕ) → i < count → i < length t
  inside i l = omega (arith, length-is s count h)

  covers_at : (i : ℕ) → i < count → covers q (get_or t i d) ≡ covers_by a (record_at s i)
  covers_at i l = ap (covers q) (sym (at i l)) ∙ covers-is q a k (record_at s i)

  plain_at : (i : ℕ) → i < count → plain (get_or t i d) ≡ plain (record_at s i)
  plain_at i l = ap plain (sym (at i l))

  family-at : (i : ℕ) → i < count → family_of (record_at s i) ≡ family_of a → family_of (get_or t i d) ≡ family_in q.prefix
  family-at i l e = ap family_of (sym (at i l)) ∙ e ∙ k.family-is

  words-at : (i : ℕ) → i < count → words (get_or t i d) ≡ words (record_at s i)
  words-at i l = ap words (sym (at i l))

  -- what does not cover is below every strength
  quiet : (i n : ℕ) → (covers_by a (record_at s i) ≡ true → ⊥) → strength a (record_at s i) ≤ n
  quiet i n f = go (covers_by a (record_at s i)) refl
    where
      go : (b : Bool) → covers_by a (record_at s i) ≡ b → strength a (record_at s i) ≤ n
      go true e = absurd (f e)
      go false e = omega (arith, uncovered a (record_at s i) e)

  unless-covers : (i n : ℕ) → i < count → covers q (get_or t i d) ≡ false → strength a (record_at s i) ≤ n
  unless-covers i n l f = quiet i n (λ e. not-both _ (covers_at i l ∙ e) f)

  first-probe : HighProbe (family_in q.prefix) q.length (words_in q.prefix) (probe_of a (prefix_of a) (prefix_of a * 256 + 255) 4294967295)
  first-probe =
      subst (λ (n : ℕ). HighProbe (family_in q.prefix) n (words_in q.prefix) (probe_of a (prefix_of a) (prefix_of a * 256 + 255) 4294967295)) k.length-is
      (high-probe q a k (prefix_of a) (omega arith))

  pub starts : (p : ℕ) → p ≡ rank (probe_of a (prefix_of a) (prefix_of a * 256 + 255) 4294967295) t → p ≤ count → Going a s count 0 p
  starts p e m = record {
    below = λ i l.
        let b = before-probe q t (table_is s count h) d _ (prefix_of a) i (high-probe q a k (prefix_of a) (omega arith)) (omega arith) in
        let c : i < count = omega arith in
        (omega (arith, b.0, ap family_of (at i c), k.family-is), λ f. rw (sym (words-at i c), k.words_are) (b.1 (family-at i c f)));
    judged = λ i l c f. quiet i 0 (λ g.
        omega (arith, under-first-probe q t (table_is s count h) d _ i first-probe (inside i c) (plain_at i c ∙ f) (covers_at i c ∙ g), e));
  }

  -- a record that covers and does not match is judged
  pub covered : (best p : ℕ) → 0 < p → best ≤ 1 → strength a (record_at s (p - 1)) ≡ 1 → Going a s count best p → Going a s count 1 (p - 1)
  covered best p z m e g = record { below = λ i l. g.below i (omega arith); judged = λ i l c f. go i l c f (ltb i p) refl }
    where
      go : (i : ℕ) → p - 1 ≤ i → i < count → plain (record_at s i) ≡ true → (b : Bool) → ltb i p ≡ b → strength a (record_at s i) ≤ 1
      go i l c f true w =
          let n : i ≡ p - 1 = omega (arith, ltb-true i p w) in
          rw n (omega (arith, e))
      go i l c f false w = omega (arith, g.judged i (ltb-false i p w) c f)

  module _ (best p : ℕ) (z : 0 < p) (m : p ≤ count) (g : Going a s count best p) where
    last : p - 1 < count
    last = omega arith

    -- below a record of another family none covers
    pub ends-at-family : (family_of (record_at s (p - 1)) ≡ family_of a → ⊥) → (i : ℕ) → i < count → plain (record_at s i) ≡ true → strength a (record_at s i) ≤ best
    ends-at-family f i c e = go (ltb i p) refl
      where
        go : (b : Bool) → ltb i p ≡ b → strength a (record_at s i) ≤ best
        go true w =
            let lower : family_of (get_or t (p - 1) d) < family_in q.prefix = rw (sym (at (p - 1) last), sym k.family-is) (lt_of_ne (g.below (p - 1) (omega arith)).0 f) in
            unless-covers i best c (other-family-ends q t (table_is s count h) d i (p - 1) (omega (arith, ltb-true i p w)) (inside (p - 1) last) lower)
        go false w = g.judged i (ltb-false i p w) c e

    -- a jump from a record that does not cover passes over no plain one that does
    module _ (f : family_of (record_at s (p - 1)) ≡ family_of a) (v : strength a (record_at s (p - 1)) ≡ 0) (least loose : ℕ) (u : Under least loose q t) where
      near : up_to (words (get_or t (p - 1) d)) (words_in q.prefix) ≡ true
      near = rw (words-at (p - 1) last, sym k.words_are) ((g.below (p - 1) (omega arith)).1 f)

      not-it : covers q (get_or t (p - 1) d) ≡ false
      not-it = covers_at (p - 1) last ∙ silent a (record_at s (p - 1)) v

      at_most : (b : ℕ) → Common (words (record_at s (p - 1))) (words a) b → (l : ℕ) → l ≤ 128 → agree l (words (get_or t (p - 1) d)) (words_in q.prefix) ≡ true → l ≤ b
      at_most b w l n e =
          leb-true l b (sym (w.exactly l (omega arith)) ∙ (rw (sym (words-at (p - 1) last), k.words_are) e))

      pub jumped : (bits to : ℕ) → Common (words (record_at s (p - 1))) (words a) bits → to < p → Jumps least a bits s count p to → Going a s count best to
      jumped bits to m l j = record { below = λ i w. g.below i (omega arith); judged = λ i w c e. go i w c e (ltb i p) refl (ltb bits least) refl }
        where
          searched : (i : ℕ) → to ≤ i → (c : i < count) → plain (record_at s i) ≡ true → i < p → to ≡ rank (probe_of a bits (bits * 256 + 255) 4294967295) t → strength a (record_at s i) ≤ best
          searched i w c e x z =
              quiet i best (λ o.
              omega (
                arith,
                jump-misses-none q t (table_is s count h) d _ i (p - 1) bits (high-probe q a k bits m.within) (omega arith) (inside (p - 1) last)
                    (family-at (p - 1) last f) near not-it (at_most bits m) (plain_at i c ∙ e) (covers_at i c ∙ o),
                z,
              ))

          -- the next place down passes over the record that was looked at alone
          stepped : (i : ℕ) → to ≤ i → i < p → to ≡ p - 1 → strength a (record_at s i) ≤ best
          stepped i w x z =
              let n : i ≡ p - 1 = omega arith in
              rw n (omega (arith, v))

          go : (i : ℕ) → to ≤ i → i < count → plain (record_at s i) ≡ true → (b : Bool) → ltb i p ≡ b → (b' : Bool) → ltb bits least ≡ b' → strength a (record_at s i) ≤ best
          go i w c e false x b' y = g.judged i (ltb-false i p x) c e
          go i w c e true x true y =
              unless-covers i best c
              (too-short-ends q t (table_is s count h) d least loose i (p - 1) bits u (ltb-true _ _ y) (omega (arith, ltb-true i p x)) (inside (p - 1) last)
              (family-at (p - 1) last f) near not-it (at_most bits m) (plain_at i c ∙ e))
          go i w c e true x false y = ⊎_elim (searched i w c e (ltb-true i p x)) (stepped i w (ltb-true i p x)) (j.goes (ltb-false _ _ y))

  -- ---- the run

  module _ (least loose : ℕ) (u : Under least loose q t) (lo : loose ≤ 255) (from i best : ℕ) (r : from ≡ rank (probe_of a loose 0 0) t) (done : (j : ℕ) → from ≤ j → j < i → strength a (record_at s j) ≤ best) where
    reached : (m : ℕ) → m < count → plain (record_at s m) ≡ false → covers_by a (record_at s m) ≡ true
        → (from ≤ m) × ((j : ℕ) → from ≤ j → j ≤ m → (family_of (record_at s j) ≡ family_of a) × (agree loose (words (record_at s j)) (words a) ≡ true))
    reached m c e o =
        let w = run-reaches q t (table_is s count h) d _ least loose m u (low-probe q a k loose) (inside m c) (plain_at m c ∙ e) (covers_at m c ∙ o) in (
          omega (arith, w.1),
          λ j x y.
              let v = w.2 j (omega arith) y in
              let z : j < count = omega arith in
              (ap family_of (at j z) ∙ v.0 ∙ sym k.family-is, rw (ap words (at j z), k.words_are) v.1),
        )

    -- the run ended: at the table's end, at another family, or at fewer bits in common
    module _ (m : ℕ) (c : m < count) (e : plain (record_at s m) ≡ false) where
      before-end : i ≤ m → ((family_of (record_at s i) ≡ family_of a) → (agree loose (words (record_at s i)) (words a) ≡ true) → ⊥) → from ≤ i → strength a (record_at s m) ≤ best
      before-end n f b = quiet m best (λ o. let w = (reached m c e o).1 i b n in f w.0 w.1)

      in-time : m < i → strength a (record_at s m) ≤ best
      in-time n = go (covers_by a (record_at s m)) refl
        where
          go : (b : Bool) → covers_by a (record_at s m) ≡ b → strength a (record_at s m) ≤ best
          go true o = done m (reached m c e o).0 n
          go false o = omega (arith, uncovered a (record_at s m) o)

      pub run_ends : from ≤ i → ((i < count) → (family_of (record_at s i) ≡ family_of a) → (agree loose (words (record_at s i)) (words a) ≡ true) → ⊥) → strength a (record_at s m) ≤ best
      run_ends b f = go (ltb m i) refl
        where
          go : (x : Bool) → ltb m i ≡ x → strength a (record_at s m) ≤ best
          go true w = in-time (ltb-true m i w)
          go false w = before-end (ltb-false m i w) (f (omega (arith, ltb-false m i w))) b

  -- where the second number is over the route's length, no record with host bits covers
  pub none-loose : (least loose : ℕ) → Under least loose q t → prefix_of a < loose → (n m : ℕ) → m < count → plain (record_at s m) ≡ false → strength a (record_at s m) ≤ n
  none-loose least loose u o n m c e =
      quiet m n (λ g.
      omega (arith, (run-reaches q t (table_is s count h) d _ least loose m u (low-probe q a k loose) (inside m c) (plain_at m c ∙ e) (covers_at m c ∙ g)).0, k.length-is))
