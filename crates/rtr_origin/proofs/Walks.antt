-- What the quick engine does not miss: a record without host bits that covers stands before the walk's probe and stays before each probe that
-- the walk jumps to; one with host bits stands in the unbroken run from the run's probe on. By the order of records, `between` and `cut-least`.
-- Assumes nothing.
use Prim.Native.Nat.{ℕ, zero, suc, ◌≤◌, ◌<◌}
use mathlib.Core.Bool.{Bool, true, false, ◌||◌}
use mathlib.Core.List.{List, [], ◌∷◌, ◌++◌}
use mathlib.Core.Logic.{◌⊎◌, inl, inr}
use mathlib.Core.Path.{◌≡◌, refl, sym, ◌∙◌, subst}
use native.Mathlib.Omega.{arith}
use borrow.Author.Tests.{ltb-true, ltb-false}
use lib.Dec.{ltb}
use lib.ListN.{length, get_or}
use Rattle.rtr_room.specs.Table.{family_of, prefix_of, max_of, key, before, ordered, all_in_rule, is_table, rank}
use Rattle.rtr_room.specs.declared.Record.{Record}
use Rattle.rtr_room.proofs.Laws.{before-exactly, ordered_at, in-rule-at, in-rule-lengths}
use Rattle.rtr_room.proofs.Laws.Keys.{Lower}
use Rattle.rtr_room.proofs.Laws.Order.{Sides, sides}
use Rattle.rtr_room.proofs.Laws.Order.Sides.{before-it, the_same, behind-it}
use Rattle.rtr_room.proofs.Laws.Ranks.{before-rank, from-rank}
use Rattle.rtr_room.proofs.Laws.Tests.{first_of, second-of, not-both, unless}
use Rattle.rtr_origin.specs.Origin.{words, words_in, family_in, agree, covers, matches, any, state_of}
use Rattle.rtr_origin.specs.Private.{cut, up_to, plain, Under, HighProbe, LowProbe, AtMost}
use Rattle.rtr_origin.specs.declared.Route.{Route}
use Rattle.rtr_origin.specs.declared.RouteState.TheVariants.{NotFound, Valid, Invalid}
use Rattle.rtr_origin.proofs.Addresses.{agree-sym, agree_trans, agree-shorter, up_to-refl, up_to-trans, between, cut-length, cut-agrees, cut-under, cut-least, cut-grows, covers-parts, four-words, plain-is-cut, up-here, up_next, up-head, up-tail}

-- ---- keys: family, address, and what stands behind it

-- a lower key begins with an address that is up to the other's
lower-up : (xs ys us vs : List ℕ) → length xs ≡ length ys → Lower (xs ++ us) (ys ++ vs) → up_to xs ys ≡ true
unfolding up_to
lower-up [] ys us vs n l = refl
lower-up (x ∷ xs) [] us vs n l = absurd (omega arith)
lower-up (x ∷ xs) (y ∷ ys) us vs n (inl h) = up-here x y xs ys h
lower-up (x ∷ xs) (y ∷ ys) us vs n (inr (e, r)) = up_next x y xs ys e (lower-up xs ys us vs (omega arith) r)

-- an address up to another makes a lower key, if what stands behind does where they are equal
up-lower : (xs ys us vs : List ℕ) → length xs ≡ length ys → up_to xs ys ≡ true → (xs ≡ ys → Lower us vs) → Lower (xs ++ us) (ys ++ vs)
up-lower [] [] us vs n e f = f refl
up-lower [] (y ∷ ys) us vs n e f = absurd (omega arith)
up-lower (x ∷ xs) [] us vs n e f = absurd (omega arith)
up-lower (x ∷ xs) (y ∷ ys) us vs n e f = go (ltb x y) refl (up-lower xs ys us vs (omega arith))
  where
    go : (b : Bool) → ltb x y ≡ b → (up_to xs ys ≡ true → (xs ≡ ys → Lower us vs) → Lower (xs ++ us) (ys ++ vs))
        → (x < y) ⊎ ((x ≡ y) × Lower (xs ++ us) (ys ++ vs))
    go true g rest = inl (ltb-true x y g)
    go false g rest =
        let a = up-head x y xs ys e in
        let b = ltb-false x y g in
        let s : x ≡ y = omega arith in
        inr (s, rest (up-tail x y xs ys e s) (λ (p : xs ≡ ys). f (cc)))

-- a lower key whose address is not lower is lower in what stands behind
lower-behind : (xs ys us vs : List ℕ) → length xs ≡ length ys → up_to ys xs ≡ true → Lower (xs ++ us) (ys ++ vs) → Lower us vs
lower-behind [] [] us vs n e l = l
lower-behind [] (y ∷ ys) us vs n e l = absurd (omega arith)
lower-behind (x ∷ xs) [] us vs n e l = absurd (omega arith)
lower-behind (x ∷ xs) (y ∷ ys) us vs n e (inl h) = let a = up-head y x ys xs e in absurd (omega arith)
lower-behind (x ∷ xs) (y ∷ ys) us vs n e (inr (s, r)) = lower-behind xs ys us vs (omega arith) (up-tail y x ys xs e (sym s)) r

-- what stands behind the address
abbrev behind : Record → List ℕ
behind r = prefix_of r ∷ max_of r ∷ r.asn ∷ []

pub before-family : (a b : Record) → before a b ≡ true → family_of a ≤ family_of b
before-family a b e = go ((before-exactly a b).0 e)
  where
    go : Lower (key a) (key b) → family_of a ≤ family_of b
    go (inl h) = omega arith
    go (inr (f, r)) = omega arith

before-words : (a b : Record) → before a b ≡ true → family_of a ≡ family_of b → Lower (words a ++ behind a) (words b ++ behind b)
before-words a b e f = go ((before-exactly a b).0 e)
  where
    go : Lower (key a) (key b) → Lower (words a ++ behind a) (words b ++ behind b)
    go (inl h) = absurd (omega arith)
    go (inr (g, r)) = r

words-before : (a b : Record) → family_of a ≡ family_of b → Lower (words a ++ behind a) (words b ++ behind b) → before a b ≡ true
words-before a b f r = (before-exactly a b).1 (inr (f, r))

pub before-up : (a b : Record) → before a b ≡ true → family_of a ≡ family_of b → up_to (words a) (words b) ≡ true
before-up a b e f = lower-up (words a) (words b) (behind a) (behind b) refl (before-words a b e f)

module _ (q : Route) (t : List Record) (h : is_table t ≡ true) (d : Record) where
  pub in_order : ordered t ≡ true
  in_order = second-of (all_in_rule t) (ordered t) h

  -- places in order have families in order, and addresses in order within one
  pub families-up : (i j : ℕ) → i ≤ j → j < length t → family_of (get_or t i d) ≤ family_of (get_or t j d)
  families-up i j l m = go (ltb i j) refl
    where
      go : (b : Bool) → ltb i j ≡ b → family_of (get_or t i d) ≤ family_of (get_or t j d)
      go true e = before-family (get_or t i d) (get_or t j d) (ordered_at d t i j in_order (ltb-true i j e) m)
      go false e =
          let k = ltb-false i j e in
          let s : i ≡ j = omega arith in
          rw s (omega arith)

  pub addresses-up : (i j : ℕ) → i ≤ j → j < length t → family_of (get_or t i d) ≡ family_of (get_or t j d) → up_to (words (get_or t i d)) (words (get_or t j d)) ≡ true
  addresses-up i j l m f = go (ltb i j) refl
    where
      go : (b : Bool) → ltb i j ≡ b → up_to (words (get_or t i d)) (words (get_or t j d)) ≡ true
      go true e = before-up (get_or t i d) (get_or t j d) (ordered_at d t i j in_order (ltb-true i j e) m) f
      go false e =
          let k = ltb-false i j e in
          let s : i ≡ j = omega arith in
          subst (λ (n : ℕ). up_to (words (get_or t i d)) (words (get_or t n d)) ≡ true) s (up_to-refl (words (get_or t i d)))

  -- what stands before a probe of the family is up to the route's address, or of a lower family
  pub before-probe : (k : Record) (b i : ℕ) → HighProbe (family_in q.prefix) b (words_in q.prefix) k → i < rank k t
      → (family_of (get_or t i d) ≤ family_in q.prefix) × (family_of (get_or t i d) ≡ family_in q.prefix → up_to (words (get_or t i d)) (words_in q.prefix) ≡ true)
  before-probe k b i p l =
      let e : before (get_or t i d) k ≡ true = before-rank k d t i in_order l in
      let f = before-family (get_or t i d) k e in
      let g = p.family-is in (
        omega arith,
        λ (s : family_of (get_or t i d) ≡ family_in q.prefix).
            up_to-trans (words (get_or t i d)) (words k) (words_in q.prefix) (before-up (get_or t i d) k e (s ∙ sym g))
            (subst (λ (x : List ℕ). up_to x (words_in q.prefix) ≡ true) (sym p.words_are) (cut-under b (words_in q.prefix))),
      )

  -- a plain record that covers and is no longer than b stands before the probe of b; every one that covers is no longer than the route
  pub plain-before-probe : (k : Record) (b i : ℕ) → HighProbe (family_in q.prefix) b (words_in q.prefix) k → i < length t
      → plain (get_or t i d) ≡ true → covers q (get_or t i d) ≡ true → prefix_of (get_or t i d) ≤ b → i < rank k t
  plain-before-probe k b i p l pl co n = go (ltb i (rank k t)) refl
    where
      r : Record
      r = get_or t i d

      a : List ℕ
      a = words_in q.prefix

      up : up_to (words r) (words k) ≡ true
      up =
          subst (λ (x : List ℕ). up_to x (words k) ≡ true) (sym (plain-is-cut q r pl co))
          (subst (λ (x : List ℕ). up_to (cut (prefix_of r) a) x ≡ true) (sym p.words_are) (cut-grows (prefix_of r) b a n))

      tail : Lower (behind r) (behind k)
      tail = go (ltb (prefix_of r) (prefix_of k)) refl
        where
          go : (c : Bool) → ltb (prefix_of r) (prefix_of k) ≡ c → Lower (behind r) (behind k)
          go true e = inl (ltb-true _ _ e)
          go false e =
              let f = ltb-false (prefix_of r) (prefix_of k) e in
              let m = (in-rule-lengths r (in-rule-at d t i h l)).1 in
              let x = p.prefix-is in
              let y = p.max-is in
              inr (omega arith, inl (omega arith))

      is-before : before r k ≡ true
      is-before = words-before r k ((covers-parts q r co).0 ∙ sym p.family-is) (up-lower (words r) (words k) (behind r) (behind k) refl up (λ e. tail))

      go : (c : Bool) → ltb i (rank k t) ≡ c → i < rank k t
      go true e = ltb-true i (rank k t) e
      go false e = absurd (not-both _ is-before (from-rank k d t i in_order (ltb-false i (rank k t) e) l))

  pub under-first-probe : (k : Record) (i : ℕ) → HighProbe (family_in q.prefix) q.length (words_in q.prefix) k → i < length t
      → plain (get_or t i d) ≡ true → covers q (get_or t i d) ≡ true → i < rank k t
  under-first-probe k i p l pl co = plain-before-probe k q.length i p l pl co (covers-parts q (get_or t i d) co).1

  -- record j is of the family, up to the route's address and does not cover; what covers before it is no longer than the bits that j has in common
  pub no_longer : (i j b : ℕ) → i ≤ j → j < length t → family_of (get_or t j d) ≡ family_in q.prefix → up_to (words (get_or t j d)) (words_in q.prefix) ≡ true
      → covers q (get_or t j d) ≡ false → AtMost b (words (get_or t j d)) (words_in q.prefix) → covers q (get_or t i d) ≡ true → prefix_of (get_or t i d) ≤ b
  no_longer i j b l m f u co at ci =
      let c = covers-parts q (get_or t i d) ci in
      let n = in-rule-lengths (get_or t i d) (in-rule-at d t i h (omega arith)) in
      at (prefix_of (get_or t i d)) (omega (arith, n.0, n.1))
      (between (prefix_of (get_or t i d)) (words (get_or t i d)) (words (get_or t j d)) (words_in q.prefix) refl
      (addresses-up i j l m (c.0 ∙ sym f)) u c.2)

  -- so it stays before the next probe, where it is plain
  pub jump-misses-none : (k : Record) (i j b : ℕ) → HighProbe (family_in q.prefix) b (words_in q.prefix) k → i ≤ j → j < length t
      → family_of (get_or t j d) ≡ family_in q.prefix → up_to (words (get_or t j d)) (words_in q.prefix) ≡ true
      → covers q (get_or t j d) ≡ false → AtMost b (words (get_or t j d)) (words_in q.prefix)
      → plain (get_or t i d) ≡ true → covers q (get_or t i d) ≡ true → i < rank k t
  jump-misses-none k i j b p l m f u co at pl ci = plain-before-probe k b i p (omega arith) pl ci (no_longer i j b l m f u co at ci)

  -- and where those bits are fewer than any plain record of the family has, no plain one covers
  pub too-short-ends : (least loose i j b : ℕ) → Under least loose q t → b < least → i ≤ j → j < length t
      → family_of (get_or t j d) ≡ family_in q.prefix → up_to (words (get_or t j d)) (words_in q.prefix) ≡ true
      → covers q (get_or t j d) ≡ false → AtMost b (words (get_or t j d)) (words_in q.prefix) → plain (get_or t i d) ≡ true → covers q (get_or t i d) ≡ false
  too-short-ends least loose i j b un s l m f u co at pl =
      unless (covers q (get_or t i d))
      (λ ci. let x = no_longer i j b l m f u co at ci in
      let y = un.none-shorter d i (omega arith) (covers-parts q (get_or t i d) ci).0 pl in
      omega arith)

  -- before a record of a lower family none covers
  pub other-family-ends : (i j : ℕ) → i ≤ j → j < length t → family_of (get_or t j d) < family_in q.prefix → covers q (get_or t i d) ≡ false
  other-family-ends i j l m f =
      unless (covers q (get_or t i d))
      (λ ci. let x = families-up i j l m in
      let y = (covers-parts q (get_or t i d) ci).0 in
      omega arith)

  -- a record with host bits that covers stands in the run: from the run's probe up to it, all are of the family and agree in the first bits
  pub run-reaches : (k : Record) (least loose i : ℕ) → Under least loose q t → LowProbe (family_in q.prefix) loose (words_in q.prefix) k → i < length t
      → plain (get_or t i d) ≡ false → covers q (get_or t i d) ≡ true
      → (loose ≤ q.length) × (rank k t ≤ i)
      × ((j : ℕ) → rank k t ≤ j → j ≤ i → (family_of (get_or t j d) ≡ family_in q.prefix) × (agree loose (words (get_or t j d)) (words_in q.prefix) ≡ true))
  run-reaches k least loose i un p l pl ci = (omega (arith, longer, c.1), from, all)
    where
      r : Record
      r = get_or t i d

      a : List ℕ
      a = words_in q.prefix

      c : (family_of r ≡ family_in q.prefix) × (prefix_of r ≤ q.length) × (agree (prefix_of r) (words r) a ≡ true)
      c = covers-parts q r ci

      longer : loose ≤ prefix_of r
      longer = un.none-looser d i l c.0 pl

      agrees : agree loose (words r) a ≡ true
      agrees = agree-shorter loose (prefix_of r) (words r) a longer c.2

      least-up : up_to (words k) (words r) ≡ true
      least-up = subst (λ (x : List ℕ). up_to x (words r) ≡ true) (sym p.words_are) (cut-least loose (words r) a (sym (four-words q)) agrees)

      nothing-lower : Lower (behind r) (behind k) → ⊥
      nothing-lower (inl x) = let e = p.prefix-is in omega arith
      nothing-lower (inr (x, inl y)) = let e = p.max-is in omega arith
      nothing-lower (inr (x, inr (y, inl z))) = let e = p.asn-is in omega arith
      nothing-lower (inr (x, inr (y, inr (z, w)))) = w

      not-before : before r k ≡ true → ⊥
      not-before e = nothing-lower (lower-behind (words r) (words k) (behind r) (behind k) refl least-up (before-words r k e (c.0 ∙ sym p.family-is)))

      from : rank k t ≤ i
      from = go (ltb i (rank k t)) refl
        where
          go : (b : Bool) → ltb i (rank k t) ≡ b → rank k t ≤ i
          go true e = absurd (not-before (before-rank k d t i in_order (ltb-true i (rank k t) e)))
          go false e = ltb-false i (rank k t) e

      all : (j : ℕ) → rank k t ≤ j → j ≤ i → (family_of (get_or t j d) ≡ family_in q.prefix) × (agree loose (words (get_or t j d)) a ≡ true)
      all j m n = (same-family, agree_trans loose (words (get_or t j d)) (words r) a refl near agrees)
        where
          x : Record
          x = get_or t j d

          within : j < length t
          within = omega arith

          family-from : Sides x k → family_of k ≤ family_of x
          family-from (before-it e) = absurd (not-both _ e (from-rank k d t j in_order m within))
          family-from (the_same e) = rw e (omega arith)
          family-from (behind-it e) = before-family k x e

          same-family : family_of x ≡ family_in q.prefix
          same-family =
              omega (arith, family-from (sides x k), families-up j i n l, p.family-is, c.0)

          words-from : Sides x k → up_to (words k) (words x) ≡ true
          words-from (before-it e) = absurd (not-both _ e (from-rank k d t j in_order m within))
          words-from (the_same e) = rw e (up_to-refl (words k))
          words-from (behind-it e) = before-up k x e (p.family-is ∙ sym same-family)

          probe-agrees : agree loose (words k) (words r) ≡ true
          probe-agrees =
              subst (λ (y : List ℕ). agree loose y (words r) ≡ true) (sym p.words_are)
              (agree_trans loose (cut loose a) a (words r) (cut-length loose a) (cut-agrees loose a) (agree-sym loose (words r) a agrees))

          near : agree loose (words x) (words r) ≡ true
          near = between loose (words k) (words x) (words r) refl (words-from (sides x k)) (addresses-up j i n l (same-family ∙ sym c.0)) probe-agrees

-- 0 and 0 are low enough for every table
pub under-zero : (q : Route) (t : List Record) → Under 0 0 q t
under-zero q t = record { none-shorter = λ d i l f p. omega arith; none-looser = λ d i l f p. omega arith }

-- ---- states by places

pub any-of-some : (p : Record → Bool) (t : List Record) (d : Record) (i : ℕ) → i < length t → p (get_or t i d) ≡ true → any p t ≡ true
unfolding any
any-of-some p [] d i l e = absurd (omega arith)
any-of-some p (x ∷ t) d zero l e = rw e
any-of-some p (x ∷ t) d (suc i) l e = go (p x) (any-of-some p t d i (omega arith) e)
  where
    go : (b : Bool) → any p t ≡ true → b || any p t ≡ true
    go true f = refl
    go false f = f

pub any_none : (p : Record → Bool) (t : List Record) (d : Record) → ((i : ℕ) → i < length t → p (get_or t i d) ≡ false) → any p t ≡ false
unfolding any
any_none p [] d f = refl
any_none p (x ∷ t) d f = rw (f 0 (omega arith)) (any_none p t d (λ i l. f (suc i) (omega arith)))

pub matches-covers : (q : Route) (r : Record) → matches q r ≡ true → covers q r ≡ true
unfolding matches
matches-covers q r e = first_of (covers q r) _ e

pub uncovered-unmatched : (q : Route) (r : Record) → covers q r ≡ false → matches q r ≡ false
unfolding matches
uncovered-unmatched q r e = rw e

pub state-valid : (q : Route) (t : List Record) (d : Record) (i : ℕ) → i < length t → matches q (get_or t i d) ≡ true → state_of q t ≡ Valid
unfolding state_of
state-valid q t d i l e = rw (any-of-some (matches q) t d i l e)

pub state-invalid : (q : Route) (t : List Record) (d : Record) (i : ℕ) → i < length t → covers q (get_or t i d) ≡ true
    → ((j : ℕ) → j < length t → matches q (get_or t j d) ≡ false) → state_of q t ≡ Invalid
unfolding state_of
state-invalid q t d i l e f = rw (any_none (matches q) t d f, any-of-some (covers q) t d i l e)

pub state-none : (q : Route) (t : List Record) (d : Record) → ((j : ℕ) → j < length t → covers q (get_or t j d) ≡ false) → state_of q t ≡ NotFound
unfolding state_of
state-none q t d f =
    rw (any_none (matches q) t d (λ j l. uncovered-unmatched q (get_or t j d) (f j l)), any_none (covers q) t d f)
