-- Addresses: the first bits of two addresses, the first bits with zeros behind, and the order of addresses. Between two addresses whose first
-- bits agree there are only such, and the first bits with zeros behind are the lowest of all that have them. No word needs a bound.
-- By induction over words; within a word, quotients keep the order. Assumes nothing.
use Prim.Native.Nat.{ℕ, suc, ◌+◌, ◌-◌, ◌*◌, ◌/◌, ◌^◌, ◌≤◌, ◌<◌}
use mathlib.Core.Bool.{Bool, true, false, ◌&&◌, ◌||◌, false≢true}
use mathlib.Core.List.{List, [], ◌∷◌}
use mathlib.Core.Path.{◌≡◌, refl, sym, ap, ◌∙◌, subst}
use native.Mathlib.Omega.{arith}
use native.Mathlib.Nat.{le_antisymm, div-mul-le_self}
use lib.Pow.{shr_mono, shr-shr, shl-shr}
use lib.Dec.{leb, ltb, eqb}
use lib.ListN.{length}
use borrow.Author.Tests.{ltb-true, ltb-false, leb-true, leb-false, eqb-true, eqb-false, lt-ltb, le-ltb, le-leb, lt-leb, eq-eqb, ne_eqb}
use Rattle.rtr_room.specs.Table.{family_of, prefix_of}
use Rattle.rtr_room.specs.declared.Record.{Record}
use Rattle.rtr_room.proofs.Laws.Tests.{first_of, second-of, both}
use Rattle.rtr_origin.specs.Origin.{words, words_in, family_in, agree, covers}
use Rattle.rtr_origin.specs.Private.{cut, up_to, plain}
use Rattle.rtr_origin.specs.declared.RoutePrefix.{RoutePrefix}
use Rattle.rtr_origin.specs.declared.RoutePrefix.TheVariants.{IPv4, IPv6}
use Rattle.rtr_origin.specs.declared.Route.{Route}

-- ---- how many bits of the first word are asked

pub data Asked (l : ℕ) : Type 0 where
  none : l ≡ 0 → Asked l
  part : 0 < l → l < 32 → Asked l
  whole : 32 ≤ l → Asked l

pub asked : (l : ℕ) → Asked l
asked l = go (eqb l 0) refl (leb 32 l) refl
  where
    go : (b : Bool) → eqb l 0 ≡ b → (c : Bool) → leb 32 l ≡ c → Asked l
    go true e c f = none (eqb-true l 0 e)
    go false e true f = whole (leb-true 32 l f)
    go false e false f = let h = leb-false 32 l f in let k = eqb-false l 0 e in part (omega arith) h

-- ---- the first word of each definition

module _ (l x y : ℕ) (xs ys : List ℕ) where
  agree-whole : 32 ≤ l → agree l (x ∷ xs) (y ∷ ys) ≡ (eqb x y && agree (l - 32) xs ys)
  unfolding agree
  agree-whole h = rw (ne_eqb l 0 (λ e. omega arith), le-leb 32 l h)

  agree-part : 0 < l → l < 32 → agree l (x ∷ xs) (y ∷ ys) ≡ eqb (x / 2 ^ (32 - l)) (y / 2 ^ (32 - l))
  unfolding agree
  agree-part h k = rw (ne_eqb l 0 (λ e. omega arith), lt-leb 32 l k)

  -- what an agreement says
  pub whole_out : 32 ≤ l → agree l (x ∷ xs) (y ∷ ys) ≡ true → (x ≡ y) × (agree (l - 32) xs ys ≡ true)
  whole_out h e =
      let f : eqb x y && agree (l - 32) xs ys ≡ true = sym (agree-whole h) ∙ e in
      (eqb-true x y (first_of _ _ f), second-of (eqb x y) _ f)

  pub whole_in : 32 ≤ l → x ≡ y → agree (l - 32) xs ys ≡ true → agree l (x ∷ xs) (y ∷ ys) ≡ true
  whole_in h e f = agree-whole h ∙ both _ _ (eq-eqb x y e) f

  pub part_out : 0 < l → l < 32 → agree l (x ∷ xs) (y ∷ ys) ≡ true → x / 2 ^ (32 - l) ≡ y / 2 ^ (32 - l)
  part_out h k e = eqb-true _ _ (sym (agree-part h k) ∙ e)

  pub part_in : 0 < l → l < 32 → x / 2 ^ (32 - l) ≡ y / 2 ^ (32 - l) → agree l (x ∷ xs) (y ∷ ys) ≡ true
  part_in h k e = agree-part h k ∙ eq-eqb _ _ e

pub agree-none : (x y : List ℕ) → agree 0 x y ≡ true
unfolding agree
agree-none [] y = refl
agree-none (u ∷ x) [] = refl
agree-none (u ∷ x) (v ∷ y) = refl

pub agree-zero : (l : ℕ) (x y : List ℕ) → l ≡ 0 → agree l x y ≡ true
agree-zero l x y e = rw e (agree-none x y)

module _ (l x : ℕ) (xs : List ℕ) where
  cut-none : l ≡ 0 → cut l (x ∷ xs) ≡ 0 ∷ cut 0 xs
  unfolding cut
  cut-none e = rw (eq-eqb l 0 e)

  cut-whole : 32 ≤ l → cut l (x ∷ xs) ≡ x ∷ cut (l - 32) xs
  unfolding cut
  cut-whole h = rw (ne_eqb l 0 (λ e. omega arith), le-leb 32 l h)

  cut-part : 0 < l → l < 32 → cut l (x ∷ xs) ≡ x / 2 ^ (32 - l) * 2 ^ (32 - l) ∷ cut 0 xs
  unfolding cut
  cut-part h k = rw (ne_eqb l 0 (λ e. omega arith), lt-leb 32 l k)

-- addresses in order: lower in the first word, or equal in it and in order behind it
data Up (x y : ℕ) (xs ys : List ℕ) : Type 0 where
  here : x < y → Up x y xs ys
  next : x ≡ y → up_to xs ys ≡ true → Up x y xs ys

module _ (x y : ℕ) (xs ys : List ℕ) where
  up-out : up_to (x ∷ xs) (y ∷ ys) ≡ true → Up x y xs ys
  unfolding up_to
  up-out e = go (ltb x y) refl e
    where
      go : (b : Bool) → ltb x y ≡ b → b || (eqb x y && up_to xs ys) ≡ true → Up x y xs ys
      go true f e = here (ltb-true x y f)
      go false f e = next (eqb-true x y (first_of _ _ e)) (second-of (eqb x y) _ e)

  pub up-here : x < y → up_to (x ∷ xs) (y ∷ ys) ≡ true
  unfolding up_to
  up-here h = rw (lt-ltb x y h)

  pub up_next : x ≡ y → up_to xs ys ≡ true → up_to (x ∷ xs) (y ∷ ys) ≡ true
  unfolding up_to
  up_next e f = rw (le-ltb x y (omega arith), eq-eqb x y e) f

  -- where the first word is no higher, and the rest in order
  up-both : x ≤ y → up_to xs ys ≡ true → up_to (x ∷ xs) (y ∷ ys) ≡ true
  up-both h f = go (ltb x y) refl
    where
      go : (b : Bool) → ltb x y ≡ b → up_to (x ∷ xs) (y ∷ ys) ≡ true
      go true e = up-here (ltb-true x y e)
      go false e = let k = ltb-false x y e in up_next (omega arith) f

  pub up-head : up_to (x ∷ xs) (y ∷ ys) ≡ true → x ≤ y
  up-head e = go (up-out e)
    where
      go : Up x y xs ys → x ≤ y
      go (here h) = omega arith
      go (next f r) = omega arith

  pub up-tail : up_to (x ∷ xs) (y ∷ ys) ≡ true → x ≡ y → up_to xs ys ≡ true
  up-tail e g = go (up-out e)
    where
      go : Up x y xs ys → up_to xs ys ≡ true
      go (here h) = absurd (omega arith)
      go (next f r) = r

-- ---- agreement

pub agree_refl : (l : ℕ) (x : List ℕ) → agree l x x ≡ true
unfolding agree
agree_refl l [] = refl
agree_refl l (u ∷ x) = go (asked l) (agree_refl (l - 32) x)
  where
    go : Asked l → agree (l - 32) x x ≡ true → agree l (u ∷ x) (u ∷ x) ≡ true
    go (none e) rest = agree-zero l (u ∷ x) (u ∷ x) e
    go (part h k) rest = part_in l u u x x h k refl
    go (whole h) rest = whole_in l u u x x h refl rest

pub agree-sym : (l : ℕ) (x y : List ℕ) → agree l x y ≡ true → agree l y x ≡ true
unfolding agree
agree-sym l [] [] e = refl
agree-sym l [] (v ∷ y) e = refl
agree-sym l (u ∷ x) [] e = refl
agree-sym l (u ∷ x) (v ∷ y) e = go (asked l) (agree-sym (l - 32) x y)
  where
    go : Asked l → (agree (l - 32) x y ≡ true → agree (l - 32) y x ≡ true) → agree l (v ∷ y) (u ∷ x) ≡ true
    go (none f) rest = agree-zero l (v ∷ y) (u ∷ x) f
    go (part h k) rest = part_in l v u y x h k (sym (part_out l u v x y h k e))
    go (whole h) rest = let f = whole_out l u v x y h e in whole_in l v u y x h (sym f.0) (rest f.1)

pub agree_trans : (l : ℕ) (x y z : List ℕ) → length x ≡ length y → agree l x y ≡ true → agree l y z ≡ true → agree l x z ≡ true
unfolding agree
agree_trans l [] y z n e f = refl
agree_trans l (u ∷ x) [] z n e f = absurd (omega arith)
agree_trans l (u ∷ x) (v ∷ y) [] n e f = refl
agree_trans l (u ∷ x) (v ∷ y) (w ∷ z) n e f = go (asked l) (agree_trans (l - 32) x y z (omega arith))
  where
    go : Asked l → (agree (l - 32) x y ≡ true → agree (l - 32) y z ≡ true → agree (l - 32) x z ≡ true) → agree l (u ∷ x) (w ∷ z) ≡ true
    go (none g) rest = agree-zero l (u ∷ x) (w ∷ z) g
    go (part h k) rest = part_in l u w x z h k (part_out l u v x y h k e ∙ part_out l v w y z h k f)
    go (whole h) rest =
        let a = whole_out l u v x y h e in
        let b = whole_out l v w y z h f in
        whole_in l u w x z h (a.0 ∙ b.0) (rest a.1 b.1)

-- fewer upper bits of equal ones are equal
fewer : (l m u v : ℕ) → l ≤ m → m < 32 → u / 2 ^ (32 - m) ≡ v / 2 ^ (32 - m) → u / 2 ^ (32 - l) ≡ v / 2 ^ (32 - l)
fewer l m u v h k e =
    let n : 32 - m + (m - l) ≡ 32 - l = omega arith in
    rw (← n, ← (shr-shr u (32 - m) (m - l)), ← (shr-shr v (32 - m) (m - l))) (ap (λ (a : ℕ). a / 2 ^ (m - l)) e)

pub agree-shorter : (l m : ℕ) (x y : List ℕ) → l ≤ m → agree m x y ≡ true → agree l x y ≡ true
unfolding agree
agree-shorter l m [] y n e = refl
agree-shorter l m (u ∷ x) [] n e = refl
agree-shorter l m (u ∷ x) (v ∷ y) n e = go (asked l) (asked m) (agree-shorter (l - 32) (m - 32) x y (omega arith))
  where
    go : Asked l → Asked m → (agree (m - 32) x y ≡ true → agree (l - 32) x y ≡ true) → agree l (u ∷ x) (v ∷ y) ≡ true
    go (none g) b rest = agree-zero l (u ∷ x) (v ∷ y) g
    go (part h k) (none g) rest = absurd (omega arith)
    go (part h k) (part i j) rest = part_in l u v x y h k (fewer l m u v n j (part_out m u v x y i j e))
    go (part h k) (whole j) rest = part_in l u v x y h k (ap (λ (a : ℕ). a / 2 ^ (32 - l)) (whole_out m u v x y j e).0)
    go (whole h) (none g) rest = absurd (omega arith)
    go (whole h) (part i j) rest = absurd (omega arith)
    go (whole h) (whole j) rest = let a = whole_out m u v x y j e in whole_in l u v x y h a.0 (rest a.1)

-- ---- order

pub up_to-refl : (x : List ℕ) → up_to x x ≡ true
unfolding up_to
up_to-refl [] = refl
up_to-refl (u ∷ x) = up_next u u x x refl (up_to-refl x)

pub up_to-trans : (x y z : List ℕ) → up_to x y ≡ true → up_to y z ≡ true → up_to x z ≡ true
unfolding up_to
up_to-trans [] y z e f = refl
up_to-trans (u ∷ x) [] z e f = absurd (false≢true e)
up_to-trans (u ∷ x) (v ∷ y) [] e f = absurd (false≢true f)
up_to-trans (u ∷ x) (v ∷ y) (w ∷ z) e f = go (up-out u v x y e) (up-out v w y z f) (up_to-trans x y z)
  where
    go : Up u v x y → Up v w y z → (up_to x y ≡ true → up_to y z ≡ true → up_to x z ≡ true) → up_to (u ∷ x) (w ∷ z) ≡ true
    go (here h) (here k) rest = up-here u w x z (omega arith)
    go (here h) (next k b) rest = up-here u w x z (omega arith)
    go (next h a) (here k) rest = up-here u w x z (omega arith)
    go (next h a) (next k b) rest = up_next u w x z (h ∙ k) (rest a b)

pub up_to-antisym : (x y : List ℕ) → up_to x y ≡ true → up_to y x ≡ true → x ≡ y
unfolding up_to
up_to-antisym [] [] e f = refl
up_to-antisym [] (v ∷ y) e f = absurd (false≢true f)
up_to-antisym (u ∷ x) [] e f = absurd (false≢true e)
up_to-antisym (u ∷ x) (v ∷ y) e f = go (up-out u v x y e) (up-out v u y x f) (up_to-antisym x y)
  where
    go : Up u v x y → Up v u y x → (up_to x y ≡ true → up_to y x ≡ true → x ≡ y) → ◌≡◌ {A = List ℕ} (u ∷ x) (v ∷ y)
    go (here h) (here k) rest = absurd (omega arith)
    go (here h) (next k b) rest = absurd (omega arith)
    go (next h a) (here k) rest = absurd (omega arith)
    go (next h a) (next k b) rest = let r : x ≡ y = rest a b in cc

-- a quotient between two equal ones is equal
quotients : (k u v w : ℕ) → u ≤ v → v ≤ w → u / 2 ^ k ≡ w / 2 ^ k → v / 2 ^ k ≡ w / 2 ^ k
quotients k u v w a b e = le_antisymm (shr_mono k b) (subst (λ (n : ℕ). n ≤ v / 2 ^ k) e (shr_mono k a))

pub between : (l : ℕ) (x y z : List ℕ) → length x ≡ length y → up_to x y ≡ true → up_to y z ≡ true → agree l x z ≡ true → agree l y z ≡ true
unfolding agree
between l x [] z n a b e = refl
between l x (v ∷ y) [] n a b e = refl
between l [] (v ∷ y) (w ∷ z) n a b e = absurd (omega arith)
between l (u ∷ x) (v ∷ y) (w ∷ z) n a b e = go (asked l) (between (l - 32) x y z (omega arith))
  where
    go : Asked l → (up_to x y ≡ true → up_to y z ≡ true → agree (l - 32) x z ≡ true → agree (l - 32) y z ≡ true) → agree l (v ∷ y) (w ∷ z) ≡ true
    go (none g) rest = agree-zero l (v ∷ y) (w ∷ z) g
    go (part h k) rest = part_in l v w y z h k (quotients (32 - l) u v w (up-head u v x y a) (up-head v w y z b) (part_out l u w x z h k e))
    go (whole h) rest =
        let f = whole_out l u w x z h e in
        let i = up-head u v x y a in
        let j = up-head v w y z b in
        let g : u ≡ w = f.0 in
        let left : u ≡ v = omega arith in
        let right : v ≡ w = omega arith in
        whole_in l v w y z h right (rest (up-tail u v x y a left) (up-tail v w y z b right) f.1)

-- ---- the first bits, and zeros behind

pub cut-length : (l : ℕ) (x : List ℕ) → length (cut l x) ≡ length x
unfolding cut
cut-length l [] = refl
cut-length l (u ∷ x) = go (asked l) (cut-length 0 x) (cut-length (l - 32) x)
  where
    go : Asked l → length (cut 0 x) ≡ length x → length (cut (l - 32) x) ≡ length x → length (cut l (u ∷ x)) ≡ suc (length x)
    go (none e) a b = rw (cut-none l u x e) (ap suc a)
    go (part h k) a b = rw (cut-part l u x h k) (ap suc a)
    go (whole h) a b = rw (cut-whole l u x h) (ap suc b)

pub cut-agrees : (l : ℕ) (x : List ℕ) → agree l (cut l x) x ≡ true
unfolding agree cut
cut-agrees l [] = refl
cut-agrees l (u ∷ x) = go (asked l) (cut-agrees (l - 32) x)
  where
    go : Asked l → agree (l - 32) (cut (l - 32) x) x ≡ true → agree l (cut l (u ∷ x)) (u ∷ x) ≡ true
    go (none e) rest = agree-zero l (cut l (u ∷ x)) (u ∷ x) e
    go (part h k) rest = rw (cut-part l u x h k) (part_in l (u / 2 ^ (32 - l) * 2 ^ (32 - l)) u (cut 0 x) x h k (shl-shr (u / 2 ^ (32 - l)) (32 - l)))
    go (whole h) rest = rw (cut-whole l u x h) (whole_in l u u (cut (l - 32) x) x h refl rest)

-- no bits at all: addresses of one length are cut alike
cut-nothing : (x y : List ℕ) → length x ≡ length y → cut 0 x ≡ cut 0 y
unfolding cut
cut-nothing [] [] n = refl
cut-nothing [] (v ∷ y) n = absurd (omega arith)
cut-nothing (u ∷ x) [] n = absurd (omega arith)
cut-nothing (u ∷ x) (v ∷ y) n = ap (λ (z : List ℕ). 0 ∷ z) (cut-nothing x y (omega arith))

-- addresses whose first bits agree are cut alike
pub cut-same : (l : ℕ) (x y : List ℕ) → length x ≡ length y → agree l x y ≡ true → cut l x ≡ cut l y
unfolding cut
cut-same l [] [] n e = refl
cut-same l [] (v ∷ y) n e = absurd (omega arith)
cut-same l (u ∷ x) [] n e = absurd (omega arith)
cut-same l (u ∷ x) (v ∷ y) n e = go (asked l) (cut-nothing x y (omega arith)) (cut-same (l - 32) x y (omega arith))
  where
    go : Asked l → cut 0 x ≡ cut 0 y → (agree (l - 32) x y ≡ true → cut (l - 32) x ≡ cut (l - 32) y) → cut l (u ∷ x) ≡ cut l (v ∷ y)
    go (none f) a rest = rw (cut-none l u x f, cut-none l v y f) (ap (λ (z : List ℕ). 0 ∷ z) a)
    go (part h k) a rest =
        rw (cut-part l u x h k, cut-part l v y h k, part_out l u v x y h k e) (ap (λ (z : List ℕ). v / 2 ^ (32 - l) * 2 ^ (32 - l) ∷ z) a)
    go (whole h) a rest =
        let f = whole_out l u v x y h e in
        let g : u ≡ v = f.0 in
        let r : cut (l - 32) x ≡ cut (l - 32) y = rest f.1 in
        rw (cut-whole l u x h, cut-whole l v y h, g, r)

pub cut-under : (l : ℕ) (x : List ℕ) → up_to (cut l x) x ≡ true
unfolding cut up_to
cut-under l [] = refl
cut-under l (u ∷ x) = go (asked l) (cut-under 0 x) (cut-under (l - 32) x)
  where
    go : Asked l → up_to (cut 0 x) x ≡ true → up_to (cut (l - 32) x) x ≡ true → up_to (cut l (u ∷ x)) (u ∷ x) ≡ true
    go (none e) a b = rw (cut-none l u x e) (up-both 0 u (cut 0 x) x (omega arith) a)
    go (part h k) a b = rw (cut-part l u x h k) (up-both (u / 2 ^ (32 - l) * 2 ^ (32 - l)) u (cut 0 x) x (div-mul-le_self u (2 ^ (32 - l))) a)
    go (whole h) a b = rw (cut-whole l u x h) (up_next u u (cut (l - 32) x) x refl b)

pub cut-least : (l : ℕ) (x a : List ℕ) → length x ≡ length a → agree l x a ≡ true → up_to (cut l a) x ≡ true
cut-least l x a n e = rw (← (cut-same l x a n e)) (cut-under l x)

pub cut-cut : (l b : ℕ) (a : List ℕ) → l ≤ b → cut l (cut b a) ≡ cut l a
cut-cut l b a h = cut-same l (cut b a) a (cut-length b a) (agree-shorter l b (cut b a) a h (cut-agrees b a))

pub cut-grows : (l b : ℕ) (a : List ℕ) → l ≤ b → up_to (cut l a) (cut b a) ≡ true
cut-grows l b a h = rw (← (cut-cut l b a h)) (cut-under l (cut b a))

-- ---- records

-- addresses that agree in all their bits are equal
pub all-agree : (l : ℕ) (x y : List ℕ) → length x ≡ length y → 32 * length x ≤ l → agree l x y ≡ true → x ≡ y
all-agree l [] [] n h e = refl
all-agree l [] (v ∷ y) n h e = absurd (omega arith)
all-agree l (u ∷ x) [] n h e = absurd (omega arith)
all-agree l (u ∷ x) (v ∷ y) n h e =
    let f = whole_out l u v x y (omega arith) e in
    let g : u ≡ v = f.0 in
    let r : x ≡ y = all-agree (l - 32) x y (omega arith) (omega arith) f.1 in
    cc

pub plain-words : (r : Record) → plain r ≡ true → words r ≡ cut (prefix_of r) (words r)
unfolding plain
plain-words r e = all-agree 128 (words r) (cut (prefix_of r) (words r)) (sym (cut-length (prefix_of r) (words r))) (omega arith) e

pub words-plain : (r : Record) → words r ≡ cut (prefix_of r) (words r) → plain r ≡ true
unfolding plain
words-plain r e = subst (λ (x : List ℕ). agree 128 (words r) x ≡ true) e (agree_refl 128 (words r))

-- the three tests of a record that covers
pub covers-parts : (q : Route) (r : Record) → covers q r ≡ true
    → (family_of r ≡ family_in q.prefix) × (prefix_of r ≤ q.length) × (agree (prefix_of r) (words r) (words_in q.prefix) ≡ true)
unfolding covers
covers-parts q r e =
    let f : _ ≡ true = second-of (eqb (family_of r) (family_in q.prefix)) _ e in
    (eqb-true _ _ (first_of _ _ e), leb-true _ _ (first_of _ _ f), second-of (leb (prefix_of r) q.length) _ f)

pub parts-cover : (q : Route) (r : Record) → family_of r ≡ family_in q.prefix → prefix_of r ≤ q.length
    → agree (prefix_of r) (words r) (words_in q.prefix) ≡ true → covers q r ≡ true
unfolding covers
parts-cover q r e f g = both _ _ (eq-eqb _ _ e) (both _ _ (le-leb _ _ f) g)

-- a route's address has four words, as a record's
pub four-words : (q : Route) → length (words_in q.prefix) ≡ 4
four-words q = go q.prefix
  where
    go : (p : RoutePrefix) → length (words_in p) ≡ 4
    go (IPv4 address) = refl
    go (IPv6 address) = refl

-- a plain record that covers has the first bits of the route's address, and zeros behind
pub plain-is-cut : (q : Route) (r : Record) → plain r ≡ true → covers q r ≡ true → words r ≡ cut (prefix_of r) (words_in q.prefix)
plain-is-cut q r p e =
    plain-words r p ∙ cut-same (prefix_of r) (words r) (words_in q.prefix) (sym (four-words q)) (covers-parts q r e).2
