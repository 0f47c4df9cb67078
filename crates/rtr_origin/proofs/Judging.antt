-- How strongly records speak for a route: the tests of one record, the strongest of many as bounds (it bounds each, and what bounds each
-- bounds it), and the page's state from it. By the cases of each test, and by induction over the records. Assumes nothing.
use Prim.Native.Nat.{ℕ, zero, suc, ◌+◌, ◌*◌, ◌/◌, ◌%◌, ◌≤◌, ◌<◌}
use mathlib.Core.Bool.{Bool, true, false, cond, ◌&&◌, ◌||◌}
use mathlib.Core.List.{List, [], ◌∷◌, ◌++◌}
use mathlib.Core.Path.{◌≡◌, refl, sym, ◌∙◌}
use native.Mathlib.Omega.{arith}
use lib.Dec.{leb, ltb, eqb}
use borrow.Author.Tests.{ltb-true, ltb-false, eq-eqb, ne_eqb, le-leb, lt-leb}
use Rattle.rtr_models.specs.declared.Ipv6Addr.{Ipv6Addr}
use Rattle.rtr_room.specs.Table.{family_of, prefix_of, max_of}
use Rattle.rtr_room.specs.Room.{records, record_at}
use Rattle.rtr_room.specs.declared.Record.{Record}
use Rattle.rtr_room.proofs.Laws.{records-none, records-next}
use Rattle.rtr_origin.specs.Origin.{words, agree, covers, matches, any, state_of}
use Rattle.rtr_origin.specs.Judged.{Asks, Common, target_of, covers_by, matches_by, strength, strongest, named}
use Rattle.rtr_origin.specs.declared.Route.{Route}
use Rattle.rtr_origin.specs.declared.RoutePrefix.{RoutePrefix}
use Rattle.rtr_origin.specs.declared.RoutePrefix.TheVariants.{IPv4, IPv6}
use Rattle.rtr_origin.specs.declared.RouteState.TheVariants.{NotFound, Valid, Invalid}

-- ---- one record

module _ (a x : Record) where
  pub other-family : (family_of x ≡ family_of a → ⊥) → false ≡ covers_by a x
  unfolding covers_by
  other-family h = rw (ne_eqb (family_of x) (family_of a) h)

  pub longer : family_of x ≡ family_of a → prefix_of a < prefix_of x → false ≡ covers_by a x
  unfolding covers_by
  longer f h = rw (eq-eqb (family_of x) (family_of a) f, lt-leb (prefix_of x) (prefix_of a) h)

  pub as-common : family_of x ≡ family_of a → prefix_of x ≤ prefix_of a → (r : ℕ) → Common (words x) (words a) r → leb (prefix_of x) r ≡ covers_by a x
  unfolding covers_by
  as-common f h r k = rw (eq-eqb (family_of x) (family_of a) f, le-leb (prefix_of x) (prefix_of a) h) (sym (k.exactly (prefix_of x) (omega arith)))

  -- where fewer bits are in common than the record is long it does not cover, whatever its family and its length
  few : (r : ℕ) → Common (words x) (words a) r → r < prefix_of x → covers_by a x ≡ false
  unfolding covers_by
  few r k h = go (eqb (family_of x) (family_of a)) (leb (prefix_of x) (prefix_of a)) (agree (prefix_of x) (words x) (words a)) (k.exactly (prefix_of x) (omega arith) ∙ lt-leb (prefix_of x) r h)
    where
      go : (f l b : Bool) → b ≡ false → f && (l && b) ≡ false
      go true true b e = e
      go true false b e = refl
      go false l b e = refl

  pub uncovered : covers_by a x ≡ false → 0 ≡ strength a x
  unfolding strength matches_by
  uncovered e = rw e

  pub few-in-common : (r n : ℕ) → Common (words x) (words a) r → n ≡ prefix_of x → r < n → 0 ≡ strength a x
  few-in-common r n k e h = uncovered (few r k (omega (arith, e)))

  module _ (e : covers_by a x ≡ true) where
    pub over-max : max_of x < prefix_of a → 1 ≡ strength a x
    unfolding strength matches_by
    over-max h = rw (e, lt-leb (prefix_of a) (max_of x) h)

    module _ (h : prefix_of a ≤ max_of x) where
      pub other-origin : (x.asn ≡ a.asn → ⊥) → 1 ≡ strength a x
      unfolding strength matches_by
      other-origin o = rw (e, le-leb (prefix_of a) (max_of x) h, ne_eqb x.asn a.asn o)

      pub as-zero : x.asn ≡ a.asn → x.asn ≡ 0 → 1 ≡ strength a x
      unfolding strength matches_by
      as-zero o z = rw (e, le-leb (prefix_of a) (max_of x) h, eq-eqb x.asn a.asn o, eq-eqb x.asn 0 z)

      pub matched : x.asn ≡ a.asn → (x.asn ≡ 0 → ⊥) → 2 ≡ strength a x
      unfolding strength matches_by
      matched o z = rw (e, le-leb (prefix_of a) (max_of x) h, eq-eqb x.asn a.asn o, ne_eqb x.asn 0 z)

  pub strength-within : strength a x ≤ 2
  unfolding strength
  strength-within = go (matches_by a x) (covers_by a x)
    where
      go : (m k : Bool) → cond m 2 (cond k 1 0) ≤ 2
      go true k = omega arith
      go false true = omega arith
      go false false = omega arith

  -- a record that says nothing does not cover
  pub silent : strength a x ≡ 0 → covers_by a x ≡ false
  unfolding strength
  silent h = go (matches_by a x) (covers_by a x) refl h
    where
      go : (m k : Bool) → covers_by a x ≡ k → ◌≡◌ {A = ℕ} (cond m 2 (cond k 1 0)) 0 → covers_by a x ≡ false
      go true k e z = absurd (omega arith)
      go false true e z = absurd (omega arith)
      go false false e z = e

-- ---- many

value-left : (m k m' k' : Bool) → cond m 2 (cond k 1 0) ≤ cond (m || m') 2 (cond (k || k') 1 0)
value-left true k m' k' = omega arith
value-left false true true k' = omega arith
value-left false true false k' = omega arith
value-left false false m' k' = omega arith

value-right : (m k m' k' : Bool) → cond m' 2 (cond k' 1 0) ≤ cond (m || m') 2 (cond (k || k') 1 0)
value-right true k true k' = omega arith
value-right true k false true = omega arith
value-right true k false false = omega arith
value-right false k true k' = omega arith
value-right false true false true = omega arith
value-right false true false false = omega arith
value-right false false false k' = omega arith

value-least : (m k m' k' : Bool) (n : ℕ) → cond m 2 (cond k 1 0) ≤ n → cond m' 2 (cond k' 1 0) ≤ n → cond (m || m') 2 (cond (k || k') 1 0) ≤ n
value-least true k m' k' n h l = h
value-least false k true k' n h l = l
value-least false true false k' n h l = h
value-least false false false k' n h l = l

any-more : (p : Record → Bool) (t : List Record) (x : Record) → any p (t ++ x ∷ []) ≡ (any p t || p x)
unfolding any
any-more p [] x = go (p x)
  where
    go : (b : Bool) → b || false ≡ b
    go true = refl
    go false = refl
any-more p (y ∷ t) x = go (p y) (any-more p t x)
  where
    go : (b : Bool) → any p (t ++ x ∷ []) ≡ (any p t || p x) → b || any p (t ++ x ∷ []) ≡ ((b || any p t) || p x)
    go true e = refl
    go false e = e

module _ (a : Record) (s : List ℕ) where
  next-is : (n : ℕ) → strongest a (records (suc n) s) ≡ cond (any (matches_by a) (records n s) || matches_by a (record_at s n)) 2 (cond (any (covers_by a) (records n s) || covers_by a (record_at s n)) 1 0)
  unfolding strongest
  next-is n = rw (records-next n s, any-more (matches_by a) (records n s) (record_at s n), any-more (covers_by a) (records n s) (record_at s n))

  grows : (n : ℕ) → strongest a (records n s) ≤ strongest a (records (suc n) s)
  unfolding strongest
  grows n = rw (next-is n) (value-left (any (matches_by a) (records n s)) (any (covers_by a) (records n s)) (matches_by a (record_at s n)) (covers_by a (record_at s n)))

  last_within : (n : ℕ) → strength a (record_at s n) ≤ strongest a (records (suc n) s)
  unfolding strength
  last_within n = rw (next-is n) (value-right (any (matches_by a) (records n s)) (any (covers_by a) (records n s)) (matches_by a (record_at s n)) (covers_by a (record_at s n)))

  -- the strongest bounds each record
  pub each_within : (n i : ℕ) → i < n → strength a (record_at s i) ≤ strongest a (records n s)
  each_within zero i h = absurd (omega arith)
  each_within (suc n) i h = go (ltb i n) refl (each_within n i)
    where
      go : (b : Bool) → ltb i n ≡ b → (i < n → strength a (record_at s i) ≤ strongest a (records n s)) → strength a (record_at s i) ≤ strongest a (records (suc n) s)
      go true e rest = omega (arith, rest (ltb-true i n e), grows n)
      go false e rest =
          let k : i ≡ n = omega (arith, ltb-false i n e) in
          rw k (last_within n)

  -- and what bounds each bounds it
  pub all-within : (n m : ℕ) → ((i : ℕ) → i < n → strength a (record_at s i) ≤ m) → strongest a (records n s) ≤ m
  unfolding strongest any strength
  all-within zero m h = rw (records-none s) (omega arith)
  all-within (suc n) m h =
      rw (next-is n)
      (value-least (any (matches_by a) (records n s)) (any (covers_by a) (records n s)) (matches_by a (record_at s n)) (covers_by a (record_at s n)) m
      (all-within n m (λ i l. h i (omega arith)))
      (h n (omega arith)))

  pub strongest-within : (n : ℕ) → strongest a (records n s) ≤ 2
  strongest-within n = all-within n 2 (λ i h. strength-within a (record_at s i))

-- ---- the page's tests

module _ (q : Route) (a : Record) (k : Asks q a) where
  pub covers-is : (x : Record) → covers q x ≡ covers_by a x
  unfolding covers covers_by
  covers-is x = rw (k.family-is, k.words_are, k.length-is)

  matches-is : (x : Record) → matches q x ≡ matches_by a x
  unfolding matches matches_by
  matches-is x = rw (covers-is x, k.length-is, k.origin-is)

  any-alike : (p p' : Record → Bool) → ((x : Record) → p x ≡ p' x) → (t : List Record) → any p t ≡ any p' t
  unfolding any
  any-alike p p' h [] = refl
  any-alike p p' h (x ∷ t) = rw (h x, any-alike p p' h t)

  pub state-is : (t : List Record) → state_of q t ≡ named (strongest a t)
  unfolding state_of named strongest
  state-is t = rw (any-alike (matches q) (matches_by a) matches-is t, any-alike (covers q) (covers_by a) covers-is t) (go (any (matches_by a) t) (any (covers_by a) t))
    where
      go : (m c : Bool) → cond m Valid (cond c Invalid NotFound) ≡ cond (eqb (cond m 2 (cond c 1 0)) 2) Valid (cond (eqb (cond m 2 (cond c 1 0)) 1) Invalid NotFound)
      go true c = refl
      go false true = refl
      go false false = refl

-- a route's record asks what the route asks
module _ (length origin : ℕ) (h : length < 256) where
  low-family : (n : ℕ) → (65536 * n + (length * 256 + 255)) / 65536 ≡ n
  low-family n = omega arith

  low-prefix : (n : ℕ) → (65536 * n + (length * 256 + 255)) / 256 % 256 ≡ length
  low-prefix n = omega arith

  asks-in : (p : RoutePrefix) → Asks (record { prefix = p; length = length; origin = origin }) (target_of (record { prefix = p; length = length; origin = origin }))
  asks-in (IPv4 address) = record { family-is = low-family 4; words_are = refl; length-is = low-prefix 4; origin-is = refl }
  asks-in (IPv6 address) = record { family-is = low-family 6; words_are = refl; length-is = low-prefix 6; origin-is = refl }

pub target-asks : (q : Route) → q.length < 256 → Asks q (target_of q)
target-asks q h = asks-in q.length q.origin h q.prefix

module _ (q : Route) where
  pub target-four : (n address : ℕ) → q.prefix ≡ IPv4 address → n ≡ q.length
      → ◌≡◌ {A = Record} (record { kind = 262144 + (n * 256 + 255); w0 = address; w1 = 0; w2 = 0; w3 = 0; asn = q.origin }) (target_of q)
  target-four n address e h = rw (e, h)

  pub target-six : (n : ℕ) (address : Ipv6Addr) → q.prefix ≡ IPv6 address → n ≡ q.length
      → ◌≡◌ {A = Record} (record { kind = 393216 + (n * 256 + 255); w0 = address.w0; w1 = address.w1; w2 = address.w2; w3 = address.w3; asn = q.origin }) (target_of q)
  target-six n address e h = rw (e, h)

-- ---- the state of a strength

module _ (n : ℕ) where
  pub named-two : n ≡ 2 → Valid ≡ named n
  unfolding named
  named-two h = rw (eq-eqb n 2 h)

  pub named-one : n ≡ 1 → Invalid ≡ named n
  unfolding named
  named-one h = rw (ne_eqb n 2 (λ e. omega arith), eq-eqb n 1 h)

  pub named_other : (n ≡ 2 → ⊥) → (n ≡ 1 → ⊥) → NotFound ≡ named n
  unfolding named
  named_other h k = rw (ne_eqb n 2 h, ne_eqb n 1 k)

-- ---- one place more

pub one-more-from : (f : ℕ → ℕ) (from i best r : ℕ) → ((k : ℕ) → from ≤ k → k < i → f k ≤ best) → best ≤ r → f i ≤ r → (k : ℕ) → from ≤ k → k < i + 1 → f k ≤ r
one-more-from f from i best r h b e k l m = go (ltb k i) refl
  where
    go : (x : Bool) → ltb k i ≡ x → f k ≤ r
    go true w = omega (arith, h k l (ltb-true k i w))
    go false w =
        let n : k ≡ i = omega (arith, ltb-false k i w) in
        rw n e

pub one_more : (f : ℕ → ℕ) (i best r : ℕ) → ((k : ℕ) → k < i → f k ≤ best) → best ≤ r → f i ≤ r → (k : ℕ) → k < i + 1 → f k ≤ r
one_more f i best r h b e k l = one-more-from f 0 i best r (λ j m n. h j n) b e k (omega arith) l
