-- A route and its six numbers, both ways: a route in range is found from its numbers, and what is found has those numbers and is in range. Six numbers are a
-- list of its six members, and family and length are found again in the first, by arithmetic. Assumes nothing.
use Rattle.std.specs.Prelude.{Option, Some, None}
use Prim.Native.Nat.{ℕ, zero, suc, ◌+◌, ◌*◌, ◌/◌, ◌%◌, ◌≤◌, ◌<◌}
use mathlib.Core.Bool.{Bool, true, false, cond, ◌&&◌}
use mathlib.Core.List.{List, [], ◌∷◌}
use mathlib.Core.Logic.{◌↔◌}
use mathlib.Core.Path.{◌≡◌, refl, sym, ap, ◌∙◌, subst}
use native.Mathlib.Omega.{arith}
use borrow.Author.Tests.{leb-true, leb-false, eqb-true, eqb-false, le-leb, lt-leb, eq-eqb, ne_eqb}
use lib.Dec.{leb, eqb}
use lib.ListN.{length, get_or}
use Rattle.rtr_origin.specs.Origin.{longest_in}
use Rattle.rtr_origin.specs.Numbers.{numbers_of, is_ipv4, is_ipv6, route_of, NoRoute}
use Rattle.rtr_origin.specs.declared.RoutePrefix.{RoutePrefix}
use Rattle.rtr_origin.specs.declared.RoutePrefix.TheVariants.{IPv4, IPv6}
use Rattle.rtr_origin.specs.declared.Route.{Route}

-- ---- what is found

four-in-range : (first w1 w2 w3 : ℕ) → is_ipv4 first w1 w2 w3 ≡ true → (first / 65536 ≡ 4) × (first % 65536 ≤ 32) × (w1 ≡ 0) × (w2 ≡ 0) × (w3 ≡ 0)
four-in-range first w1 w2 w3 e = go (eqb (first / 65536) 4) (leb (first % 65536) 32) (eqb w1 0) (eqb w2 0) (eqb w3 0) refl refl refl refl refl e
  where
    never : false ≡ true → ⊥
    never h = let z : ◌≡◌ {A = ℕ} 0 1 = cc in omega arith

    go : (a b c d f : Bool) → eqb (first / 65536) 4 ≡ a → leb (first % 65536) 32 ≡ b → eqb w1 0 ≡ c → eqb w2 0 ≡ d → eqb w3 0 ≡ f → a && (b && (c && (d && f))) ≡ true
        → (first / 65536 ≡ 4) × (first % 65536 ≤ 32) × (w1 ≡ 0) × (w2 ≡ 0) × (w3 ≡ 0)
    go true true true true true p q r s t h = (eqb-true _ _ p, leb-true _ _ q, eqb-true _ _ r, eqb-true _ _ s, eqb-true _ _ t)
    go false b c d f p q r s t h = absurd (never h)
    go true false c d f p q r s t h = absurd (never h)
    go true true false d f p q r s t h = absurd (never h)
    go true true true false f p q r s t h = absurd (never h)
    go true true true true false p q r s t h = absurd (never h)

six-in-range : (first : ℕ) → is_ipv6 first ≡ true → (first / 65536 ≡ 6) × (first % 65536 ≤ 128)
six-in-range first e = go (eqb (first / 65536) 6) (leb (first % 65536) 128) refl refl e
  where
    never : false ≡ true → ⊥
    never h = let z : ◌≡◌ {A = ℕ} 0 1 = cc in omega arith

    go : (a b : Bool) → eqb (first / 65536) 6 ≡ a → leb (first % 65536) 128 ≡ b → a && b ≡ true → (first / 65536 ≡ 6) × (first % 65536 ≤ 128)
    go true true p q h = (eqb-true _ _ p, leb-true _ _ q)
    go false b p q h = absurd (never h)
    go true false p q h = absurd (never h)

module _ (n : List ℕ) where
  pub not-six : (length n ≡ 6 → ⊥) → None ≡ route_of n
  unfolding route_of
  not-six h = rw (ne_eqb (length n) 6 h)

  module _ (size : length n ≡ 6) (l : ℕ) (k : l ≡ get_or n 0 0 % 65536 % 256) where
    pub found-four : is_ipv4 (get_or n 0 0) (get_or n 2 0) (get_or n 3 0) (get_or n 4 0) ≡ true → Some (record { prefix = IPv4 (get_or n 1 0); length = l; origin = get_or n 5 0 }) ≡ route_of n
    unfolding route_of
    found-four h =
        let small = (four-in-range (get_or n 0 0) (get_or n 2 0) (get_or n 3 0) (get_or n 4 0) h).1 in
        let same : l ≡ get_or n 0 0 % 65536 = omega (arith, k, small) in
        rw (eq-eqb (length n) 6 size, h, same)

    module _ (f : is_ipv4 (get_or n 0 0) (get_or n 2 0) (get_or n 3 0) (get_or n 4 0) ≡ false) where
      pub found-six : is_ipv6 (get_or n 0 0) ≡ true → Some (record { prefix = IPv6 (record { w0 = get_or n 1 0; w1 = get_or n 2 0; w2 = get_or n 3 0; w3 = get_or n 4 0 }); length = l; origin = get_or n 5 0 }) ≡ route_of n
      unfolding route_of
      found-six h =
          let small = (six-in-range (get_or n 0 0) h).1 in
          let same : l ≡ get_or n 0 0 % 65536 = omega (arith, k, small) in
          rw (eq-eqb (length n) 6 size, f, h, same)

      pub found_none : is_ipv6 (get_or n 0 0) ≡ false → None ≡ route_of n
      unfolding route_of
      found_none h = rw (eq-eqb (length n) 6 size, f, h)

-- ---- both ways

-- a route that is in range is found from its numbers
pub route-of-numbers : (q : Route) → q.length ≤ longest_in q.prefix → route_of (numbers_of q) ≡ Some q
unfolding route_of
route-of-numbers q = go q.prefix q.length q.origin
  where
    go : (p : RoutePrefix) (l o : ℕ) → l ≤ longest_in p → route_of (numbers_of (record { prefix = p; length = l; origin = o })) ≡ Some (record { prefix = p; length = l; origin = o })
    go (IPv4 address) l o h =
        let family : (4 * 65536 + l) / 65536 ≡ 4 = omega (arith, h) in
        let long : (4 * 65536 + l) % 65536 ≡ l = omega (arith, h) in
        rw (family, long, le-leb l 32 h)
    go (IPv6 address) l o h =
        let family : (6 * 65536 + l) / 65536 ≡ 6 = omega (arith, h) in
        let long : (6 * 65536 + l) % 65536 ≡ l = omega (arith, h) in
        rw (family, long, le-leb l 128 h)

-- six numbers, one by one
members : (n : List ℕ) → length n ≡ 6 → n ≡ get_or n 0 0 ∷ (get_or n 1 0 ∷ (get_or n 2 0 ∷ (get_or n 3 0 ∷ (get_or n 4 0 ∷ (get_or n 5 0 ∷ [])))))
members [] e = absurd (omega (arith, e))
members (a ∷ []) e = absurd (omega (arith, e))
members (a ∷ (b ∷ [])) e = absurd (omega (arith, e))
members (a ∷ (b ∷ (c ∷ []))) e = absurd (omega (arith, e))
members (a ∷ (b ∷ (c ∷ (d ∷ [])))) e = absurd (omega (arith, e))
members (a ∷ (b ∷ (c ∷ (d ∷ (f ∷ []))))) e = absurd (omega (arith, e))
members (a ∷ (b ∷ (c ∷ (d ∷ (f ∷ (g ∷ [])))))) e = refl
members (a ∷ (b ∷ (c ∷ (d ∷ (f ∷ (g ∷ (h ∷ t))))))) e = absurd (omega (arith, e))

-- what is found is in range and has those numbers
pub numbers-of-route : (n : List ℕ) (q : Route) → route_of n ≡ Some q → (n ≡ numbers_of q) × (q.length ≤ longest_in q.prefix)
unfolding route_of
numbers-of-route n q e = by_size (eqb (length n) 6) refl e
  where
    Holds : Route → Type 0
    Holds x = (n ≡ numbers_of x) × (x.length ≤ longest_in x.prefix)

    four : Route
    four = record { prefix = IPv4 (get_or n 1 0); length = get_or n 0 0 % 65536; origin = get_or n 5 0 }

    six : Route
    six = record { prefix = IPv6 (record { w0 = get_or n 1 0; w1 = get_or n 2 0; w2 = get_or n 3 0; w3 = get_or n 4 0 }); length = get_or n 0 0 % 65536; origin = get_or n 5 0 }

    never : None ≡ Some q → ⊥
    never h = let z : ◌≡◌ {A = ℕ} 0 1 = cc in omega arith

    same : (x : Route) → Holds x → Some x ≡ Some q → Holds q
    same x h p = let z : x ≡ q = cc in subst Holds z h

    is-four : length n ≡ 6 → is_ipv4 (get_or n 0 0) (get_or n 2 0) (get_or n 3 0) (get_or n 4 0) ≡ true → Holds four
    is-four size h =
        let r = four-in-range (get_or n 0 0) (get_or n 2 0) (get_or n 3 0) (get_or n 4 0) h in
        let first : get_or n 0 0 ≡ 4 * 65536 + get_or n 0 0 % 65536 = omega (arith, r.0) in
        (members n size ∙ (λ i. first i ∷ (get_or n 1 0 ∷ (r.2 i ∷ (r.3 i ∷ (r.4 i ∷ (get_or n 5 0 ∷ [])))))), r.1)

    is-six : length n ≡ 6 → is_ipv6 (get_or n 0 0) ≡ true → Holds six
    is-six size h =
        let r = six-in-range (get_or n 0 0) h in
        let first : get_or n 0 0 ≡ 6 * 65536 + get_or n 0 0 % 65536 = omega (arith, r.0) in
        (members n size ∙ (λ i. first i ∷ (get_or n 1 0 ∷ (get_or n 2 0 ∷ (get_or n 3 0 ∷ (get_or n 4 0 ∷ (get_or n 5 0 ∷ [])))))), r.1)

    by-second : length n ≡ 6 → (b : Bool) → is_ipv6 (get_or n 0 0) ≡ b → cond b (Some six) None ≡ Some q → Holds q
    by-second size true h p = same six (is-six size h) p
    by-second size false h p = absurd (never p)

    by_first : length n ≡ 6 → (b : Bool) → is_ipv4 (get_or n 0 0) (get_or n 2 0) (get_or n 3 0) (get_or n 4 0) ≡ b → cond b (Some four) (cond (is_ipv6 (get_or n 0 0)) (Some six) None) ≡ Some q → Holds q
    by_first size true h p = same four (is-four size h) p
    by_first size false h p = by-second size (is_ipv6 (get_or n 0 0)) refl p

    by_size : (b : Bool) → eqb (length n) 6 ≡ b → cond b (cond (is_ipv4 (get_or n 0 0) (get_or n 2 0) (get_or n 3 0) (get_or n 4 0)) (Some four) (cond (is_ipv6 (get_or n 0 0)) (Some six) None)) None ≡ Some q → Holds q
    by_size true h p = by_first (eqb-true (length n) 6 h) (is_ipv4 (get_or n 0 0) (get_or n 2 0) (get_or n 3 0) (get_or n 4 0)) refl p
    by_size false h p = absurd (never p)

-- so a route is known exactly where it is in range and the numbers are its
pub route-exactly : (n : List ℕ) (q : Route) → route_of n ≡ Some q ↔ ((n ≡ numbers_of q) × (q.length ≤ longest_in q.prefix))
route-exactly n q = (numbers-of-route n q, λ h. ap route_of h.0 ∙ route-of-numbers q h.1)

-- and none is known exactly where no route in range has them
pub no-route-exactly : (n : List ℕ) → route_of n ≡ None ↔ ((q : Route) → q.length ≤ longest_in q.prefix → n ≡ numbers_of q → ⊥)
no-route-exactly n = (λ e q l m. differ q (sym e ∙ (route-exactly n q).1 (m, l)), λ h. go h (route_of n) refl)
  where
    differ : (q : Route) → None ≡ Some q → ⊥
    differ q h = let z : ◌≡◌ {A = ℕ} 0 1 = cc in omega arith

    go : ((q : Route) → q.length ≤ longest_in q.prefix → n ≡ numbers_of q → ⊥) → (f : Option Route) → route_of n ≡ f → route_of n ≡ None
    go h None e = e
    go h (Some q) e = let r = numbers-of-route n q e in absurd (h q r.1 r.0)

-- the numbers of a route that is too long are no route's
pub too-long-unknown : (q : Route) → q.length < 65536 → longest_in q.prefix < q.length → route_of (numbers_of q) ≡ None
unfolding route_of
too-long-unknown q = go q.prefix q.length q.origin
  where
    go : (p : RoutePrefix) (l o : ℕ) → l < 65536 → longest_in p < l → route_of (numbers_of (record { prefix = p; length = l; origin = o })) ≡ None
    go (IPv4 address) l o h k =
        let family : (4 * 65536 + l) / 65536 ≡ 4 = omega (arith, h) in
        let long : (4 * 65536 + l) % 65536 ≡ l = omega (arith, h) in
        rw (family, long, lt-leb l 32 k)
    go (IPv6 address) l o h k =
        let family : (6 * 65536 + l) / 65536 ≡ 6 = omega (arith, h) in
        let long : (6 * 65536 + l) % 65536 ≡ l = omega (arith, h) in
        rw (family, long, lt-leb l 128 k)

-- ---- why six numbers are none

module _ (n : List ℕ) where
  abbrev first : ℕ
  first = get_or n 0 0

  never : true ≡ false → ⊥
  never h = let z : ◌≡◌ {A = ℕ} 0 1 = cc in omega arith

  because : is_ipv4 first (get_or n 2 0) (get_or n 3 0) (get_or n 4 0) ≡ false → is_ipv6 first ≡ false → NoRoute n
  because = go (eqb (first / 65536) 4) (leb (first % 65536) 32) (eqb (get_or n 2 0) 0) (eqb (get_or n 3 0) 0) (eqb (get_or n 4 0) 0) (eqb (first / 65536) 6) (leb (first % 65536) 128) refl refl refl refl refl refl refl
    where
      go : (a b c d f g h : Bool) → eqb (first / 65536) 4 ≡ a → leb (first % 65536) 32 ≡ b → eqb (get_or n 2 0) 0 ≡ c → eqb (get_or n 3 0) 0 ≡ d → eqb (get_or n 4 0) 0 ≡ f
          → eqb (first / 65536) 6 ≡ g → leb (first % 65536) 128 ≡ h → a && (b && (c && (d && f))) ≡ false → g && h ≡ false → NoRoute n
      go true false c d f g h p q r s t u v w x = NoRoute.over32 (eqb-true _ _ p) (leb-false _ _ q)
      go true true false d f g h p q r s t u v w x = NoRoute.spare (eqb-true _ _ p) 2 (omega arith) (omega arith) (eqb-false _ _ r)
      go true true true false f g h p q r s t u v w x = NoRoute.spare (eqb-true _ _ p) 3 (omega arith) (omega arith) (eqb-false _ _ s)
      go true true true true false g h p q r s t u v w x = NoRoute.spare (eqb-true _ _ p) 4 (omega arith) (omega arith) (eqb-false _ _ t)
      go true true true true true g h p q r s t u v w x = absurd (never w)
      go false b c d f true false p q r s t u v w x = NoRoute.over128 (eqb-true _ _ u) (leb-false _ _ v)
      go false b c d f true true p q r s t u v w x = absurd (never x)
      go false b c d f false h p q r s t u v w x = NoRoute.other_family (eqb-false _ _ p) (eqb-false _ _ u)

  -- a route's numbers have none of the reasons
  sound : (q : Route) → q.length ≤ longest_in q.prefix → n ≡ numbers_of q → NoRoute n → ⊥
  sound q = go q.prefix q.length q.origin
    where
      go : (p : RoutePrefix) (l o : ℕ) → l ≤ longest_in p → n ≡ numbers_of (record { prefix = p; length = l; origin = o }) → NoRoute n → ⊥
      go (IPv4 address) l o h e (NoRoute.other_family f g) = f (ap (λ (m : List ℕ). get_or m 0 0 / 65536) e ∙ omega (arith, h))
      go (IPv4 address) l o h e (NoRoute.over32 f k) = omega (arith, h, k, ap (λ (m : List ℕ). get_or m 0 0 % 65536) e)
      go (IPv4 address) l o h e (NoRoute.over128 f k) = omega (arith, h, f, ap (λ (m : List ℕ). get_or m 0 0 / 65536) e)
      go (IPv4 address) l o h e (NoRoute.spare f i a b k) = k (ap (λ (m : List ℕ). get_or m i 0) e ∙ zeros i a b)
        where
          zeros : (i : ℕ) → 2 ≤ i → i ≤ 4 → get_or (numbers_of (record { prefix = IPv4 address; length = l; origin = o })) i 0 ≡ 0
          zeros zero a b = absurd (omega arith)
          zeros (suc zero) a b = absurd (omega arith)
          zeros (suc (suc zero)) a b = refl
          zeros (suc (suc (suc zero))) a b = refl
          zeros (suc (suc (suc (suc zero)))) a b = refl
          zeros (suc (suc (suc (suc (suc i))))) a b = absurd (omega arith)
      go (IPv6 address) l o h e (NoRoute.other_family f g) = g (ap (λ (m : List ℕ). get_or m 0 0 / 65536) e ∙ omega (arith, h))
      go (IPv6 address) l o h e (NoRoute.over32 f k) = omega (arith, h, f, ap (λ (m : List ℕ). get_or m 0 0 / 65536) e)
      go (IPv6 address) l o h e (NoRoute.over128 f k) = omega (arith, h, k, ap (λ (m : List ℕ). get_or m 0 0 % 65536) e)
      go (IPv6 address) l o h e (NoRoute.spare f i a b k) = omega (arith, h, f, ap (λ (m : List ℕ). get_or m 0 0 / 65536) e)

  -- six numbers are no route's exactly for one of these reasons
  pub no-route-reasons : length n ≡ 6 → route_of n ≡ None ↔ NoRoute n
  no-route-reasons size = (λ e. by-four e (is_ipv4 first (get_or n 2 0) (get_or n 3 0) (get_or n 4 0)) refl, λ r. back r (route_of n) refl)
    where
      differ : {q : Route} → Some q ≡ None → ⊥
      differ h = let z : ◌≡◌ {A = ℕ} 0 1 = cc in omega arith

      l : ℕ
      l = first % 65536 % 256

      by-six : route_of n ≡ None → is_ipv4 first (get_or n 2 0) (get_or n 3 0) (get_or n 4 0) ≡ false → (b : Bool) → is_ipv6 first ≡ b → NoRoute n
      by-six e f true h = absurd (differ (found-six n size l refl f h ∙ e))
      by-six e f false h = because f h

      by-four : route_of n ≡ None → (b : Bool) → is_ipv4 first (get_or n 2 0) (get_or n 3 0) (get_or n 4 0) ≡ b → NoRoute n
      by-four e true h = absurd (differ (found-four n size l refl h ∙ e))
      by-four e false h = by-six e h (is_ipv6 first) refl

      back : NoRoute n → (f : Option Route) → route_of n ≡ f → route_of n ≡ None
      back r None e = e
      back r (Some q) e = let w = numbers-of-route n q e in absurd (sound q w.1 w.0 r)
