-- What a state does not hang on: the bits of a route behind its length, the bits of a record behind its length, the order of the records and how
-- often each stands. Whatever is asked of the two sides comes out alike record by record, or at some place of both lists. Assumes nothing.
use Prim.Native.Nat.{ℕ, zero, suc, ◌<◌, ◌≤◌}
use mathlib.Core.Bool.{Bool, true, false, cond, ◌||◌, false≢true}
use mathlib.Core.List.{List, [], ◌∷◌, map}
use mathlib.Core.Logic.{◌↔◌}
use mathlib.Core.Path.{◌≡◌, refl, sym, ap, ◌∙◌}
use native.Mathlib.Omega.{arith}
use borrow.Author.Tests.{eq-eqb, ne_eqb, eqb-true, leb-true, le-leb, not-true}
use lib.Dec.{leb, eqb}
use lib.ListN.{length, get_or}
use lib.Seq.{ext_get_or}
use Rattle.rtr_room.specs.Table.{family_of, prefix_of, max_of, is_in}
use Rattle.rtr_room.specs.declared.Record.{Record}
use Rattle.rtr_room.proofs.Laws.{in-exactly}
use Rattle.rtr_room.proofs.Laws.Tests.{first_of, second-of, not-both, unless}
use Rattle.rtr_origin.specs.Origin.{words, words_in, family_in, agree, covers, matches, any, state_of}
use Rattle.rtr_origin.specs.Private.{cut}
use Rattle.rtr_models.specs.declared.Ipv6Addr.{Ipv6Addr}
use Rattle.rtr_origin.specs.declared.RoutePrefix.TheVariants.{IPv4, IPv6}
use Rattle.rtr_origin.specs.declared.Route.{Route}
use Rattle.rtr_origin.specs.declared.RouteState.TheVariants.{NotFound, Valid, Invalid}
use Rattle.rtr_origin.proofs.Addresses.{agree-none, agree-sym, agree_trans, agree-shorter, cut-length, cut-agrees, covers-parts, parts-cover, four-words}
use Rattle.rtr_origin.proofs.Walks.{any-of-some, any_none, matches-covers}

-- two tests that pass together are one
pub alike : (a b : Bool) → (a ≡ true → b ≡ true) → (b ≡ true → a ≡ true) → a ≡ b
alike true b f g = sym (f refl)
alike false true f g = g refl
alike false false f g = refl

pub any-alike : (p s : Record → Bool) (t : List Record) → ((r : Record) → p r ≡ s r) → any p t ≡ any s t
unfolding any
any-alike p s [] f = refl
any-alike p s (r ∷ t) f = rw (f r, any-alike p s t f)

-- ---- a route's bits behind its length

module _ (q o : Route) (f : family_in q.prefix ≡ family_in o.prefix) (l : q.length ≡ o.length)
    (a : agree q.length (words_in q.prefix) (words_in o.prefix) ≡ true) where
  covers-on : (r : Record) → covers q r ≡ true → covers o r ≡ true
  covers-on r e =
      let c = covers-parts q r e in
      parts-cover o r (c.0 ∙ f) (omega (arith, c.1))
      (agree_trans (prefix_of r) (words r) (words_in q.prefix) (words_in o.prefix) (sym (four-words q)) c.2
      (agree-shorter (prefix_of r) q.length (words_in q.prefix) (words_in o.prefix) c.1 a))

module _ (q o : Route) (f : family_in q.prefix ≡ family_in o.prefix) (l : q.length ≡ o.length) (s : q.origin ≡ o.origin)
    (a : agree q.length (words_in q.prefix) (words_in o.prefix) ≡ true) where
  route-covers : (r : Record) → covers q r ≡ covers o r
  route-covers r =
      alike (covers q r) (covers o r) (covers-on q o f l a r)
      (covers-on o q (sym f) (sym l) (rw l at (agree-sym q.length (words_in q.prefix) (words_in o.prefix) a)) r)

  route-matches : (r : Record) → matches q r ≡ matches o r
  unfolding matches
  route-matches r = rw (route-covers r, l, s)

  pub route-state : (t : List Record) → state_of q t ≡ state_of o t
  unfolding state_of
  route-state t = rw (any-alike (matches q) (matches o) t route-matches, any-alike (covers q) (covers o) t route-covers)

-- ---- a record's bits behind its length

record-covers-on : (q : Route) (x y : Record) → x.kind ≡ y.kind → agree (prefix_of x) (words x) (words y) ≡ true → covers q x ≡ true → covers q y ≡ true
record-covers-on q x y k a e =
    let c = covers-parts q x e in
    let p : prefix_of x ≡ prefix_of y = cc in
    let f : family_of x ≡ family_of y = cc in
    parts-cover q y (sym f ∙ c.0) (omega (arith, c.1))
    (rw p at (agree_trans (prefix_of x) (words y) (words x) (words_in q.prefix) refl (agree-sym (prefix_of x) (words x) (words y) a) c.2))

module _ (q : Route) (x y : Record) (k : x.kind ≡ y.kind) (a : agree (prefix_of x) (words x) (words y) ≡ true) where
  pub record-covers : covers q x ≡ covers q y
  record-covers =
      let p : prefix_of x ≡ prefix_of y = cc in
      alike (covers q x) (covers q y) (record-covers-on q x y k a)
      (record-covers-on q y x (sym k) (rw p at (agree-sym (prefix_of x) (words x) (words y) a)))

  pub record-matches : x.asn ≡ y.asn → matches q x ≡ matches q y
  unfolding matches
  record-matches s =
      let m : max_of x ≡ max_of y = cc in
      rw (record-covers, m, s)

any-map : (p : Record → Bool) (f : Record → Record) (t : List Record) → ((r : Record) → p (f r) ≡ p r) → any p (map f t) ≡ any p t
unfolding any
any-map p f [] h = refl
any-map p f (r ∷ t) h = rw (h r, any-map p f t h)

pub record-state : (q : Route) (f : Record → Record) → ((r : Record) → (f r).kind ≡ r.kind) → ((r : Record) → (f r).asn ≡ r.asn)
    → ((r : Record) → agree (prefix_of r) (words (f r)) (words r) ≡ true) → (t : List Record) → state_of q (map f t) ≡ state_of q t
unfolding state_of
record-state q f k s a t =
    rw (any-map (matches q) f t (λ r. record-matches q (f r) r (k r) (near r) (s r)), any-map (covers q) f t (λ r. record-covers q (f r) r (k r) (near r)))
  where
    near : (r : Record) → agree (prefix_of (f r)) (words (f r)) (words r) ≡ true
    near r = rw (k r) (a r)

-- so each may be cut to its length

-- a record with zeros behind its length
abbrev pub bare : Record → Record
bare r =
    let x : List ℕ = cut (prefix_of r) (words r) in
    record { kind = r.kind; w0 = get_or x 0 0; w1 = get_or x 1 0; w2 = get_or x 2 0; w3 = get_or x 3 0; asn = r.asn }

four : (x : List ℕ) → length x ≡ 4 → get_or x 0 0 ∷ get_or x 1 0 ∷ get_or x 2 0 ∷ get_or x 3 0 ∷ [] ≡ x
four x n = ext_get_or 0 (get_or x 0 0 ∷ get_or x 1 0 ∷ get_or x 2 0 ∷ get_or x 3 0 ∷ []) x (sym n) at
  where
    at : (i : ℕ) → i < 4 → get_or (get_or x 0 0 ∷ get_or x 1 0 ∷ get_or x 2 0 ∷ get_or x 3 0 ∷ []) i 0 ≡ get_or x i 0
    at zero h = refl
    at (suc zero) h = refl
    at (suc (suc zero)) h = refl
    at (suc (suc (suc zero))) h = refl
    at (suc (suc (suc (suc i)))) h = absurd (omega arith)

pub bare-words : (r : Record) → words (bare r) ≡ cut (prefix_of r) (words r)
bare-words r = four (cut (prefix_of r) (words r)) (cut-length (prefix_of r) (words r))

pub bare-state : (q : Route) (t : List Record) → state_of q (map bare t) ≡ state_of q t
bare-state q t =
    record-state q bare (λ r. refl) (λ r. refl) (λ r. rw (bare-words r) (cut-agrees (prefix_of r) (words r))) t

-- ---- members

pub any_some : (p : Record → Bool) (t : List Record) (d : Record) → any p t ≡ true → (i : ℕ) × (i < length t) × (p (get_or t i d) ≡ true)
unfolding any
any_some p [] d e = absurd (false≢true e)
any_some p (x ∷ t) d e = go (p x) refl e (any_some p t d)
  where
    go : (b : Bool) → p x ≡ b → b || any p t ≡ true → (any p t ≡ true → (i : ℕ) × (i < length t) × (p (get_or t i d) ≡ true))
        → (i : ℕ) × (i < suc (length t)) × (p (get_or (x ∷ t) i d) ≡ true)
    go true f e rest = (0, omega arith, f)
    go false f e rest = let k = rest e in (suc k.0, omega (arith, k.1), k.2)

-- a record to ask with, where a list has none
spare : Record
spare = record { kind = 0; w0 = 0; w1 = 0; w2 = 0; w3 = 0; asn = 0 }

-- one of these does exactly where a member does
pub any-exactly : (p : Record → Bool) (t : List Record) → any p t ≡ true ↔ ((r : Record) × (is_in r t ≡ true) × (p r ≡ true))
any-exactly p t = (there, back)
  where
    there : any p t ≡ true → (r : Record) × (is_in r t ≡ true) × (p r ≡ true)
    there e =
        let k = any_some p t spare e in
        (get_or t k.0 spare, (in-exactly spare (get_or t k.0 spare) t).1 (k.0, k.1, refl), k.2)

    back : (r : Record) × (is_in r t ≡ true) × (p r ≡ true) → any p t ≡ true
    back m =
        let j = (in-exactly spare m.0 t).0 m.1 in
        any-of-some p t spare j.0 j.1 (ap p j.2 ∙ m.2)

-- and none does exactly where no member does
pub none-exactly : (p : Record → Bool) (t : List Record) → any p t ≡ false ↔ ((r : Record) → is_in r t ≡ true → p r ≡ false)
none-exactly p t = (
  λ e r i. unless (p r) (λ f. not-both _ ((any-exactly p t).1 (r, i, f)) e),
  λ f. any_none p t spare (λ i l. f (get_or t i spare) ((in-exactly spare (get_or t i spare) t).1 (i, l, refl))),
)

members-on : (p : Record → Bool) (t u : List Record) → ((x : Record) → is_in x t ≡ is_in x u) → any p t ≡ true → any p u ≡ true
members-on p t u m e =
    let k = (any-exactly p t).0 e in
    (any-exactly p u).1 (k.0, sym (m k.0) ∙ k.1, k.2)

pub any-members : (p : Record → Bool) (t u : List Record) → ((x : Record) → is_in x t ≡ is_in x u) → any p t ≡ any p u
any-members p t u m = alike (any p t) (any p u) (members-on p t u m) (members-on p u t (λ x. sym (m x)))

pub state-by-members : (q : Route) (t u : List Record) → ((x : Record) → is_in x t ≡ is_in x u) → state_of q t ≡ state_of q u
unfolding state_of
state-by-members q t u m = rw (any-members (matches q) t u m, any-members (covers q) t u m)

-- ---- zeros

pub zero-covers : (q : Route) (r : Record) → family_of r ≡ family_in q.prefix → prefix_of r ≡ 0 → covers q r ≡ true
zero-covers q r f e = parts-cover q r f (omega arith) (rw e (agree-none (words r) (words_in q.prefix)))

-- families do not cross
pub four-not-six : (q : Route) (r : Record) (address : Ipv6Addr) → q.prefix ≡ IPv6 address → family_of r ≡ 4 → covers q r ≡ false
four-not-six q r address e f =
    unless (covers q r)
    (λ c. let k : family_of r ≡ 6 = (covers-parts q r c).0 ∙ ap family_in e in
    omega arith)

pub six-not-four : (q : Route) (r : Record) (address : ℕ) → q.prefix ≡ IPv4 address → family_of r ≡ 6 → covers q r ≡ false
six-not-four q r address e f =
    unless (covers q r)
    (λ c. let k : family_of r ≡ 4 = (covers-parts q r c).0 ∙ ap family_in e in
    omega arith)

-- the AS numbers of a record that matches
matched-numbers : (q : Route) (r : Record) → matches q r ≡ true → (r.asn ≡ q.origin) × (eqb r.asn 0 ≡ false)
unfolding matches
matched-numbers q r e =
    let a : _ ≡ true = second-of (covers q r) _ e in
    let b : _ ≡ true = second-of (leb q.length (max_of r)) _ a in
    (eqb-true _ _ (first_of _ _ b), not-true _ (second-of (eqb r.asn q.origin) _ b))

-- a record matches exactly where it covers, the route is no longer than its max, and the AS numbers are equal and not 0
pub matches-exactly : (q : Route) (r : Record) → matches q r ≡ true ↔ ((covers q r ≡ true) × (q.length ≤ max_of r) × (r.asn ≡ q.origin) × (r.asn ≡ 0 → ⊥))
unfolding matches
matches-exactly q r = (out, into)
  where
    out : matches q r ≡ true → (covers q r ≡ true) × (q.length ≤ max_of r) × (r.asn ≡ q.origin) × (r.asn ≡ 0 → ⊥)
    out e =
        let n = matched-numbers q r e in
        (first_of (covers q r) _ e, leb-true _ _ (first_of (leb q.length (max_of r)) _ (second-of (covers q r) _ e)), n.0, λ z. not-both _ (eq-eqb r.asn 0 z) n.1)

    into : (covers q r ≡ true) × (q.length ≤ max_of r) × (r.asn ≡ q.origin) × (r.asn ≡ 0 → ⊥) → matches q r ≡ true
    into h = rw (h.0, le-leb q.length (max_of r) h.1, eq-eqb r.asn q.origin h.2, ne_eqb r.asn 0 h.3)

pub as-zero-unmatched : (q : Route) (r : Record) → r.asn ≡ 0 → matches q r ≡ false
as-zero-unmatched q r e = unless (matches q r) (λ m. not-both _ (eq-eqb r.asn 0 e) (matched-numbers q r m).1)

pub origin-zero-unmatched : (q : Route) (r : Record) → q.origin ≡ 0 → matches q r ≡ false
origin-zero-unmatched q r e =
    unless (matches q r) (λ m. let k = matched-numbers q r m in not-both _ (eq-eqb r.asn 0 (k.0 ∙ e)) k.1)

-- ---- the three states

module _ (q : Route) (t : List Record) where
  decided : (a b : Bool) → any (matches q) t ≡ a → any (covers q) t ≡ b → state_of q t ≡ cond a Valid (cond b Invalid NotFound)
  unfolding state_of
  decided a b e f = rw (e, f)

  pub valid-any : state_of q t ≡ Valid ↔ any (matches q) t ≡ true
  valid-any = (go (any (matches q) t) refl (any (covers q) t) refl, λ e. decided true (any (covers q) t) e refl)
    where
      go : (a : Bool) → any (matches q) t ≡ a → (b : Bool) → any (covers q) t ≡ b → state_of q t ≡ Valid → any (matches q) t ≡ true
      go true e b f g = e
      go false e true f g = let z : ◌≡◌ {A = ℕ} 0 1 = cc (decided false true e f) in absurd (omega arith)
      go false e false f g = let z : ◌≡◌ {A = ℕ} 0 1 = cc (decided false false e f) in absurd (omega arith)

  pub invalid-any : state_of q t ≡ Invalid ↔ ((any (covers q) t ≡ true) × (any (matches q) t ≡ false))
  invalid-any = (go (any (matches q) t) refl (any (covers q) t) refl, λ e. decided false true e.1 e.0)
    where
      go : (a : Bool) → any (matches q) t ≡ a → (b : Bool) → any (covers q) t ≡ b → state_of q t ≡ Invalid
          → (any (covers q) t ≡ true) × (any (matches q) t ≡ false)
      go true e b f g = let z : ◌≡◌ {A = ℕ} 0 1 = cc (decided true b e f) in absurd (omega arith)
      go false e true f g = (f, e)
      go false e false f g = let z : ◌≡◌ {A = ℕ} 0 1 = cc (decided false false e f) in absurd (omega arith)

  any-covers : any (matches q) t ≡ true → any (covers q) t ≡ true
  any-covers e =
      let k = any_some (matches q) t spare e in
      any-of-some (covers q) t spare k.0 k.1 (matches-covers q (get_or t k.0 spare) k.2)

  pub not-found-any : state_of q t ≡ NotFound ↔ any (covers q) t ≡ false
  not-found-any = (go (any (matches q) t) refl (any (covers q) t) refl, back)
    where
      go : (a : Bool) → any (matches q) t ≡ a → (b : Bool) → any (covers q) t ≡ b → state_of q t ≡ NotFound → any (covers q) t ≡ false
      go true e b f g = let z : ◌≡◌ {A = ℕ} 0 1 = cc (decided true b e f) in absurd (omega arith)
      go false e true f g = let z : ◌≡◌ {A = ℕ} 0 1 = cc (decided false true e f) in absurd (omega arith)
      go false e false f g = f

      back : any (covers q) t ≡ false → state_of q t ≡ NotFound
      back f = decided false false (unless (any (matches q) t) (λ e. not-both _ (any-covers e) f)) f

  -- none of these matches, none is the state
  pub never-valid : ((r : Record) → matches q r ≡ false) → state_of q t ≡ Valid → ⊥
  never-valid f e = not-both _ (valid-any.0 e) (any_none (matches q) t spare (λ i l. f (get_or t i spare)))
