-- What a route's state is, for readers: bit by bit, by the members of a table, and what plays no part in it (document 02, request One).
-- The argument is in the files beside this one. Assumes nothing.
use Prim.Native.Nat.{ℕ, zero, suc, ◌*◌, ◌≤◌, ◌<◌}
use mathlib.Core.Bool.{true, false}
use mathlib.Core.List.{List, [], ◌∷◌, map}
use mathlib.Core.Logic.{◌↔◌}
use mathlib.Core.Path.{◌≡◌, sym}
use native.Mathlib.Omega.{arith}
use lib.ListN.{length}
use Rattle.rtr_room.specs.Table.{family_of, prefix_of, max_of, is_in}
use Rattle.rtr_room.specs.declared.Record.{Record}
use Rattle.rtr_origin.specs.Origin.{words, words_in, family_in, agree, covers, matches, state_of}
use Rattle.rtr_models.specs.declared.Ipv6Addr.{Ipv6Addr}
use Rattle.rtr_origin.specs.declared.RoutePrefix.TheVariants.{IPv4, IPv6}
use Rattle.rtr_origin.specs.declared.Route.{Route}
use Rattle.rtr_origin.specs.declared.RouteState.TheVariants.{NotFound, Valid, Invalid}
use Rattle.rtr_origin.proofs.Addresses as addresses
use Rattle.rtr_origin.proofs.Leading as leading
use Rattle.rtr_origin.proofs.Leading.{bit_of, OfWords}
use Rattle.rtr_origin.proofs.Hosts as hosts
use Rattle.rtr_origin.proofs.Hosts.{bare}

-- ---- bit by bit

-- the first l bits of two addresses agree exactly where bit i of both is equal for each i below l
pub agree-exactly : (l : ℕ) (x y : List ℕ) → length x ≡ length y → l ≤ 32 * length x → OfWords x → OfWords y
    → agree l x y ≡ true ↔ ((i : ℕ) → i < l → bit_of i x ≡ bit_of i y)
agree-exactly = leading.agree-exactly

-- a record covers a route exactly where it is of its family, no longer, and each bit that its length names is the route's
pub covers-exactly : (q : Route) (r : Record) → prefix_of r ≤ 128 → OfWords (words r) → OfWords (words_in q.prefix)
    → covers q r ≡ true
    ↔ ((family_of r ≡ family_in q.prefix) × (prefix_of r ≤ q.length) × ((i : ℕ) → i < prefix_of r → bit_of i (words r) ≡ bit_of i (words_in q.prefix)))
covers-exactly q r n bx by =
    let bits = leading.agree-exactly (prefix_of r) (words r) (words_in q.prefix) (sym (addresses.four-words q)) n bx by in (
      λ e. let c = addresses.covers-parts q r e in (c.0, c.1, bits.0 c.2),
      λ c. addresses.parts-cover q r c.0 c.1 (bits.1 c.2),
    )

-- it matches exactly where it covers, the route is no longer than its max, and the AS numbers are equal and not 0
pub matches-exactly : (q : Route) (r : Record) → matches q r ≡ true ↔ ((covers q r ≡ true) × (q.length ≤ max_of r) × (r.asn ≡ q.origin) × (r.asn ≡ 0 → ⊥))
matches-exactly = hosts.matches-exactly

-- four words of 32 bits are an address
pub of_four : (a b c d : ℕ) → a < 4294967296 → b < 4294967296 → c < 4294967296 → d < 4294967296 → OfWords (a ∷ b ∷ c ∷ d ∷ [])
of_four a b c d ha hb hc hd zero = ha
of_four a b c d ha hb hc hd (suc zero) = hb
of_four a b c d ha hb hc hd (suc (suc zero)) = hc
of_four a b c d ha hb hc hd (suc (suc (suc zero))) = hd
of_four a b c d ha hb hc hd (suc (suc (suc (suc i)))) = omega arith

-- ---- by members

-- Valid exactly where a member matches
pub valid-exactly : (q : Route) (t : List Record) → state_of q t ≡ Valid ↔ ((r : Record) × (is_in r t ≡ true) × (matches q r ≡ true))
valid-exactly q t =
    let m = hosts.any-exactly (matches q) t in
    (λ e. m.0 ((hosts.valid-any q t).0 e), λ k. (hosts.valid-any q t).1 (m.1 k))

-- Invalid exactly where a member covers and none matches
pub invalid-exactly : (q : Route) (t : List Record) → state_of q t ≡ Invalid
    ↔ (((r : Record) × (is_in r t ≡ true) × (covers q r ≡ true)) × ((r : Record) → is_in r t ≡ true → matches q r ≡ false))
invalid-exactly q t =
    let c = hosts.any-exactly (covers q) t in
    let m = hosts.none-exactly (matches q) t in (
      λ e. (c.0 ((hosts.invalid-any q t).0 e).0, m.0 ((hosts.invalid-any q t).0 e).1),
      λ k. (hosts.invalid-any q t).1 (c.1 k.0, m.1 k.1),
    )

-- NotFound exactly where no member covers
pub not-found-exactly : (q : Route) (t : List Record) → state_of q t ≡ NotFound ↔ ((r : Record) → is_in r t ≡ true → covers q r ≡ false)
not-found-exactly q t =
    let c = hosts.none-exactly (covers q) t in
    (λ e. c.0 ((hosts.not-found-any q t).0 e), λ k. (hosts.not-found-any q t).1 (c.1 k))

-- so lists with the same members give the same state: order plays no part, nor how often a record stands
pub state-by-members : (q : Route) (t u : List Record) → ((x : Record) → is_in x t ≡ is_in x u) → state_of q t ≡ state_of q u
state-by-members = hosts.state-by-members

-- ---- host bits

-- routes of one family, length and origin whose addresses agree as far as that length have one state
pub host-bits-of-route : (q o : Route) → family_in q.prefix ≡ family_in o.prefix → q.length ≡ o.length → q.origin ≡ o.origin
    → agree q.length (words_in q.prefix) (words_in o.prefix) ≡ true → (t : List Record) → state_of q t ≡ state_of o t
host-bits-of-route = hosts.route-state

-- records of one first number and AS number whose addresses agree as far as their length cover and match alike
pub host-bits-of-record : (q : Route) (x y : Record) → x.kind ≡ y.kind → x.asn ≡ y.asn → agree (prefix_of x) (words x) (words y) ≡ true
    → (covers q x ≡ covers q y) × (matches q x ≡ matches q y)
host-bits-of-record q x y k s a = (hosts.record-covers q x y k a, hosts.record-matches q x y k a s)

-- so every record may have zeros behind its length
pub host-bits-cut : (q : Route) (t : List Record) → state_of q (map bare t) ≡ state_of q t
host-bits-cut = hosts.bare-state

-- ---- families

-- no IPv4 record covers an IPv6 route, and no IPv6 record an IPv4 route, whatever their lengths
pub four-not-six : (q : Route) (r : Record) (address : Ipv6Addr) → q.prefix ≡ IPv6 address → family_of r ≡ 4 → covers q r ≡ false
four-not-six = hosts.four-not-six

pub six-not-four : (q : Route) (r : Record) (address : ℕ) → q.prefix ≡ IPv4 address → family_of r ≡ 6 → covers q r ≡ false
six-not-four = hosts.six-not-four

-- ---- zeros

-- a record of length 0 covers every route of its family
pub zero-covers : (q : Route) (r : Record) → family_of r ≡ family_in q.prefix → prefix_of r ≡ 0 → covers q r ≡ true
zero-covers = hosts.zero-covers

-- and a route of length 0 is covered by no other
pub zero-covered : (q : Route) (r : Record) → q.length ≡ 0 → covers q r ≡ true → prefix_of r ≡ 0
zero-covered q r e c = let n = (addresses.covers-parts q r c).1 in omega arith

-- a record of AS 0 matches no route
pub as-zero-unmatched : (q : Route) (r : Record) → r.asn ≡ 0 → matches q r ≡ false
as-zero-unmatched = hosts.as-zero-unmatched

-- a route of origin 0 is Valid by no records
pub as-zero-never-valid : (q : Route) → q.origin ≡ 0 → (t : List Record) → state_of q t ≡ Valid → ⊥
as-zero-never-valid q e t = hosts.never-valid q t (λ r. hosts.origin-zero-unmatched q r e)
