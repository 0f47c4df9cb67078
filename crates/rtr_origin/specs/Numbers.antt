-- The six numbers of a route: document 02, request Two. The first has its family and its length, four its address as in a record, the last its origin.
-- `route-exactly` (proofs/Numbers.antt): a route is found exactly where it is in range and the numbers are its; `no-route-reasons`: of six numbers none exactly where `NoRoute` has a reason.
use Rattle.std.specs.Prelude.{ℕ, ◌+◌, ◌*◌, ◌/◌, ◌%◌, ◌≤◌, ◌<◌, Bool, cond, ◌&&◌, List, [], ◌∷◌, ◌++◌, ◌≡◌, leb, eqb, length, get_or, Option, Some, None}
use Rattle.rtr_origin.specs.Origin.{words_in, family_in}
use Rattle.rtr_origin.specs.declared.RoutePrefix.TheVariants.{IPv4, IPv6}
use Rattle.rtr_origin.specs.declared.Route.{Route}

-- a route's numbers: "family x 65,536 + length, four address numbers as in a record, origin"
abbrev pub numbers_of : Route → List ℕ
numbers_of q = (family_in q.prefix * 65536 + q.length) ∷ (words_in q.prefix ++ (q.origin ∷ []))

-- the first number and the three behind an IPv4 address are an IPv4 route's: a length has all sixteen bits that are left, so 280 is no 24
abbrev pub is_ipv4 : ℕ → ℕ → ℕ → ℕ → Bool
is_ipv4 first w1 w2 w3 = eqb (first / 65536) 4 && (leb (first % 65536) 32 && (eqb w1 0 && (eqb w2 0 && eqb w3 0)))

-- the first number is an IPv6 route's
abbrev pub is_ipv6 : ℕ → Bool
is_ipv6 first = eqb (first / 65536) 6 && leb (first % 65536) 128

-- the route that has these numbers; None where none has: not six of them, another family, too long for it, or a spare that is not 0
unfoldable pub route_of : List ℕ → Option Route
route_of n =
    cond (eqb (length n) 6)
    (cond (is_ipv4 (get_or n 0 0) (get_or n 2 0) (get_or n 3 0) (get_or n 4 0))
    (Some (record { prefix = IPv4 (get_or n 1 0); length = get_or n 0 0 % 65536; origin = get_or n 5 0 }))
    (cond (is_ipv6 (get_or n 0 0))
    (Some (record {
      prefix = IPv6 (record { w0 = get_or n 1 0; w1 = get_or n 2 0; w2 = get_or n 3 0; w3 = get_or n 4 0 });
      length = get_or n 0 0 % 65536;
      origin = get_or n 5 0;
    }))
    None))
    None

-- why six numbers are no route's: of no known family, longer than the family allows, or IPv4 with a spare number, the third to the fifth, that is not 0
pub data NoRoute (n : List ℕ) : Type 0 where
  other_family : (get_or n 0 0 / 65536 ≡ 4 → ⊥) → (get_or n 0 0 / 65536 ≡ 6 → ⊥) → NoRoute n
  over32 : get_or n 0 0 / 65536 ≡ 4 → 32 < get_or n 0 0 % 65536 → NoRoute n
  over128 : get_or n 0 0 / 65536 ≡ 6 → 128 < get_or n 0 0 % 65536 → NoRoute n
  spare : get_or n 0 0 / 65536 ≡ 4 → (i : ℕ) → 2 ≤ i → i ≤ 4 → (get_or n i 0 ≡ 0 → ⊥) → NoRoute n
