-- Whether a route is good: RFC 6811, section 2, and document 02, request One. The page to believe: a validated prefix of the RFC is a record here, its prefix length, its max length and its AS number are the record's.
-- `agree-exactly` (proofs/Laws.antt) says `agree` bit by bit.
use Rattle.std.specs.Prelude.{ℕ, ◌-◌, ◌/◌, ◌^◌, Bool, true, false, cond, not, ◌&&◌, ◌||◌, List, [], ◌∷◌, leb, eqb}
use Rattle.rtr_room.specs.Table.{family_of, prefix_of, max_of}
use Rattle.rtr_room.specs.declared.Record.{Record}
use Rattle.rtr_origin.specs.declared.RoutePrefix.{RoutePrefix}
use Rattle.rtr_origin.specs.declared.RoutePrefix.TheVariants.{IPv4, IPv6}
use Rattle.rtr_origin.specs.declared.Route.{Route}
use Rattle.rtr_origin.specs.declared.RouteState.{RouteState}
use Rattle.rtr_origin.specs.declared.RouteState.TheVariants.{NotFound, Valid, Invalid}

-- an address is its words of 32 bits, the first first: a record's are its four address numbers (IPv4 in the first, others 0)
abbrev pub words : Record → List ℕ
words r = r.w0 ∷ r.w1 ∷ r.w2 ∷ r.w3 ∷ []

-- a route's likewise
abbrev pub words_in : RoutePrefix → List ℕ
words_in (IPv4 address) = address ∷ 0 ∷ 0 ∷ 0 ∷ []
words_in (IPv6 address) = address.w0 ∷ address.w1 ∷ address.w2 ∷ address.w3 ∷ []

-- families as a record has them
abbrev pub family_in : RoutePrefix → ℕ
family_in (IPv4 address) = 4
family_in (IPv6 address) = 6

-- how long a route of the family may be
abbrev pub longest_in : RoutePrefix → ℕ
longest_in (IPv4 address) = 32
longest_in (IPv6 address) = 128

-- the first l bits of two addresses agree, word by word from the first: none asks nothing, 32 or more ask the whole word, fewer its upper bits
unfoldable pub agree : ℕ → List ℕ → List ℕ → Bool
agree l [] ys = true
agree l (x ∷ xs) [] = true
agree l (x ∷ xs) (y ∷ ys) = cond (eqb l 0) true (cond (leb 32 l) (eqb x y && agree (l - 32) xs ys) (eqb (x / 2 ^ (32 - l)) (y / 2 ^ (32 - l))))

-- a record covers a route: of its family, no longer than it, and "identical for all bits specified by the VRP prefix length"
unfoldable pub covers : Route → Record → Bool
covers q r = eqb (family_of r) (family_in q.prefix) && (leb (prefix_of r) q.length && agree (prefix_of r) (words r) (words_in q.prefix))

-- it matches where it covers, the route is no longer than its max, and the AS numbers are equal and not 0
unfoldable pub matches : Route → Record → Bool
matches q r = covers q r && (leb q.length (max_of r) && (eqb r.asn q.origin && not (eqb r.asn 0)))

-- one of these does
unfoldable pub any : (Record → Bool) → List Record → Bool
any p [] = false
any p (r ∷ t) = p r || any p t

-- Valid: "At least one VRP Matches"; Invalid: at least one covers, none matches; NotFound: "No VRP Covers"
unfoldable pub state_of : Route → List Record → RouteState
state_of q t = cond (any (matches q) t) Valid (cond (any (covers q) t) Invalid NotFound)

-- document 02's number of a state
abbrev pub state_number : RouteState → ℕ
state_number NotFound = 0
state_number Valid = 1
state_number Invalid = 2
