-- For the contracts of private functions alone: a route as a record, so that one test compares two records, and how strongly records speak for
-- it. Nobody has to believe this page.
use Rattle.std.specs.Prelude.{ℕ, ◌+◌, ◌-◌, ◌*◌, ◌/◌, ◌^◌, ◌≤◌, ◌<◌, Bool, true, false, cond, not, ◌&&◌, List, [], ◌∷◌, ◌⊎◌, ◌≡◌, leb, eqb, Result, Ok, Err, ⊤}
use Rattle.rtr_receiver.specs.Contents.{Rooms}
use Rattle.rtr_receiver.specs.History.{has_table}
use Rattle.rtr_receiver.specs.Promises.{is_receiver}
use Rattle.rtr_receiver.specs.declared.Session.{Session}
use Rattle.rtr_room.specs.Table.{family_of, prefix_of, max_of, rank}
use Rattle.rtr_room.specs.Room.{records, record_at}
use Rattle.rtr_room.specs.declared.Record.{Record}
use Rattle.rtr_origin.specs.Origin.{words, words_in, family_in, longest_in, agree, any}
use Rattle.rtr_origin.specs.Promises.{route_refusal}
use Rattle.rtr_origin.specs.Private.{plain, Under}
use Rattle.rtr_origin.specs.declared.RoutePrefix.{RoutePrefix}
use Rattle.rtr_origin.specs.declared.RoutePrefix.TheVariants.{IPv4, IPv6}
use Rattle.rtr_origin.specs.declared.Route.{Route}
use Rattle.rtr_origin.specs.declared.RouteState.{RouteState}
use Rattle.rtr_origin.specs.declared.RouteState.TheVariants.{NotFound, Valid, Invalid}
use Rattle.rtr_origin.specs.declared.ValidateError.{ValidateError}

-- a record of a family and an address
abbrev pub record_in : RoutePrefix → ℕ → ℕ → Record
record_in (IPv4 address) low asn = record { kind = 262144 + low; w0 = address; w1 = 0; w2 = 0; w3 = 0; asn = asn }
record_in (IPv6 address) low asn = record { kind = 393216 + low; w0 = address.w0; w1 = address.w1; w2 = address.w2; w3 = address.w3; asn = asn }

-- a route as a record: its max is 255, its AS number the origin
abbrev pub target_of : Route → Record
target_of q = record_in q.prefix (q.length * 256 + 255) q.origin

-- a record asks what a route asks
pub record Asks (q : Route) (a : Record) : Type 0 where
  pub family-is : family_of a ≡ family_in q.prefix
  pub words_are : words a ≡ words_in q.prefix
  pub length-is : prefix_of a ≡ q.length
  pub origin-is : a.asn ≡ q.origin

-- so many of their first bits have two words in common
pub record LeadingAlike (x y r : ℕ) : Type 0 where
  pub within : r ≤ 32
  pub exactly : (l : ℕ) → l ≤ 32 → agree l (x ∷ []) (y ∷ []) ≡ leb l r

-- so many have two addresses in common, 255 where all
pub record Common (x y : List ℕ) (r : ℕ) : Type 0 where
  pub within : r ≤ 255
  pub exactly : (l : ℕ) → l ≤ 255 → agree l x y ≡ leb l r

-- the page's `covers` and `matches`, of a route as a record
unfoldable pub covers_by : Record → Record → Bool
covers_by a x = eqb (family_of x) (family_of a) && (leb (prefix_of x) (prefix_of a) && agree (prefix_of x) (words x) (words a))

unfoldable pub matches_by : Record → Record → Bool
matches_by a x = covers_by a x && (leb (prefix_of a) (max_of x) && (eqb x.asn a.asn && not (eqb x.asn 0)))

-- how strongly a record speaks for a route: 2 where it matches, 1 where it only covers, else 0
unfoldable pub strength : Record → Record → ℕ
strength a x = cond (matches_by a x) 2 (cond (covers_by a x) 1 0)

-- and the strongest of some records
unfoldable pub strongest : Record → List Record → ℕ
strongest a t = cond (any (matches_by a) t) 2 (cond (any (covers_by a) t) 1 0)

-- the state that a strength stands for
unfoldable pub named : ℕ → RouteState
named n = cond (eqb n 2) Valid (cond (eqb n 1) Invalid NotFound)

-- the first bits of a word, and zeros behind them
unfoldable pub cut_word : ℕ → ℕ → ℕ
cut_word l x = cond (eqb l 0) 0 (cond (leb 32 l) x (x / 2 ^ (32 - l) * 2 ^ (32 - l)))

-- a record of the family, with the first bits of the address and zeros behind
unfoldable pub probe_of : Record → ℕ → ℕ → ℕ → Record
probe_of a bits low asn =
    record {
      kind = a.kind / 65536 * 65536 + low;
      w0 = cut_word bits a.w0;
      w1 = cut_word (bits - 32) a.w1;
      w2 = cut_word (bits - 32 - 32) a.w2;
      w3 = cut_word (bits - 32 - 32 - 32) a.w3;
      asn = asn;
    }

-- what was found is no more than what is there
abbrev pub Found : Record → List ℕ → ℕ → ℕ → Type 0
Found a s count r = r ≤ strongest a (records count s)

-- where a walk goes on: to the end where fewer bits are in common than the least, else below the probe of those bits, or to the next place
pub record Jumps (least : ℕ) (a : Record) (bits : ℕ) (s : List ℕ) (count p r : ℕ) : Type 0 where
  pub ends : bits < least → r ≡ 0
  pub goes : least ≤ bits → (r ≡ rank (probe_of a bits (bits * 256 + 255) 4294967295) (records count s)) ⊎ (r ≡ p - 1)

-- what a walk finds is there, and no plain record speaks stronger
pub record Walked (least : ℕ) (a : Record) (s : List ℕ) (count r : ℕ) : Type 0 where
  pub there : Found a s count r
  pub all_plain : (q : Route) (loose : ℕ) → Asks q a → Under least loose q (records count s)
      → (i : ℕ) → i < count → plain (record_at s i) ≡ true → strength a (record_at s i) ≤ r

-- what a run finds is there, and no record with host bits speaks stronger
pub record Ran (loose : ℕ) (a : Record) (s : List ℕ) (count r : ℕ) : Type 0 where
  pub there : Found a s count r
  pub all-loose : (q : Route) (least : ℕ) → Asks q a → Under least loose q (records count s)
      → (i : ℕ) → i < count → plain (record_at s i) ≡ false → strength a (record_at s i) ≤ r

-- ---- the refusals that both calls share, 0 where there is none

unfoldable pub bar_says : ℕ → Session → Rooms → Rooms → List ℕ → Route → ℕ
bar_says limit s live working hold q =
    cond (is_receiver limit s live working hold) (cond (has_table s.table) (cond (leb q.length (longest_in q.prefix)) 0 23) 21) 22

-- what the code says of them
abbrev pub bar_said : Result ⊤ ValidateError → ℕ
bar_said (Ok tt) = 0
bar_said (Err error) = route_refusal error
