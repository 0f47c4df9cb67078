-- For the contracts of private functions alone: the first bits of an address with zeros behind, the order of addresses, and what the quick
-- engine needs of a table. Nobody has to believe this page.
use Rattle.std.specs.Prelude.{ℕ, ◌-◌, ◌*◌, ◌/◌, ◌^◌, ◌≤◌, ◌<◌, Bool, true, false, cond, ◌&&◌, ◌||◌, List, [], ◌∷◌, ◌≡◌, leb, ltb, eqb, length, get_or}
use Rattle.rtr_room.specs.Table.{family_of, prefix_of, max_of}
use Rattle.rtr_room.specs.declared.Record.{Record}
use Rattle.rtr_origin.specs.Origin.{words, family_in, agree}
use Rattle.rtr_origin.specs.declared.Route.{Route}

-- the first l bits of an address, and zeros behind them
unfoldable pub cut : ℕ → List ℕ → List ℕ
cut l [] = []
cut l (x ∷ xs) = cond (eqb l 0) (0 ∷ cut 0 xs) (cond (leb 32 l) (x ∷ cut (l - 32) xs) (x / 2 ^ (32 - l) * 2 ^ (32 - l) ∷ cut 0 xs))

-- of two addresses the one that is lower at the first word where they differ comes first; equal ones too
unfoldable pub up_to : List ℕ → List ℕ → Bool
up_to [] ys = true
up_to (x ∷ xs) [] = false
up_to (x ∷ xs) (y ∷ ys) = ltb x y || (eqb x y && up_to xs ys)

-- a record has no bit set behind its length
unfoldable pub plain : Record → Bool
plain r = agree 128 (words r) (cut (prefix_of r) (words r))

-- two numbers are low enough: of the route's family no plain record is shorter than the first, and no other shorter than the second
pub record Under (least loose : ℕ) (q : Route) (t : List Record) : Type 0 where
  pub none-shorter : (d : Record) (i : ℕ) → i < length t → family_of (get_or t i d) ≡ family_in q.prefix → plain (get_or t i d) ≡ true
      → least ≤ prefix_of (get_or t i d)
  pub none-looser : (d : Record) (i : ℕ) → i < length t → family_of (get_or t i d) ≡ family_in q.prefix → plain (get_or t i d) ≡ false
      → loose ≤ prefix_of (get_or t i d)

-- the walk's probe: of the family, the first b bits of the address, length b, and a max that no record in rule has
pub record HighProbe (family b : ℕ) (address : List ℕ) (k : Record) : Type 0 where
  pub family-is : family_of k ≡ family
  pub words_are : words k ≡ cut b address
  pub prefix-is : prefix_of k ≡ b
  pub max-is : max_of k ≡ 255

-- the run's probe: of the family, the first b bits of the address, and everything else 0
pub record LowProbe (family b : ℕ) (address : List ℕ) (k : Record) : Type 0 where
  pub family-is : family_of k ≡ family
  pub words_are : words k ≡ cut b address
  pub prefix-is : prefix_of k ≡ 0
  pub max-is : max_of k ≡ 0
  pub asn-is : k.asn ≡ 0

-- no more leading bits than b do two addresses have in common
abbrev pub AtMost : ℕ → List ℕ → List ℕ → Type 0
AtMost b x a = (l : ℕ) → l ≤ 128 → agree l x a ≡ true → l ≤ b
